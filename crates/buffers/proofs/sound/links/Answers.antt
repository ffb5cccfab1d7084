use Rattle.std.proofs.Common.{arith}
use Rattle.buffers.proofs.LinkWeights.{behind_starts}
use Rattle.buffers.proofs.sound.links.Goals as goal

pub link-requires : goal.link-requires
link-requires c = record { all = c.requires; number = record { low = omega arith; high = omega arith }; behind = behind_starts _ _ c.requires.number }
