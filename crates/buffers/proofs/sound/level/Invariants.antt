use Rattle.std.proofs.Common.{◌*◌}
use Rattle.buffers.specs.Weights.{inputs}
use Rattle.buffers.proofs.SoundLaws.{Passing}
use Rattle.buffers.proofs.sound.level.Given as goal

abbrev pub invariant-loop-j : goal.invariant-loop-j
invariant-loop-j l = Passing l.a l.fn.below l.below l.first l.low (2 * l.low) l.capacity (inputs l.fn.below) l.j
