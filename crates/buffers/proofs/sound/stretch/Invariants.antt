use Rattle.buffers.proofs.SoundLaws.{Stretching}
use Rattle.buffers.proofs.sound.stretch.Given as goal

abbrev pub invariant-loop-j : goal.invariant-loop-j
invariant-loop-j l = Stretching l.a l.fn.below l.below l.first l.low l.high l.capacity l.many l.j
