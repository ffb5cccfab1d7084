use Rattle.frames.proofs.Loops.{Reading}
use Rattle.frames.proofs.number.Given as goal

abbrev pub invariant-loop-c : goal.invariant-loop-c
invariant-loop-c l = Reading l.field l.n l.c-index
