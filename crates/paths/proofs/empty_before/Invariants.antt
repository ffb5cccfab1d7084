use Rattle.paths.proofs.LayOutLaws.{Empties}
use Rattle.paths.proofs.empty_before.Given as goal

abbrev pub invariant-loop-n : goal.invariant-loop-n
invariant-loop-n l = Empties l.fn.a l.a l.end l.n
