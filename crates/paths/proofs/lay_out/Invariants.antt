use Rattle.paths.proofs.LayOutLaws.{Lying}
use Rattle.paths.proofs.lay_out.Given as goal

abbrev pub invariant-loop-n : goal.invariant-loop-n
invariant-loop-n l = Lying l.fn.a l.a l.links l.run l.left l.n
