use Rattle.paths.proofs.AlongLaws.{Below}
use Rattle.paths.proofs.link_of.Given as goal

abbrev pub invariant-loop-i : goal.invariant-loop-i
invariant-loop-i l = Below l.n l.i
