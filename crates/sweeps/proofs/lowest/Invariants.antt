use Rattle.sweeps.proofs.LowestLaws.{Searching}
use Rattle.sweeps.proofs.lowest.Given as goal

abbrev pub invariant-loop-i : goal.invariant-loop-i
invariant-loop-i l = Searching l.a l.links l.i
