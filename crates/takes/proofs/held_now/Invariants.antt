use Rattle.takes.proofs.SumLaws.{Summed}
use Rattle.takes.proofs.held_now.Given as goal

abbrev pub invariant-loop-n : goal.invariant-loop-n
invariant-loop-n l = Summed l.a l.end l.n l.sum
