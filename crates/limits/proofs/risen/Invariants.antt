-- What is summed and what the levels below cost are all.
use Rattle.limits.proofs.RisenLaws.{LevelsSummed}
use Rattle.limits.proofs.risen.Given as goal

abbrev pub invariant-loop-levels : goal.invariant-loop-levels
invariant-loop-levels l = LevelsSummed l.i l.levels l.j l.total
