-- What is summed and what the links from i on cost are all.
use Rattle.limits.proofs.LinkLaws.{LinksSummed}
use Rattle.limits.proofs.longest_take.Given as goal

abbrev pub invariant-loop-i : goal.invariant-loop-i
invariant-loop-i l = LinksSummed l.links l.i l.total
