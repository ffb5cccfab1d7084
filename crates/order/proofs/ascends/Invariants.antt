use Rattle.rules.specs.Entries.{key_by}
use Rattle.order.proofs.AscentLaws.{Ascent}
use Rattle.order.proofs.ascends.Given as goal

abbrev pub invariant-loop-e : goal.invariant-loop-e
invariant-loop-e l = Ascent (key_by l.rule) l.e-items l.low l.last l.e-index
