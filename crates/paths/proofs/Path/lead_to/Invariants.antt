use Rattle.paths.specs.Way.{numbers_of}
use Rattle.paths.proofs.WayLaws.{Halves}
use Rattle.paths.proofs.Path.lead_to.Given as goal

abbrev pub invariant-loop-step : goal.invariant-loop-step
invariant-loop-step l = Halves l.i l.j (numbers_of l.step-items) l.step-index l.above
