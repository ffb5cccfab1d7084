use Rattle.paths.proofs.AlongLaws.{Notes}
use Rattle.paths.proofs.Path.note.Given as goal

abbrev pub invariant-loop-step : goal.invariant-loop-step
invariant-loop-step l = Notes l.a l.initial.step-items l.step-items l.step-index
