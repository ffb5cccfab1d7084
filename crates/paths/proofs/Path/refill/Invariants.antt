use Rattle.rules.specs.Entries.{key_by}
use Rattle.paths.specs.Way.{numbers_of, counts_of}
use Rattle.paths.proofs.RefillLaws.{Refills}
use Rattle.paths.proofs.Path.refill.Given as goal

abbrev pub invariant-loop-step : goal.invariant-loop-step
invariant-loop-step l = Refills (key_by l.rule) l.fn.a l.a (numbers_of l.self.steps) (counts_of l.self.steps) l.self.length l.fn.xs l.fn.ys l.xs l.ys l.step-index
