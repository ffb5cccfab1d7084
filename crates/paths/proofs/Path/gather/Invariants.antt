use Prim.Native.Nat.{◌+◌}
use Rattle.paths.specs.Way.{numbers_of}
use Rattle.paths.proofs.AlongLaws.{Gathers}
use Rattle.paths.proofs.Path.gather.Given as goal

abbrev pub invariant-loop-step : goal.invariant-loop-step
invariant-loop-step l = Gathers l.a (numbers_of l.self.steps) l.from l.self.length l.fn.work l.work l.at l.copied (l.from + l.step-index)
