use Rattle.paths.specs.Way.{numbers_of}
use Rattle.paths.proofs.WayLaws.{Outputs}
use Rattle.paths.proofs.outputs_before.Given as goal

abbrev pub invariant-loop-n : goal.invariant-loop-n
invariant-loop-n l = Outputs l.i (numbers_of l.steps) l.n
