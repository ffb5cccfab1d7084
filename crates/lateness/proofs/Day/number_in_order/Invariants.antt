use Rattle.std.proofs.Common.{◌-◌}
use Rattle.lateness.specs.Pairs.{of_door}
use Rattle.lateness.proofs.HalvingLaws.{Halving}
use Rattle.lateness.proofs.Day.number_in_order.Given as goal

abbrev pub invariant-loop-low : goal.invariant-loop-low
invariant-loop-low l = Halving l.number (of_door l.door l.self) l.low l.high

abbrev pub decreases-loop-low : goal.decreases-loop-low
decreases-loop-low l = l.high - l.low
