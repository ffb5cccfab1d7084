use Rattle.std.proofs.Common.{refl, ◌∙◌, arith}
use Rattle.lateness.proofs.ClockLaws.{small}
use Rattle.lateness.proofs.PairLaws.{door_within}
use Rattle.std.proofs.Math.Facts.{to_z-of_z}
use Rattle.lateness.proofs.HalvingLaws.{first_small, last_small, halving_starts, goes_up, goes_down, halving_ends}
use Rattle.lateness.proofs.Day.number_in_order.Goals as goal

pub above-low-requires : goal.above-low-requires
above-low-requires c = first_small (door_within _ _) c.requires c.ranges.earliest

pub above-high-requires : goal.above-high-requires
above-high-requires c = last_small (door_within _ _) c.requires c.ranges.latest

pub loop-low-init : goal.loop-low-init
loop-low-init c = halving_starts (door_within _ _) c.requires c.ranges.earliest c.ranges.latest c.above-low.ensures c.above-high.ensures

pub loop-low-preserved-then-at_most-number : goal.loop-low-preserved-then-at_most-number
loop-low-preserved-then-at_most-number c =
    goes_up (door_within _ _) c.requires c.loop-low.invariant c.late_at.ensures (small c.late_at.type_inv) c.at_most.ensures (omega arith) (omega arith) refl

pub loop-low-preserved : goal.loop-low-preserved
loop-low-preserved c =
    goes_down (door_within _ _) c.requires c.loop-low.invariant c.late_at.ensures (small c.late_at.type_inv) c.at_most.ensures (omega arith) (omega arith)

pub returns : goal.returns
returns c =
    halving_ends (door_within _ _) c.requires c.loop-low.invariant (omega arith) (to_z-of_z (small c.late_at-2.type_inv) ∙ c.late_at-2.ensures)
