use Rattle.std.proofs.Common.{refl, arith}
use Rattle.lateness.specs.Ordered.{at_most}
use Rattle.lateness.proofs.ClockLaws.{small}
use Rattle.lateness.proofs.SignedLaws.{counted, passed_over, counted_few, at_most_read}
use Rattle.lateness.proofs.PairLaws.{passed_none, passed_yes, passed_no, passed_all}
use Rattle.lateness.proofs.Day.at_most.Goals as goal
use Rattle.lateness.proofs.Day.at_most.Goals.{else-self-i-via-then-self-i+else-lateness-most, else-self-i-via-else-self-i}

pub loop-i-init : goal.loop-i-init
unfolding at_most
loop-i-init c = passed_none (at_most _) c.self.invariant refl

pub overflow_add-count : goal.overflow_add-count
overflow_add-count c = record { fits = omega (arith, counted_few _ c.self.invariant c.loop-i.invariant) }

pub loop-i-preserved-then-lateness-most : goal.loop-i-preserved-then-lateness-most
loop-i-preserved-then-lateness-most c =
    let passed = c.loop-i.invariant in
    let late = c.lateness in
    passed_yes (at_most _) c.self.invariant passed c.loop-i-test.true c.if-self-i.true (counted _ (small late.type_inv) _ _ _ late.ensures passed.told c.if-lateness-most.true)

pub loop-i-preserved : goal.loop-i-preserved
loop-i-preserved c =
    let passed = c.loop-i.invariant in
    elim c.else-self-i.branch [
      | else-self-i-via-then-self-i+else-lateness-most w ↦
          passed_yes (at_most _) c.self.invariant passed c.loop-i-test.true w.if-self-i.true (passed_over _ (small w.lateness.type_inv) _ _ _ w.lateness.ensures passed.told w.if-lateness-most.false)
      | else-self-i-via-else-self-i w ↦ passed_no (at_most _) c.self.invariant passed c.loop-i-test.true w.if-self-i.false
    ]

pub returns : goal.returns
returns c = at_most_read _ c.ranges.most (passed_all (at_most _) c.self.invariant c.self.view_is c.loop-i.invariant (omega arith))
