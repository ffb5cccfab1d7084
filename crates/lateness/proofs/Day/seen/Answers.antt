use Rattle.std.proofs.Common.{arith}
use Rattle.lateness.specs.Reports.{seen_of}
use Rattle.lateness.proofs.ClockLaws.{small}
use Rattle.lateness.proofs.SignedLaws.{late_small, seen_read}
use Rattle.lateness.proofs.PairLaws.{passed_none, passed_yes, passed_no, passed_all}
use Rattle.lateness.proofs.RowLaws.{seen_none, passed_few}
use Rattle.lateness.proofs.Day.seen.Goals as goal

pub loop-i-init : goal.loop-i-init
loop-i-init c =
    let none = c.default-seen.ensures in
    passed_none seen_of c.self.invariant (seen_none none.0 none.1.0 none.1.1.0 none.1.1.1.0 none.1.1.1.1)

pub with-seen-requires-clause-late_bound : goal.with-seen-requires-clause-late_bound
with-seen-requires-clause-late_bound c = late_small _ _ (small c.lateness.type_inv) c.lateness.ensures

pub with-seen-requires-clause-few : goal.with-seen-requires-clause-few
with-seen-requires-clause-few c = passed_few c.self.invariant c.loop-i.invariant

pub loop-i-preserved-then-self-i : goal.loop-i-preserved-then-self-i
loop-i-preserved-then-self-i c =
    let passed = c.loop-i.invariant in
    passed_yes seen_of c.self.invariant passed c.loop-i-test.true c.if-self-i.true (seen_read _ (small c.lateness.type_inv) c.lateness.ensures (c.with-seen.ensures _ passed.told))

pub loop-i-preserved : goal.loop-i-preserved
loop-i-preserved c = passed_no seen_of c.self.invariant c.loop-i.invariant c.loop-i-test.true c.if-self-i.false

pub returns-clause-value : goal.returns-clause-value
returns-clause-value c = passed_all seen_of c.self.invariant c.self.view_is c.loop-i.invariant (omega arith)

pub returns-clause-few : goal.returns-clause-few
returns-clause-few c = passed_few c.self.invariant c.loop-i.invariant
