-- `audit` says whether all entries stand in order, or gives the first failing check.
use Rattle.queue.proofs.CheckLaws.{refuses}
use Rattle.queue.proofs.CallLaws.{called_on, audit_refused, held_inside, audit_called, order_broken}
use Rattle.queue.proofs.audit.Goals as goal

pub returns-in_err-checked : goal.returns-in_err-checked
returns-in_err-checked c = called_on _ _ c.from_residual.ensures.1 (audit_refused _ _ c.in_err-checked.ensures.answer (refuses _))

pub in_order-requires : goal.in_order-requires
in_order-requires c = held_inside _ c.in_ok-checked.ensures.answer

pub returns-then-not-in_order : goal.returns-then-not-in_order
returns-then-not-in_order c = order_broken _ c.in_ok-checked.ensures.answer c.rule-rule.ensures _ c.in_order.ensures c.if-not-in_order.true

pub returns : goal.returns
returns c = rw (c.default.ensures.0, c.default.ensures.1.0, c.default.ensures.1.1) (audit_called _ c.in_ok-checked.ensures.answer c.rule-rule.ensures _ c.in_order.ensures c.if-not-in_order.false)
