-- `look` says what the rules' look does, or gives the first failing check.
use Rattle.takes.proofs.HandLaws.{can_now}
use Rattle.queue.proofs.CheckLaws.{refuses}
use Rattle.queue.proofs.CallLaws.{called_on, look_refused, take_some_words, may_can, look_called}
use Rattle.queue.proofs.look.Goals as goal

pub returns-in_err-checked_for_take : goal.returns-in_err-checked_for_take
returns-in_err-checked_for_take c = called_on _ _ c.from_residual.ensures.1 (look_refused _ _ c.in_err-checked_for_take.ensures (refuses _))

pub links-links-requires : goal.links-links-requires
links-links-requires c = take_some_words _ c.in_ok-checked_for_take.ensures

pub make_ready-steps-requires : goal.make_ready-steps-requires
make_ready-steps-requires c = may_can _ c.in_ok-checked_for_take.ensures _ c.links-links.ensures

pub head_now-head-requires : goal.head_now-head-requires
head_now-head-requires c = can_now _ _ _ (may_can _ c.in_ok-checked_for_take.ensures _ c.links-links.ensures) _ _ c.make_ready-steps.ensures

pub returns : goal.returns
returns c = rw c.unwrap_or.ensures (look_called _ c.in_ok-checked_for_take.ensures _ c.links-links.ensures c.rule-rule.ensures _ _ _ c.make_ready-steps.ensures c.head_now-head.ensures)
