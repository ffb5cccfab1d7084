-- `take` hands out what the rules' take does, or gives the first failing check.
use Rattle.queue.proofs.CheckLaws.{refuses}
use Rattle.queue.proofs.CallLaws.{called_on, take_refused, take_some_words, may_can, take_called}
use Rattle.queue.proofs.take.Goals as goal

pub returns-in_err-checked_for_take : goal.returns-in_err-checked_for_take
returns-in_err-checked_for_take c = called_on _ _ c.from_residual.ensures.1 (take_refused _ _ c.in_err-checked_for_take.ensures (refuses _))

pub links-links-requires : goal.links-links-requires
links-links-requires c = take_some_words _ c.in_ok-checked_for_take.ensures

pub take_one-taken-requires : goal.take_one-taken-requires
take_one-taken-requires c = may_can _ c.in_ok-checked_for_take.ensures _ c.links-links.ensures

pub returns : goal.returns
returns c = rw c.unwrap_or.ensures (take_called _ c.in_ok-checked_for_take.ensures _ c.links-links.ensures c.rule-rule.ensures _ _ _ c.take_one-taken.ensures)
