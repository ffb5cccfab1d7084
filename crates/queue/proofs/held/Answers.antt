-- `held` gives the count, or the first failing check.
use Rattle.queue.proofs.CheckLaws.{refuses}
use Rattle.queue.proofs.CallLaws.{called_on, held_refused, held_called}
use Rattle.queue.proofs.held.Goals as goal

pub returns-in_err-checked : goal.returns-in_err-checked
returns-in_err-checked c = called_on _ _ c.from_residual.ensures.1 (held_refused _ _ c.in_err-checked.ensures.answer (refuses _))

pub returns : goal.returns
returns c = rw (c.default.ensures.1.0, c.default.ensures.1.1) (held_called _ c.in_ok-checked.ensures.answer _ c.in_ok-checked.ensures.held)
