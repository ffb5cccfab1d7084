-- What is said is handed over to be written.
use Rattle.std.proofs.lemmas.Result.{on_ok_weaker, on_err_weaker}
use Rattle.late.proofs.RunLaws.{answered, answered_front, pairs_after}
use Rattle.late.proofs.Day.answer.Goals as goal

pub returns-clause-ok : goal.returns-clause-ok
returns-clause-ok g c = on_ok_weaker _ (answered c.finish-self.ensures.result_after c.say.ensures) c.write_out.ensures.ok

pub returns-clause-err : goal.returns-clause-err
returns-clause-err g c = on_err_weaker _ (answered_front c.finish-self.ensures.result_after c.say.ensures) c.write_out.ensures.err

pub returns-clause-pairs : goal.returns-clause-pairs
returns-clause-pairs g c = pairs_after c.finish-self.result c.finish-self.ensures.result_after
