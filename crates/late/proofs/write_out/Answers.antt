-- Each goes where it belongs, and the other output gets nothing.
use Rattle.std.proofs.Common.{◌∙◌}
use Rattle.std.proofs.lemmas.Result.{on_ok_weaker, on_err_weaker}
use Rattle.late.proofs.RunLaws.{report_told, report_front, trouble_told, trouble_front}
use Rattle.late.proofs.write_out.Goals as goal

pub returns-in-Ok-clause-ok : goal.returns-in-Ok-clause-ok
returns-in-Ok-clause-ok g c = on_ok_weaker _ (report_told c.in-Ok.is (c.as_slice.ensures.value ∙ c.lay_report.ensures)) c.write_whole.ensures.ok

pub returns-in-Ok-clause-err : goal.returns-in-Ok-clause-err
returns-in-Ok-clause-err g c = on_err_weaker _ (report_front c.in-Ok.is (c.as_slice.ensures.value ∙ c.lay_report.ensures)) c.write_whole.ensures.err

pub returns-in-Err-clause-ok : goal.returns-in-Err-clause-ok
returns-in-Err-clause-ok g c = on_ok_weaker _ (trouble_told c.in-Err.is (c.as_slice-in-Err.ensures.value ∙ c.lay_trouble.ensures)) c.write_whole-in-Err.ensures.ok

pub returns-in-Err-clause-err : goal.returns-in-Err-clause-err
returns-in-Err-clause-err g c = on_err_weaker _ (trouble_front c.in-Err.is (c.as_slice-in-Err.ensures.value ∙ c.lay_trouble.ensures)) c.write_whole-in-Err.ensures.err
