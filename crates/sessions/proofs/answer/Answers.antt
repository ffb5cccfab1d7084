use Rattle.std.proofs.Common.{arith}
use Rattle.rules.proofs.AnswerLaws.{done_in}
use Rattle.sessions.proofs.RunLaws.{served_short, served_one}
use Rattle.sessions.proofs.answer.Goals as goal

pub returns-then-out-lt-ANSWER : goal.returns-then-out-lt-ANSWER
returns-then-out-lt-ANSWER c = served_short _ _ _ _ _ (omega arith)

pub returns : goal.returns
returns c =
    let done = done_in _ _ c.unwrap_or_default-done.ensures in
    served_one _ _ _ _ _ _ _ _ _ _ _ _ _ (omega arith) c.perform_line-outcome.ensures.called c.perform_line-outcome.ensures.left c.number_of.ensures done.0 done.1 c.answer_line.ensures
