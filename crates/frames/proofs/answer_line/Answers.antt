use Rattle.std.proofs.Common.{ap, ◌∙◌, arith}
use Rattle.frames.specs.Digits.{digits}
use Rattle.frames.proofs.DigitLaws.{written_sixteen}
use Rattle.frames.proofs.Laying.{answer_short, answer_laid}
use Rattle.frames.proofs.answer_line.Goals as goal

pub returns-then-out-lt-ANSWER : goal.returns-then-out-lt-ANSWER
returns-then-out-lt-ANSWER c = answer_short _ _ _ _ _ (omega arith)

pub returns : goal.returns
returns c = answer_laid _ _ _ _ _ _ _ (omega arith) (c.put.ensures ∙ written_sixteen _ _ ∙ ap (digits _) c.from.ensures) (c.put-2.ensures ∙ written_sixteen _ _) (c.put-3.ensures ∙ written_sixteen _ _ ∙ ap (digits _) c.from-2.ensures)
