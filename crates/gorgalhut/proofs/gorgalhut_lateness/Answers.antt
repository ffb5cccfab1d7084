use Rattle.std.proofs.Common.{◌≡◌, ◌++◌, length, take, drop, replicate, pos, ap, ◌∙◌, arith}
use lib.ListN.{length-take}
use Rattle.gorgalhut.proofs.TimedLaws.{all_laid, short_answer, short_report, made_answer, unequal_report, made_report, zeros_report, both_small, left_small, right_small}
use Rattle.gorgalhut.proofs.gorgalhut_lateness.Goals as goal

pub returns-then-report-lt-REPORT : goal.returns-then-report-lt-REPORT
returns-then-report-lt-REPORT c = record { value = short_answer _ _ _ _ (omega arith); report_after = short_report _ _ _ _ (omega arith) }

pub lay_row-requires-clause-small : goal.lay_row-requires-clause-small
lay_row-requires-clause-small c = right_small _ _ _ _ c.in-Ok.ensures

pub lay_row-requires-in-Ok-clause-small : goal.lay_row-requires-in-Ok-clause-small
lay_row-requires-in-Ok-clause-small c = left_small _ _ _ _ c.in-Ok.ensures

pub lay_row-requires-in-Ok-2-clause-small : goal.lay_row-requires-in-Ok-2-clause-small
lay_row-requires-in-Ok-2-clause-small c = both_small _ _ _ _ c.in-Ok.ensures

pub returns-in-Ok : goal.returns-in-Ok
returns-in-Ok c =
    let made = c.in-Ok.ensures in
    record {
      value = made_answer _ _ _ _ (omega arith) _ made;
      report_after = made_report _ _ _ _ (omega arith) _ made (omega arith) (all_laid c.args.report.now (omega arith) _ c.lay_row.ensures _ c.lay_row-in-Ok.ensures _ c.lay_row-in-Ok-2.ensures);
    }

pub returns-then-answer-eq-NOT_A_FRAME : goal.returns-then-answer-eq-NOT_A_FRAME
returns-then-answer-eq-NOT_A_FRAME c =
    let made = c.in-Err.ensures in
    record { value = c.from-answer.ensures ∙ made_answer _ _ _ _ (omega arith) _ made; report_after = unequal_report _ _ _ _ (omega arith) _ made (omega arith) }

pub returns-else-answer-eq-NOT_A_FRAME : goal.returns-else-answer-eq-NOT_A_FRAME
returns-else-answer-eq-NOT_A_FRAME c =
    let made = c.in-Err.ensures in
    let report = c.args.report.now in
    let long : length (take 18 report) ≡ 18 = omega (arith, length-take 18 report) in
    let zeros = c.fill.ensures.after (λ y e. e) ∙ ap (λ n. replicate n (pos 0)) long in
    record {
      value = c.from-answer.ensures ∙ made_answer _ _ _ _ (omega arith) _ made;
      report_after = zeros_report _ _ _ _ (omega arith) _ made (λ e. c.if-answer-eq-NOT_A_FRAME.false (c.from-answer.ensures ∙ e)) (ap (λ l. l ++ drop 18 report) zeros);
    }
