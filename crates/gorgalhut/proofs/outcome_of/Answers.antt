-- `outcome_of` tells of the answer that has the number.
use mathlib.Core.Path.{◌≡◌, sym, ap, ◌∙◌}
use Rattle.std.proofs.lemmas.Result.{err_from_is_err_and}
use Rattle.rules.specs.Answers.{answer_of, number_of, answer_as}
use Rattle.rules.proofs.AnswerLaws.{answer_again}
use Rattle.tally.specs.Told.{told_by}
use Rattle.tally.proofs.DayLaws.{told_refusal}
use Rattle.gorgalhut.proofs.NumberedLaws.{none_has}
use Rattle.gorgalhut.proofs.outcome_of.Goals as goal

pub returns : goal.returns
returns c =
    let named : number_of (answer_as c.in_ok-refusal.refusal) ≡ c.args.answer = c.in_ok-refusal.ensures in
    let same : answer_of c.args.answer ≡ answer_as c.in_ok-refusal.refusal = ap answer_of (sym named) ∙ answer_again (answer_as c.in_ok-refusal.refusal) in
    (ap number_of same ∙ named, told_refusal c.in_ok-refusal.refusal c.args.steps c.args.packed ∙ ap (λ a. told_by a c.args.steps c.args.packed) (sym same))

pub returns-in_err-refusal : goal.returns-in_err-refusal
returns-in_err-refusal c =
    let p = err_from_is_err_and c.from_residual.result c.from_residual.ensures.1 in
    rw p.1 (none_has c.args.answer c.if-answer-eq0.false c.in_err-refusal.ensures.1 (answer_of c.args.answer))
