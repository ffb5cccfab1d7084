-- `gorgalhut_insert` hands the outcome of insert back.
use mathlib.Core.Path.{◌∙◌}
use Rattle.rules.proofs.AnswerLaws.{done_in}
use Rattle.gorgalhut.proofs.AnsweredLaws.{answered, work_left}
use Rattle.gorgalhut.proofs.gorgalhut_insert.Goals as goal

pub returns : goal.returns
returns c =
    let called = c.insert-put.ensures.called in (
      rw (c.lay.ensures.word_after, c.lay.ensures.steps_after) (answered _ _ _ _ _ _ _ _ called c.lay.ensures.number),
      (done_in _ _ c.unwrap_or_default.ensures).2 ∙ called.packed_is,
      work_left _ _ _ _ _ c.insert-put.ensures.work_kept c.lay.ensures.number,
    )
