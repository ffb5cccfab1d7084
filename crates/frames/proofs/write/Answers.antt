use Rattle.std.proofs.Common.{ap, sym, ◌∙◌, arith}
use Rattle.frames.specs.Orders.{width_of}
use Rattle.frames.proofs.DigitLaws.{written_sixteen}
use Rattle.frames.proofs.Laying.{frame_short, frame_barred, frame_laid, two_laid}
use Rattle.frames.proofs.write.Goals as goal
use Rattle.frames.proofs.write.Goals.{then-not-is_writable-via-then-not-is_writable, then-not-is_writable-via-else-not-is_writable+then-out-end}

pub returns-then-not-is_writable : goal.returns-then-not-is_writable
returns-then-not-is_writable c =
    elim c.then-not-is_writable.branch [
      | then-not-is_writable-via-then-not-is_writable w ↦ frame_barred _ _ _ (sym c.is_writable.ensures ∙ w.if-not-is_writable.true)
      | then-not-is_writable-via-else-not-is_writable+then-out-end w ↦ frame_short _ _ _ (omega (arith, ap width_of c.code-code.ensures, c.width-end.ensures))
    ]

pub returns : goal.returns
returns c =
    frame_laid _ (sym c.is_writable.ensures ∙ c.if-not-is_writable.false) c.code-code.ensures c.width-end.ensures c.body-body.ensures
    (two_laid _ _ _ _ _ _ (omega arith) (c.put.ensures ∙ written_sixteen _ _) (c.put-2.ensures ∙ written_sixteen _ _))
