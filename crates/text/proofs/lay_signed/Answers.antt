use Rattle.std.proofs.Common.{arith}
use Rattle.text.proofs.SignedLaws.{early_laid, late_laid}
use Rattle.text.proofs.lay_signed.Goals as goal
use Rattle.text.proofs.lay_signed.Goals.{then-n-lt0, else-n-lt0}

pub returns : goal.returns
returns c =
    elim c.if-n-lt0.branch [
      | then-n-lt0 w ↦ early_laid _ c.ranges.n c.unsigned_abs.ensures.value w.if-n-lt0.true (omega arith) w.lay-behind.ensures (rw (w.behind-is, w.out-is) at c.lay_number.ensures)
      | else-n-lt0 w ↦ late_laid _ c.ranges.n c.unsigned_abs.ensures.value w.if-n-lt0.false (rw (w.behind-is, w.out-is) at c.lay_number.ensures)
    ]
