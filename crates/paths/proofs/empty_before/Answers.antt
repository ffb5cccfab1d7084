use native.Mathlib.Omega.{arith}
use Rattle.paths.proofs.LayOutLaws.{empties_asks, empties_next}
use Rattle.paths.proofs.empty_before.Goals as goal

pub settle-requires : goal.settle-requires
settle-requires c = empties_asks c.requires c.loop-n.invariant (omega arith)

pub loop-n-preserved : goal.loop-n-preserved
loop-n-preserved c = empties_next c.requires c.loop-n.invariant (omega arith) _ c.settle.ensures.now c.settle.ensures.word
