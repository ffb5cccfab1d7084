use Rattle.std.proofs.Common.{arith}
use Rattle.frames.proofs.Loops.{reading_starts, room, digit_small, digit_there, digit_is, reads_on, reads_all}
use Rattle.frames.proofs.number.Goals as goal

pub loop-c-init : goal.loop-c-init
loop-c-init c = reading_starts _ c.requires.hex

pub overflow_mul-n : goal.overflow_mul-n
overflow_mul-n c = omega (arith, room _ _ _ c.loop-c.invariant (omega arith) c.requires.short)

pub unwrap-requires : goal.unwrap-requires
unwrap-requires c = digit_there _ _ _ c.loop-c.invariant (omega arith) _ c.value.ensures

pub overflow_add-n : goal.overflow_add-n
overflow_add-n c =
    omega (arith, room _ _ _ c.loop-c.invariant (omega arith) c.requires.short, digit_small _ _ _ c.loop-c.invariant (omega arith), digit_is _ _ _ c.value.ensures c.unwrap.ensures)

pub loop-c-preserved : goal.loop-c-preserved
loop-c-preserved c = reads_on _ _ _ c.loop-c.invariant (omega arith) _ (digit_is _ _ _ c.value.ensures c.unwrap.ensures)

pub returns : goal.returns
returns c = reads_all _ _ _ c.loop-c.invariant (omega arith)
