use Rattle.std.proofs.Common.{arith}
use Rattle.sessions.proofs.RunLaws.{part_done, part_count, part_served}
use Rattle.sessions.proofs.PieceLaws.{ran_starts, ran_further, ran_on}
use Rattle.sessions.proofs.run_piece.Goals as goal

pub loop-ran-init : goal.loop-ran-init
loop-ran-init c = ran_starts _ _ _ _ _ _ _

pub unwrap-requires : goal.unwrap-requires
unwrap-requires c = part_done _ _ _ _ _ c.next_line-next.result.ended c.loop-ran.out _ c.loop-ran.ran.written _ (omega (arith, c.loop-ran.invariant.inside)) c.answer_ended.ensures

pub overflow_add-ran : goal.overflow_add-ran
overflow_add-ran c = omega (arith, part_count _ _ _ _ _ c.next_line-next.result.ended c.loop-ran.out _ c.loop-ran.ran.written _ (omega (arith, c.loop-ran.invariant.inside)) c.answer_ended.ensures _ c.unwrap.ensures)

pub loop-ran-smaller : goal.loop-ran-smaller
loop-ran-smaller c = omega (arith, ran_further _ _ _ c.next_line-next.result c.next_line-next.ensures (omega arith))

pub loop-ran-preserved : goal.loop-ran-preserved
loop-ran-preserved c =
    ran_on _ _ _ _ _ _ _ _ _ _ _ _ _ _ _ _ _ _ c.loop-ran.invariant c.next_line-next.result c.next_line-next.ensures (omega arith)
    (part_served _ _ _ _ _ c.next_line-next.result.ended _ _ _ _ (omega (arith, c.loop-ran.invariant.inside)) c.answer_ended.ensures _ c.unwrap.ensures)
    (omega arith) (omega (arith, c.loop-ran.invariant.inside))
