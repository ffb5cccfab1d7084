-- A head moves, and the next of its run takes its place; or a run has ended, or out is full.
use Rattle.std.proofs.Common.{arith, sym, ◌∙◌}
use Rattle.runs.proofs.LentLaws.{both_start, both_at, both_first, both_second, next_first, next_second, over_at, over_first, over_second, over_full}
use Rattle.runs.proofs.merge_heads.Goals.{then-goes_first+else-i-xs, else-goes_first+else-j-ys, else-loop-slot-test, then-loop-slot-test+then-goes_first+then-i-xs, then-loop-slot-test+else-goes_first+then-j-ys}
use Rattle.runs.proofs.merge_heads.Goals as goal

pub loop-slot-init : goal.loop-slot-init
loop-slot-init c = both_start _ _ _ _ c.requires.0 c.requires.1

pub loop-slot-preserved : goal.loop-slot-preserved
loop-slot-preserved c =
    let h = c.loop-slot.invariant in
    elim c.if-goes_first.branch [
      | then-goes_first+else-i-xs w ↦ both_at _ w.out-is w.i-is w.j-is w.x-is w.y-is (next_first _ h (omega arith) (sym c.goes_first.ensures ∙ w.if-goes_first.true) w.if-i-xs.false)
      | else-goes_first+else-j-ys w ↦ both_at _ w.out-is w.i-is w.j-is w.x-is w.y-is (next_second _ h (omega arith) (sym c.goes_first.ensures ∙ w.if-goes_first.false) w.if-j-ys.false)
    ]

pub overflow_add-result : goal.overflow_add-result
overflow_add-result c = elim c.loop-slot-test.branch [
  | else-loop-slot-test w ↦ omega arith
  | then-loop-slot-test+then-goes_first+then-i-xs w ↦ omega arith
  | then-loop-slot-test+else-goes_first+then-j-ys w ↦ omega arith
]

pub returns : goal.returns
returns c =
    let h = c.loop-slot.invariant in
    elim c.loop-slot-test.branch [
      | else-loop-slot-test w ↦ (over_at _ w.out-is w.i-is w.j-is (over_full _ h.run (omega arith))).merges
      | then-loop-slot-test+then-goes_first+then-i-xs w ↦ (over_at _ w.out-is w.i-is w.j-is (over_first _ (both_first _ h (omega arith) (sym w.goes_first.ensures ∙ w.if-goes_first.true)) (omega arith))).merges
      | then-loop-slot-test+else-goes_first+then-j-ys w ↦ (over_at _ w.out-is w.i-is w.j-is (over_second _ (both_second _ h (omega arith) (sym w.goes_first.ensures ∙ w.if-goes_first.false)) (omega arith))).merges
    ]
