-- Nothing is told before the input has ended.
use mathlib.Core.Path.{refl}
use native.Mathlib.Omega.{arith}
use borrow.Author.Tests.{eq-eqb, ne_eqb}
use Rattle.std.proofs.lemmas.Result.{on_ok_weaker, on_err_weaker}
use Rattle.late.proofs.RunLaws.{heard_none, heard_more, heard_last, heard_so_far, all_told, front_told, never}
use Rattle.late.proofs.run.Goals as goal

pub loop-turn-init : goal.loop-turn-init
loop-turn-init g c = record { begins = c.new-day.ensures.begins; heard = heard_none _ _ c.new-day.ensures.line; output_kept = refl; errors_kept = refl }

pub loop-turn-preserved : goal.loop-turn-preserved
loop-turn-preserved g c = record {
  begins = c.loop-turn.invariant.begins;
  heard = heard_more c.loop-turn.invariant.heard c.in_ok-read_piece.ensures.ok (ne_eqb _ 0 c.if-branch-eq0.false);
  output_kept = c.loop-turn.invariant.output_kept;
  errors_kept = c.loop-turn.invariant.errors_kept;
}

pub returns-then-branch-eq0-clause-ok : goal.returns-then-branch-eq0-clause-ok
returns-then-branch-eq0-clause-ok g c =
    let before = c.loop-turn.invariant in
    let piece = c.in_ok-read_piece.ensures.ok in
    rw (← before.output_kept, ← before.errors_kept) (on_ok_weaker _ (λ tells. all_told _ before.begins (heard_last before.heard piece) (piece.at_end (eq-eqb _ 0 c.if-branch-eq0.true)) tells) c.answer.ensures.ok)

pub returns-then-branch-eq0-clause-err : goal.returns-then-branch-eq0-clause-err
returns-then-branch-eq0-clause-err g c =
    let before = c.loop-turn.invariant in
    let piece = c.in_ok-read_piece.ensures.ok in
    rw (← before.output_kept, ← before.errors_kept) (on_err_weaker _ (λ tells. front_told _ before.begins (heard_last before.heard piece) (piece.at_end (eq-eqb _ 0 c.if-branch-eq0.true)) tells) c.answer.ensures.err)

pub returns-then-branch-eq0-clause-read : goal.returns-then-branch-eq0-clause-read
returns-then-branch-eq0-clause-read g c = heard_so_far (heard_last c.loop-turn.invariant.heard c.in_ok-read_piece.ensures.ok)

pub returns-clause-ok : goal.returns-clause-ok
returns-clause-ok g c = never _ _ _ _ _ c.loop-turn.invariant.heard (omega arith)
