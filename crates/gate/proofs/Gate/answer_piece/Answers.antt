use native.Mathlib.Omega.{arith}
use Rattle.std.proofs.lemmas.Result.{err_from_is_err_and}
use Rattle.sessions.proofs.PieceLaws.{ran_moves}
use Rattle.gate.proofs.RunLaws.{none_yet, some_more, stopped, whole}
use Rattle.gate.proofs.Gate.answer_piece.Goals as goal

pub loop-at-init : goal.loop-at-init
loop-at-init g c = none_yet _ _ _ _ _ _

pub loop-at-smaller : goal.loop-at-smaller
loop-at-smaller g c = omega (arith, ran_moves c.run_piece-ran.ensures.piece_ran (omega arith) (omega arith) c.run_piece-ran.ensures.no_more)

pub loop-at-preserved : goal.loop-at-preserved
loop-at-preserved g c = some_more c.loop-at.invariant c.run_piece-ran.ensures.piece_ran (omega arith) c.in_ok-write_whole.ensures.ok

pub returns-in_err-write_whole-clause-err : goal.returns-in_err-write_whole-clause-err
returns-in_err-write_whole-clause-err g c =
    let p = err_from_is_err_and c.from_residual.result c.from_residual.ensures.1 in
    rw p.1 (stopped c.loop-at.invariant c.run_piece-ran.ensures.piece_ran (omega arith) c.in_err-write_whole.ensures.err)

pub returns-clause-ok : goal.returns-clause-ok
returns-clause-ok g c = whole c.loop-at.invariant (omega arith)
