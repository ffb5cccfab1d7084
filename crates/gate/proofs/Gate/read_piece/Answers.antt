-- A read that fails leaves all as it was.
use Rattle.std.proofs.lemmas.Result.{err_from_is_err_and}
use Rattle.gate.proofs.RunLaws.{failed_read}
use Rattle.gate.proofs.Gate.read_piece.Goals as goal

pub returns-in_err-n-clause-err : goal.returns-in_err-n-clause-err
returns-in_err-n-clause-err g c =
    let p = err_from_is_err_and c.from_residual.result c.from_residual.ensures.1 in
    rw p.1 (failed_read _ _ _ _ _ _ _ c.in_err-n.ensures.bytes)
