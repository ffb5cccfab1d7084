-- Each write moves a front of what is left, or nothing.
use Rattle.std.proofs.lemmas.Result.{err_from_is_err_and}
use Rattle.streams.proofs.FrontLaws.{some_more, no_more, front}
use Rattle.streams.proofs.write_whole.Goals as goal

pub returns-in_err-n-clause-err : goal.returns-in_err-n-clause-err
returns-in_err-n-clause-err g c =
    let p = err_from_is_err_and c.from_residual.result c.from_residual.ensures.1 in
    rw p.1 (front (no_more c.loop-rest.invariant c.in_err-n.ensures.bytes))

pub returns-then-n-eq0-clause-err : goal.returns-then-n-eq0-clause-err
returns-then-n-eq0-clause-err g c = front (some_more c.loop-rest.invariant c.in_ok-n.n c.in_ok-n.ensures.bytes)

pub loop-rest-preserved : goal.loop-rest-preserved
loop-rest-preserved g c = some_more c.loop-rest.invariant c.in_ok-n.n c.in_ok-n.ensures.bytes
