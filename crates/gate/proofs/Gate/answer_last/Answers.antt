-- There is room for an answer.
use native.Mathlib.Omega.{arith}
use Rattle.std.proofs.lemmas.Result.{on_ok_weaker, on_err_weaker}
use Rattle.lines.specs.Cutter.{kept}
use Rattle.gate.proofs.RunLaws.{last_answered, last_stopped, last_done}
use Rattle.gate.proofs.Gate.answer_last.Goals as goal

pub unwrap-written-requires : goal.unwrap-written-requires
unwrap-written-requires g c = last_done (kept c.args.self.now.cutter) c.finish.ensures (omega arith)

pub returns-clause-ok : goal.returns-clause-ok
returns-clause-ok g c = on_ok_weaker _ (last_answered (kept c.args.self.now.cutter) c.finish.ensures (omega arith) _ c.unwrap-written.ensures) c.write_whole.ensures.ok

pub returns-clause-err : goal.returns-clause-err
returns-clause-err g c = on_err_weaker _ (last_stopped (kept c.args.self.now.cutter) c.finish.ensures (omega arith) _ c.unwrap-written.ensures) c.write_whole.ensures.err
