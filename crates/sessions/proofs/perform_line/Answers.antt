use Rattle.sessions.proofs.RunLaws.{line_refused}
use Rattle.sessions.proofs.perform_line.Goals as goal

pub returns-in-Err-clause-called : goal.returns-in-Err-clause-called
returns-in-Err-clause-called c = line_refused _ _ c.args.read _ c.in-Err.is
