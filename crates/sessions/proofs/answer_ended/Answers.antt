use Rattle.sessions.proofs.RunLaws.{served_none}
use Rattle.sessions.proofs.answer_ended.Goals as goal

pub returns-in-None : goal.returns-in-None
returns-in-None c = served_none _ _ _ c.args.ended _ c.in-None.is
