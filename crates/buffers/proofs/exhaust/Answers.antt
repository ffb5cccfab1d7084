use Rattle.buffers.proofs.WordLaws.{exhaust_now}
use Rattle.buffers.proofs.exhaust.Goals as goal

pub returns-clause-now : goal.returns-clause-now
returns-clause-now c = exhaust_now c.args.a.now c.args.n c.requires
