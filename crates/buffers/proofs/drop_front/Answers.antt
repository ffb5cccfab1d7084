use Rattle.buffers.proofs.WordLaws.{drop_now}
use Rattle.buffers.proofs.drop_front.Goals as goal

pub returns-clause-now : goal.returns-clause-now
returns-clause-now c = drop_now c.args.a.now c.args.n c.args.m c.requires
