use Rattle.buffers.proofs.WordLaws.{grow_now}
use Rattle.buffers.proofs.grow.Goals as goal

pub returns-clause-now : goal.returns-clause-now
returns-clause-now c = grow_now c.args.a.now c.args.n c.args.m c.requires
