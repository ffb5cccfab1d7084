use Rattle.buffers.proofs.WordLaws.{settle_now}
use Rattle.buffers.proofs.settle.Goals as goal

pub returns-clause-now : goal.returns-clause-now
returns-clause-now c = settle_now c.args.a.now c.args.n c.args.m c.requires
