-- The run, laid in the buffer's own slots and then counted.
use Rattle.paths.proofs.LayOutLaws.{lay_laying, lay_now}
use Rattle.paths.proofs.lay_run.Goals as goal

pub settle-requires : goal.settle-requires
settle-requires c = lay_laying c.args.a.now c.args.n c.args.run.now c.requires _ c.base_of-at.ensures _ c.lay.ensures

pub returns-clause-now : goal.returns-clause-now
returns-clause-now c = lay_now c.args.a.now c.args.n c.args.run.now c.requires _ c.base_of-at.ensures _ c.lay.ensures _ c.settle.ensures.now
