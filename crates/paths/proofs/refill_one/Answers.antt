-- The merged part, laid in the buffer's own slots and then counted.
use Rattle.paths.proofs.RefillLaws.{fill_laying, fill_did}
use Rattle.paths.proofs.refill_one.Goals as goal

pub settle-requires : goal.settle-requires
settle-requires c = fill_laying c.args.a.now c.args.n c.args.m c.args.xs.now c.args.ys.now c.requires _ c.base_of-at.ensures _ _ c.part-first.ensures

pub returns : goal.returns
returns c = fill_did c.args.a.now c.args.n c.args.m c.args.xs.now c.args.ys.now c.requires _ c.base_of-at.ensures _ _ c.part-first.ensures _ c.settle.ensures.now c.settle.ensures.word
