-- The joined run, laid in the buffer's own slots and then counted.
use Rattle.paths.proofs.RefillLaws.{last_laying, last_did}
use Rattle.paths.proofs.refill_last.Goals as goal

pub settle-requires : goal.settle-requires
settle-requires c = last_laying _ c.args.a.now c.args.n c.args.xs.now c.args.ys.now c.requires _ c.base_of-at.ensures _ c.join_into.ensures

pub returns : goal.returns
returns c = last_did _ c.args.a.now c.args.n c.args.xs.now c.args.ys.now c.requires _ c.base_of-at.ensures _ c.join_into.ensures _ c.settle.ensures.now c.settle.ensures.word
