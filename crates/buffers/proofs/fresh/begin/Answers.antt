use Rattle.std.proofs.Common.{arith, length-set}
use Rattle.buffers.proofs.FreshLaws.{book_in, end_in, begun}
use Rattle.buffers.proofs.fresh.begin.Goals as goal

pub bounds-a-0 : goal.bounds-a-0
bounds-a-0 c = omega (arith, book_in c.args.a.now c.args.links c.requires)

pub write-requires : goal.write-requires
write-requires c = (omega arith, omega (arith, book_in c.args.a.now c.args.links c.requires, length-set c.args.a.now 0 c.args.links, c.requires.link.high))

pub overflow_add-first : goal.overflow_add-first
overflow_add-first c = record { fits = omega (arith, end_in c.args.a.now c.args.links c.requires _ _ c.at.ensures c.first.ensures) }

pub write-requires-2 : goal.write-requires-2
write-requires-2 c = (omega arith, omega (arith, end_in c.args.a.now c.args.links c.requires _ _ c.at.ensures c.first.ensures, book_in c.args.a.now c.args.links c.requires, c.write.ensures.long, length-set c.args.a.now 0 c.args.links))

pub returns : goal.returns
returns c = begun c.args.a.now c.args.links c.requires _ _ _ _ c.at.ensures c.first.ensures c.write.ensures c.write-2.ensures
