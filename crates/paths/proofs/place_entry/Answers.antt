-- The placed entries, laid in I's own slots and then counted.
use native.Mathlib.Omega.{arith}
use Rattle.paths.proofs.SlotsLaws.{counted, place_holds, place_laying, place_now}
use Rattle.paths.proofs.place_entry.Goals as goal

pub place_in-requires : goal.place_in-requires
place_in-requires c = place_holds c.args.a.now c.requires _ _ c.args.entry c.start_place-start.ensures c.count-count.ensures

pub overflow_add-count : goal.overflow_add-count
overflow_add-count c = omega (arith, c.requires.few, counted c.args.a.now c.requires _ _ c.args.entry c.start_place-start.ensures c.count-count.ensures)

pub settle-requires : goal.settle-requires
settle-requires c = place_laying c.args.a.now c.requires _ _ c.args.entry c.start_place-start.ensures c.count-count.ensures _ _ c.place_in.ensures

pub returns-clause-now : goal.returns-clause-now
returns-clause-now c = place_now c.args.a.now c.requires _ _ c.args.entry c.start_place-start.ensures c.count-count.ensures _ _ c.place_in.ensures _ c.settle.ensures.now
