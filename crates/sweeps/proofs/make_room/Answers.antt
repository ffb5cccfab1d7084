-- One of three: there is room, a sweep, a packing.
use native.Mathlib.Omega.{arith}
use Rattle.sweeps.proofs.RoomLaws.{counts_I, room_there, packed_not, swept_room, swept_told, packed_room, packed_told}
use Rattle.sweeps.proofs.make_room.Goals as goal

pub count-requires : goal.count-requires
count-requires c = counts_I _ _ c.requires

pub returns-then-count-lt-INSERTION-clause-made_room : goal.returns-then-count-lt-INSERTION-clause-made_room
returns-then-count-lt-INSERTION-clause-made_room c = room_there _ _ c.requires _ c.count.ensures c.if-count-lt-INSERTION.true

pub returns-then-count-lt-INSERTION-clause-packed_value : goal.returns-then-count-lt-INSERTION-clause-packed_value
returns-then-count-lt-INSERTION-clause-packed_value c = packed_not _ _ c.requires _ c.count.ensures c.if-count-lt-INSERTION.true

pub returns-in-Some-clause-made_room : goal.returns-in-Some-clause-made_room
returns-in-Some-clause-made_room c = swept_room _ _ c.requires _ c.count.ensures (omega (arith, c.if-count-lt-INSERTION.false)) _ c.links-links.ensures _ c.in-Some.ensures.0 c.in-Some.ensures.1 _ _ _ c.sweep.ensures

pub returns-in-Some-clause-packed_value : goal.returns-in-Some-clause-packed_value
returns-in-Some-clause-packed_value c = swept_told _ _ c.requires _ c.count.ensures (omega (arith, c.if-count-lt-INSERTION.false)) _ c.links-links.ensures _ c.in-Some.ensures.0 c.in-Some.ensures.1

pub returns-in-None-clause-made_room : goal.returns-in-None-clause-made_room
returns-in-None-clause-made_room c = packed_room _ _ c.requires _ c.count.ensures (omega (arith, c.if-count-lt-INSERTION.false)) _ c.links-links.ensures c.in-None.ensures _ _ _ c.pack.ensures

pub returns-in-None-clause-packed_value : goal.returns-in-None-clause-packed_value
returns-in-None-clause-packed_value c = packed_told _ _ c.requires _ c.count.ensures (omega (arith, c.if-count-lt-INSERTION.false)) _ c.links-links.ensures c.in-None.ensures
