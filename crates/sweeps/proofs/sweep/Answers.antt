-- Each part as the laws of a sweep ask for it.
use mathlib.Core.Path.{refl}
use native.Mathlib.Omega.{arith}
use Rattle.sweeps.proofs.SweepLaws.{path_by, put_by, counter_small, counter_there, ends, notes, can_empty, gathers, refills, counter_stays, made_room}
use Rattle.sweeps.proofs.sweep.Goals as goal

pub counter-c-requires : goal.counter-c-requires
counter-c-requires c = counter_there _ _ _ c.requires

pub lead_to-requires : goal.lead_to-requires
lead_to-requires c =
    let e = ends _ _ _ c.requires in
    record { link = e.link; low = omega (arith, e.low, c.counter-c.ensures); high = omega (arith, e.low, e.high, c.counter-c.ensures); few = e.few }

-- the path is that of c(i)
pub note-requires : goal.note-requires
note-requires c = notes _ _ _ c.requires _ _ (path_by c.counter-c.ensures refl refl c.lead_to.ensures)

pub take_all-emptied-requires : goal.take_all-emptied-requires
take_all-emptied-requires c = can_empty _ _ _ c.requires

pub gather-requires : goal.gather-requires
gather-requires c = gathers _ _ _ c.requires _ _ (path_by c.counter-c.ensures c.note.ensures.numbers c.note.ensures.length c.lead_to.ensures) _ _ _ _ c.take_all-emptied.ensures

pub refill-requires : goal.refill-requires
refill-requires c = refills _ _ _ c.requires _ _ (path_by c.counter-c.ensures c.note.ensures.numbers c.note.ensures.length c.lead_to.ensures) _ _ _ _ c.take_all-emptied.ensures _ _ c.gather.ensures _ c.note.ensures.noted _ _ c.split_at.ensures.front c.split_at.ensures.back

pub overflow_add-c : goal.overflow_add-c
overflow_add-c c = omega (arith, c.counter-c.ensures, counter_small _ _ _ c.requires)

pub put_counter-requires : goal.put_counter-requires
put_counter-requires c = counter_stays _ _ _ c.requires _ _ (path_by c.counter-c.ensures c.note.ensures.numbers c.note.ensures.length c.lead_to.ensures) _ _ _ _ c.take_all-emptied.ensures _ c.refill.ensures.array c.refill.ensures.kept

pub returns : goal.returns
returns c = made_room _ _ _ c.requires _ _ (path_by c.counter-c.ensures c.note.ensures.numbers c.note.ensures.length c.lead_to.ensures) _ _ _ _ c.take_all-emptied.ensures _ _ c.gather.ensures _ c.note.ensures.noted _ _ c.split_at.ensures.front c.split_at.ensures.back _ c.refill.ensures _ (put_by c.counter-c.ensures c.put_counter.ensures)
