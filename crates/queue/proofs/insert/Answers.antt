-- `insert` is the rules' insert, or gives the first failing check.
use Rattle.queue.proofs.CheckLaws.{refuses}
use Rattle.queue.proofs.CallLaws.{called_on}
use Rattle.queue.proofs.InsertLaws.{insert_refused, places, makes_room, insert_called, work_kept}
use Rattle.queue.proofs.insert.Goals as goal

pub returns-in_err-checked_for_insert-clause-called : goal.returns-in_err-checked_for_insert-clause-called
returns-in_err-checked_for_insert-clause-called c = called_on _ _ c.from_residual.ensures.1 (insert_refused _ _ _ _ c.in_err-checked_for_insert.ensures (refuses _))

pub place_entry-requires : goal.place_entry-requires
place_entry-requires c = places _ _ _ c.in_ok-checked_for_insert.ensures

pub make_room-made-requires : goal.make_room-made-requires
make_room-made-requires c = makes_room _ _ _ c.in_ok-checked_for_insert.ensures c.rule-rule.ensures _ c.place_entry.ensures.now c.place_entry.ensures.word

pub returns-clause-called : goal.returns-clause-called
returns-clause-called c =
    insert_called _ _ _ c.in_ok-checked_for_insert.ensures c.rule-rule.ensures _ c.place_entry.ensures.now c.place_entry.ensures.word _ _ _ _ c.make_room-made.ensures.made_room c.make_room-made.ensures.packed_value

pub returns-clause-work_kept : goal.returns-clause-work_kept
returns-clause-work_kept c =
    work_kept _ _ _ c.in_ok-checked_for_insert.ensures c.rule-rule.ensures _ c.place_entry.ensures.now c.place_entry.ensures.word _ _ _ _ c.make_room-made.ensures.made_room c.make_room-made.ensures.packed_value
