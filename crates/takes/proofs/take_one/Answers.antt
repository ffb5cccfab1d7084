use Rattle.takes.proofs.HandLaws.{took_none, first_can, took_first, insertion_can, took_insertion}
use Rattle.takes.proofs.take_one.Goals as goal

pub hand_out-requires : goal.hand_out-requires
hand_out-requires c = first_can _ c.args.a.now c.args.last c.requires _ _ c.make_ready-steps.ensures (rw c.in-Some-First.field-0-is at c.in-Some-First.ensures)

pub hand_out-requires-in-Some-Insertion : goal.hand_out-requires-in-Some-Insertion
hand_out-requires-in-Some-Insertion c = insertion_can _ c.args.a.now c.args.last c.requires _ _ c.make_ready-steps.ensures (rw c.in-Some-Insertion.field-0-is at c.in-Some-Insertion.ensures)

pub returns-in-None : goal.returns-in-None
returns-in-None c = took_none _ c.args.a.now c.args.last c.requires _ _ c.make_ready-steps.ensures c.in-None.ensures

pub returns-in-Some-First : goal.returns-in-Some-First
returns-in-Some-First c =
    took_first _ c.args.a.now c.args.last c.requires _ _ c.make_ready-steps.ensures (rw c.in-Some-First.field-0-is at c.in-Some-First.ensures) _ _
    c.hand_out.ensures.value c.hand_out.ensures.now c.hand_out.ensures.word

pub returns-in-Some-Insertion : goal.returns-in-Some-Insertion
returns-in-Some-Insertion c =
    took_insertion _ c.args.a.now c.args.last c.requires _ _ c.make_ready-steps.ensures (rw c.in-Some-Insertion.field-0-is at c.in-Some-Insertion.ensures) _ _
    c.hand_out-in-Some-Insertion.ensures.value c.hand_out-in-Some-Insertion.ensures.now c.hand_out-in-Some-Insertion.ensures.word
