use Rattle.std.proofs.Common.{◌∙◌}
use Rattle.takes.proofs.HandLaws.{head_none, first_head_can, first_head, insertion_head_can, insertion_head}
use Rattle.takes.proofs.head_now.Goals as goal

pub returns-in_err-smaller_head : goal.returns-in_err-smaller_head
returns-in_err-smaller_head c = c.from_residual.ensures ∙ head_none _ c.args.a.now c.args.last c.requires c.in_err-smaller_head.ensures

pub head-requires : goal.head-requires
head-requires c = first_head_can _ c.args.a.now c.args.last c.requires (rw c.in-First.is at c.in_ok-smaller_head.ensures)

pub head-requires-in-Insertion : goal.head-requires-in-Insertion
head-requires-in-Insertion c = insertion_head_can _ c.args.a.now c.args.last c.requires (rw c.in-Insertion.is at c.in_ok-smaller_head.ensures)

pub returns-in-First : goal.returns-in-First
returns-in-First c = first_head _ c.args.a.now c.args.last c.requires (rw c.in-First.is at c.in_ok-smaller_head.ensures) _ c.head.ensures

pub returns-in-Insertion : goal.returns-in-Insertion
returns-in-Insertion c = insertion_head _ c.args.a.now c.args.last c.requires (rw c.in-Insertion.is at c.in_ok-smaller_head.ensures) _ c.head-in-Insertion.ensures
