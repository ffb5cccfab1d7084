use Rattle.std.proofs.Common.{ap, sym, ◌∙◌, arith, slice_get}
use Rattle.buffers.proofs.SlotLaws.{base_one}
use Rattle.takes.proofs.ReadyLaws.{first_has, first_is, first_none}
use Rattle.takes.proofs.first_head.Goals as goal

pub returns-then-last-eq0 : goal.returns-then-last-eq0
returns-then-last-eq0 c = ap (λ l. slice_get l 0) (sym (first_none c.args.a.now c.args.last c.requires c.if-last-eq0.true))

pub front-requires : goal.front-requires
front-requires c = (first_has c.args.a.now c.args.last c.requires, sym base_one)

pub returns : goal.returns
returns c = c.front.ensures ∙ ap (λ l. slice_get l 0) (sym (first_is c.args.a.now c.args.last c.requires (omega arith)))
