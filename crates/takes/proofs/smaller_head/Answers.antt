use Rattle.std.proofs.Common.{sym, ◌∙◌, true, false}
use Rattle.rules.specs.Entries.{key_by}
use Rattle.buffers.proofs.SlotLaws.{base_zero}
use Rattle.takes.proofs.ReadyLaws.{insertion_has, by_two, pick}
use Rattle.takes.proofs.smaller_head.Goals as goal

pub front-requires : goal.front-requires
front-requires c = (insertion_has c.args.a.now c.args.last c.requires, sym base_zero)

pub returns-in-None-None : goal.returns-in-None-None
returns-in-None-None c = by_two _ _ c.requires _ _ _ (sym c.in-None-None.is-0 ∙ c.first_head.ensures) (sym c.in-None-None.is-1 ∙ c.front.ensures)

pub returns-in-None-Some : goal.returns-in-None-Some
returns-in-None-Some c = by_two _ _ c.requires _ _ _ (sym c.in-None-Some.is-0 ∙ c.first_head.ensures) (sym c.in-None-Some.is-1 ∙ c.front.ensures)

pub returns-in-Some-None : goal.returns-in-Some-None
returns-in-Some-None c = by_two _ _ c.requires _ _ _ (sym c.in-Some-None.is-0 ∙ c.first_head.ensures) (sym c.in-Some-None.is-1 ∙ c.front.ensures)

pub returns-then-goes_first : goal.returns-then-goes_first
returns-then-goes_first c =
    pick (key_by c.args.rule) c.in-Some-Some.x c.in-Some-Some.y true (sym c.goes_first.ensures ∙ c.if-goes_first.true) ∙ by_two _ _ c.requires _ _ _ (sym c.in-Some-Some.is-0 ∙ c.first_head.ensures) (sym c.in-Some-Some.is-1 ∙ c.front.ensures)

pub returns-else-goes_first : goal.returns-else-goes_first
returns-else-goes_first c =
    pick (key_by c.args.rule) c.in-Some-Some.x c.in-Some-Some.y false (sym c.goes_first.ensures ∙ c.if-goes_first.false) ∙ by_two _ _ c.requires _ _ _ (sym c.in-Some-Some.is-0 ∙ c.first_head.ensures) (sym c.in-Some-Some.is-1 ∙ c.front.ensures)
