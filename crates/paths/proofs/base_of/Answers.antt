-- The link and the buffer's place in it say where the slots begin.
use mathlib.Core.Path.{sym, ap, ◌∙◌}
use native.Mathlib.Omega.{arith}
use Rattle.rules.specs.Links.{first}
use Rattle.buffers.specs.Slots.{base}
use Rattle.buffers.proofs.SlotLaws.{base_zero, base_small}
use Rattle.paths.proofs.AlongLaws.{link_in, link_base}
use Rattle.paths.proofs.base_of.Goals as goal

pub returns-then-n-eq0 : goal.returns-then-n-eq0
returns-then-n-eq0 c = sym base_zero ∙ ap base (sym c.if-n-eq0.true)

pub slot-requires : goal.slot-requires
slot-requires c = link_in c.link_of.ensures _ _ c.at-link.ensures (c.first.ensures ∙ ap first c.at-link.ensures)

pub overflow_add-result : goal.overflow_add-result
overflow_add-result c = omega (arith, base_small _ c.requires, link_base c.link_of.ensures _ _ c.at-link.ensures (c.first.ensures ∙ ap first c.at-link.ensures) _ c.slot.ensures)

pub returns : goal.returns
returns c = link_base c.link_of.ensures _ _ c.at-link.ensures (c.first.ensures ∙ ap first c.at-link.ensures) _ c.slot.ensures
