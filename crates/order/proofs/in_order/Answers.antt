use Rattle.std.proofs.Common.{sym, ◌∙◌}
use Rattle.rules.proofs.EntryOrder.{least_key}
use Rattle.order.proofs.WalkLaws.{root_can, insertion_at, broken_outside, left_to_tree}
use Rattle.order.proofs.in_order.Goals as goal

pub ascends-outside-requires : goal.ascends-outside-requires
ascends-outside-requires c = insertion_at _ c.requires

pub ordered-requires : goal.ordered-requires
ordered-requires c = root_can _ c.requires _ c.links-links.ensures

pub returns-then-outside : goal.returns-then-outside
returns-then-outside c = c.ordered.ensures ∙ left_to_tree _ c.requires _ (least_key _) (sym c.ascends-outside.ensures ∙ c.if-outside.true) _ c.links-links.ensures

pub returns-else-outside : goal.returns-else-outside
returns-else-outside c =
    c.if-outside.false ∙ broken_outside _ c.requires _ (least_key _) (sym c.ascends-outside.ensures ∙ c.if-outside.false)
