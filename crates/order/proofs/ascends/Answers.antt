use Rattle.std.proofs.Common.{sym, ap, ◌∙◌}
use Rattle.rules.specs.Entries.{key_by}
use Rattle.rules.specs.Order.{ascends}
use Rattle.order.proofs.AscentLaws.{ascent_ends, ascent_breaks, ascent_goes_on}
use Rattle.order.proofs.ascends.Goals as goal

pub returns-then-not-goes_first : goal.returns-then-not-goes_first
returns-then-not-goes_first c =
    ascent_breaks (key_by c.args.rule) _ c.args.low _ _ c.loop-e.invariant c.loop-e-test.true (sym c.goes_first.ensures ∙ c.if-not-goes_first.true)
    ∙ ap (ascends (key_by c.args.rule) (key_by c.args.rule c.args.low)) c.entries-e-items.ensures

pub loop-e-preserved : goal.loop-e-preserved
loop-e-preserved c = ascent_goes_on (key_by c.args.rule) _ c.args.low _ _ c.loop-e.invariant c.loop-e-test.true (sym c.goes_first.ensures ∙ c.if-not-goes_first.false)

pub returns : goal.returns
returns c = ascent_ends (key_by c.args.rule) _ c.args.low _ _ c.loop-e.invariant c.loop-e-test.false ∙ ap (ascends (key_by c.args.rule) (key_by c.args.rule c.args.low)) c.entries-e-items.ensures
