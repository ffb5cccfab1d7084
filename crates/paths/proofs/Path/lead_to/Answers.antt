use mathlib.Core.Path.{ap, ◌∙◌}
use native.Mathlib.Omega.{arith}
use Rattle.rules.specs.Links.{k, first}
use Rattle.paths.proofs.WayLaws.{some_above, next_few, halves_next, path_made}
use Rattle.paths.proofs.Path.lead_to.Goals as goal

pub nonzero_div-last : goal.nonzero_div-last
nonzero_div-last c = some_above _ c.requires c.loop-step.invariant (omega (arith, c.loop-step-test.true, c.loop-step.invariant.long))

pub overflow_add-first : goal.overflow_add-first
overflow_add-first c = omega (arith, next_few _ c.requires c.loop-step.invariant (omega arith) _ _ (c.first-first.ensures ∙ ap first c.at-link.ensures) (c.k-k.ensures ∙ ap k c.at-link.ensures))

pub loop-step-preserved : goal.loop-step-preserved
loop-step-preserved c = halves_next _ c.requires c.loop-step.invariant (omega arith) _ _ (c.first-first.ensures ∙ ap first c.at-link.ensures) (c.k-k.ensures ∙ ap k c.at-link.ensures) _ c.to.ensures

pub returns : goal.returns
returns c = path_made _ c.requires c.loop-step.invariant _ c.outputs_before.ensures (omega arith)
