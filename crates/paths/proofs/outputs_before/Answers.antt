use mathlib.Core.Path.{ap, ◌∙◌}
use native.Mathlib.Omega.{arith}
use Rattle.rules.specs.Links.{first}
use Rattle.paths.proofs.WayLaws.{outputs_first, outputs_next}
use Rattle.paths.proofs.outputs_before.Goals as goal

pub loop-n-init : goal.loop-n-init
loop-n-init c = outputs_first _ c.requires c.told-steps

pub loop-n-preserved : goal.loop-n-preserved
loop-n-preserved c = outputs_next _ c.requires c.loop-n.invariant c.loop-n.auto.n (omega arith) _ (c.to.ensures ∙ c.first.ensures ∙ ap first c.at.ensures)
