use mathlib.Core.Path.{refl}
use native.Mathlib.Omega.{arith}
use Rattle.paths.proofs.AlongLaws.{notes_first, notes_asks, notes_next, noted_numbers, noted_all}
use Rattle.paths.proofs.Path.note.Goals as goal

pub loop-step-init : goal.loop-step-init
loop-step-init c = notes_first _ _

pub count-step-requires : goal.count-step-requires
count-step-requires c = notes_asks _ _ c.requires c.loop-step.invariant (omega arith)

pub loop-step-preserved : goal.loop-step-preserved
loop-step-preserved c = notes_next _ _ c.requires c.loop-step.invariant (omega arith) _ c.count-step.ensures

pub returns : goal.returns
returns c = record { length = refl; numbers = noted_numbers _ _ c.requires c.loop-step.invariant; noted = noted_all _ _ c.requires c.loop-step.invariant (omega arith) (omega arith) }
