use Prim.Native.Nat.{◌-◌}
use native.Mathlib.Omega.{arith}
use Rattle.paths.proofs.AlongLaws.{buffer_from, gathers_asks, gathers_next, gathers_last}
use Rattle.paths.proofs.Path.gather.Goals as goal

pub copy_out-copied-requires : goal.copy_out-copied-requires
copy_out-copied-requires c = gathers_asks c.requires c.loop-step.invariant (omega arith) _ (buffer_from c.args.self.now.steps c.args.from (c.args.self.now.length - c.args.from) c.loop-step.step-index (omega arith))

pub loop-step-preserved : goal.loop-step-preserved
loop-step-preserved c =
    gathers_next c.requires c.loop-step.invariant (omega arith) _ (buffer_from c.args.self.now.steps c.args.from (c.args.self.now.length - c.args.from) c.loop-step.step-index (omega arith)) _ _ c.copy_out-copied.ensures _ (omega arith)

pub returns : goal.returns
returns c = gathers_last c.requires c.loop-step.invariant (omega arith)
