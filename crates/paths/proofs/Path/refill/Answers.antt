-- Each step takes of the two runs what its buffer is to have; the last takes the rest.
use Prim.Native.Nat.{ℕ, ◌-◌}
use native.Mathlib.Omega.{arith}
use Rattle.runs.proofs.LayingLaws.{to_the_end}
use Rattle.paths.proofs.AlongLaws.{buffer_at, count_at, buffer_last}
use Rattle.paths.proofs.RefillLaws.{refills_first, refills_asks, refills_next, refills_ask_last, refills_last}
use Rattle.paths.proofs.Path.refill.Goals as goal

-- the last step's place
abbrev last_of : ℕ → ℕ
last_of n = n - 1

pub loop-step-init : goal.loop-step-init
loop-step-init c = refills_first c.requires

pub refill_one-first-requires : goal.refill_one-first-requires
refill_one-first-requires c =
    let at : ℕ = c.loop-step.step-index in
    refills_asks c.requires c.loop-step.invariant _ (buffer_at c.args.self.now.steps (last_of c.args.self.now.length) at (omega arith)) (omega arith) _ (count_at c.args.self.now.steps (last_of c.args.self.now.length) at (omega arith))

pub loop-step-preserved : goal.loop-step-preserved
loop-step-preserved c =
    let at : ℕ = c.loop-step.step-index in
    refills_next c.requires c.loop-step.invariant _ (buffer_at c.args.self.now.steps (last_of c.args.self.now.length) at (omega arith)) (omega arith) _ (count_at c.args.self.now.steps (last_of c.args.self.now.length) at (omega arith)) _ _ c.refill_one-first.ensures _ _
    (to_the_end c.loop-step.xs.now _) (to_the_end c.loop-step.ys.now _)

pub refill_last-requires : goal.refill_last-requires
refill_last-requires c = refills_ask_last c.requires c.loop-step.invariant _ (buffer_last c.args.self.now.steps (last_of c.args.self.now.length) c.loop-step.step-index (omega arith)) (omega arith)

pub returns : goal.returns
returns c = refills_last c.requires c.loop-step.invariant _ (buffer_last c.args.self.now.steps (last_of c.args.self.now.length) c.loop-step.step-index (omega arith)) (omega arith) _ c.refill_last.ensures
