use Rattle.std.proofs.Common.{◌+◌, ap, arith}
use Rattle.buffers.specs.Weights.{inputs}
use Rattle.buffers.proofs.SoundLaws.{as_wide, level_starts, level_under, level_wrong, level_again, level_ends}
use Rattle.buffers.proofs.sound.level.Goals as goal

pub loop-j-init : goal.loop-j-init
loop-j-init c = level_starts _ _ _ _ _ c.requires (as_wide _ c.told-below)

pub overflow_add-held-in-loop-j : goal.overflow_add-held-in-loop-j
overflow_add-held-in-loop-j c =
    let few = level_under _ _ _ _ _ c.requires _ _ c.loop-j.invariant c.loop-j-test.true in
    record { fits = omega arith }

pub overflow_add-held-in-loop-j-2 : goal.overflow_add-held-in-loop-j-2
overflow_add-held-in-loop-j-2 c =
    let few = level_under _ _ _ _ _ c.requires _ _ c.loop-j.invariant c.loop-j-test.true in
    record { fits = omega (arith, c.count.ensures) }

pub returns-then-not-right : goal.returns-then-not-right
returns-then-not-right c =
    level_wrong _ _ _ _ _ c.requires _ _ c.loop-j.invariant c.loop-j-test.true _ _ c.of-w.ensures (ap (λ n. n + inputs c.loop-j.below c.loop-j.j) c.count.ensures) _ c.right.ensures c.if-not-right.true

pub loop-j-preserved : goal.loop-j-preserved
loop-j-preserved c =
    level_again _ _ _ _ _ c.requires _ _ c.loop-j.invariant c.loop-j-test.true _ _ c.of-w.ensures (ap (λ n. n + inputs c.loop-j.below c.loop-j.j) c.count.ensures) _ c.right.ensures c.if-not-right.false

pub returns : goal.returns
returns c = level_ends _ _ _ _ _ c.requires _ _ c.loop-j.invariant c.loop-j-test.false
