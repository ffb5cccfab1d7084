use Rattle.buffers.proofs.SoundLaws.{as_wide, stretch_starts, stretch_over, stretch_wrong, stretch_again, stretch_ends}
use Rattle.buffers.proofs.sound.stretch.Goals.{then-many-count-via-then-many-count, then-many-count-via-else-many-count+then-not-right}
use Rattle.buffers.proofs.sound.stretch.Goals as goal

pub loop-j-init : goal.loop-j-init
loop-j-init c = stretch_starts _ _ _ _ _ _ _ c.requires (as_wide _ c.told-below)

pub returns-then-many-count : goal.returns-then-many-count
returns-then-many-count c =
    elim c.then-many-count.branch [
      | then-many-count-via-then-many-count w ↦ stretch_over _ _ _ _ _ _ _ c.requires _ _ c.loop-j.invariant c.loop-j-test.true _ _ c.of-w.ensures c.count-count.ensures w.if-many-count.true
      | then-many-count-via-else-many-count+then-not-right w ↦
          stretch_wrong _ _ _ _ _ _ _ c.requires _ _ c.loop-j.invariant c.loop-j-test.true _ _ c.of-w.ensures c.count-count.ensures _ w.right.ensures w.if-not-right.true
    ]

pub loop-j-preserved : goal.loop-j-preserved
loop-j-preserved c =
    stretch_again _ _ _ _ _ _ _ c.requires _ _ c.loop-j.invariant c.loop-j-test.true _ _ c.of-w.ensures c.count-count.ensures c.if-many-count.false _ c.right.ensures c.if-not-right.false

pub returns : goal.returns
returns c = stretch_ends _ _ _ _ _ _ _ c.requires _ _ c.loop-j.invariant c.loop-j-test.false
