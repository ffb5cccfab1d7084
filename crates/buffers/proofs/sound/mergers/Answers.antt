use Rattle.std.proofs.Common.{true, false, sym, ◌∙◌, arith}
use Rattle.buffers.proofs.SoundLaws.{as_wide}
use Rattle.buffers.proofs.LinkWeights.{merge_starts, merge_lower, ask_level, merge_again, merge_wrong, link_broken, no_space, from_A}
use Rattle.buffers.proofs.sound.mergers.Goals.{then-room-lower-via-then-room-lower, then-room-lower-via-else-room-lower+then-not-right}
use Rattle.buffers.proofs.sound.mergers.Goals as goal

pub loop-low-init : goal.loop-low-init
loop-low-init c = merge_starts _ _ _ _ _ _ c.requires.of (as_wide _ c.told-below) c.requires.left.right c.at-l.ensures c.first-first.ensures c.k-low.ensures

pub level-requires : goal.level-requires
level-requires c = ask_level _ _ _ _ _ _ c.loop-low.invariant c.loop-low-test.true

pub returns-then-not-level : goal.returns-then-not-level
returns-then-not-level c =
    let e = merge_wrong _ _ _ _ _ _ c.loop-low.invariant c.loop-low-test.true _ c.capacity.ensures _ _ c.level.ensures c.if-not-level.true in
    omega (arith, link_broken _ _ c.args.behind e)

pub loop-low-preserved : goal.loop-low-preserved
loop-low-preserved c = merge_again _ _ _ _ _ _ c.loop-low.invariant c.loop-low-test.true _ c.capacity.ensures _ (as_wide _ c.level.array_long) _ c.level.ensures c.if-not-level.false

pub overflow_add-held : goal.overflow_add-held
overflow_add-held c =
    let few = merge_lower _ _ _ _ _ _ c.loop-low.invariant 1 c.loop-low-test.false (omega (arith, c.loop-low.invariant.some)) in
    record { fits = omega (arith, few) }

pub overflow_add-held-2 : goal.overflow_add-held-2
overflow_add-held-2 c =
    let few = merge_lower _ _ _ _ _ _ c.loop-low.invariant 1 c.loop-low-test.false (omega (arith, c.loop-low.invariant.some)) in
    record { fits = omega (arith, few, c.count.ensures) }

pub returns-then-room-lower : goal.returns-then-room-lower
returns-then-room-lower c =
    elim c.then-room-lower.branch [
      | then-room-lower-via-then-room-lower w ↦ no_space c.loop-low.invariant c.loop-low-test.false _ _ c.requires.left.is w.if-room-lower.true
      | then-room-lower-via-else-room-lower+then-not-right w ↦
          from_A c.loop-low.invariant c.loop-low-test.false _ _ c.requires.left.is w.if-room-lower.false c.of-w.ensures w.capacity-else-room-lower.ensures c.count.ensures false
          (sym w.if-not-right.true ∙ w.right.ensures)
    ]

pub returns : goal.returns
returns c =
    from_A c.loop-low.invariant c.loop-low-test.false _ _ c.requires.left.is c.if-room-lower.false c.of-w.ensures c.capacity-else-room-lower.ensures c.count.ensures true
    (sym c.if-not-right.false ∙ c.right.ensures)
