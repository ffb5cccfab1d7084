-- Once the counter is right, `counted` says what is known of the link; the two stretches of S follow.
use Rattle.std.proofs.Common.{ap, ◌∙◌, arith}
use Rattle.rules.specs.Links.{k}
use Rattle.buffers.proofs.LinkWeights.{counted, no_counter, far_counter, used_wrong, unused_wrong, all_stored}
use Rattle.buffers.proofs.sound.stores.Goals.{then-c-lt1-via-then-c-lt1, then-c-lt1-via-else-c-lt1+then-k-c, then-not-stretch-via-then-not-stretch, then-not-stretch-via-else-not-stretch+then-not-stretch-2}
use Rattle.buffers.proofs.sound.stores.Goals as goal

pub returns-then-c-lt1 : goal.returns-then-c-lt1
returns-then-c-lt1 c =
    elim c.then-c-lt1.branch [
      | then-c-lt1-via-then-c-lt1 w ↦ no_counter _ _ w.if-c-lt1.true
      | then-c-lt1-via-else-c-lt1+then-k-c w ↦ far_counter _ _ _ (c.k-k.ensures ∙ ap k c.at-l.ensures) w.if-c-lt1.false w.if-k-c.true
    ]

pub returns-then-not-stretch : goal.returns-then-not-stretch
returns-then-not-stretch c =
    let q = counted c.requires c.at-l.ensures c.k-k.ensures c.first-first.ensures c.s-s.ensures c.if-c-lt1.false c.if-k-c.false in
    elim c.then-not-stretch.branch [
      | then-not-stretch-via-then-not-stretch w ↦ used_wrong _ _ _ _ _ _ q _ _ c.stretch.ensures w.if-not-stretch.true
      | then-not-stretch-via-else-not-stretch+then-not-stretch-2 w ↦
          unused_wrong _ _ _ _ _ _ q _ _ c.stretch.ensures w.if-not-stretch.false _ _ _ w.stretch-else-not-stretch.ensures w.if-not-stretch-2.true
    ]

pub returns : goal.returns
returns c =
    let q = counted c.requires c.at-l.ensures c.k-k.ensures c.first-first.ensures c.s-s.ensures c.if-c-lt1.false c.if-k-c.false in
    all_stored _ _ _ _ _ _ q _ _ c.stretch.ensures c.if-not-stretch.false _ _ _ c.stretch-else-not-stretch.ensures c.if-not-stretch-2.false (omega arith)
