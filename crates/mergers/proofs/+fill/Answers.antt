-- `fill` calls itself on its inputs' mergers: what is known at the places of its code.
use Prim.Native.Nat.{ℕ, ◌<◌, ◌≤◌, ◌+◌, ◌-◌}
use mathlib.Core.Path.{◌≡◌, refl, sym, ap, ◌∙◌}
use mathlib.Core.List.{List}
use native.Mathlib.Omega.{arith}
use Rattle.rules.specs.Entries.{key_by}
use Rattle.rules.specs.Links.{k, first, capacity}
use Rattle.rules.specs.Tree.{Tree}
use Rattle.buffers.specs.Format.{buffers_of}
use Rattle.mergers.specs.Subtree.{subtree, first_input, second_input, second_link}
use Rattle.mergers.specs.Fills.{Did}
use Rattle.mergers.proofs.TurnLaws.{refilled, Ready}
use Rattle.mergers.proofs.FillLaws.{Filling}
use Rattle.mergers.proofs.WalkLaws.{leaf_did, Began, loop_begins, one_has, steps_small, one_alone, one_filled, one_can, one_falls, two_has_A, two_alone, two_filled, two_can, two_falls, both, turning, next, next_within, ended_some, empty_now, ended_none, ended_full, did_as, settle_can}
use Rattle.mergers.proofs.+fill.Goals.{After-settle, Joined-wants_in, Joined-wants_in-2, After-turn_steps-m, then-wants_in, else-wants_in, then-wants_in-2, else-wants_in-2}
use Rattle.mergers.proofs.+fill.Goals as goal

module _ (t : ℕ) where
  -- back to where the output was settled, and to where the first input had been filled
  abbrev settled : Joined-wants_in t → After-settle t
  settled c = c.before.before.before.before.before.before.before

  abbrev one_done : Joined-wants_in-2 t → Joined-wants_in t
  one_done c = c.before.before

  abbrev both_done : After-turn_steps-m t → Joined-wants_in-2 t
  both_done c = c.before.before.before

  abbrev one : After-settle t → Tree
  one c = subtree c.args.last c.args.i (first_input c.args.j)

  abbrev two : After-settle t → Tree
  two c = subtree c.args.last (second_link c.args.i c.args.j) (second_input c.args.j)

  -- so many entries in the output, after so many steps since it was settled
  abbrev filling : After-settle t → List ℕ → ℕ → ℕ → Type 0
  filling c ws filled steps = Filling (key_by c.args.rule) (first c.args.i + c.args.j) (capacity c.args.i c.args.j) (one c) (two c) c.settle.new.a ws filled steps

  -- past the settling
  began_at : (c : After-settle t) → let v = c.merger_of-v.result in Began c.args.a.now c.settle.new.a c.args.last c.args.i c.args.j v.out.number v.out.at v.room v.one.number v.one.at v.first v.two.number v.two.at v.second v.link
  began_at c =
      let w = c.merger_of-v.ensures in
      record {
        pre = c.requires;
        above = omega (arith, c.k.ensures ∙ ap k c.at.ensures, c.if-k-j.false);
        out = w.out;
        room_is = w.room;
        one = w.one;
        p_is = w.first;
        two = w.two;
        q_is = w.second;
        s_is = w.link;
        settled = c.settle.ensures.now;
        word = c.settle.ensures.word;
      }

  -- past the test of the first input, and of the second
  first_at : (c : Joined-wants_in t) → let ws = c.loop-filled.a in let s = settled c in Did ws c.if-wants_in.a (one s) (refilled (key_by c.args.rule) (one s) (buffers_of ws)) c.if-wants_in.x
  first_at c =
      let g = began_at (settled c) in
      let f = c.loop-filled.invariant in
      elim c.if-wants_in.branch [
        | then-wants_in w ↦ did_as w.a-is w.x-is (one_filled _ g f (sym c.wants_in.ensures ∙ w.if-wants_in.true) _ _ w.fill-x.ensures)
        | else-wants_in w ↦ did_as w.a-is w.x-is (one_alone _ g f (sym c.wants_in.ensures ∙ w.if-wants_in.false))
      ]

  second_at : (c : Joined-wants_in-2 t) → let ws = c.if-wants_in.a in let s = settled (one_done c) in Did ws c.if-wants_in-2.a (two s) (refilled (key_by c.args.rule) (two s) (buffers_of ws)) c.if-wants_in-2.y
  second_at c =
      let g = began_at (settled (one_done c)) in
      let f = c.loop-filled.invariant in
      let a = first_at (one_done c) in
      elim c.if-wants_in-2.branch [
        | then-wants_in-2 w ↦ did_as w.a-is w.y-is (two_filled _ g f a (sym c.wants_in-in-loop-filled.ensures ∙ w.if-wants_in-2.true) _ _ w.fill-y.ensures)
        | else-wants_in-2 w ↦ did_as w.a-is w.y-is (two_alone _ g f a (sym c.wants_in-in-loop-filled.ensures ∙ w.if-wants_in-2.false))
      ]

  -- both inputs have been filled where they were empty
  both_at : (c : Joined-wants_in-2 t) → let s = settled (one_done c) in let ws = c.if-wants_in-2.a in
      filling s ws c.loop-filled.filled (c.loop-filled.steps + c.if-wants_in.x + c.if-wants_in-2.y) × Ready (one s) (buffers_of ws) × Ready (two s) (buffers_of ws) × (c.loop-filled.filled < c.merger_of-v.result.room)
  both_at c = both _ (began_at (settled (one_done c))) c.loop-filled.invariant (first_at (one_done c)) (second_at c) c.loop-filled-test.true

  -- and the merge steps of the turn have been made
  next_at : (c : After-turn_steps-m t) → let s = settled (one_done (both_done c)) in let m = c.turn_steps-m.result in
      filling s c.turn_steps-m.new.a (c.loop-filled.filled + m) (c.loop-filled.steps + (c.if-wants_in.x + c.if-wants_in-2.y + m)) × (m ≤ c.merger_of-v.result.room - c.loop-filled.filled)
  next_at c =
      let g = began_at (settled (one_done (both_done c))) in
      let b = both_at (both_done c) in
      let e = c.turn_steps-m.ensures in
      let in_all : c.loop-filled.steps + (c.if-wants_in.x + c.if-wants_in-2.y + c.turn_steps-m.result) ≡ c.loop-filled.steps + c.if-wants_in.x + c.if-wants_in-2.y + c.turn_steps-m.result = omega arith in
      (rw in_all (next _ g b.0 b.1 b.2 _ e.value e.ran), next_within _ g b.0 b.1 b.2 _ e.value e.ran)

pub returns-then-k-j : goal.returns-then-k-j
returns-then-k-j t c = leaf_did _ _ _ _ _ c.requires (omega (arith, c.k.ensures ∙ ap k c.at.ensures, c.if-k-j.true))

pub settle-requires : goal.settle-requires
settle-requires t c = settle_can _ _ _ _ _ _ c.requires c.merger_of-v.ensures.out

pub loop-filled-init : goal.loop-filled-init
loop-filled-init t c = loop_begins _ (began_at t (goal.at.loop-filled-init t c).After-settle)

pub wants_in-requires : goal.wants_in-requires
wants_in-requires t c = λ low. one_has _ (began_at t (goal.at.wants_in-requires t c).After-settle) c.loop-filled.invariant

pub fill-x-requires : goal.fill-x-requires
fill-x-requires t c =
    let g = began_at t (goal.at.fill-x-requires t c).After-settle in
    let f = c.loop-filled.invariant in
    (omega (arith, one_falls _ g f, c.decreases), one_can _ g f (sym c.wants_in.ensures ∙ c.if-wants_in.true))

pub wants_in-requires-in-loop-filled : goal.wants_in-requires-in-loop-filled
wants_in-requires-in-loop-filled t c =
    two_has_A _ (began_at t (goal.at.wants_in-requires-in-loop-filled t c).After-settle) c.loop-filled.invariant (first_at t (goal.at.wants_in-requires-in-loop-filled t c).Joined-wants_in)

pub fill-y-requires : goal.fill-y-requires
fill-y-requires t c =
    let at = goal.at.fill-y-requires t c in
    let g = began_at t at.After-settle in
    let f = c.loop-filled.invariant in
    let a = first_at t at.Joined-wants_in in
    (omega (arith, two_falls _ g f a, c.decreases), two_can _ g f a (sym c.wants_in-in-loop-filled.ensures ∙ c.if-wants_in-2.true))

pub turn_steps-m-requires : goal.turn_steps-m-requires
turn_steps-m-requires t c =
    let at = goal.at.turn_steps-m-requires t c in
    turning _ (began_at t at.After-settle) (both_at t at.Joined-wants_in-2).0

pub overflow_add-steps : goal.overflow_add-steps
overflow_add-steps t c =
    let at = goal.at.overflow_add-steps t c in
    omega (arith, steps_small _ (began_at t at.After-settle) (both_at t at.Joined-wants_in-2).0)

pub overflow_add-steps-in-loop-filled : goal.overflow_add-steps-in-loop-filled
overflow_add-steps-in-loop-filled t c =
    let at = goal.at.overflow_add-steps-in-loop-filled t c in
    omega (arith, steps_small _ (began_at t at.After-settle) (next_at t at.After-turn_steps-m).0)

pub overflow_add-steps-in-loop-filled-2 : goal.overflow_add-steps-in-loop-filled-2
overflow_add-steps-in-loop-filled-2 t c =
    let at = goal.at.overflow_add-steps-in-loop-filled-2 t c in
    omega (arith, steps_small _ (began_at t at.After-settle) (next_at t at.After-turn_steps-m).0)

pub exhaust-requires : goal.exhaust-requires
exhaust-requires t c =
    let at = goal.at.exhaust-requires t c in
    let b = both_at t at.Joined-wants_in-2 in
    let e = c.turn_steps-m.ensures in
    empty_now _ (began_at t at.After-settle) b.0 b.1 b.2 _ e.value e.ran c.if-m-eq0.true b.3 c.if-filled-eq0.true

pub returns-then-filled-eq0 : goal.returns-then-filled-eq0
returns-then-filled-eq0 t c =
    let at = goal.at.returns-then-filled-eq0 t c in
    let b = both_at t at.Joined-wants_in-2 in
    let e = c.turn_steps-m.ensures in
    did_as refl (omega arith)
    (ended_none _ (began_at t at.After-settle) b.0 b.1 b.2 _ e.value e.ran c.if-m-eq0.true b.3 c.if-filled-eq0.true _ c.exhaust.ensures.now)

pub returns-else-filled-eq0 : goal.returns-else-filled-eq0
returns-else-filled-eq0 t c =
    let at = goal.at.returns-else-filled-eq0 t c in
    let b = both_at t at.Joined-wants_in-2 in
    let e = c.turn_steps-m.ensures in
    did_as refl (omega arith)
    (ended_some _ (began_at t at.After-settle) b.0 b.1 b.2 _ e.value e.ran c.if-m-eq0.true b.3)

pub overflow_add-filled : goal.overflow_add-filled
overflow_add-filled t c =
    let at = goal.at.overflow_add-filled t c in
    omega (arith, (next_at t at.After-turn_steps-m).1, c.loop-filled-test.true)

pub loop-filled-smaller : goal.loop-filled-smaller
loop-filled-smaller t c =
    let at = goal.at.loop-filled-smaller t c in
    omega (arith, (next_at t at.After-turn_steps-m).1, c.loop-filled-test.true, c.if-m-eq0.false)

pub loop-filled-preserved : goal.loop-filled-preserved
loop-filled-preserved t c = (next_at t (goal.at.loop-filled-preserved t c).After-turn_steps-m).0

pub returns : goal.returns
returns t c = ended_full _ (began_at t (goal.at.returns t c).After-settle) c.loop-filled.invariant (omega (arith, c.loop-filled-test.false))
