-- An input that holds as many entries as the output has room for is filled once while the output is filled: what its fills cost together.
use Prim.Native.Nat.{ℕ, zero, suc, ◌+◌, ◌≤◌}
use mathlib.Core.Path.{◌≡◌}
use mathlib.Core.Logic.{◌⊎◌, inl, inr}
use mathlib.Core.List.{List, [], ◌∷◌, ◌++◌}
use native.Mathlib.Omega.{arith}
use lib.ListN.{length}
use Rattle.rules.specs.Merge.{Step}
use Rattle.rules.proofs.Steps.{Stepped, stops, from_first, from_second, stepped}
use Rattle.rules.proofs.Contents.{Refilled, Run, refill, step_then, merge_into}

-- a fill of an empty input: `held` counts what stands below the input, `Good` says which contents are meant
pub record Once {A : Type 0} (held : A → ℕ) (Good : A → Type 0) (fill : List ℕ × A → Refilled A) (room cost : ℕ) : Type 0 where
  -- it costs at most so much
  pub costs : (a : A) → Good a → (fill ([], a)).steps ≤ cost
  -- it leaves as many entries as there is room for, or nothing below them
  pub settles : (a : A) → (room ≤ length (fill ([], a)).contents.0) ⊎ (held (fill ([], a)).contents.1 ≡ 0)
  -- and where nothing stands below it makes no step
  pub idle : (a : A) → held a ≡ 0 → ((fill ([], a)).steps ≡ 0) × (held (fill ([], a)).contents.1 ≡ 0)

-- what fills of an input can still cost, with room for so many more in the output
pub data Due {A : Type 0} (held : A → ℕ) (Good : A → Type 0) (cost room : ℕ) : List ℕ → A → ℕ → Type 0 where
  enough : {es : List ℕ} {a : A} → room ≤ length es → Due held Good cost room es a 0
  drained : {es : List ℕ} {a : A} → held a ≡ 0 → Due held Good cost room es a 0
  unfilled : {es : List ℕ} {a : A} → Good a → Due held Good cost room es a cost

module _ {A : Type 0} (held : A → ℕ) (Good : A → Type 0) (cost : ℕ) where
  -- a step that moves this input's head, or the other's
  pop_due : {room d e : ℕ} {es : List ℕ} {a : A} → Due held Good cost (suc room) (e ∷ es) a d → Due held Good cost room es a d
  pop_due {es = es} (enough l) = enough {es = es} (omega arith)
  pop_due (drained h) = drained h
  pop_due (unfilled g) = unfilled g

  keep_due : {room d : ℕ} {es : List ℕ} {a : A} → Due held Good cost (suc room) es a d → Due held Good cost room es a d
  keep_due {es = es} (enough l) = enough {es = es} (omega arith)
  keep_due (drained h) = drained h
  keep_due (unfilled g) = unfilled g

  -- what a fill that is made only where the input is empty costs is due no more
  record StillDue (room due : ℕ) (r : Refilled A) : Type 0 where
    left : ℕ
    still : Due held Good cost room r.contents.0 r.contents.1 left
    pays : r.steps + left ≤ due

  module _ (fill : List ℕ × A → Refilled A) (room most : ℕ) (once : Once held Good fill most cost) (within : suc room ≤ most) where
    settled : (r : Refilled A) (due : ℕ) → r.steps ≤ due → (most ≤ length r.contents.0) ⊎ (held r.contents.1 ≡ 0) → StillDue (suc room) due r
    settled r due h (inl l) = record { left = 0; still = enough {es = r.contents.0} (omega arith); pays = omega arith }
    settled r due h (inr n) = record { left = 0; still = drained n; pays = omega arith }

    refill_due : {d : ℕ} (es : List ℕ) (a : A) → Due held Good cost (suc room) es a d → StillDue (suc room) d (refill fill es a)
    unfolding refill
    refill_due {d} (e ∷ es) a due = record { left = d; still = due; pays = omega arith }
    refill_due [] a (enough l) = absurd (omega arith)
    refill_due [] a (drained h) = settled (fill ([], a)) 0 (omega (arith, (once.idle a h).0)) (inr (once.idle a h).1)
    refill_due [] a (unfilled g) = settled (fill ([], a)) cost (once.costs a g) (once.settles a)

module _ (key : ℕ → ℕ) {A B : Type 0} (ha : A → ℕ) (Ga : A → Type 0) (ca : ℕ) (hb : B → ℕ) (Gb : B → Type 0) (cb : ℕ) where
  -- the steps of a run: one for each entry that moves, and what its inputs' fills cost
  abbrev RunOnce : ℕ → (List ℕ → List ℕ × A → List ℕ × B → Run A B) → Type 0
  RunOnce room run = (out xs ys : List ℕ) (a : A) (b : B) (d e : ℕ) → Due ha Ga ca room xs a d → Due hb Gb cb room ys b e → (run out (xs, a) (ys, b)).steps ≤ room + (d + e)

  step_once : (room : ℕ) (rest : List ℕ → List ℕ × A → List ℕ × B → Run A B) → RunOnce room rest → (out : List ℕ) (steps : ℕ) (a : A) (b : B) (d e : ℕ) {xs ys : List ℕ} {s : Step}
      → Stepped key xs ys s → Due ha Ga ca (suc room) xs a d → Due hb Gb cb (suc room) ys b e → (step_then rest out steps a b s).steps ≤ suc room + (steps + (d + e))
  unfolding step_then
  step_once room rest h out steps a b d e stops p q = omega arith
  step_once room rest h out steps a b d e (from_first {e = x} {xs = xs} {ys = ys} l) p q = omega (arith, h (out ++ x ∷ []) xs ys a b d e (pop_due ha Ga ca p) (keep_due hb Gb cb q))
  step_once room rest h out steps a b d e (from_second {e = x} {xs = xs} {ys = ys} l) p q = omega (arith, h (out ++ x ∷ []) xs ys a b d e (keep_due ha Ga ca p) (pop_due hb Gb cb q))

  module _ (f : List ℕ × A → Refilled A) (g : List ℕ × B → Refilled B) (most : ℕ) (fa : Once ha Ga f most ca) (gb : Once hb Gb g most cb) where
    -- while an output with room for at most so many is filled, each input's fills cost what is due
    pub run_once : (room : ℕ) → room ≤ most → RunOnce room (merge_into key f g room)
    unfolding merge_into
    run_once zero within out xs ys a b d e p q = omega arith
    run_once (suc room) within out xs ys a b d e p q =
        let x = refill f xs a in
        let y = refill g ys b in
        let px = refill_due ha Ga ca f room most fa (omega arith) xs a p in
        let py = refill_due hb Gb cb g room most gb (omega arith) ys b q in
        omega (
          arith,
          step_once room (merge_into key f g room) (run_once room (omega arith)) out (x.steps + y.steps) x.contents.1 y.contents.1 px.left py.left
              (stepped key x.contents.0 y.contents.0) px.still py.still,
          px.pays,
          py.pays,
        )
