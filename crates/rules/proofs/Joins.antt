-- Merge steps in a row, and the joining of two runs: nothing is lost, lengths add up, ascending runs join to an ascending run.
use Prim.Native.Nat.{ℕ, zero, suc, ◌+◌, ◌≤◌}
use mathlib.Core.Path.{◌≡◌, refl, sym, ap, ◌∙◌}
use mathlib.Core.List.{List, [], ◌∷◌, ◌++◌}
use native.Mathlib.Omega.{arith}
use lib.ListN.{length, take, drop}
use lib.Seq.{take_at, drop_at}
use Rattle.rules.specs.Merge.{Step, stop, move, merge_step, Merged, merged, join}
use Rattle.rules.specs.Order.{last_key}
use Rattle.rules.proofs.Steps.{Stepped, stops, from_first, from_second, stepped}
use Rattle.rules.proofs.Weight.{sum_of, sum_of_ones}
use Rattle.rules.proofs.Full.{no_entries}
use Rattle.rules.proofs.Ordered.{Ascends, ascends_raise}

-- one step, and then the rest
abbrev pub after_step : (List ℕ → List ℕ → Merged) → Step → Merged
after_step rest s =
    elim s [
      | stop ↦ record { out = []; one = []; two = [] }
      | move e xs ys ↦ let r = rest xs ys in record { out = e ∷ r.out; one = r.one; two = r.two }
    ]

module _ (key : ℕ → ℕ) where
  -- ---- sums

  module _ (w : ℕ → ℕ) where
    abbrev all : Merged → ℕ
    all z = sum_of w z.out + (sum_of w z.one + sum_of w z.two)

    step_keeps : (rest : List ℕ → List ℕ → Merged) → ((xs ys : List ℕ) → all (rest xs ys) ≡ sum_of w xs + sum_of w ys) → {xs ys : List ℕ} {s : Step} → Stepped key xs ys s
        → all (after_step rest s) ≡ sum_of w xs + sum_of w ys
    step_keeps rest h stops = refl
    step_keeps rest h (from_first {e = e} {xs = xs} {ys = ys} l) = omega (arith, h xs ys)
    step_keeps rest h (from_second {e = e} {xs = xs} {ys = ys} l) = omega (arith, h xs ys)

    -- what merge steps have moved and what they leave is what there was
    pub merged_keeps : (n : ℕ) (xs ys : List ℕ) → all (merged key n xs ys) ≡ sum_of w xs + sum_of w ys
    unfolding merged
    merged_keeps zero xs ys = omega arith
    merged_keeps (suc n) xs ys = step_keeps (merged key n) (merged_keeps n) (stepped key xs ys)

  -- ---- lengths

  step_long : (n : ℕ) → ((xs ys : List ℕ) → n ≤ length xs + length ys → length (merged key n xs ys).out ≡ n) → {xs ys : List ℕ} {s : Step} → Stepped key xs ys s
      → suc n ≤ length xs + length ys → length (after_step (merged key n) s).out ≡ suc n
  step_long n h stops most = absurd (omega arith)
  step_long n h (from_first {e = e} {xs = xs} {ys = ys} l) most = ap suc (h xs ys (omega arith))
  step_long n h (from_second {e = e} {xs = xs} {ys = ys} l) most = ap suc (h xs ys (omega arith))

  -- so many merge steps move so many entries, where there are so many
  pub merged_long : (n : ℕ) (xs ys : List ℕ) → n ≤ length xs + length ys → length (merged key n xs ys).out ≡ n
  unfolding merged
  merged_long zero xs ys most = refl
  merged_long (suc n) xs ys most = step_long n (merged_long n) (stepped key xs ys) most

  -- what was moved and what is left are as many as there were
  pub merged_rest : (n : ℕ) (xs ys : List ℕ) → let z = merged key n xs ys in length z.out + (length z.one + length z.two) ≡ length xs + length ys
  merged_rest n xs ys =
      let z = merged key n xs ys in
      omega (arith, merged_keeps (λ e. 1) n xs ys, sum_of_ones z.out, sum_of_ones z.one, sum_of_ones z.two, sum_of_ones xs, sum_of_ones ys)

  -- a join leaves nothing of either run
  pub join_ends : (xs ys : List ℕ) → let z = merged key (length xs + length ys) xs ys in (z.one ≡ []) × (z.two ≡ [])
  join_ends xs ys =
      let n = length xs + length ys in
      let z = merged key n xs ys in
      let l = merged_long n xs ys (omega arith) in
      let r = merged_rest n xs ys in
      (no_entries z.one (omega arith), no_entries z.two (omega arith))

  -- a join loses nothing
  pub join_keeps : (w : ℕ → ℕ) (xs ys : List ℕ) → sum_of w (join key xs ys) ≡ sum_of w xs + sum_of w ys
  unfolding join
  join_keeps w xs ys =
      let n = length xs + length ys in
      let e = join_ends xs ys in
      omega (arith, merged_keeps w n xs ys, ap (sum_of w) e.0, ap (sum_of w) e.1)

  -- it is as long as both runs together
  pub join_long : (xs ys : List ℕ) → length (join key xs ys) ≡ length xs + length ys
  unfolding join
  join_long xs ys = merged_long (length xs + length ys) xs ys (omega arith)

  -- ---- piece by piece

  merged_none : (n : ℕ) → merged key n [] [] ≡ record { out = []; one = []; two = [] }
  unfolding merged merge_step
  merged_none zero = refl
  merged_none (suc n) = refl

  -- after these steps, n on what they leave
  abbrev pub merged_then : ℕ → Merged → Merged
  merged_then n a = let b = merged key n a.one a.two in record { out = a.out ++ b.out; one = b.one; two = b.two }

  step_then_lem : (m n : ℕ) → ((xs ys : List ℕ) → merged key (m + n) xs ys ≡ merged_then n (merged key m xs ys)) → {xs ys : List ℕ} {s : Step} → Stepped key xs ys s
      → after_step (merged key (m + n)) s ≡ merged_then n (after_step (merged key m) s)
  step_then_lem m n h stops = sym (merged_none n)
  step_then_lem m n h (from_first {e = e} {xs = xs} {ys = ys} l) = ap (λ (r : Merged). record { out = e ∷ r.out; one = r.one; two = r.two }) (h xs ys)
  step_then_lem m n h (from_second {e = e} {xs = xs} {ys = ys} l) = ap (λ (r : Merged). record { out = e ∷ r.out; one = r.one; two = r.two }) (h xs ys)

  -- m + n merge steps are m of them and then n on what those leave
  pub merged_then_lem : (m n : ℕ) (xs ys : List ℕ) → merged key (m + n) xs ys ≡ merged_then n (merged key m xs ys)
  unfolding merged
  merged_then_lem zero n xs ys = let e : 0 + n ≡ n = omega arith in rw e
  merged_then_lem (suc m) n xs ys = let e : suc m + n ≡ suc (m + n) = omega arith in rw e (step_then_lem m n (merged_then_lem m n) (stepped key xs ys))

  module _ (n : ℕ) (xs ys : List ℕ) (most : n ≤ length xs + length ys) where
    join_split : join key xs ys ≡ (merged key n xs ys).out ++ join key (merged key n xs ys).one (merged key n xs ys).two
    unfolding join
    join_split =
        let z = merged key n xs ys in
        let l = merged_long n xs ys most in
        let r = merged_rest n xs ys in
        let e : length xs + length ys ≡ n + (length z.one + length z.two) = omega arith in
        ap (λ m. (merged key m xs ys).out) e ∙ (ap (λ (r : Merged). r.out) (merged_then_lem n (length z.one + length z.two) xs ys))

    -- the first n of a join are what n merge steps move, and the others are the join of what those leave
    pub join_take : take n (join key xs ys) ≡ (merged key n xs ys).out
    join_take = rw join_split (take_at (merged key n xs ys).out (join key (merged key n xs ys).one (merged key n xs ys).two) n (merged_long n xs ys most))

    -- those behind the first n
    pub join_drop : drop n (join key xs ys) ≡ join key (merged key n xs ys).one (merged key n xs ys).two
    join_drop = rw join_split (drop_at (merged key n xs ys).out (join key (merged key n xs ys).one (merged key n xs ys).two) n (merged_long n xs ys most))

  -- ---- order

  -- what was moved ascends, and what is left goes on from there
  pub record MergedInOrder (low : ℕ) (z : Merged) : Type 0 where
    pub out : Ascends key low z.out
    pub one : Ascends key (last_key key low z.out) z.one
    pub two : Ascends key (last_key key low z.out) z.two

  step_ascends : (rest : List ℕ → List ℕ → Merged) → ((low : ℕ) (xs ys : List ℕ) → Ascends key low xs → Ascends key low ys → MergedInOrder low (rest xs ys))
      → (low : ℕ) {xs ys : List ℕ} {s : Step} → Stepped key xs ys s → Ascends key low xs → Ascends key low ys → MergedInOrder low (after_step rest s)
  unfolding last_key
  step_ascends rest h low stops p q = record { out = tt; one = tt; two = tt }
  step_ascends rest h low (from_first {e = e} {xs = xs} {ys = ys} l) p q =
      let z = h (key e) xs ys p.1 (ascends_raise key e low ys l q) in
      record { out = (p.0, z.out); one = z.one; two = z.two }
  step_ascends rest h low (from_second {e = e} {xs = xs} {ys = ys} l) p q =
      let z = h (key e) xs ys (ascends_raise key e low xs l p) q.1 in
      record { out = (q.0, z.out); one = z.one; two = z.two }

  -- merge steps on ascending runs move ascending entries, and leave none smaller
  pub merged_ascends : (n low : ℕ) (xs ys : List ℕ) → Ascends key low xs → Ascends key low ys → MergedInOrder low (merged key n xs ys)
  unfolding merged last_key
  merged_ascends zero low xs ys p q = record { out = tt; one = p; two = q }
  merged_ascends (suc n) low xs ys p q = step_ascends (merged key n) (merged_ascends n) low (stepped key xs ys) p q

  -- two ascending runs join to one
  pub join_ascends : (low : ℕ) (xs ys : List ℕ) → Ascends key low xs → Ascends key low ys → Ascends key low (join key xs ys)
  unfolding join
  join_ascends low xs ys p q = (merged_ascends (length xs + length ys) low xs ys p q).out
