-- Laws of merging two lent runs into a third: in blocks, then head by head.
use mathlib.Core.Path.{◌≡◌, refl, ap, ◌∙◌}
use mathlib.Core.Bool.{true, false}
use mathlib.Core.List.{List, ◌++◌}
use mathlib.Core.Logic.{◌≢◌, ◌⊎◌, inl, inr, ⊎_elim}
use Prim.Native.Nat.{ℕ, ◌+◌, ◌-◌, ◌≤◌, ◌<◌, min}
use native.Mathlib.Omega.{arith}
use native.Mathlib.Decide.{dec_le}
use native.Mathlib.Nat.{add-zero}
use lib.Dec.{leb}
use lib.ListN.{length, take, drop, get_or, set, length-drop}
use lib.Seq.{get_or-drop}
use Rattle.rules.specs.Merge.{merged}
use Rattle.runs.specs.Until.{until_empty}
use Rattle.runs.specs.Leads.{leading}
use Rattle.runs.specs.Promises.{laid_at, Merges}
use Rattle.runs.proofs.LayingLaws.{to_the_end, lay_part}
use Rattle.runs.proofs.LeadLaws.{lead_inside, first_block, second_block}
use Rattle.runs.proofs.RunningLaws.{Running, running_start, run_first, run_second, run_block, ended_first, ended_second, ended_room, merges}
use Rattle.runs.proofs.PromiseLaws.{merges_long}

module _ (key : ℕ → ℕ) where
  -- ---- head by head

  -- both runs have entries, and x and y are their heads; k entries of out are laid
  pub record AtBoth (xs ys out₀ out : List ℕ) (k i j x y : ℕ) : Type 0 where
    pub run : Running key xs ys out₀ out 0 (length out₀) (i + j) i
    pub laid : k ≡ i + j
    pub i_has : i < length xs
    pub j_has : j < length ys
    pub x_is : x ≡ get_or xs i 0
    pub y_is : y ≡ get_or ys j 0

  pub both_start : (xs ys out : List ℕ) → 0 < length xs → 0 < length ys → AtBoth xs ys out out 0 0 0 (get_or xs 0 0) (get_or ys 0 0)
  both_start xs ys out hx hy = record { run = running_start key xs ys out 0 (length out) (omega arith); laid = refl; i_has = hx; j_has = hy; x_is = refl; y_is = refl }

  pub both_at : {xs ys out₀ out out' : List ℕ} {k i j x y i' j' x' y' : ℕ} → out ≡ out' → i ≡ i' → j ≡ j' → x ≡ x' → y ≡ y' → AtBoth xs ys out₀ out' k i' j' x' y' → AtBoth xs ys out₀ out k i j x y
  both_at eo ei ej ex ey h = rw (eo, ei, ej, ex, ey) h

  module _ {xs ys out₀ out : List ℕ} {k i j x y : ℕ} (h : AtBoth xs ys out₀ out k i j x y) where
    at_j : i + j - i ≡ j
    at_j = omega arith

    module _ (free : k < length out₀) where
      pub both_first : leb (key x) (key y) ≡ true → Running key xs ys out₀ (set out k x) 0 (length out₀) (i + 1 + j) (i + 1)
      both_first t =
          run_first key h.run (omega (arith, h.laid)) h.i_has (omega (arith, h.j_has)) k (i + 1 + j) (i + 1) x (omega (arith, h.laid)) free (omega arith) refl h.x_is
          (rw (at_j, ← h.x_is, ← h.y_is) t)

      pub both_second : leb (key x) (key y) ≡ false → Running key xs ys out₀ (set out k y) 0 (length out₀) (i + (j + 1)) i
      both_second t =
          run_second key h.run (omega (arith, h.laid)) h.i_has (omega (arith, h.j_has)) k (i + (j + 1)) y (omega (arith, h.laid)) free (omega arith) (rw at_j h.y_is)
          (rw (at_j, ← h.x_is, ← h.y_is) t)

      pub next_first : leb (key x) (key y) ≡ true → i + 1 ≢ length xs → AtBoth xs ys out₀ (set out k x) (k + 1) (i + 1) j (get_or xs (i + 1) 0) y
      next_first t other = record { run = both_first t; laid = omega (arith, h.laid); i_has = omega (arith, h.i_has); j_has = h.j_has; x_is = refl; y_is = h.y_is }

      pub next_second : leb (key x) (key y) ≡ false → j + 1 ≢ length ys → AtBoth xs ys out₀ (set out k y) (k + 1) i (j + 1) x (get_or ys (j + 1) 0)
      next_second t other = record { run = both_second t; laid = omega (arith, h.laid); i_has = h.i_has; j_has = omega (arith, h.j_has); x_is = h.x_is; y_is = refl }

  -- a run has ended, or out is full
  pub record Over (xs ys out₀ out : List ℕ) (t i : ℕ) : Type 0 where
    pub sized : length out ≡ length out₀
    pub merges : Merges key xs ys out₀ out 0 (length out₀) t i

  pub over_at : {xs ys out₀ out out' : List ℕ} {i j i' j' : ℕ} → out ≡ out' → i ≡ i' → j ≡ j' → Over xs ys out₀ out' (i' + j') i' → Over xs ys out₀ out (i + j) i
  over_at eo ei ej o = rw (eo, ei, ej) o

  module _ {xs ys out₀ out : List ℕ} {t i : ℕ} (r : Running key xs ys out₀ out 0 (length out₀) t i) where
    over : t ≡ until_empty key (length out₀) xs ys → Over xs ys out₀ out t i
    over e = record { sized = r.laying.sized; merges = merges key r e }

    pub over_first : length xs ≤ i → Over xs ys out₀ out t i
    over_first h = over (ended_first key r h)

    pub over_second : length ys ≤ t - i → Over xs ys out₀ out t i
    over_second h = over (ended_second key r h)

    pub over_full : length out₀ ≤ t → Over xs ys out₀ out t i
    over_full h = over (ended_room key r h)

  -- ---- in blocks

  least : (x y n i : ℕ) → n ≡ min x y → i ≡ n → (x ≤ i) ⊎ (y ≤ i)
  least x y n i en e = go (dec_le x y)
    where
      go : Dec (x ≤ y) → (x ≤ i) ⊎ (y ≤ i)
      go (yes h) = inl (omega arith)
      go (no h) = inr (omega arith)

  -- a run that is empty ends the merging before its first step
  pub none_first : (xs ys out : List ℕ) → length xs ≡ 0 → Merges key xs ys out out 0 (length out) 0 0
  none_first xs ys out e = (over_first (running_start key xs ys out 0 (length out) (omega arith)) (omega arith)).merges

  pub none_second : (xs ys out : List ℕ) → length ys ≡ 0 → Merges key xs ys out out 0 (length out) 0 0
  none_second xs ys out e = (over_second (running_start key xs ys out 0 (length out) (omega arith)) (omega arith)).merges

  pub run_at : {xs ys out a a' : List ℕ} {t i : ℕ} → a' ≡ a → Running key xs ys out a 0 (length out) t i → Running key xs ys out a' 0 (length out) t i
  run_at e r = rw e r

  -- the first run's block is laid
  pub led_first : (xs ys out : List ℕ) (n i : ℕ) → 0 < length ys → n ≡ min (length xs) (length out) → i ≡ leading key true (get_or ys 0 0) (take n xs)
      → (i ≤ n) × Running key xs ys out (laid_at out 0 (take i xs)) 0 (length out) i i
  led_first xs ys out n i has en ei =
      let inside = lead_inside key true (get_or ys 0 0) n xs (omega arith) in
      let b = first_block key i xs ys has (omega (arith, inside.1)) in (
        omega (arith, inside.0),
        run_block key 0 0 (running_start key xs ys out 0 (length out) (omega arith)) i i 0 0 i i (take i xs) (omega arith) refl (omega arith) (omega arith) b.moved
            (b.made (length out - 0) (omega (arith, inside.0))) (omega (arith, inside.0)) (omega arith) (omega arith),
      )

  -- that was the whole of the first run, or all that out has room for
  pub first_over : {xs ys out a : List ℕ} {n i : ℕ} → Running key xs ys out a 0 (length out) i i → n ≡ min (length xs) (length out) → i ≡ n → Merges key xs ys out a 0 (length out) i i
  first_over {xs} {out = out} {n = n} {i} r en e = ⊎_elim (λ h. (over_first r h).merges) (λ h. (over_full r h).merges) (least (length xs) (length out) n i en e)

  -- then the second's
  pub led_second : {xs ys out a : List ℕ} {i : ℕ} → Running key xs ys out a 0 (length out) i i → (m j : ℕ) → i < length xs → m ≡ min (length ys) (length out - i) → j ≡ leading key false (get_or xs i 0) (take m ys)
      → (j ≤ m) × Running key xs ys out (laid_at a i (take j ys)) 0 (length out) (i + j) i
  led_second {xs} {ys} {out} {a} {i} r m j has em ej =
      let head : get_or (drop i xs) 0 0 ≡ get_or xs i 0 = get_or-drop i xs 0 0 ∙ ap (λ k. get_or xs k 0) (add-zero i) in
      let inside = lead_inside key false (get_or xs i 0) m ys (omega arith) in
      let b = second_block key j (drop i xs) ys (simp length-drop (omega arith)) (rw head (omega (arith, inside.1))) in
      let r' : Running key xs ys out a 0 (length out) (i + 0) i = rw add-zero r in (
        omega (arith, inside.0),
        run_block key i 0 r' j 0 j i (i + j) i (take j ys) (omega arith) (omega arith) (omega arith) (omega arith) b.moved
            (b.made (length out - (i + 0)) (omega (arith, inside.0))) (omega arith) (omega (arith, inside.0)) (omega arith),
      )

  pub second_over : {xs ys out a : List ℕ} {m i j : ℕ} → Running key xs ys out a 0 (length out) (i + j) i → m ≡ min (length ys) (length out - i) → j ≡ m → Merges key xs ys out a 0 (length out) (i + j) i
  second_over {ys = ys} {out} {m = m} {i} {j} r em e = ⊎_elim (λ h. (over_second r (omega arith)).merges) (λ h. (over_full r (omega arith)).merges) (least (length ys) (length out - i) m j em e)

  -- then the rests, head by head, in what is left of out
  pub led_on : {xs ys out a : List ℕ} (i j : ℕ) → Running key xs ys out a 0 (length out) (i + j) i → (k : ℕ) (part : List ℕ) (moved first : ℕ) → k ≡ length a - (i + j)
      → Merges key (take (length xs - i) (drop i xs)) (take (length ys - j) (drop j ys)) (take k (drop (i + j) a)) part 0 (length (take k (drop (i + j) a))) moved first
      → Merges key xs ys out (take (i + j) a ++ (part ++ drop k (drop (i + j) a))) 0 (length out) (i + j + moved) (i + first)
  led_on {xs} {ys} {out} {a} i j r k part moved first ek lent =
      let l = r.laying in
      let whole : take k (drop (i + j) a) ≡ drop (i + j) a = ap (λ n. take n (drop (i + j) a)) ek ∙ to_the_end a (i + j) in
      let room : length (drop (i + j) a) ≡ length out - (i + j) = length-drop (i + j) a ∙ ap (λ n. n - (i + j)) l.sized in
      let m : Merges key (drop i xs) (drop j ys) (take k (drop (i + j) a)) part 0 (length out - (i + j)) moved first = rw (to_the_end xs i, to_the_end ys j, ap length whole ∙ room) at lent in
      let block = (merged key moved (drop i xs) (drop j ys)).out in
      let long : length block ≡ moved = merges_long key m in
      let xs_left = length-drop i xs in
      let ys_left = length-drop j ys in
      let back : i + j - i ≡ j = omega arith in
      let count : i + j + until_empty key (length out - (i + j)) (drop i xs) (drop j ys) ≡ until_empty key (length out) xs ys = rw back at r.count in
      let made = m.steps in
      let q : Running key xs ys out (laid_at a (i + j) block) 0 (length out) (i + j + moved) (i + first) =
      run_block key i j r moved first (moved - first) (i + j) (i + j + moved) (i + first) block (omega (arith, m.of_both)) (omega arith) refl refl
      (rw (m.one, m.two)) (omega (arith, made)) (omega (arith, m.of_first, l.of_first)) (omega (arith, m.of_second, l.of_second)) (omega arith) in
      rw (lay_part a block part (i + j) k (omega (arith, long, m.within, l.sized, r.within)) (omega (arith, l.sized, r.within)) m.laid) (merges key q (omega (arith, made, count)))
