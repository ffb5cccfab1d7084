-- Laws of merging that goes on until an input is empty.
use mathlib.Core.Path.{◌≡◌, sym, ◌∙◌}
use mathlib.Core.Bool.{true, false}
use mathlib.Core.List.{List}
use Prim.Native.Nat.{ℕ, suc, ◌+◌, ◌-◌, ◌≤◌, ◌<◌}
use native.Mathlib.Omega.{arith}
use native.Mathlib.Numerals.{add-one}
use native.Mathlib.Nat.{zero-add, sub-zero}
use lib.Dec.{leb}
use lib.ListN.{length, drop, get_or, set, drop_of_length-le}
use lib.Seq.{drop-cons, drop-drop}
use Rattle.rules.specs.Merge.{merged}
use Rattle.runs.specs.Until.{until_empty}
use Rattle.runs.specs.Promises.{laid_at, Merges}
use Rattle.runs.proofs.MergeLaws.{reached, until_first, until_second, until_no_room, until_no_first, until_no_second, until_within, until_split}
use Rattle.runs.proofs.LayingLaws.{Laying, laying_start, lay_first, lay_second, lay_block}

module _ (key : ℕ → ℕ) where
  -- t merge steps of those that the room allows are laid, i entries of them are the first input's
  pub record Running (xs ys a₀ a : List ℕ) (at room t i : ℕ) : Type 0 where
    pub laying : Laying key xs ys a₀ a at t i
    pub within : t ≤ room
    pub count : t + until_empty key (room - t) (drop i xs) (drop (t - i) ys) ≡ until_empty key room xs ys

  pub running_start : (xs ys a : List ℕ) (at room : ℕ) → at ≤ length a → Running xs ys a a at room 0 0
  running_start xs ys a at room h = record { laying = laying_start key xs ys a at h; within = omega arith; count = rw (zero-add, sub-zero) }

  module _ {xs ys a₀ a : List ℕ} {at room t i : ℕ} (r : Running xs ys a₀ a at room t i) (free : t < room) (hi : i < length xs) (hj : t - i < length ys) where
    left : room - t ≡ suc (room - (t + 1))
    left = omega arith

    pub run_first : (k t' i' v : ℕ) → k ≡ at + t → k < length a₀ → t' ≡ t + 1 → i' ≡ i + 1 → v ≡ get_or xs i 0
        → leb (key (get_or xs i 0)) (key (get_or ys (t - i) 0)) ≡ true → Running xs ys a₀ (set a k v) at room t' i'
    run_first k t' i' v ek hk et ei ev first =
        let same : t + 1 - (i + 1) ≡ t - i = omega arith in
        let cut_one = drop-cons xs i 0 hi in
        let cut_two = drop-cons ys (t - i) 0 hj in
        let steps : until_empty key (room - t) (drop i xs) (drop (t - i) ys) ≡ suc (until_empty key (room - (t + 1)) (drop (suc i) xs) (drop (t - i) ys)) =
        rw (left, cut_one, cut_two) (until_first key (room - (t + 1)) (get_or xs i 0) (get_or ys (t - i) 0) (drop (suc i) xs) (drop (suc (t - i)) ys) first) in
        let l = lay_first key r.laying k t' i' v ek hk et ei ev hi hj (rw ev first) in
        record { laying = l; within = omega arith; count = rw (et, ei, same, add-one i) (omega (arith, r.count, steps)) }

    pub run_second : (k t' v : ℕ) → k ≡ at + t → k < length a₀ → t' ≡ t + 1 → v ≡ get_or ys (t - i) 0
        → leb (key (get_or xs i 0)) (key (get_or ys (t - i) 0)) ≡ false → Running xs ys a₀ (set a k v) at room t' i
    run_second k t' v ek hk et ev second =
        let next : t + 1 - i ≡ suc (t - i) = omega (arith, r.laying.of_both) in
        let cut_one = drop-cons xs i 0 hi in
        let cut_two = drop-cons ys (t - i) 0 hj in
        let steps : until_empty key (room - t) (drop i xs) (drop (t - i) ys) ≡ suc (until_empty key (room - (t + 1)) (drop i xs) (drop (suc (t - i)) ys)) =
        rw (left, cut_one, cut_two) (until_second key (room - (t + 1)) (get_or xs i 0) (get_or ys (t - i) 0) (drop (suc i) xs) (drop (suc (t - i)) ys) second) in
        let l = lay_second key r.laying k t' v ek hk et ev hi hj (rw ev second) in
        record { laying = l; within = omega arith; count = rw (et, next) (omega (arith, r.count, steps)) }

  module _ {xs ys a₀ a : List ℕ} {at room t i : ℕ} (r : Running xs ys a₀ a at room t i) where
    pub ended_first : length xs ≤ i → t ≡ until_empty key room xs ys
    ended_first h =
        let none : until_empty key (room - t) (drop i xs) (drop (t - i) ys) ≡ 0 = rw (drop_of_length-le xs h) (until_no_first key (room - t) (drop (t - i) ys)) in
        omega (arith, r.count)

    pub ended_second : length ys ≤ t - i → t ≡ until_empty key room xs ys
    ended_second h =
        let none : until_empty key (room - t) (drop i xs) (drop (t - i) ys) ≡ 0 = rw (drop_of_length-le ys h) (until_no_second key (room - t) (drop i xs)) in
        omega (arith, r.count)

    pub ended_room : room ≤ t → t ≡ until_empty key room xs ys
    ended_room h =
        let full : room - t ≡ 0 = omega arith in
        let none : until_empty key (room - t) (drop i xs) (drop (t - i) ys) ≡ 0 = rw full (until_no_room key (drop i xs) (drop (t - i) ys)) in
        omega (arith, r.count)

  pub merges : {xs ys a₀ a : List ℕ} {at room t i : ℕ} → Running xs ys a₀ a at room t i → t ≡ until_empty key room xs ys → Merges key xs ys a₀ a at room t i
  merges r e =
      let l = r.laying in
      record {
        steps = e;
        laid = l.laid;
        one = sym l.one;
        two = sym l.two;
        of_first = l.of_first;
        of_both = l.of_both;
        of_second = l.of_second;
        within = r.within;
      }

  -- n steps more are laid as one block: p entries of the first input and q of the second
  pub run_block : {xs ys a₀ a : List ℕ} {at room : ℕ} (i j : ℕ) → Running xs ys a₀ a at room (i + j) i → (n p q k t' i' : ℕ) (block : List ℕ)
      → n ≡ p + q → k ≡ at + (i + j) → t' ≡ i + j + n → i' ≡ i + p
      → merged key n (drop i xs) (drop j ys) ≡ reached block (drop p (drop i xs)) (drop q (drop j ys)) → n ≤ until_empty key (room - (i + j)) (drop i xs) (drop j ys)
      → i + p ≤ length xs → j + q ≤ length ys → at + room ≤ length a₀ → Running xs ys a₀ (laid_at a k block) at room t' i'
  run_block {xs} {ys} {a₀} {a} {at} {room} i j r n p q k t' i' block en ek et ei e made hp hq free =
      let back : i + j - i ≡ j = omega arith in
      let on : i + j + n - (i + p) ≡ j + q = omega arith in
      let less : room - (i + j) - n ≡ room - (i + j + n) = omega arith in
      let fits : i + j + n ≤ room = omega (arith, made, until_within key (room - (i + j)) (drop i xs) (drop j ys), r.within) in
      let e' : merged key n (drop i xs) (drop (i + j - i) ys) ≡ reached block (drop (i + p) xs) (drop (i + j + n - (i + p)) ys) = rw (back, on, ← drop-drop p i xs, ← drop-drop q j ys) e in
      let left : until_empty key (room - (i + j)) (drop i xs) (drop j ys) ≡ n + until_empty key (room - (i + j + n)) (drop (i + p) xs) (drop (i + j + n - (i + p)) ys) =
      until_split key n (room - (i + j)) (drop i xs) (drop j ys) made ∙ rw (e, less, on, drop-drop p i xs, drop-drop q j ys) in
      let was : i + j + until_empty key (room - (i + j)) (drop i xs) (drop j ys) ≡ until_empty key room xs ys = rw back at r.count in
      let l = lay_block key r.laying n (i + p) block e' hp (omega arith) (omega arith) (omega arith) in
      rw (ek, et, ei) record { laying = l; within = fits; count = omega (arith, left, was) }
