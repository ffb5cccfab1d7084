-- Laws of merge steps, for any order of the entries.
use mathlib.Core.Path.{◌≡◌, refl, ap, ◌∙◌}
use mathlib.Core.Bool.{Bool, true, false}
use mathlib.Core.List.{List, [], ◌∷◌, ◌++◌}
use mathlib.Core.Logic.{◌⊎◌, inl, inr}
use Prim.Native.Nat.{ℕ, zero, suc, ◌+◌, ◌-◌, ◌≤◌, ◌<◌}
use native.Mathlib.Omega.{arith}
use native.Mathlib.Nat.{zero-add, suc-add, sub-zero}
use lib.Dec.{leb}
use lib.ListN.{length, take, drop}
use Rattle.rules.specs.Merge.{Step, stop, move, Merged, merge_step, merged}
use Rattle.runs.specs.Until.{until_empty}

-- what is reached: these entries are out, and this is left of the inputs
abbrev pub reached : List ℕ → List ℕ → List ℕ → Merged
reached out one two = record { out = out; one = one; two = two }

-- the same, with entries out before
abbrev pub behind : List ℕ → Merged → Merged
behind before m = reached (before ++ m.out) m.one m.two

-- a step, and then the rest
abbrev pub and_then : Step → (List ℕ → List ℕ → Merged) → Merged
and_then stop rest = reached [] [] []
and_then (move e xs ys) rest = behind (e ∷ []) (rest xs ys)

-- a test holds or fails
pub by_test : {P : Type 0} (t : Bool) → (t ≡ true → P) → (t ≡ false → P) → P
by_test true holds fails = holds refl
by_test false holds fails = fails refl

-- of so many entries a step moves one, if there is one
abbrev OneLess : ℕ → Step → Type 0
OneLess many stop = many ≡ 0
OneLess many (move e xs ys) = many ≡ suc (length xs + length ys)

module _ (key : ℕ → ℕ) where
  -- ---- one step

  pub moves_first : (x y : ℕ) (xs ys : List ℕ) → leb (key x) (key y) ≡ true → merge_step key (x ∷ xs) (y ∷ ys) ≡ move x xs (y ∷ ys)
  unfolding merge_step
  moves_first x y xs ys t = rw (t, merge_step)

  pub moves_second : (x y : ℕ) (xs ys : List ℕ) → leb (key x) (key y) ≡ false → merge_step key (x ∷ xs) (y ∷ ys) ≡ move y (x ∷ xs) ys
  unfolding merge_step
  moves_second x y xs ys t = rw (t, merge_step)

  one_less : (xs ys : List ℕ) → OneLess (length xs + length ys) (merge_step key xs ys)
  unfolding merge_step
  one_less [] [] = omega arith
  one_less (x ∷ xs) [] = omega arith
  one_less [] (y ∷ ys) = omega arith
  one_less (x ∷ xs) (y ∷ ys) = go (leb (key x) (key y))
    where
      go : (t : Bool) → OneLess (length (x ∷ xs) + length (y ∷ ys)) (elim t [ true ↦ move x xs (y ∷ ys) | false ↦ move y (x ∷ xs) ys ])
      go true = omega arith
      go false = omega arith

  pub merged_suc : (n : ℕ) (xs ys : List ℕ) → merged key (suc n) xs ys ≡ and_then (merge_step key xs ys) (merged key n)
  unfolding merged
  merged_suc n xs ys = go (merge_step key xs ys)
    where
      go : (s : Step)
          → elim s [ stop ↦ reached [] [] [] | move e xs' ys' ↦ let rest = merged key n xs' ys' in reached (e ∷ rest.out) rest.one rest.two ]
          ≡ and_then s (merged key n)
      go stop = refl
      go (move e xs' ys') = refl

  -- ---- so many steps

  pub merged_none : (n : ℕ) → merged key n [] [] ≡ reached [] [] []
  unfolding merged
  merged_none zero = refl
  merged_none (suc n) = refl

  split_after : (m n : ℕ) (s : Step) → ((xs ys : List ℕ) → merged key (m + n) xs ys ≡ behind (merged key m xs ys).out (merged key n (merged key m xs ys).one (merged key m xs ys).two))
      → let first = and_then s (merged key m) in and_then s (merged key (m + n)) ≡ behind first.out (merged key n first.one first.two)
  split_after m n stop law = rw merged_none
  split_after m n (move e xs ys) law = ap (behind (e ∷ [])) (law xs ys)

  -- some steps, and then going on, is going on from the start
  pub merged_split : (m n : ℕ) (xs ys : List ℕ) → merged key (m + n) xs ys ≡ behind (merged key m xs ys).out (merged key n (merged key m xs ys).one (merged key m xs ys).two)
  unfolding merged
  merged_split zero n xs ys = ap (λ k. merged key k xs ys) (zero-add n)
  merged_split (suc m) n xs ys =
      rw (suc-add m n, merged_suc (m + n) xs ys, merged_suc m xs ys)
      (split_after m n (merge_step key xs ys) (merged_split m n))

  -- one step more
  pub merged_more : (t : ℕ) (xs ys one two : List ℕ) (e : ℕ) → merge_step key (merged key t xs ys).one (merged key t xs ys).two ≡ move e one two
      → merged key (t + 1) xs ys ≡ reached ((merged key t xs ys).out ++ e ∷ []) one two
  unfolding merged
  merged_more t xs ys one two e s = merged_split t 1 xs ys ∙ rw (merged_suc 0, s)

  -- what is out and what is left, counted
  abbrev counted : Merged → ℕ
  counted m = length m.out + (length m.one + length m.two)

  pub conserved : (n : ℕ) (xs ys : List ℕ) → length (merged key n xs ys).out + (length (merged key n xs ys).one + length (merged key n xs ys).two) ≡ length xs + length ys
  unfolding merged
  conserved zero xs ys = omega arith
  conserved (suc n) xs ys = rw (merged_suc n xs ys) (go (merge_step key xs ys) (one_less xs ys) (conserved n))
    where
      go : (s : Step) → OneLess (length xs + length ys) s → ((xs ys : List ℕ) → counted (merged key n xs ys) ≡ length xs + length ys)
          → counted (and_then s (merged key n)) ≡ length xs + length ys
      go stop less law = omega arith
      go (move e xs' ys') less law = omega (arith, law xs' ys')

  pub length_out : (n : ℕ) (xs ys : List ℕ) → n ≤ length xs + length ys → length (merged key n xs ys).out ≡ n
  unfolding merged
  length_out zero xs ys h = refl
  length_out (suc n) xs ys h = rw (merged_suc n xs ys) (go (merge_step key xs ys) (one_less xs ys) (length_out n))
    where
      go : (s : Step) → OneLess (length xs + length ys) s → ((xs ys : List ℕ) → n ≤ length xs + length ys → length (merged key n xs ys).out ≡ n)
          → length (and_then s (merged key n)).out ≡ suc n
      go stop less law = absurd (omega arith)
      go (move e xs' ys') less law = ap suc (law xs' ys' (omega arith))

  pub merged_one : (n : ℕ) (xs : List ℕ) → merged key n xs [] ≡ reached (take n xs) (drop n xs) []
  unfolding merged
  merged_one zero xs = refl
  merged_one (suc n) [] = refl
  merged_one (suc n) (x ∷ xs) = ap (behind (x ∷ [])) (merged_one n xs)

  pub merged_two : (n : ℕ) (ys : List ℕ) → merged key n [] ys ≡ reached (take n ys) [] (drop n ys)
  unfolding merged
  merged_two zero ys = refl
  merged_two (suc n) [] = refl
  merged_two (suc n) (y ∷ ys) = ap (behind (y ∷ [])) (merged_two n ys)

  -- ---- until an input is empty

  pub until_no_room : (xs ys : List ℕ) → until_empty key 0 xs ys ≡ 0
  unfolding until_empty
  until_no_room xs ys = refl

  pub until_no_first : (room : ℕ) (ys : List ℕ) → until_empty key room [] ys ≡ 0
  unfolding until_empty
  until_no_first zero ys = refl
  until_no_first (suc room) ys = refl

  pub until_no_second : (room : ℕ) (xs : List ℕ) → until_empty key room xs [] ≡ 0
  unfolding until_empty
  until_no_second zero xs = refl
  until_no_second (suc room) [] = refl
  until_no_second (suc room) (x ∷ xs) = refl

  pub until_first : (room x y : ℕ) (xs ys : List ℕ) → leb (key x) (key y) ≡ true → until_empty key (suc room) (x ∷ xs) (y ∷ ys) ≡ suc (until_empty key room xs (y ∷ ys))
  unfolding until_empty
  until_first room x y xs ys t = rw (t, until_empty)

  pub until_second : (room x y : ℕ) (xs ys : List ℕ) → leb (key x) (key y) ≡ false → until_empty key (suc room) (x ∷ xs) (y ∷ ys) ≡ suc (until_empty key room (x ∷ xs) ys)
  unfolding until_empty
  until_second room x y xs ys t = rw (t, until_empty)

  split_step : (m room e : ℕ) (xs ys xs' ys' : List ℕ) → merge_step key xs ys ≡ move e xs' ys' → until_empty key (suc room) xs ys ≡ suc (until_empty key room xs' ys')
      → suc m ≤ until_empty key (suc room) xs ys → (m ≤ until_empty key room xs' ys' → until_empty key room xs' ys' ≡ m + until_empty key (room - m) (merged key m xs' ys').one (merged key m xs' ys').two)
      → until_empty key (suc room) xs ys ≡ suc m + until_empty key (suc room - suc m) (merged key (suc m) xs ys).one (merged key (suc m) xs ys).two
  split_step m room e xs ys xs' ys' s u h law =
      let less : suc room - suc m ≡ room - m = omega arith in
      rw (less, merged_suc m xs ys, s) (omega (arith, u, law (omega (arith, u))))

  no_steps : (room : ℕ) (xs ys : List ℕ) → length xs ≤ 0 → until_empty key room xs ys ≡ 0
  no_steps room [] ys h = until_no_first room ys
  no_steps room (x ∷ xs) ys h = absurd (omega arith)

  enough_step : (room n : ℕ) (xs ys xs' ys' : List ℕ) → suc n ≤ room → ((less : ℕ) → until_empty key (suc less) xs ys ≡ suc (until_empty key less xs' ys'))
      → ((less : ℕ) → n ≤ less → until_empty key less xs' ys' ≡ n) → until_empty key room xs ys ≡ suc n
  enough_step zero n xs ys xs' ys' h u law = absurd (omega arith)
  enough_step (suc less) n xs ys xs' ys' h u law = u less ∙ ap suc (law less (omega arith))

  -- what holds where the steps end, and is kept by a step, holds of all of them
  pub by_until : (P : ℕ → List ℕ → List ℕ → ℕ → Type 0)
      → ((xs ys : List ℕ) → P 0 xs ys 0)
      → ((room : ℕ) (ys : List ℕ) → P room [] ys 0)
      → ((room : ℕ) (xs : List ℕ) → P room xs [] 0)
      → ((room x y n : ℕ) (xs ys : List ℕ) → leb (key x) (key y) ≡ true → P room xs (y ∷ ys) n → P (suc room) (x ∷ xs) (y ∷ ys) (suc n))
      → ((room x y n : ℕ) (xs ys : List ℕ) → leb (key x) (key y) ≡ false → P room (x ∷ xs) ys n → P (suc room) (x ∷ xs) (y ∷ ys) (suc n))
      → (room : ℕ) (xs ys : List ℕ) → P room xs ys (until_empty key room xs ys)
  unfolding until_empty
  by_until P none no_first no_second one two zero xs ys = none xs ys
  by_until P none no_first no_second one two (suc room) [] ys = no_first (suc room) ys
  by_until P none no_first no_second one two (suc room) (x ∷ xs) [] = no_second (suc room) (x ∷ xs)
  by_until P none no_first no_second one two (suc room) (x ∷ xs) (y ∷ ys) =
      go (leb (key x) (key y)) refl (by_until P none no_first no_second one two room xs (y ∷ ys)) (by_until P none no_first no_second one two room (x ∷ xs) ys)
    where
      go : (t : Bool) → leb (key x) (key y) ≡ t → P room xs (y ∷ ys) (until_empty key room xs (y ∷ ys)) → P room (x ∷ xs) ys (until_empty key room (x ∷ xs) ys)
          → P (suc room) (x ∷ xs) (y ∷ ys) (elim t [ true ↦ suc (until_empty key room xs (y ∷ ys)) | false ↦ suc (until_empty key room (x ∷ xs) ys) ])
      go true e a b = one room x y (until_empty key room xs (y ∷ ys)) xs ys e a
      go false e a b = two room x y (until_empty key room (x ∷ xs) ys) xs ys e b

  pub until_within : (room : ℕ) (xs ys : List ℕ) → until_empty key room xs ys ≤ room
  until_within =
      by_until (λ room xs ys n. n ≤ room)
      (λ xs ys. omega arith) (λ room ys. omega arith) (λ room xs. omega arith)
      (λ room x y n xs ys e h. omega arith) (λ room x y n xs ys e h. omega arith)

  pub until_most : (room : ℕ) (xs ys : List ℕ) → until_empty key room xs ys ≤ length xs + length ys
  until_most =
      by_until (λ room xs ys n. n ≤ length xs + length ys)
      (λ xs ys. omega arith) (λ room ys. omega arith) (λ room xs. omega arith)
      (λ room x y n xs ys e h. omega arith) (λ room x y n xs ys e h. omega arith)

  pub until_some : (room : ℕ) (xs ys : List ℕ) → 0 < room → 0 < length xs → 0 < length ys → 0 < until_empty key room xs ys
  until_some =
      by_until (λ room xs ys n. 0 < room → 0 < length xs → 0 < length ys → 0 < n)
      (λ xs ys r a b. r) (λ room ys r a b. a) (λ room xs r a b. b)
      (λ room x y n xs ys e h r a b. omega arith) (λ room x y n xs ys e h r a b. omega arith)

  -- the steps that are left after some of them
  pub until_split : (m room : ℕ) (xs ys : List ℕ) → m ≤ until_empty key room xs ys
      → until_empty key room xs ys ≡ m + until_empty key (room - m) (merged key m xs ys).one (merged key m xs ys).two
  unfolding merged
  until_split zero room xs ys h = rw (zero-add, sub-zero)
  until_split (suc m) zero xs ys h = absurd (omega (arith, until_no_room xs ys))
  until_split (suc m) (suc room) [] ys h = absurd (omega (arith, until_no_first (suc room) ys))
  until_split (suc m) (suc room) (x ∷ xs) [] h = absurd (omega (arith, until_no_second (suc room) (x ∷ xs)))
  until_split (suc m) (suc room) (x ∷ xs) (y ∷ ys) h =
      by_test (leb (key x) (key y))
      (λ t. split_step m room x (x ∷ xs) (y ∷ ys) xs (y ∷ ys) (moves_first x y xs ys t) (until_first room x y xs ys t) h (until_split m room xs (y ∷ ys)))
      (λ t. split_step m room y (x ∷ xs) (y ∷ ys) (x ∷ xs) ys (moves_second x y xs ys t) (until_second room x y xs ys t) h (until_split m room (x ∷ xs) ys))

  -- where the room is never used up, more of it makes no step more
  pub until_enough : (all : ℕ) (xs ys : List ℕ) → length xs + length ys ≤ all → (room : ℕ) → until_empty key all xs ys ≤ room → until_empty key room xs ys ≡ until_empty key all xs ys
  until_enough =
      by_until (λ all xs ys n. length xs + length ys ≤ all → (room : ℕ) → n ≤ room → until_empty key room xs ys ≡ n)
      (λ xs ys few room h. no_steps room xs ys (omega arith))
      (λ all ys few room h. until_no_first room ys)
      (λ all xs few room h. until_no_second room xs)
      (λ all x y n xs ys t law few room h. enough_step room n (x ∷ xs) (y ∷ ys) xs (y ∷ ys) h (λ less. until_first less x y xs ys t) (law (omega arith)))
      (λ all x y n xs ys t law few room h. enough_step room n (x ∷ xs) (y ∷ ys) (x ∷ xs) ys h (λ less. until_second less x y xs ys t) (law (omega arith)))

  -- afterwards an input is empty, or the room is used up
  abbrev Ended : ℕ → List ℕ → List ℕ → ℕ → Type 0
  Ended room xs ys n = (n ≡ room) ⊎ (((merged key n xs ys).one ≡ []) ⊎ ((merged key n xs ys).two ≡ []))

  ended_more : (room n e : ℕ) (xs ys xs' ys' : List ℕ) → merge_step key xs ys ≡ move e xs' ys' → Ended room xs' ys' n → Ended (suc room) xs ys (suc n)
  ended_more room n e xs ys xs' ys' s (inl r) = inl (ap suc r)
  ended_more room n e xs ys xs' ys' s (inr (inl a)) = inr (inl (rw (merged_suc n xs ys, s) a))
  ended_more room n e xs ys xs' ys' s (inr (inr b)) = inr (inr (rw (merged_suc n xs ys, s) b))

  pub until_ends : (room : ℕ) (xs ys : List ℕ) → Ended room xs ys (until_empty key room xs ys)
  unfolding merged
  until_ends =
      by_until Ended
      (λ xs ys. inl refl) (λ room ys. inr (inl refl)) (λ room xs. inr (inr refl))
      (λ room x y n xs ys e h. ended_more room n x (x ∷ xs) (y ∷ ys) xs (y ∷ ys) (moves_first x y xs ys e) h)
      (λ room x y n xs ys e h. ended_more room n y (x ∷ xs) (y ∷ ys) (x ∷ xs) ys (moves_second x y xs ys e) h)
