-- Laws of the entries at one run's front that go before the head of the other: merge steps move them, one after the other.
use mathlib.Core.Path.{◌≡◌, refl, ap, ◌∙◌}
use mathlib.Core.Bool.{Bool, true, false, cond}
use mathlib.Core.List.{List, [], ◌∷◌}
use Prim.Native.Nat.{ℕ, zero, suc, ◌-◌, ◌≤◌, ◌<◌}
use native.Mathlib.Omega.{arith}
use native.Mathlib.Numerals.{one-add}
use borrow.Author.Tests.{not-true}
use lib.Dec.{leb}
use lib.ListN.{length, take, drop, get_or}
use lib.Seq.{drop-cons}
use denote.Param.Members.{Mut}
use denote.Ref.{Bor}
use Rattle.std.specs.Prelude.{Option}
use Rattle.std.specs.List.{prefix_len}
use Rattle.std.specs.Fn.{CalledAt}
use Rattle.std.specs.Iterator.{Drains}
use Rattle.std.specs.declared.iter.TakeWhile.{TakeWhile}
use Rattle.std.specs.Iterator.Adapters.{take_while_source, take_while_done, take_while_callee, take_while_steps}
use Rattle.std.proofs.lemmas.Iterator.{YieldsList}
use Rattle.std.proofs.lemmas.Iterator.Consumers.{count_from_yields_List}
use Rattle.std.proofs.lemmas.Iterator.Search.{YieldsList-from_take_while}
use Rattle.std.proofs.lemmas.List.Folds.{length-prefix_len}
use Rattle.rules.specs.Merge.{merge_step, move, merged}
use Rattle.runs.specs.Until.{until_empty}
use Rattle.runs.specs.Leads.{goes_before, leading}
use Rattle.runs.proofs.MergeLaws.{reached, by_test, merged_suc, moves_first, moves_second, until_first, until_second}

module _ (key : ℕ → ℕ) where
  lead_more : (first : Bool) (head e : ℕ) (run : List ℕ) → goes_before key first e head ≡ true → leading key first head (e ∷ run) ≡ suc (leading key first head run)
  unfolding leading
  lead_more first head e run t = ap (λ (b : Bool). cond b (suc (leading key first head run)) 0) t

  lead_stops : (first : Bool) (head e : ℕ) (run : List ℕ) → goes_before key first e head ≡ false → leading key first head (e ∷ run) ≡ 0
  unfolding leading
  lead_stops first head e run t = ap (λ (b : Bool). cond b (suc (leading key first head run)) 0) t

  lead_none : (first : Bool) (head : ℕ) → leading key first head [] ≡ 0
  unfolding leading
  lead_none first head = refl

  -- ---- the look

  prefix_leads : (first : Bool) (head : ℕ) (run : List ℕ) → prefix_len (λ e. goes_before key first e head) run ≡ leading key first head run
  unfolding leading
  prefix_leads first head [] = refl
  prefix_leads first head (e ∷ run) = ap (λ n. cond (goes_before key first e head) n 0) (one-add (prefix_len (λ e. goes_before key first e head) run) ∙ ap suc (prefix_leads first head run))

  -- what is counted of the entries that an iterator gives while they go before the head
  pub lead_counted : {S A F : Type 0} {steps : S → Option A → S → Type 0} {v : A → ℕ} {s : TakeWhile S F} {f : F} (g : Mut F (Bor A × Unit {0}) Bool) (first : Bool) (head : ℕ) (run : List ℕ) {r : ℕ}
      → ((xs : List A) × Drains (take_while_steps steps g) s xs × (r ≡ length xs)) → YieldsList steps v (take_while_source s) run → take_while_callee s ≡ f → take_while_done s ≡ false
      → ((x : A) (b : Bool) (q : F) → CalledAt g f x b q → (q ≡ f) × (b ≡ goes_before key first (v x) head)) → r ≡ leading key first head run
  lead_counted {s = s} g first head run {r} drained source callee more calls =
      let test = λ (e : ℕ). goes_before key first e head in
      count_from_yields_List s r drained (YieldsList-from_take_while g test source callee more calls) ∙ length-prefix_len test run ∙ prefix_leads first head run

  -- no more than there are, and no more of a front than of the whole
  pub lead_inside : (first : Bool) (head n : ℕ) (run : List ℕ) → n ≤ length run → (leading key first head (take n run) ≤ n) × (leading key first head (take n run) ≤ leading key first head run)
  lead_inside first head zero run h = let none = lead_none first head in (omega (arith, none), omega (arith, none))
  lead_inside first head (suc n) [] h = absurd (omega arith)
  lead_inside first head (suc n) (e ∷ run) h =
      let less = lead_inside first head n run (omega arith) in
      by_test (goes_before key first e head)
      (λ t.
      let front = lead_more first head e (take n run) t in
      let whole = lead_more first head e run t in
      (omega (arith, front, less.0), omega (arith, front, whole, less.1)))
      (λ t. let front = lead_stops first head e (take n run) t in (omega (arith, front), omega (arith, front)))

  -- so many merge steps move the block, and all of them are made before an input is empty
  pub record Block (n : ℕ) (xs ys block one two : List ℕ) : Type 0 where
    pub moved : merged key n xs ys ≡ reached block one two
    pub made : (room : ℕ) → n ≤ room → n ≤ until_empty key room xs ys

  no_block : (xs ys : List ℕ) → Block 0 xs ys [] xs ys
  unfolding merged
  no_block xs ys = record { moved = refl; made = λ room h. omega arith }

  block_more : (n e : ℕ) (xs ys xs' ys' block one two : List ℕ) → merge_step key xs ys ≡ move e xs' ys' → ((room : ℕ) → until_empty key (suc room) xs ys ≡ suc (until_empty key room xs' ys'))
      → Block n xs' ys' block one two → Block (suc n) xs ys (e ∷ block) one two
  block_more n e xs ys xs' ys' block one two s u b = record {
    moved = merged_suc key n xs ys ∙ rw (s, b.moved);
    made = λ room h.
        let less : room ≡ suc (room - 1) = omega arith in
        let all = b.made (room - 1) (omega arith) in
        rw less (omega (arith, u (room - 1)));
  }

  first_leads : (n y : ℕ) (xs ys : List ℕ) → n ≤ leading key true y xs → Block n xs (y ∷ ys) (take n xs) (drop n xs) (y ∷ ys)
  unfolding goes_before
  first_leads zero y xs ys h = no_block xs (y ∷ ys)
  first_leads (suc n) y [] ys h = absurd (omega (arith, lead_none true y))
  first_leads (suc n) y (x ∷ xs) ys h =
      by_test (goes_before key true x y)
      (λ t.
      block_more n x (x ∷ xs) (y ∷ ys) xs (y ∷ ys) (take n xs) (drop n xs) (y ∷ ys) (moves_first key x y xs ys t) (λ room. until_first key room x y xs ys t)
      (first_leads n y xs ys (omega (arith, lead_more true y x xs t))))
      (λ t. absurd (omega (arith, lead_stops true y x xs t)))

  second_leads : (n x : ℕ) (xs ys : List ℕ) → n ≤ leading key false x ys → Block n (x ∷ xs) ys (take n ys) (x ∷ xs) (drop n ys)
  unfolding goes_before
  second_leads zero x xs ys h = no_block (x ∷ xs) ys
  second_leads (suc n) x xs [] h = absurd (omega (arith, lead_none false x))
  second_leads (suc n) x xs (y ∷ ys) h =
      by_test (goes_before key false y x)
      (λ t.
      let below = not-true (leb (key x) (key y)) t in
      block_more n y (x ∷ xs) (y ∷ ys) (x ∷ xs) ys (take n ys) (x ∷ xs) (drop n ys) (moves_second key x y xs ys below) (λ room. until_second key room x y xs ys below)
      (second_leads n x xs ys (omega (arith, lead_more false x y ys t))))
      (λ t. absurd (omega (arith, lead_stops false x y ys t)))

  -- what of the first run goes before the second's head, and what of the second goes before the first's
  pub first_block : (n : ℕ) (xs ys : List ℕ) → 0 < length ys → n ≤ leading key true (get_or ys 0 0) xs → Block n xs ys (take n xs) (drop n xs) ys
  first_block n xs ys has h = let cut = drop-cons ys 0 0 has in rw cut (first_leads n (get_or ys 0 0) xs (drop 1 ys) h)

  pub second_block : (n : ℕ) (xs ys : List ℕ) → 0 < length xs → n ≤ leading key false (get_or xs 0 0) ys → Block n xs ys (take n ys) xs (drop n ys)
  second_block n xs ys has h = let cut = drop-cons xs 0 0 has in rw cut (second_leads n (get_or xs 0 0) (drop 1 xs) ys h)
