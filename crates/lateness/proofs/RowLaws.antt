-- One pair more, and what it changes in a row.
use Rattle.std.proofs.Common.{◌≡◌, ℕ, zero, suc, ◌+◌, ◌≤◌, cond, leb, ◌≢◌, List, [], ◌∷◌, length, drop, ℤ, pos, negsuc, ◌+ℤ◌, sym, refl, ap, ◌∙◌, subst, ⊎_elim, arith}
use lib.Dec.{leb-suc-suc}
use lib.IntN.{+ℤ_idr}
use lib.Signed.{le_z}
use Rattle.std.specs.Int.{int_min, int_max}
use Rattle.std.proofs.lemmas.Int.{ints}
use Rattle.rules.proofs.Sizes.{leb-false}
use Rattle.rules.proofs.Capacity.{leb-true}
use Rattle.lateness.specs.Ordered.{put_in, in_order, numbered, at_most}
use Rattle.lateness.specs.Pairs.{pairs_of, Lent}
use Rattle.lateness.specs.Reports.{sum_of, hits, seen_of, Few}
use Rattle.lateness.specs.declared.Seen.{Seen}
use Rattle.lateness.proofs.ClockLaws.{under_or_not}
use Rattle.lateness.proofs.OrderLaws.{clash, by_test, other_way, le_through, same_above}
use Rattle.lateness.proofs.PairLaws.{from, lent_few, Within, door_within, sum_small, hits_few, number_within, Passed}
use Rattle.lateness.proofs.NumberLaws.{step_yes, step_no, number_at, at_most_all}

-- ---- the smaller and the larger of two

pub smaller : (x y : ℤ) → int_min x y ≡ cond (le_z x y) x y
smaller x y = grind (arith, ints)

pub larger : (x y : ℤ) → int_max x y ≡ cond (le_z x y) y x
larger x y = grind (arith, ints)

-- ---- one alone

pub alone : (x : ℤ) → numbered 1 (x ∷ []) ≡ x
unfolding numbered in_order put_in
alone x = refl

-- ---- one more than some

module _ (x : ℤ) (xs : List ℤ) (some : 1 ≤ length xs) where
  -- v is not exceeded by x, or by the first of the others
  first_at : (v : ℤ) → le_z (cond (le_z x (numbered 1 xs)) x (numbered 1 xs)) v ≡ le_z (numbered 1 (x ∷ xs)) v
  first_at v =
      let e = numbered 1 xs in
      let all = number_at v (x ∷ xs) 1 (omega arith) (omega arith) in
      let rest = number_at v xs 1 (omega arith) some in
      by_test (le_z x v)
      (λ yes.
      let here = all ∙ ap (leb 1) (step_yes v x xs yes) ∙ leb-true 1 (suc (at_most v xs)) (omega arith) in
      by_test (le_z x e) (λ h. rw h (yes ∙ sym here)) (λ h. rw h (le_through e x v (other_way x e h) yes ∙ sym here)))
      (λ no.
      let here = all ∙ ap (leb 1) (step_no v x xs no) ∙ sym rest in
      by_test (le_z x e)
      (λ h. rw h (by_test (le_z e v) (λ k. clash (le_through x e v h k) no) (λ k. no ∙ sym (here ∙ k))))
      (λ h. rw h (sym here)))

  pub first_more : numbered 1 (x ∷ xs) ≡ cond (le_z x (numbered 1 xs)) x (numbered 1 xs)
  first_more = sym (same_above (cond (le_z x (numbered 1 xs)) x (numbered 1 xs)) (numbered 1 (x ∷ xs)) first_at)

  last_at : (v : ℤ) → le_z (cond (le_z x (numbered (length xs) xs)) (numbered (length xs) xs) x) v ≡ le_z (numbered (suc (length xs)) (x ∷ xs)) v
  last_at v =
      let n = length xs in
      let e = numbered n xs in
      let all = number_at v (x ∷ xs) (suc n) (omega arith) (omega arith) in
      let rest = number_at v xs n some (omega arith) in
      by_test (le_z x v)
      (λ yes.
      let here = all ∙ ap (leb (suc n)) (step_yes v x xs yes) ∙ leb-suc-suc n (at_most v xs) ∙ sym rest in
      by_test (le_z x e)
      (λ h. rw h (sym here))
      (λ h. rw h (yes ∙ sym (here ∙ le_through e x v (other_way x e h) yes))))
      (λ no.
      let here = all ∙ ap (leb (suc n)) (step_no v x xs no) ∙ leb-false (suc n) (at_most v xs) (omega (arith, at_most_all v xs)) in
      by_test (le_z x e)
      (λ h. rw h (by_test (le_z e v) (λ k. clash (le_through x e v h k) no) (λ k. k ∙ sym here)))
      (λ h. rw h (no ∙ sym here)))

  pub last_more : numbered (suc (length xs)) (x ∷ xs) ≡ cond (le_z x (numbered (length xs) xs)) (numbered (length xs) xs) x
  last_more = sym (same_above (cond (le_z x (numbered (length xs) xs)) (numbered (length xs) xs) x) (numbered (suc (length xs)) (x ∷ xs)) last_at)

hits_one : (x : ℤ) (xs : List ℤ) → hits (x ∷ xs) ≡ hits (x ∷ []) + hits xs
unfolding hits
hits_one (pos zero) xs = omega arith
hits_one (pos (suc n)) xs = omega arith
hits_one (negsuc n) xs = omega arith

pub none : (xs : List ℤ) → length xs ≡ 0 → xs ≡ []
none [] e = refl
none (x ∷ xs) e = absurd (omega arith)

-- ---- what one pass tells

pub seen_none : {seen : Seen} → seen.count ≡ 0 → seen.earliest ≡ pos 0 → seen.latest ≡ pos 0 → seen.sum ≡ pos 0 → seen.exact ≡ 0 → seen ≡ seen_of []
unfolding numbered in_order sum_of hits
seen_none n e l s h = λ i. record { count = n i; earliest = e i; latest = l i; sum = s i; exact = h i }

module _ (x : ℤ) (xs : List ℤ) (seen : Seen) (told : seen ≡ seen_of xs) where
  pub seen_first : seen.count ≡ 0 → (l : ℤ) (h : ℕ) → l ≡ x → h ≡ hits (x ∷ []) + seen.exact → record { count = 1; earliest = l; latest = l; sum = l; exact = h } ≡ seen_of (x ∷ xs)
  unfolding sum_of
  seen_first z l h e f =
      let nothing = none xs (sym (ap (λ s. s.count) told) ∙ z) in
      let exact = f ∙ ap (λ s. hits (x ∷ []) + s.exact) told ∙ sym (hits_one x xs) ∙ ap (λ ys. hits (x ∷ ys)) nothing in
      let one : record { count = 1; earliest = l; latest = l; sum = l; exact = h } ≡ seen_of (x ∷ []) = λ i. record {
        count = 1;
        earliest = (e ∙ sym (alone x)) i;
        latest = (e ∙ sym (alone x)) i;
        sum = (e ∙ sym (+ℤ_idr x)) i;
        exact = exact i;
      } in
      one ∙ ap (λ ys. seen_of (x ∷ ys)) (sym nothing)

  pub seen_more : seen.count ≢ 0 → (n h : ℕ) (e l s : ℤ) → n ≡ seen.count + 1 → e ≡ cond (le_z x seen.earliest) x seen.earliest → l ≡ cond (le_z x seen.latest) seen.latest x
      → s ≡ x +ℤ seen.sum → h ≡ hits (x ∷ []) + seen.exact → record { count = n; earliest = e; latest = l; sum = s; exact = h } ≡ seen_of (x ∷ xs)
  unfolding sum_of
  seen_more z n h e l s counts firsts lasts sums hit =
      let many = ap (λ s. s.count) told in
      let some : 1 ≤ length xs = ⊎_elim (λ l. l) (λ g. absurd (z (omega (arith, many)))) (under_or_not 0 (length xs)) in
      let first = firsts ∙ ap (λ s. cond (le_z x s.earliest) x s.earliest) told ∙ sym (first_more x xs some) in
      let last = lasts ∙ ap (λ s. cond (le_z x s.latest) s.latest x) told ∙ sym (last_more x xs some) in
      let total = sums ∙ ap (λ s. x +ℤ s.sum) told in
      let exact = hit ∙ ap (λ s. hits (x ∷ []) + s.exact) told ∙ sym (hits_one x xs) in
      let count : n ≡ suc (length xs) = omega (arith, counts, many) in
      λ i. record { count = count i; earliest = first i; latest = last i; sum = total i; exact = exact i }

-- ---- so few pairs

pub few_seen : (xs : List ℤ) → Within xs → length xs ≤ 4096 → Few (seen_of xs)
few_seen xs within few = record {
  counts = few;
  exacts = omega (arith, hits_few xs);
  first = number_within 1 xs within;
  last = number_within (length xs) xs within;
  total = omega (arith, sum_small xs within);
}

pub passed_few : {door i : ℕ} {due acting doors : List ℕ} {seen : Seen} → Lent due acting doors → Passed seen_of door due acting doors i seen → Few seen
passed_few {door} {i} {due} {acting} {doors} lent passed =
    subst Few (sym passed.told) (few_seen (from door i due acting doors) (door_within door (pairs_of (drop i due) (drop i acting) (drop i doors))) (lent_few door i lent))
