-- A door's pairs, from a place on.
use Rattle.std.proofs.Common.{◌≡◌, ℕ, zero, suc, ◌-◌, ◌*◌, ◌<◌, ◌≤◌, Bool, true, false, cond, ◌≢◌, List, [], ◌∷◌, length, get_or, drop, ℤ, pos, negsuc, sym, refl, ap, ◌∙◌, arith, length-drop, drop-cons}
use Rattle.std.proofs.Math.Seq.{drop-length}
use borrow.Author.Tests.{eq-eqb, ne_eqb}
use lib.Signed.{mag, le_z}
use Rattle.rules.proofs.Sizes.{by_eqb}
use Rattle.lateness.specs.Clock.{half, lateness_of}
use Rattle.lateness.specs.Ordered.{put_in, in_order, numbered}
use Rattle.lateness.specs.Pairs.{Pair, pairs_of, of_door, Lent}
use Rattle.lateness.specs.Reports.{sum_of, hits}
use Rattle.lateness.proofs.ClockLaws.{in_clock, mag_sum}

abbrev pub from : ℕ → ℕ → List ℕ → List ℕ → List ℕ → List ℤ
from door i due acting doors = of_door door (pairs_of (drop i due) (drop i acting) (drop i doors))

yes_door : (door d a b : ℕ) (due acting doors : List ℕ) → b ≡ door → of_door door (pairs_of (d ∷ due) (a ∷ acting) (b ∷ doors)) ≡ lateness_of d a ∷ of_door door (pairs_of due acting doors)
unfolding of_door pairs_of
yes_door door d a b due acting doors e = rw (eq-eqb b door e, of_door, pairs_of) refl

no_door : (door d a b : ℕ) (due acting doors : List ℕ) → b ≢ door → of_door door (pairs_of (d ∷ due) (a ∷ acting) (b ∷ doors)) ≡ of_door door (pairs_of due acting doors)
unfolding of_door pairs_of
no_door door d a b due acting doors e = rw (ne_eqb b door e, of_door, pairs_of) refl

no_doors : (due acting : List ℕ) → pairs_of due acting [] ≡ []
unfolding pairs_of
no_doors [] acting = refl
no_doors (d ∷ due) [] = refl
no_doors (d ∷ due) (a ∷ acting) = refl

module _ {due acting doors : List ℕ} (lent : Lent due acting doors) (door : ℕ) where
  pub from_end : from door (length doors) due acting doors ≡ []
  unfolding of_door
  from_end = ap (of_door door) (ap (pairs_of (drop (length doors) due) (drop (length doors) acting)) (drop-length doors) ∙ no_doors (drop (length doors) due) (drop (length doors) acting))

  taken_apart : (i : ℕ) → i < length doors → from door i due acting doors
      ≡ of_door door (pairs_of (get_or due i 0 ∷ drop (suc i) due) (get_or acting i 0 ∷ drop (suc i) acting) (get_or doors i 0 ∷ drop (suc i) doors))
  taken_apart i h = rw (drop-cons due i 0 (omega (arith, lent.dues)), drop-cons acting i 0 (omega (arith, lent.actings)), drop-cons doors i 0 h) refl

  pub from_yes : (i : ℕ) → i < length doors → get_or doors i 0 ≡ door → from door i due acting doors ≡ lateness_of (get_or due i 0) (get_or acting i 0) ∷ from door (suc i) due acting doors
  from_yes i h e = taken_apart i h ∙ yes_door door (get_or due i 0) (get_or acting i 0) (get_or doors i 0) (drop (suc i) due) (drop (suc i) acting) (drop (suc i) doors) e

  pub from_no : (i : ℕ) → i < length doors → get_or doors i 0 ≢ door → from door i due acting doors ≡ from door (suc i) due acting doors
  from_no i h e = taken_apart i h ∙ no_door door (get_or due i 0) (get_or acting i 0) (get_or doors i 0) (drop (suc i) due) (drop (suc i) acting) (drop (suc i) doors) e

-- ---- a pass from the last pair to the first: what is told of those behind a place

pub record Passed {A : Type 0} (f : List ℤ → A) (door : ℕ) (due acting doors : List ℕ) (i : ℕ) (x : A) : Type 0 where
  pub inside : i ≤ length doors
  pub told : x ≡ f (from door i due acting doors)

module _ {A : Type 0} (f : List ℤ → A) {door : ℕ} {due acting doors : List ℕ} (lent : Lent due acting doors) where
  pub passed_none : {x : A} → x ≡ f [] → Passed f door due acting doors (length doors) x
  passed_none t = record { inside = omega arith; told = t ∙ ap f (sym (from_end lent door)) }

  module _ {i : ℕ} {x : A} (passed : Passed f door due acting doors i x) (some : 0 < i) where
    same : suc (i - 1) ≡ i
    same = omega arith

    pub passed_yes : {y : A} → get_or doors (i - 1) 0 ≡ door → y ≡ f (lateness_of (get_or due (i - 1) 0) (get_or acting (i - 1) 0) ∷ from door i due acting doors) → Passed f door due acting doors (i - 1) y
    passed_yes d t =
        let here = from_yes lent door (i - 1) (omega (arith, passed.inside)) d ∙ ap (λ n. lateness_of (get_or due (i - 1) 0) (get_or acting (i - 1) 0) ∷ from door n due acting doors) same in
        record { inside = omega (arith, passed.inside); told = t ∙ ap f (sym here) }

    pub passed_no : get_or doors (i - 1) 0 ≢ door → Passed f door due acting doors (i - 1) x
    passed_no d =
        let here = from_no lent door (i - 1) (omega (arith, passed.inside)) d ∙ ap (λ n. from door n due acting doors) same in
        record { inside = omega (arith, passed.inside); told = passed.told ∙ ap f (sym here) }

  pub passed_all : {pairs : List Pair} {i : ℕ} {x : A} → pairs_of due acting doors ≡ pairs → Passed f door due acting doors i x → i ≤ 0 → x ≡ f (of_door door pairs)
  passed_all {pairs} {i} e passed h = let start : i ≡ 0 = omega arith in passed.told ∙ ap (λ n. f (from door n due acting doors)) start ∙ ap (λ ps. f (of_door door ps)) e

-- ---- how many there are, and how much they can come to

doors_length : (door : ℕ) (due acting doors : List ℕ) → length (of_door door (pairs_of due acting doors)) ≤ length doors
unfolding of_door pairs_of
doors_length door [] acting doors = omega arith
doors_length door (d ∷ due) [] doors = omega arith
doors_length door (d ∷ due) (a ∷ acting) [] = omega arith
doors_length door (d ∷ due) (a ∷ acting) (b ∷ doors) =
    by_eqb b door (λ t. length (cond t (lateness_of d a ∷ of_door door (pairs_of due acting doors)) (of_door door (pairs_of due acting doors))) ≤ suc (length doors))
    (λ p. omega (arith, doors_length door due acting doors))
    (λ n. omega (arith, doors_length door due acting doors))

pub from_few : (door i : ℕ) (due acting doors : List ℕ) → length (from door i due acting doors) ≤ length doors - i
from_few door i due acting doors = omega (arith, doors_length door (drop i due) (drop i acting) (drop i doors), length-drop i doors)

pub lent_few : (door i : ℕ) {due acting doors : List ℕ} → Lent due acting doors → length (from door i due acting doors) ≤ 4096
lent_few door i {due} {acting} {doors} lent = omega (arith, from_few door i due acting doors, lent.few)

pub door_few : (door : ℕ) {pairs : List Pair} {due acting doors : List ℕ} → Lent due acting doors → pairs_of due acting doors ≡ pairs → length (of_door door pairs) ≤ 4096
door_few door {pairs} {due} {acting} {doors} lent e = omega (arith, ap (λ ps. length (of_door door ps)) e, doors_length door due acting doors, lent.few)

-- within half the clock, each of them
unfoldable pub Within : List ℤ → Type 0
Within [] = Unit {0}
Within (x ∷ xs) = (mag x < half) × Within xs

pub door_within : (door : ℕ) (ps : List Pair) → Within (of_door door ps)
unfolding Within of_door
door_within door [] = tt
door_within door (p ∷ ps) =
    by_eqb p.door door (λ t. Within (cond t (lateness_of p.due p.acting ∷ of_door door ps) (of_door door ps)))
    (λ e. (in_clock p.due p.acting, door_within door ps))
    (λ n. door_within door ps)

pub sum_small : (xs : List ℤ) → Within xs → mag (sum_of xs) ≤ length xs * half
unfolding Within sum_of
sum_small [] w = omega arith
sum_small (x ∷ xs) w = omega (arith, mag_sum x (sum_of xs), w.0, sum_small xs w.1)

pub hits_few : (xs : List ℤ) → hits xs ≤ length xs
unfolding hits
hits_few [] = omega arith
hits_few (pos zero ∷ xs) = omega (arith, hits_few xs)
hits_few (pos (suc n) ∷ xs) = omega (arith, hits_few xs)
hits_few (negsuc n ∷ xs) = omega (arith, hits_few xs)

put_within : (x : ℤ) (xs : List ℤ) → mag x < half → Within xs → Within (put_in x xs)
unfolding Within put_in
put_within x [] h w = (h, tt)
put_within x (y ∷ ys) h w = go (le_z x y) (put_within x ys h w.1)
  where
    go : (t : Bool) → Within (put_in x ys) → Within (cond t (x ∷ (y ∷ ys)) (y ∷ put_in x ys))
    go true v = (h, w)
    go false v = (w.0, v)

order_within : (xs : List ℤ) → Within xs → Within (in_order xs)
unfolding Within in_order
order_within [] w = tt
order_within (x ∷ xs) w = put_within x (in_order xs) w.0 (order_within xs w.1)

each_within : (xs : List ℤ) (j : ℕ) → Within xs → mag (get_or xs j (pos 0)) < half
unfolding Within
each_within [] j w = omega arith
each_within (x ∷ xs) zero w = w.0
each_within (x ∷ xs) (suc j) w = each_within xs j w.1

pub number_within : (k : ℕ) (xs : List ℤ) → Within xs → mag (numbered k xs) < half
unfolding numbered
number_within k xs w = each_within (in_order xs) (k - 1) (order_within xs w)
