-- What holds at each turn of the loops over digits.
use mathlib.Core.Path.{◌≡◌, refl, sym, ◌∙◌}
use mathlib.Core.Bool.{Bool, true, ◌&&◌}
use Rattle.std.specs.Bool.{Decides}
use Rattle.std.specs.Prelude.{Option, Some, None, IsSome, MatchOption}
use Rattle.std.specs.List.{All}
use Rattle.std.proofs.lemmas.Bool.Decides.{same_from_decides, Decides-by_and, Decides-ltb}
use mathlib.Core.List.{List}
use Prim.Native.Nat.{ℕ, ◌+◌, ◌*◌, ◌<◌, ◌≤◌, ◌^◌}
use native.Mathlib.Omega.{arith}
use native.Mathlib.Numerals.{add-one}
use native.Mathlib.Nat.{pow-zero, pow-suc, pow-le-pow_right}
use lib.Dec.{ltb}
use lib.ListN.{length, drop, get_or, drop_of_length-le}
use lib.Seq.{drop-cons}
use borrow.Author.Tests.{ltb-true}
use Rattle.frames.specs.Digits.{value_of, capital, number_after, number}
use Rattle.frames.proofs.DigitLaws.{both_left, both_right}

module _ (ds : List ℕ) (i : ℕ) (h : i < length ds) where
  capital_at : capital (drop i ds) ≡ (ltb (value_of (get_or ds i 0)) 16 && capital (drop (i + 1) ds))
  unfolding capital
  capital_at = rw (drop-cons ds i 0 h, add-one) refl

  number_at : (n : ℕ) → number_after n (drop i ds) ≡ number_after (n * 16 + value_of (get_or ds i 0)) (drop (i + 1) ds)
  unfolding number_after
  number_at n = rw (drop-cons ds i 0 h, add-one) refl

pub capital_all : (ds : List ℕ) (r : Bool) → Decides r (All (λ c. value_of c < 16) ds) → r ≡ capital ds
unfolding capital
capital_all ds r h = same_from_decides r (capital ds) h (Decides-by_and (λ c. ltb (value_of c) 16) (λ c. value_of c < 16) capital (λ c. Decides-ltb (value_of c) 16) refl (λ _ _. refl) ds)

-- what comes of a byte as a digit
abbrev DigitOf : ℕ → Option ℕ → Type 0
DigitOf c r = MatchOption r (16 ≤ value_of c) (λ v. (v < 16) × (v ≡ value_of c))

pub digit_is : (c v : ℕ) (o : Option ℕ) → DigitOf c o → o ≡ Some v → v ≡ value_of c
digit_is c v o g e = (rw e at g).1

-- the digits before i write n
pub record Reading (ds : List ℕ) (n i : ℕ) : Type 0 where
  pub inside : i ≤ length ds
  pub hex : capital (drop i ds) ≡ true
  pub same : number ds ≡ number_after n (drop i ds)
  pub small : n < 16 ^ i

pub reading_starts : (ds : List ℕ) → capital ds ≡ true → Reading ds 0 0
reading_starts ds h = record { inside = omega arith; hex = h; same = refl; small = omega (arith, pow-zero 16) }

module _ (ds : List ℕ) (n i : ℕ) (r : Reading ds n i) where
  pub room : i < length ds → length ds ≤ 16 → n < 16 ^ 15
  room h l = let p : 16 ^ i ≤ 16 ^ 15 = pow-le-pow_right (omega arith) {j = 15} (omega arith) in omega (arith, r.small)

  pub digit_small : i < length ds → value_of (get_or ds i 0) < 16
  digit_small h =
      ltb-true (value_of (get_or ds i 0)) 16
      (both_left (ltb (value_of (get_or ds i 0)) 16) (capital (drop (i + 1) ds)) (sym (capital_at ds i h) ∙ r.hex))

  pub digit_there : i < length ds → (o : Option ℕ) → DigitOf (get_or ds i 0) o → IsSome o
  digit_there h (Some v) g = refl
  digit_there h None g = absurd (omega (arith, digit_small h))

  pub reads_on : i < length ds → (v : ℕ) → v ≡ value_of (get_or ds i 0) → Reading ds (n * 16 + v) (i + 1)
  reads_on h v e = record {
    inside = omega arith;
    hex = both_right (ltb (value_of (get_or ds i 0)) 16) (capital (drop (i + 1) ds)) (sym (capital_at ds i h) ∙ r.hex);
    same = r.same ∙ number_at ds i h n ∙ rw e refl;
    small = rw (add-one, pow-suc) (omega (arith, r.small, digit_small h));
  }

  pub reads_all : length ds ≤ i → n ≡ number ds
  unfolding number_after
  reads_all h = sym (r.same ∙ rw (drop_of_length-le ds h) refl)
