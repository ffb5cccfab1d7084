-- How many digits a number has, and that they write this number.
use mathlib.Core.Path.{◌≡◌, refl, ap, sym, ◌∙◌}
use mathlib.Core.List.{List, [], ◌∷◌, ◌++◌}
use Prim.Native.Nat.{ℕ, zero, suc, ◌+◌, ◌*◌, ◌/◌, ◌%◌, ◌-◌, ◌<◌, ◌≤◌, ◌^◌}
use native.Mathlib.Decide.{dec_lt}
use native.Mathlib.Omega.{arith}
use native.Mathlib.Nat.{pow-zero, pow-suc, pow-le-pow_right, add_comm}
use lib.ListN.{length, get_or, length-append, get_or-append}
use lib.Dec.{ltb}
use mathlib.Core.Bool.{true}
use Rattle.std.specs.Prelude.{Option, Some, None, IfSome, IfNone}
use Rattle.std.specs.Option.{unwrap_or}
use borrow.Author.Tests.{lt-ltb, le-ltb}
use Rattle.digits.specs.Written.{digit_of, written}
use Rattle.text.specs.Decimal.{places_within, places, digits, decimal, value_after, value_of}

-- what holds of one digit, and of n where it holds of n / 10, holds of every number
by_tens : (P : ℕ → Type 0) → ((n : ℕ) → n < 10 → P n) → ((n : ℕ) → 10 ≤ n → P (n / 10) → P n) → (n : ℕ) → P n
by_tens P one more n = go n n (omega arith)
  where
    go : (most n : ℕ) → n ≤ most → P n
    go zero n h = one n (omega arith)
    go (suc most) n h =
        elim (dec_lt n 10) [
          | yes l ↦ one n l
          | no g ↦ more n (omega arith) (go most (n / 10) (omega arith))
        ]

-- places

within_one : (tries n : ℕ) → n < 10 → places_within tries n ≡ 1
unfolding places_within
within_one zero n h = refl
within_one (suc tries) n h = rw (lt-ltb n 10 h, places_within) refl

-- tries beyond n change nothing
within_same : (tries more n : ℕ) → n ≤ tries → n ≤ more → places_within tries n ≡ places_within more n
unfolding places_within
within_same zero more n h g = sym (within_one more n (omega arith))
within_same (suc tries) zero n h g = within_one (suc tries) n (omega arith)
within_same (suc tries) (suc more) n h g =
    elim (dec_lt n 10) [
      | yes l ↦ within_one (suc tries) n l ∙ sym (within_one (suc more) n l)
      | no b ↦ rw (le-ltb n 10 (omega arith), places_within) (ap suc (within_same tries more (n / 10) (omega arith) (omega arith)))
    ]

pub places_one : (n : ℕ) → n < 10 → places n ≡ 1
unfolding places
places_one n h = within_one n n h

places_at : (m n : ℕ) → 10 ≤ n → n ≡ suc m → places_within n n ≡ suc (places (n / 10))
unfolding places places_within
places_at m n h e = ap (λ (t : ℕ). places_within t n) e ∙ rw (le-ltb n 10 h, places_within) (ap suc (within_same m (n / 10) (n / 10) (omega arith) (omega arith)))

pub places_more : (n : ℕ) → 10 ≤ n → places n ≡ suc (places (n / 10))
unfolding places
places_more n h = places_at (n - 1) n h (omega arith)

pub places_some : (n : ℕ) → 1 ≤ places n
places_some = by_tens (λ (n : ℕ). 1 ≤ places n) (λ n h. omega (arith, places_one n h)) (λ n h _. omega (arith, places_more n h))

-- no more digits than a power of ten says
places_below : (k n : ℕ) → n < 10 ^ suc k → places n ≤ suc k
places_below zero n h = omega (arith, places_one n (omega (arith, pow-suc 10 0, pow-zero 10)))
places_below (suc k) n h =
    let p : 10 ^ suc (suc k) ≡ 10 ^ suc k * 10 = pow-suc 10 (suc k) in
    elim (dec_lt n 10) [
      | yes l ↦ omega (arith, places_one n l)
      | no g ↦ omega (arith, places_more n (omega arith), places_below k (n / 10) (omega arith))
    ]

pub places_few : (n : ℕ) → n < 2 ^ 64 → places n ≤ 20
places_few n h = places_below 19 n (omega arith)

below_places : (n : ℕ) → n < 10 ^ places n
below_places =
    by_tens (λ (n : ℕ). n < 10 ^ places n)
    (λ n h. rw (places_one n h) (omega (arith, pow-suc 10 0, pow-zero 10)))
    (λ n h l. rw (places_more n h, pow-suc) (omega arith))

-- one place more than the exponent of the largest power of ten in it
places_power : (n power : ℕ) → 10 ^ power ≤ n → n < 10 * 10 ^ power → power + 1 ≡ places n
places_power n power low high =
    let most = places_below power n (omega (arith, pow-suc 10 power)) in
    elim (dec_lt power (places n)) [
      | yes more ↦ omega arith
      | no few ↦ absurd (omega (arith, below_places n, pow-le-pow_right {n = 10} (omega arith) {i = places n} {j = power} (omega arith)))
    ]

pub places_log : (n : ℕ) (log : Option ℕ) → IfNone log (n ≡ 0) → IfSome log (λ k. 10 ^ k ≤ n) → IfSome log (λ k. n < 10 * 10 ^ k) → unwrap_or log 0 + 1 ≡ places n
places_log n None none low high = sym (places_one n (omega arith))
places_log n (Some power) none low high = places_power n power low high

-- digits

-- the digits that are put are those of ten
pub written_ten : (k n : ℕ) → written 10 k n ≡ digits k n
unfolding digits written digit_of
written_ten zero n = refl
written_ten (suc k) n =
    let figure : ltb (n % 10) 10 ≡ true = lt-ltb (n % 10) 10 (omega arith) in
    rw (written_ten k (n / 10), figure, add_comm (n % 10) 48) refl

pub length_digits : (k n : ℕ) → length (digits k n) ≡ k
unfolding digits
length_digits zero n = refl
length_digits (suc k) n = simp (length-append, length_digits k (n / 10)) (omega arith)

value_append : (n : ℕ) (xs ys : List ℕ) → value_after n (xs ++ ys) ≡ value_after (value_after n xs) ys
unfolding value_after
value_append n [] ys = refl
value_append n (x ∷ xs) ys = value_append (n * 10 + (x - 48)) xs ys

value_digits : (k n : ℕ) → n < 10 ^ k → value_of (digits k n) ≡ n
unfolding digits value_after
value_digits zero n h = omega (arith, pow-zero 10)
value_digits (suc k) n h =
    let p : 10 ^ suc k ≡ 10 ^ k * 10 = pow-suc 10 k in
    value_append 0 (digits k (n / 10)) ((48 + n % 10) ∷ []) ∙ rw (value_digits k (n / 10) (omega arith)) (omega arith)

-- a number that is written is read as this number
pub value_decimal : (n : ℕ) → value_of (decimal n) ≡ n
value_decimal n = value_digits (places n) n (below_places n)

first_one : (n : ℕ) → n < 10 → 0 < n → 48 < get_or (decimal n) 0 0
unfolding digits
first_one n h p = rw (places_one n h) (omega arith)

first_more : (n : ℕ) → 10 ≤ n → (0 < n / 10 → 48 < get_or (decimal (n / 10)) 0 0) → 48 < get_or (decimal n) 0 0
unfolding digits
first_more n h more =
    rw (places_more n h, get_or-append (decimal (n / 10)) ((48 + n % 10) ∷ []) 0 0 (omega (arith, length_digits (places (n / 10)) (n / 10), places_some (n / 10))))
    (more (omega arith))

-- 0 alone is written with a zero in front
pub no_leading_zero : (n : ℕ) → 0 < n → 48 < get_or (decimal n) 0 0
no_leading_zero = by_tens (λ (n : ℕ). 0 < n → 48 < get_or (decimal n) 0 0) first_one (λ n h more _. first_more n h more)
