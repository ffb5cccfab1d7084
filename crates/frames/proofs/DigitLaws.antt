-- One law for each direction between digits and numbers, over the number of digits: they serve every field.
use mathlib.Core.Path.{◌≡◌, refl, ap, sym, ◌∙◌, subst}
use mathlib.Core.Bool.{Bool, true, false, not, ◌&&◌, ◌||◌, and_assoc, false≢true}
use mathlib.Core.List.{List, [], ◌∷◌, ◌++◌, append_assoc, append-nil}
use Prim.Native.Nat.{ℕ, zero, suc, ◌+◌, ◌*◌, ◌/◌, ◌%◌, ◌<◌, ◌≤◌, ◌^◌}
use native.Mathlib.Decide.{dec_lt}
use native.Mathlib.Omega.{arith}
use native.Mathlib.Nat.{zero-add, add-zero, pow-zero, pow-suc, pow-succ', mul-one, mul_assoc}
use lib.Dec.{ltb, eqb}
use lib.ListN.{length, length-append}
use borrow.Author.Tests.{lt-ltb, le-ltb, ltb-true, eqb-true}
use Rattle.digits.specs.Written.{digit_of as figure, written}
use Rattle.frames.specs.Digits.{value_of, digit_of, capital, number_after, number, digits}

-- a test that is computed below a number

up_to : (ℕ → Bool) → ℕ → Bool
up_to p zero = true
up_to p (suc n) = p n && up_to p n

pub both_left : (a b : Bool) → (a && b) ≡ true → a ≡ true
both_left true b e = refl
both_left false b e = e

pub both_right : (a b : Bool) → (a && b) ≡ true → b ≡ true
both_right true b e = e
both_right false b e = absurd (false≢true e)

up_to_at : (p : ℕ → Bool) (n : ℕ) → up_to p n ≡ true → (i : ℕ) → i < n → p i ≡ true
unfolding up_to
up_to_at p zero t i h = absurd (omega arith)
up_to_at p (suc n) t i h =
    elim (dec_lt i n) [
      | yes l ↦ up_to_at p n (both_right (p n) (up_to p n) t) i l
      | no g ↦ subst (λ (m : ℕ). p m ≡ true) (omega arith) (both_left (p n) (up_to p n) t)
    ]

-- one digit

module _ (c : ℕ) where
  pub value_past : 71 ≤ c → 16 ≡ value_of c
  unfolding value_of
  value_past l = simp (le-ltb c 48 (omega arith), le-ltb c 58 (omega arith), le-ltb c 65 (omega arith), le-ltb c 71 l)

value_digit : (v : ℕ) → v < 16 → value_of (digit_of v) ≡ v
unfolding value_of digit_of up_to
value_digit v h = eqb-true (value_of (digit_of v)) v (up_to_at (λ (x : ℕ). eqb (value_of (digit_of x)) x) 16 refl v h)

-- a byte that is no digit, or the digit of its value
returned : ℕ → Bool
returned c = not (ltb (value_of c) 16) || eqb (digit_of (value_of c)) c

digit_value : (c : ℕ) → value_of c < 16 → digit_of (value_of c) ≡ c
unfolding value_of digit_of up_to returned
digit_value c h =
    elim (dec_lt c 71) [
      | yes l ↦ eqb-true (digit_of (value_of c)) c (rw (lt-ltb (value_of c) 16 h) at (up_to_at returned 71 refl c l))
      | no g ↦ let e : 16 ≡ value_of c = value_past c (omega arith) in absurd (omega arith)
    ]

-- runs of digits

pub capital_append : (xs ys : List ℕ) → capital (xs ++ ys) ≡ (capital xs && capital ys)
unfolding capital
capital_append [] ys = refl
capital_append (x ∷ xs) ys = rw (capital_append xs ys) (sym (and_assoc (ltb (value_of x) 16) (capital xs) (capital ys)))

number_append : (n : ℕ) (xs ys : List ℕ) → number_after n (xs ++ ys) ≡ number_after (number_after n xs) ys
unfolding number_after
number_append n [] ys = refl
number_append n (x ∷ xs) ys = number_append (n * 16 + value_of x) xs ys

pub length_digits : (k n : ℕ) → length (digits k n) ≡ k
unfolding digits
length_digits zero n = refl
length_digits (suc k) n = simp (length-append, length_digits k (n / 16)) (omega arith)

-- the digits that are put are those of sixteen
pub written_sixteen : (k n : ℕ) → written 16 k n ≡ digits k n
unfolding digits digit_of written figure
written_sixteen zero n = refl
written_sixteen (suc k) n = ap (λ ds. ds ++ (digit_of (n % 16) ∷ [])) (written_sixteen k (n / 16))

pub capital_digits : (k n : ℕ) → capital (digits k n) ≡ true
unfolding digits capital
capital_digits zero n = refl
capital_digits (suc k) n = simp (capital_append, capital_digits k (n / 16), value_digit (n % 16) (omega arith), lt-ltb (n % 16) 16 (omega arith))

-- the number of the digits of a number that they can write
pub number_digits : (k n : ℕ) → n < 16 ^ k → number (digits k n) ≡ n
unfolding digits number_after
number_digits zero n h = omega (arith, pow-zero 16)
number_digits (suc k) n h =
    let p : 16 ^ suc k ≡ 16 ^ k * 16 = pow-suc 16 k in
    number_append 0 (digits k (n / 16)) (digit_of (n % 16) ∷ [])
    ∙ rw (number_digits k (n / 16) (omega arith), value_digit (n % 16) (omega arith)) (omega arith)

-- the digits of the number that digits write, after k digits of n
digits_after : (ds : List ℕ) (k n : ℕ) → capital ds ≡ true → digits (length ds + k) (number_after n ds) ≡ digits k n ++ ds
unfolding digits number_after capital
digits_after [] k n h = rw (zero-add, append-nil) refl
digits_after (d ∷ ds) k n h =
    let low : value_of d < 16 = ltb-true (value_of d) 16 (both_left (ltb (value_of d) 16) (capital ds) h) in
    let rest : (n * 16 + value_of d) / 16 ≡ n = omega arith in
    let last : (n * 16 + value_of d) % 16 ≡ value_of d = omega arith in
    let more : suc (length ds) + k ≡ length ds + suc k = omega arith in
    rw more
    (digits_after ds (suc k) (n * 16 + value_of d) (both_right (ltb (value_of d) 16) (capital ds) h)
    ∙ rw (rest, last, digit_value d low, append_assoc) refl)

pub digits_number : (ds : List ℕ) → capital ds ≡ true → digits (length ds) (number ds) ≡ ds
unfolding digits
digits_number ds h = rw add-zero at (digits_after ds 0 0 h)

below_after : (ds : List ℕ) (n m : ℕ) → capital ds ≡ true → n < m → number_after n ds < m * 16 ^ length ds
unfolding number_after capital
below_after [] n m h l = rw (pow-zero, mul-one) l
below_after (d ∷ ds) n m h l =
    let low : value_of d < 16 = ltb-true (value_of d) 16 (both_left (ltb (value_of d) 16) (capital ds) h) in
    let p : m * 16 ^ suc (length ds) ≡ m * 16 * 16 ^ length ds = rw (pow-succ', mul_assoc) refl in
    rw p (below_after ds (n * 16 + value_of d) (m * 16) (both_right (ltb (value_of d) 16) (capital ds) h) (omega arith))

pub number_below : (ds : List ℕ) → capital ds ≡ true → number ds < 16 ^ length ds
number_below ds h = omega (arith, below_after ds 0 1 h (omega arith))
