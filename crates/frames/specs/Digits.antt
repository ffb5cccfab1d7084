-- "capital hexadecimal": digits, and the number that they write.
use Rattle.std.specs.Prelude.{Bool, true, cond, ◌&&◌, ◌≡◌, List, [], ◌∷◌, ◌++◌, ℕ, zero, suc, ◌+◌, ◌*◌, ◌/◌, ◌%◌, ◌-◌, ◌≤◌, ltb, length}

-- a digit's value, 0 to 9 and A to F; 16 for any other byte
unfoldable pub value_of : ℕ → ℕ
value_of c = cond (ltb c 48) 16 (cond (ltb c 58) (c - 48) (cond (ltb c 65) 16 (cond (ltb c 71) (c - 55) 16)))

-- the digit of a value below 16
unfoldable pub digit_of : ℕ → ℕ
digit_of v = cond (ltb v 10) (v + 48) (v + 55)

-- every byte is a digit
unfoldable pub capital : List ℕ → Bool
capital [] = true
capital (d ∷ ds) = ltb (value_of d) 16 && capital ds

-- the number that digits write after those of n
unfoldable pub number_after : ℕ → List ℕ → ℕ
number_after n [] = n
number_after n (d ∷ ds) = number_after (n * 16 + value_of d) ds

abbrev pub number : List ℕ → ℕ
number ds = number_after 0 ds

-- the last k digits of n, high digit first
unfoldable pub digits : ℕ → ℕ → List ℕ
digits zero n = []
digits (suc k) n = digits k (n / 16) ++ (digit_of (n % 16) ∷ [])

-- what is read as one number: digits, at most eight bytes of them
pub record Field (ds : List ℕ) : Type 0 where
  pub hex : capital ds ≡ true
  pub short : length ds ≤ 16
