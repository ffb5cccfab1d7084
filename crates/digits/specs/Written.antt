-- Numbers in any base, as people write them.
use Rattle.std.specs.Prelude.{cond, List, [], ◌∷◌, ◌++◌, ℕ, zero, suc, ◌+◌, ◌/◌, ◌%◌, ltb}

-- the digit of a value: a figure below ten, from there on a capital letter
unfoldable pub digit_of : ℕ → ℕ
digit_of v = cond (ltb v 10) (v + 48) (v + 55)

-- the last k digits of n, high digit first
unfoldable pub written : ℕ → ℕ → ℕ → List ℕ
written base zero n = []
written base (suc k) n = written base k (n / base) ++ (digit_of (n % base) ∷ [])
