-- Numbers in decimal, as people read them.
use Rattle.std.specs.Prelude.{true, false, List, [], ◌∷◌, ◌++◌, ℕ, zero, suc, ◌+◌, ◌*◌, ◌/◌, ◌%◌, ◌-◌, ltb, ℤ, pos, negsuc}

-- one digit, and one more for each division by ten until one digit is left, of so many divisions tried
unfoldable pub places_within : ℕ → ℕ → ℕ
places_within zero n = 1
places_within (suc tries) n = elim (ltb n 10) [ true ↦ 1 | false ↦ suc (places_within tries (n / 10)) ]

-- how many digits n has, at least one: n divisions are always enough
unfoldable pub places : ℕ → ℕ
unfolding places_within
places n = places_within n n

-- the last k digits of n as bytes, high digit first
unfoldable pub digits : ℕ → ℕ → List ℕ
digits zero n = []
digits (suc k) n = digits k (n / 10) ++ ((48 + n % 10) ∷ [])

-- n as it is written, without a zero in front
abbrev pub decimal : ℕ → List ℕ
decimal n = digits (places n) n

-- a number below zero has its sign in front
unfoldable pub signed : ℤ → List ℕ
signed (pos n) = decimal n
signed (negsuc n) = 45 ∷ decimal (suc n)

-- the number that digits write after those of n
unfoldable pub value_after : ℕ → List ℕ → ℕ
value_after n [] = n
value_after n (d ∷ ds) = value_after (n * 10 + (d - 48)) ds

-- the number that digits write
abbrev pub value_of : List ℕ → ℕ
value_of ds = value_after 0 ds
