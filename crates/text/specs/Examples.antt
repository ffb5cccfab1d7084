-- Numbers written, computed.
use Rattle.std.specs.Prelude.{◌≡◌, refl, List, [], ◌∷◌, ℕ, pos, negsuc}
use Rattle.text.specs.Decimal.{places, digits, decimal, signed, value_after, value_of}

nought : decimal 0 ≡ 48 ∷ []
unfolding places digits
nought = refl

nine : decimal 9 ≡ 57 ∷ []
unfolding places digits
nine = refl

ten : decimal 10 ≡ 49 ∷ 48 ∷ []
unfolding places digits
ten = refl

five_links : decimal 223488 ≡ 50 ∷ 50 ∷ 51 ∷ 52 ∷ 56 ∷ 56 ∷ []
unfolding places digits
five_links = refl

-- 18446744073709551615, the last of 64 bits: 20 digits
last : List ℕ
last = 49 ∷ 56 ∷ 52 ∷ 52 ∷ 54 ∷ 55 ∷ 52 ∷ 52 ∷ 48 ∷ 55 ∷ 51 ∷ 55 ∷ 48 ∷ 57 ∷ 53 ∷ 53 ∷ 49 ∷ 54 ∷ 49 ∷ 53 ∷ []

last_written : decimal 18446744073709551615 ≡ last
unfolding places digits last
last_written = refl

last_read : value_of last ≡ 18446744073709551615
unfolding value_after last
last_read = refl

-- -12, the least of 64 bits, and 0, which has no sign
early : signed (negsuc 11) ≡ 45 ∷ 49 ∷ 50 ∷ []
unfolding signed places digits
early = refl

earliest : signed (negsuc 9223372036854775807) ≡ 45 ∷ 57 ∷ 50 ∷ 50 ∷ 51 ∷ 51 ∷ 55 ∷ 50 ∷ 48 ∷ 51 ∷ 54 ∷ 56 ∷ 53 ∷ 52 ∷ 55 ∷ 55 ∷ 53 ∷ 56 ∷ 48 ∷ 56 ∷ []
unfolding signed places digits
earliest = refl

zero_unsigned : signed (pos 0) ≡ 48 ∷ []
unfolding signed places digits
zero_unsigned = refl
