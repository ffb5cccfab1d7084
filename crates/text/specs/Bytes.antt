-- A text's bytes: plain characters, each one its number.
use Rattle.std.specs.Prelude.{◌≡◌, refl, List, [], ◌∷◌, ℕ}
use Prim.Native.Char.{code}
use Prim.Native.String.{String, [] as none, ◌∷◌ as ◌then◌}

unfoldable pub bytes : String → List ℕ
bytes none = []
bytes (c then cs) = code c ∷ bytes cs

pub plain : bytes "links " ≡ 108 ∷ 105 ∷ 110 ∷ 107 ∷ 115 ∷ 32 ∷ []
unfolding bytes
plain = refl
