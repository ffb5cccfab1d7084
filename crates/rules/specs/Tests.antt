-- Tests one after the other.
use Rattle.std.specs.Prelude.{ℕ, zero, suc, Bool, true, false}

infixr 30 ◌and◌
-- the second is tried only where the first holds
abbrev pub ◌and◌ : Bool → Bool → Bool
true and b = b
false and b = false

infixr 25 ◌or◌
infixr 20 ◌implies◌
abbrev pub ◌or◌ : Bool → Bool → Bool
true or b = true
false or b = b

abbrev pub ◌implies◌ : Bool → Bool → Bool
true implies b = b
false implies b = true

-- of n numbers from i on, each passes
unfoldable pub every : (ℕ → Bool) → ℕ → ℕ → Bool
every test i zero = true
every test i (suc n) = test i and every test (suc i) n
