-- How far the front of one run goes before the head of the other.
use Rattle.std.specs.Prelude.{ℕ, suc, Bool, true, false, not, cond, List, [], ◌∷◌, leb}

module _ (key : ℕ → ℕ) where
  -- whether an entry of the first run, or of the second, goes before the other run's head: "at equal heads the first input's"
  unfoldable pub goes_before : Bool → ℕ → ℕ → Bool
  goes_before true e head = leb (key e) (key head)
  goes_before false e head = not (leb (key head) (key e))

  -- so many entries at a run's front do
  unfoldable pub leading : Bool → ℕ → List ℕ → ℕ
  leading first head [] = 0
  leading first head (e ∷ run) = cond (goes_before first e head) (suc (leading first head run)) 0
