-- Merge steps between two refills, taken together.
use Rattle.std.specs.Prelude.{ℕ, min, List, [], ◌∷◌, length}
use Rattle.runs.specs.Until.{until_empty}

-- the merge steps that can be made before an input has to be filled: until one that has entries is empty, or the room is used up
unfoldable pub run_length : (ℕ → ℕ) → ℕ → List ℕ → List ℕ → ℕ
unfolding until_empty
run_length key room [] ys = min room (length ys)
run_length key room (x ∷ xs) [] = min room (length (x ∷ xs))
run_length key room (x ∷ xs) (y ∷ ys) = until_empty key room (x ∷ xs) (y ∷ ys)
