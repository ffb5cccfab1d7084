-- Lateness in order.
use Rattle.std.specs.Prelude.{◌≡◌, ℕ, suc, ◌-◌, ◌≤◌, cond, List, [], ◌∷◌, length, ℤ, pos, int_le, slice_index_or}

-- before the first that is not below it
unfoldable pub put_in : ℤ → List ℤ → List ℤ
put_in x [] = x ∷ []
put_in x (y ∷ ys) = cond (int_le x y) (x ∷ (y ∷ ys)) (y ∷ put_in x ys)

unfoldable pub in_order : List ℤ → List ℤ
in_order [] = []
in_order (x ∷ xs) = put_in x (in_order xs)

-- the one with this number in order, counted from 1; 0 where there is none
unfoldable pub numbered : ℕ → List ℤ → ℤ
numbered k xs = slice_index_or (in_order xs) (k - 1) (pos 0)

-- how many do not exceed it
unfoldable pub at_most : ℤ → List ℤ → ℕ
at_most most [] = 0
at_most most (x ∷ xs) = cond (int_le x most) (suc (at_most most xs)) (at_most most xs)

-- a number in order, and between which two the one with it lies
pub record Numbered (k : ℕ) (earliest latest : ℤ) (xs : List ℤ) : Type 0 where
  pub low : 1 ≤ k
  pub high : k ≤ length xs
  pub first : earliest ≡ numbered 1 xs
  pub last : latest ≡ numbered (length xs) xs
