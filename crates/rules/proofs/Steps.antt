-- What one merge step does, case by case: every law about movement splits on these three cases and on nothing else.
use Prim.Native.Nat.{ℕ, ◌≤◌, ◌<◌}
use mathlib.Core.Path.{◌≡◌, refl}
use mathlib.Core.Bool.{Bool, true, false}
use mathlib.Core.List.{List, [], ◌∷◌}
use native.Mathlib.Omega.{arith}
use lib.Dec.{leb, leb→le, nleb→lt}
use Rattle.rules.specs.Merge.{Step, stop, move, merge_step}

module _ (key : ℕ → ℕ) where
  -- no entry at the head of the other input has a smaller key than e
  abbrev pub NotAbove : ℕ → List ℕ → Type 0
  NotAbove e [] = Unit {0}
  NotAbove e (y ∷ ys) = key e ≤ key y

  -- the step that is made at these two inputs
  pub data Stepped : List ℕ → List ℕ → Step → Type 0 where
    stops : Stepped [] [] stop
    from_first : {e : ℕ} {xs ys : List ℕ} → NotAbove e ys → Stepped (e ∷ xs) ys (move e xs ys)
    from_second : {e : ℕ} {xs ys : List ℕ} → NotAbove e xs → Stepped xs (e ∷ ys) (move e xs ys)

  by_heads : (x y : ℕ) (xs ys : List ℕ) (b : Bool) → leb (key x) (key y) ≡ b
      → Stepped (x ∷ xs) (y ∷ ys) (elim b [ true ↦ move x xs (y ∷ ys) | false ↦ move y (x ∷ xs) ys ])
  by_heads x y xs ys true e = from_first (leb→le (key x) (key y) (rw e tt))
  by_heads x y xs ys false e = let l : key y < key x = nleb→lt (key x) (key y) (rw e tt) in let low : key y ≤ key x = omega arith in from_second low

  -- "One merge step moves the smaller head; at equal heads the first input's."
  pub stepped : (xs ys : List ℕ) → Stepped xs ys (merge_step key xs ys)
  unfolding merge_step
  stepped [] [] = stops
  stepped (x ∷ xs) [] = from_first tt
  stepped [] (y ∷ ys) = from_second tt
  stepped (x ∷ xs) (y ∷ ys) = by_heads x y xs ys (leb (key x) (key y)) refl
