-- "From pairs of due and acting tick, each with a door byte"
use Rattle.std.specs.Prelude.{◌≡◌, ℕ, ◌≤◌, cond, List, [], ◌∷◌, length, ℤ, ◌==◌}
use Rattle.lateness.specs.Clock.{lateness_of}

pub record Pair : Type 0 where
  pub due : ℕ
  pub acting : ℕ
  pub door : ℕ

-- three lists lent side by side
unfoldable pub pairs_of : List ℕ → List ℕ → List ℕ → List Pair
pairs_of (d ∷ due) (a ∷ acting) (b ∷ doors) = record { due = d; acting = a; door = b } ∷ pairs_of due acting doors
pairs_of (d ∷ due) (a ∷ acting) [] = []
pairs_of (d ∷ due) [] doors = []
pairs_of [] acting doors = []

-- the lateness of a door byte's pairs; of no other's, so "both" does not add to left and right
unfoldable pub of_door : ℕ → List Pair → List ℤ
of_door door [] = []
of_door door (p ∷ ps) = cond (p.door == door) (lateness_of p.due p.acting ∷ of_door door ps) (of_door door ps)

-- as many of each, "at most 4,096 pairs a day"
pub record Lent (due acting doors : List ℕ) : Type 0 where
  pub dues : length due ≡ length doors
  pub actings : length acting ≡ length doors
  pub few : length doors ≤ 4096
