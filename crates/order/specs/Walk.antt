-- What the walk down the tree asks, and what it hands down.
use Rattle.std.specs.Prelude.{◌≡◌, ℕ, ◌<◌, List, [], ◌∷◌}
use Rattle.buffers.specs.Format.{links_in}
use Rattle.buffers.specs.Post.{Inside}
use Rattle.mergers.specs.Post.{Spot}

-- the last entry; `low` where there is none
unfoldable pub last_entry : ℕ → List ℕ → ℕ
last_entry low [] = low
last_entry low (e ∷ es) = last_entry e es

-- link i's buffer j, or A of the link behind the last
pub record CanWalk (ws : List ℕ) (links i j : ℕ) : Type 0 where
  pub array : Inside ws
  pub of : links ≡ links_in ws
  pub spot : Spot i j
  pub behind : links < i → j ≡ 0
