-- Which head is handed out, and what one take over the array leaves.
use Rattle.std.specs.Prelude.{◌≡◌, ◌≢◌, true, false, List, [], ◌∷◌, ℕ, ◌≤◌, ◌<◌, leb, Option, Some, None, option_to_list}
use Rattle.takes.specs.declared.Source.{Source}
use Rattle.takes.specs.declared.Source.TheVariants.{First, Insertion}
use Rattle.rules.specs.Tree.{links_from}
use Rattle.rules.specs.Merge.{Step, stop, move}
use Rattle.rules.specs.Take.{Taken}
use Rattle.buffers.specs.Format.{links_in, word_of, count_of, mark_of, many, buffers_of}
use Rattle.buffers.specs.Post.{Inside, Kept}
use Rattle.mergers.specs.Fills.{MarksRight, StandsIn}

-- "the smaller of the heads of A(1) and I; at equality A(1)'s"
unfoldable pub source_of : (ℕ → ℕ) → List ℕ → List ℕ → Option Source
source_of key [] [] = None
source_of key (x ∷ xs) [] = Some First
source_of key [] (y ∷ ys) = Some Insertion
source_of key (x ∷ xs) (y ∷ ys) = elim (leb (key x) (key y)) [ true ↦ Some First | false ↦ Some Insertion ]

-- the entry that a step moves, if there is one
unfoldable pub head_in : Step → Option ℕ
head_in stop = None
head_in (move e xs ys) = Some e

-- counts and start places inside their buffers, and right marks in the first links, so many of them
pub record CanTake (ws : List ℕ) (last : ℕ) : Type 0 where
  pub array : Inside ws
  pub links : last ≤ links_in ws
  pub marks : MarksRight ws (links_from 1 last)

-- the rules' take z over the first links: what was handed out, the buffers and the steps are the rules' own
pub record Took (ws ws' : List ℕ) (last : ℕ) (z : Taken) (entry : Option ℕ) (steps : ℕ) : Type 0 where
  pub array : Inside ws'
  pub out : option_to_list entry ≡ z.out
  pub state : buffers_of ws' ≡ z.buffers
  pub count : steps ≡ z.steps
  pub marks : MarksRight ws' (links_from 1 last)
  pub kept : Kept ws ws'
  pub mark_of_I : mark_of ws' 0 ≡ mark_of ws 0
  pub fewer_in_I : count_of ws' 0 ≤ count_of ws 0
  pub others : (n : ℕ) → n < many ws → n ≢ 0 → (StandsIn n (links_from 1 last) → ⊥) → word_of ws' n ≡ word_of ws n
