-- What a fill over the array asks and ensures.
use Rattle.std.specs.Prelude.{◌≡◌, ◌⊎◌, ℕ, ◌+◌, ◌≤◌, ◌<◌, List}
use Rattle.rules.specs.Links.{first, InLink}
use Rattle.rules.specs.Tree.{Tree, exhausted, buffer, merger}
use Rattle.rules.specs.Fill.{Filled}
use Rattle.rules.specs.Take.{held_in}
use Rattle.buffers.specs.Format.{links_in, word_of, count_of, mark_of, many, buffers_of}
use Rattle.buffers.specs.Post.{Inside, Kept}
use Rattle.mergers.specs.Subtree.{subtree}

-- "A mark "exhausted" may stand only on a buffer with nothing in it and nothing below it.": in this tree
abbrev pub MarksRight : List ℕ → Tree → Type 0
MarksRight ws exhausted = Unit {0}
MarksRight ws (buffer n c) = mark_of ws n ≡ 1 → held_in (buffer n c) (buffers_of ws) ≡ 0
MarksRight ws (merger n c one two) = (mark_of ws n ≡ 1 → held_in (merger n c one two) (buffers_of ws) ≡ 0) × MarksRight ws one × MarksRight ws two

-- a buffer's number stands in the tree
abbrev pub StandsIn : ℕ → Tree → Type 0
StandsIn m exhausted = ⊥
StandsIn m (buffer n c) = m ≡ n
StandsIn m (merger n c one two) = (m ≡ n) ⊎ (StandsIn m one ⊎ StandsIn m two)

-- counts and start places inside their buffers, and right marks below; the output is empty
pub record CanFill (ws : List ℕ) (last i j : ℕ) : Type 0 where
  pub array : Inside ws
  pub place : InLink i j
  pub counts : i ≤ last
  pub links : last ≤ links_in ws
  pub none : count_of ws (first i + j) ≡ 0
  pub marks : MarksRight ws (subtree last i j)

-- the rules' outcome z in the tree t, so many steps; marks below are right, and no word of a buffer outside the tree has changed
pub record Did (ws ws' : List ℕ) (t : Tree) (z : Filled) (steps : ℕ) : Type 0 where
  pub array : Inside ws'
  pub state : buffers_of ws' ≡ z.buffers
  pub count : steps ≡ z.steps
  pub marks : MarksRight ws' t
  pub kept : Kept ws ws'
  pub others : (n : ℕ) → n < many ws → (StandsIn n t → ⊥) → word_of ws' n ≡ word_of ws n
