-- The same cut with a bounded part of each line, by one byte, by bytes up to a line end, by pieces.
use Rattle.std.specs.Prelude.{◌≡◌, cond, List, [], ◌∷◌, ◌++◌, map, ℕ, ◌+◌, eqb, take}
use Rattle.frames.specs.Answers.{Back}
use Rattle.frames.specs.Frames.{read_of}
use Rattle.frames.specs.declared.Order.{Order}
use Rattle.lines.specs.Lines.{line_after, ended_by, last_line}
use Rattle.lines.specs.declared.Cutter.{Cutter}

-- as many bytes of a line as decide what it is read as: one more than the longest frame has
abbrev pub decisive : List ℕ → List ℕ
decisive line = take 19 line

-- a cutter's bytes; all of them where its count is past them
abbrev pub kept : Cutter → List ℕ
kept c = take c.len c.bytes

-- a cutter that has seen a line so far
abbrev pub Seen : Cutter → List ℕ → Type 0
Seen c line = kept c ≡ decisive line

-- what is kept, and what the lines that ended are read as
pub record Cut : Type 0 where
  pub keeps : List ℕ
  pub orders : List (Back Order)

abbrev pub feed_of : List ℕ → ℕ → Cut
feed_of k b = record { keeps = decisive (line_after k b); orders = map read_of (ended_by k b) }

abbrev pub last_of : List ℕ → List (Back Order)
last_of k = map read_of (last_line k)

-- feeding all of some bytes
unfoldable pub kept_after : List ℕ → List ℕ → List ℕ
kept_after k [] = k
kept_after k (b ∷ bs) = kept_after (feed_of k b).keeps bs

unfoldable pub orders_from : List ℕ → List ℕ → List (Back Order)
orders_from k [] = []
orders_from k (b ∷ bs) = (feed_of k b).orders ++ orders_from (feed_of k b).keeps bs

-- feeding pieces, one after the other, and finishing
unfoldable pub orders_of_pieces : List ℕ → List (List ℕ) → List (Back Order)
orders_of_pieces k [] = last_of k
orders_of_pieces k (piece ∷ pieces) = orders_from k piece ++ orders_of_pieces (kept_after k piece) pieces

-- feeding bytes, the first of which stands at a place, until a line ends or they do
pub record Step : Type 0 where
  pub at : ℕ
  pub cut : Cut

unfoldable pub next_of : List ℕ → ℕ → List ℕ → Step
next_of k at [] = record { at = at; cut = record { keeps = k; orders = [] } }
next_of k at (b ∷ bs) = cond (eqb b 10) (record { at = at + 1; cut = feed_of k b }) (next_of (feed_of k b).keeps (at + 1) bs)
