-- What is kept of the lines so far: their number, the first that is no pair, and the pairs in three lent arrays.
use Rattle.std.specs.Prelude.{cond, List, [], ◌∷◌, ◌≡◌, ℕ, ◌+◌, ltb, length, set, Option, Some}
use Rattle.std.specs.Option.{option_or}
use Rattle.frames.specs.Answers.{Back}
use Rattle.lateness.specs.Pairs.{Pair}
use Rattle.pairs.specs.declared.Heard.{Heard}

pub record State : Type 0 where
  pub due : List ℕ
  pub acting : List ℕ
  pub doors : List ℕ
  pub lines : ℕ
  pub wrong : Option ℕ

abbrev pub state_of : List ℕ → List ℕ → List ℕ → Heard → State
state_of due acting doors h = record { due = due; acting = acting; doors = doors; lines = h.lines; wrong = h.wrong }

-- room for 4,096 pairs
pub record Room (due acting doors : List ℕ) : Type 0 where
  pub due_long : length due ≡ 4096
  pub acting_long : length acting ≡ 4096
  pub doors_long : length doors ≡ 4096

-- a line more among the first 4,096: a pair is kept at its place, else the line's number, counted from 1, is told; the first wrong line stays the first
unfoldable pub placed : State → List Pair → State
placed s [] = record { due = s.due; acting = s.acting; doors = s.doors; lines = s.lines + 1; wrong = option_or s.wrong (Some (s.lines + 1)) }
placed s (p ∷ ps) = record {
  due = set s.due s.lines p.due;
  acting = set s.acting s.lines p.acting;
  doors = set s.doors s.lines p.door;
  lines = s.lines + 1;
  wrong = s.wrong;
}

-- a line behind them: it is counted once, as the 4,097th
abbrev pub too_many : State → State
too_many s = record { due = s.due; acting = s.acting; doors = s.doors; lines = 4097; wrong = s.wrong }

unfoldable pub one_more : State → Back Pair → State
one_more s read = cond (ltb s.lines 4096) (placed s read.values) (too_many s)

unfoldable pub lines_after : State → List (Back Pair) → State
lines_after s [] = s
lines_after s (read ∷ reads) = lines_after (one_more s read) reads
