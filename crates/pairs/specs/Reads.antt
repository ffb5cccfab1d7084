-- One pair a line, in capital hexadecimal: due, 8 digits; acting, 8; door, 2; nothing else. Lines are cut as the gate's are.
use Rattle.std.specs.Prelude.{cond, ◌&&◌, List, [], ◌∷◌, ◌++◌, map, ℕ, eqb, length, take, drop}
use Rattle.frames.specs.Answers.{Back, done, refused}
use Rattle.frames.specs.Digits.{capital, number}
use Rattle.lines.specs.Lines.{ended_by, last_line, lines_of}
use Rattle.lines.specs.Cutter.{feed_of}
use Rattle.lateness.specs.Pairs.{Pair}

-- what 18 digits write
abbrev pub written : List ℕ → Pair
written line = record { due = number (take 8 line); acting = number (take 8 (drop 8 line)); door = number (take 2 (drop 16 line)) }

-- a line of exactly 18 capital digits is a pair, and no other is
unfoldable pub pair_of : List ℕ → Back Pair
pair_of line = cond (capital line && eqb (length line) 18) (done (written line)) refused

-- what the lines of bytes are read as
abbrev pub reads_of : List ℕ → List (Back Pair)
reads_of bytes = map pair_of (lines_of bytes)

-- the line that a byte ends, if it ends one; k is what is kept of the line so far
abbrev pub reads_by : List ℕ → ℕ → List (Back Pair)
reads_by k b = map pair_of (ended_by k b)

-- those that end within bytes
unfoldable pub reads_from : List ℕ → List ℕ → List (Back Pair)
reads_from k [] = []
reads_from k (b ∷ bs) = reads_by k b ++ reads_from (feed_of k b).keeps bs

-- a last line without its line end, if it counts
abbrev pub last_reads : List ℕ → List (Back Pair)
last_reads k = map pair_of (last_line k)
