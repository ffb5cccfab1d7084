-- "One frame a line .. line end 0A; a last line without it counts if it has at least one byte."
use Rattle.std.specs.Prelude.{Bool, true, cond, not, ◌&&◌, List, [], ◌∷◌, ◌++◌, map, ℕ, ◌-◌, take, drop, eqb}
use Rattle.frames.specs.Answers.{Back}
use Rattle.frames.specs.Frames.{read_of}
use Rattle.frames.specs.declared.Order.{Order}

-- the line so far after one byte more
unfoldable pub line_after : List ℕ → ℕ → List ℕ
line_after line b = cond (eqb b 10) [] (line ++ (b ∷ []))

-- the line that the byte ends, if it ends one
unfoldable pub ended_by : List ℕ → ℕ → List (List ℕ)
ended_by line b = cond (eqb b 10) (line ∷ []) []

-- the lines that end within bytes, behind a line so far
unfoldable pub ended_within : List ℕ → List ℕ → List (List ℕ)
ended_within line [] = []
ended_within line (b ∷ bs) = ended_by line b ++ ended_within (line_after line b) bs

-- the line so far behind them
unfoldable pub left_by : List ℕ → List ℕ → List ℕ
left_by line [] = line
left_by line (b ∷ bs) = left_by (line_after line b) bs

-- a last line without its line end, if it counts
unfoldable pub last_line : List ℕ → List (List ℕ)
last_line [] = []
last_line (b ∷ bs) = (b ∷ bs) ∷ []

abbrev pub lines_of : List ℕ → List (List ℕ)
lines_of bytes = ended_within [] bytes ++ last_line (left_by [] bytes)

-- what the lines of bytes are read as
abbrev pub orders_of : List ℕ → List (Back Order)
orders_of bytes = map read_of (lines_of bytes)

-- the same cut, said apart: no line holds a line end ..
unfoldable pub plain : List ℕ → Bool
plain [] = true
plain (b ∷ bs) = not (eqb b 10) && plain bs

unfoldable pub all_plain : List (List ℕ) → Bool
all_plain [] = true
all_plain (l ∷ ls) = plain l && all_plain ls

-- .. and lines with their line ends are the bytes again
unfoldable pub together : List (List ℕ) → List ℕ
together [] = []
together (l ∷ ls) = l ++ (10 ∷ together ls)

-- the bytes of a piece from one place to another
abbrev pub between : ℕ → ℕ → List ℕ → List ℕ
between at end piece = take (end - at) (drop at piece)
