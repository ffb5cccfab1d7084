-- "gives its digits .. and changes no byte after them; for .. too short a buffer it answers 10 and writes nothing"
use Rattle.std.specs.Prelude.{◌≡◌, Bool, cond, ◌&&◌, List, ◌++◌, ℕ, Result, leb, length, drop}
use Rattle.frames.specs.Answers.{done, refused, written_back}
use Rattle.frames.specs.declared.NotAFrame.{NotAFrame}

-- a line is laid where it may be and there is room
abbrev pub lays : Bool → List ℕ → List ℕ → Bool
lays may line out = may && leb (length line) (length out)

-- what comes back, and what then stands in the buffer
pub record Laid (may : Bool) (line out out' : List ℕ) (r : Result ℕ NotAFrame) : Type 0 where
  pub answer : written_back r ≡ cond (lays may line out) (done (length line)) refused
  pub after : out' ≡ cond (lays may line out) (line ++ drop (length line) out) out
