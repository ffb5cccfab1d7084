-- A run of `late`: what is heard of its input, and what it tells on standard output and standard error.
use Rattle.std.specs.Prelude.{ℕ, ◌≡◌, ◌<◌, Bool, true, false, cond, List, [], length, Option}
use Rattle.std.specs.Io.KnownBytes.{Appends, Consumes, IsAtEnd}
use Rattle.streams.specs.Fronts.{AppendsFront}
use Rattle.lines.specs.Cutter.{kept_after}
use Rattle.pairs.specs.Reads.{reads_from, reads_of}
use Rattle.pairs.specs.State.{State, state_of, lines_after}
use Rattle.pairs.specs.Kept.{Kept}
use Rattle.pairs.specs.Calls.{HeardSoFar}
use Rattle.late.specs.declared.Day.{Day}
use Rattle.late.specs.Says.{Says, says}

-- a report is all that goes to standard output, and a refusal all that goes to standard error; the other gets nothing
pub record Told (s : Says) (out out' err err' : Option (List ℕ)) : Type 0 where
  pub reported : Appends out out' (cond s.refused [] s.text)
  pub refused : Appends err err' (cond s.refused s.text [])

-- what of it has been told before an error: a front, which may be none of it or all
pub record ToldFront (s : Says) (out out' err err' : Option (List ℕ)) : Type 0 where
  pub reported : AppendsFront out out' (cond s.refused [] s.text)
  pub refused : AppendsFront err err' (cond s.refused s.text [])

-- one read: these bytes are consumed and heard; the input has ended only where none are left, and else there are some
pub record HearsPiece (s : State) (k : List ℕ) (s' : State) (k' : List ℕ) (left left' : Option (List ℕ)) (ended : Bool) : Type 0 where
  pub piece : List ℕ
  pub consumed : Consumes left left' piece
  pub state : s' ≡ lines_after s (reads_from k piece)
  pub keeps : k' ≡ kept_after k piece
  pub at_end : ended ≡ true → IsAtEnd left'
  pub some : ended ≡ false → 0 < length piece

-- where these bytes have been heard, from an empty beginning, what is told is what `says` says of their lines
abbrev pub TellsHeard : State → List ℕ → (out out' err err' : Option (List ℕ)) → Type 0
TellsHeard s k out out' err err' = (begun : State) → (bytes : List ℕ) → Kept [] begun → HeardSoFar begun bytes s k → Told (says (reads_of bytes)) out out' err err'

abbrev pub TellsFront : State → List ℕ → (out out' err err' : Option (List ℕ)) → Type 0
TellsFront s k out out' err err' = (begun : State) → (bytes : List ℕ) → Kept [] begun → HeardSoFar begun bytes s k → ToldFront (says (reads_of bytes)) out out' err err'

-- the three lent arrays have the pairs of this state
abbrev pub PairsOf : List ℕ → List ℕ → List ℕ → State → Type 0
PairsOf due acting doors s = (due ≡ s.due) × (acting ≡ s.acting) × (doors ≡ s.doors)

-- what is kept of the lines so far
abbrev pub day_state : Day → State
day_state d = state_of d.due d.acting d.doors d.heard
