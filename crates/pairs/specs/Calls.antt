-- The whole input in pieces: what the functions promise, call after call.
use Rattle.std.specs.Prelude.{List, [], ◌∷◌, ◌≡◌, ℕ}
use Rattle.lines.specs.Cutter.{kept_after}
use Rattle.pairs.specs.Reads.{reads_from, last_reads}
use Rattle.pairs.specs.State.{State, lines_after}

-- bytes have been heard so far, from a beginning; k is what is kept of the line so far
pub record HeardSoFar (begun : State) (bytes : List ℕ) (s : State) (k : List ℕ) : Type 0 where
  pub state : s ≡ lines_after begun (reads_from [] bytes)
  pub keeps : k ≡ kept_after [] bytes

-- calls of `hear`, a piece each, then a call of `finish`
pub data Fed : State → List ℕ → List (List ℕ) → State → Type 0 where
  finished : (s s' : State) (k : List ℕ) → s' ≡ lines_after s (last_reads k) → Fed s k [] s'
  heard : (s s₁ s' : State) (k k₁ piece : List ℕ) (pieces : List (List ℕ)) → s₁ ≡ lines_after s (reads_from k piece) → k₁ ≡ kept_after k piece → Fed s₁ k₁ pieces s'
      → Fed s k (piece ∷ pieces) s'
