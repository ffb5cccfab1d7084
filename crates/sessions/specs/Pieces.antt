-- A whole session: the input in pieces, and what no call can tell apart.
use Rattle.std.specs.Prelude.{◌≡◌, List, [], ◌∷◌, ◌++◌, ℕ, ◌≤◌, length, take}
use Rattle.rules.specs.Book.{sound}
use Rattle.rules.specs.Calls as rules
use Rattle.lines.specs.Cutter.{kept_after, orders_from, last_of}
use Rattle.std.specs.Prelude.{Ok}
use Rattle.sessions.specs.Runs.{Runs, Served, PieceRan}

-- pieces one after the other, then the last line; k is what is kept of the line so far
pub data Session (n : ℕ) : List ℕ → List ℕ → List ℕ → List (List ℕ) → List ℕ → List ℕ → List ℕ → Type 0 where
  finished : (ws work k ws' work' bytes : List ℕ) → Runs n ws work (last_of k) ws' work' bytes → Session n ws work k [] ws' work' bytes
  then_piece : (ws work k piece next left ws' work' bytes more : List ℕ) (pieces : List (List ℕ)) → Runs n ws work (orders_from k piece) next left bytes
      → Session n next left (kept_after k piece) pieces ws' work' more → Session n ws work k (piece ∷ pieces) ws' work' (bytes ++ more)

-- a piece from a place on, by calls of `run_piece` until it has ended, each with a buffer of its own for the answers; what they have written, in order
pub data PieceFed (piece : List ℕ) : List ℕ → List ℕ → List ℕ → ℕ → List ℕ → List ℕ → List ℕ → List ℕ → Type 0 where
  all_read : (ws work k : List ℕ) (at : ℕ) → length piece ≤ at → PieceFed piece ws work k at ws work k []
  call : (ws work k ws₁ work₁ k₁ ws' work' k' out out₁ bytes : List ℕ) (at at₁ written : ℕ) → PieceRan (length work) ws ws₁ work work₁ k piece at out out₁ k₁ at₁ written
      → PieceFed piece ws₁ work₁ k₁ at₁ ws' work' k' bytes → PieceFed piece ws work k at ws' work' k' (take written out₁ ++ bytes)

-- pieces one after the other, then a call of `finish`, which had room for its answer
pub data Fed : List ℕ → List ℕ → List ℕ → List (List ℕ) → List ℕ → List ℕ → List ℕ → Type 0 where
  finish : (ws work k ws' work' out out' : List ℕ) (written : ℕ) → Served (length work) ws ws' work work' (last_of k) out out' (Ok written) → Fed ws work k [] ws' work' (take written out')
  feed : (ws work k piece ws₁ work₁ k₁ ws' work' bytes more : List ℕ) (pieces : List (List ℕ)) → PieceFed piece ws work k 0 ws₁ work₁ k₁ bytes → Fed ws₁ work₁ k₁ pieces ws' work' more
      → Fed ws work k (piece ∷ pieces) ws' work' (bytes ++ more)

-- the same length, link number, counters and entries of every buffer, and both books sound or neither
pub record Alike (a b : rules.Lent) : Type 0 where
  pub lengths : a.length ≡ b.length
  pub queues : rules.queue_of a ≡ rules.queue_of b
  pub sounds : sound a.book ≡ sound b.book
