-- A run of `gate`: what it has answered of its input, and what it has written of the answers.
use Rattle.std.specs.Prelude.{◌≡◌, ◌<◌, Bool, true, false, List, ℕ, length, take, Option}
use Rattle.std.specs.Io.KnownBytes.{Appends, Consumes, IsAtEnd}
use Rattle.streams.specs.Fronts.{AppendsFront}
use Rattle.frames.specs.Answers.{Back}
use Rattle.frames.specs.declared.Order.{Order}
use Rattle.lines.specs.Cutter.{kept_after, orders_from}
use Rattle.sessions.specs.Runs.{Runs}

-- these lines have been answered, with n words of work area, and their answers written
pub record Answered (n : ℕ) (ws ws' work work' : List ℕ) (reads : List (Back Order)) (out out' : Option (List ℕ)) : Type 0 where
  pub bytes : List ℕ
  pub run : Runs n ws work reads ws' work' bytes
  pub written : Appends out out' bytes

-- these lines have been answered, and a front of their answers written before an error
pub record AnsweredFront (n : ℕ) (ws ws' work work' : List ℕ) (reads : List (Back Order)) (out out' : Option (List ℕ)) : Type 0 where
  pub bytes : List ℕ
  pub run : Runs n ws work reads ws' work' bytes
  pub written : AppendsFront out out' bytes

-- a piece: k and k' are what is kept of the line so far, before and behind
pub record AnswersPiece (n : ℕ) (ws ws' work work' k k' piece : List ℕ) (out out' : Option (List ℕ)) : Type 0 where
  pub answered : Answered n ws ws' work work' (orders_from k piece) out out'
  pub keeps : k' ≡ kept_after k piece

-- an error in a piece: the lines that end among its first bytes have been answered
abbrev pub StopsIn : ℕ → (ws ws' work work' k piece : List ℕ) → (out out' : Option (List ℕ)) → Type 0
StopsIn n ws ws' work work' k piece out out' = (many : ℕ) × AnsweredFront n ws ws' work work' (orders_from k (take many piece)) out out'

-- one read: these bytes are consumed and answered; the input has ended only where none are left, and else there are some
pub record ReadsPiece (n : ℕ) (ws ws' work work' k k' : List ℕ) (left left' out out' : Option (List ℕ)) (ended : Bool) : Type 0 where
  pub piece : List ℕ
  pub consumed : Consumes left left' piece
  pub answers : AnswersPiece n ws ws' work work' k k' piece out out'
  pub at_end : ended ≡ true → IsAtEnd left'
  pub some : ended ≡ false → 0 < length piece

-- an error of reading or writing: some bytes are consumed, perhaps none, and of them, as a piece, the lines that end among the first have been answered
pub record Stops (n : ℕ) (ws ws' work work' k : List ℕ) (left left' out out' : Option (List ℕ)) : Type 0 where
  pub piece : List ℕ
  pub consumed : Consumes left left' piece
  pub stops : StopsIn n ws ws' work work' k piece out out'
