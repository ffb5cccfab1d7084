-- Lines answered one after the other over a lent array: what each does, and the bytes that come out.
use Rattle.std.specs.Prelude.{◌≡◌, ◌⊎◌, List, [], ◌∷◌, ◌++◌, ℕ, ◌+◌, ◌*◌, ◌≤◌, ◌<◌, length, take, drop}
use Rattle.rules.specs.Answers.{Answer, NotAFrame, number_of}
use Rattle.rules.specs.Calls as rules
use Rattle.rules.specs.Examples as orders
use Rattle.frames.specs.Answers.{Back, not_a_frame}
use Rattle.frames.specs.AnswerLine.{answer_line}
use Rattle.frames.specs.Entries.{word_of}
use Rattle.frames.specs.declared.Order.{Order}
use Rattle.frames.specs.declared.Order.TheVariants.{Setup, Insert, Take, Look, Held, Audit}
use Rattle.frames.specs.declared.NotAFrame.{NotAFrame as NoFrame}
use Rattle.std.specs.Prelude.{Result, Ok, Err}
use Rattle.lines.specs.Lines.{between}
use Rattle.lines.specs.Cutter.{kept_after, orders_from}
use Rattle.buffers.specs.Format.{lent_of}
use Rattle.queue.specs.Calls.{Called, Besides}

-- the rules' order of a frame's
abbrev pub asked : Order → orders.Order
asked (Setup links) = orders.setup_of links
asked (Insert e) = orders.insert_of (word_of e)
asked Take = orders.take_it
asked Look = orders.look_at
asked Held = orders.held_now
asked Audit = orders.audit_it

-- an order's outcome, with so many words of work area
unfoldable pub order_call : ℕ → Order → rules.Lent → rules.Outcome
order_call work o a = orders.call work (asked o) a

-- a line's outcome as it was read: its order's; "everything else .. is 10" and changes nothing
unfoldable pub values_call : ℕ → List Order → rules.Lent → rules.Outcome
values_call work [] a = rules.refused NotAFrame (rules.queue_of a)
values_call work (o ∷ os) a = order_call work o a

abbrev pub line_call : ℕ → Back Order → rules.Lent → rules.Outcome
line_call work read a = values_call work read.values a

-- "Each output line in capital hexadecimal: answer, 2 digits (10 is 0A); word, 16; steps, 8."
abbrev pub answer_of : rules.Outcome → List ℕ
answer_of o = answer_line (number_of o.answer) o.word o.steps

-- an array after a call with this outcome
abbrev pub After : List ℕ → List ℕ → rules.Outcome → Type 0
After ws ws' o = Called ws ws' o o.answer o.word o.steps o.packed

-- array and work area after a line that was answered so: what its order leaves of them; a line that is no frame leaves both as they were
abbrev pub Left : List Order → (ws ws' work work' : List ℕ) → Answer → Type 0
Left [] ws ws' work work' answer = (ws' ≡ ws) × (work' ≡ work)
Left (o ∷ os) ws ws' work work' answer = Besides (asked o) ws ws' work work' answer

-- lines as they were read, answered one after the other with n words of work area: array and work area before, both behind the last, and the answers' bytes, in order
pub data Runs (n : ℕ) : List ℕ → List ℕ → List (Back Order) → List ℕ → List ℕ → List ℕ → Type 0 where
  ends : (ws work : List ℕ) → Runs n ws work [] ws work []
  goes : (ws work next left ws' work' : List ℕ) (read : Back Order) (reads : List (Back Order)) (bytes : List ℕ) → After ws next (line_call n read (lent_of ws))
      → Left read.values ws next work left (line_call n read (lent_of ws)).answer → Runs n next left reads ws' work' bytes
      → Runs n ws work (read ∷ reads) ws' work' (answer_of (line_call n read (lent_of ws)) ++ bytes)

-- the answers stand at the start of a buffer, and no byte behind them has changed
pub record Filled (n : ℕ) (ws ws' work work' : List ℕ) (reads : List (Back Order)) (out out' : List ℕ) (r : Result ℕ NoFrame) : Type 0 where
  pub bytes : List ℕ
  pub run : Runs n ws work reads ws' work' bytes
  pub count : r ≡ Ok (length bytes)
  pub after : out' ≡ bytes ++ drop (length bytes) out

-- where there is room; else nothing is done and nothing is written
pub record Served (n : ℕ) (ws ws' work work' : List ℕ) (reads : List (Back Order)) (out out' : List ℕ) (r : Result ℕ NoFrame) : Type 0 where
  pub room : 27 * length reads ≤ length out → Filled n ws ws' work work' reads out out' r
  pub short : length out < 27 * length reads → (r ≡ Err not_a_frame) × (ws' ≡ ws) × (work' ≡ work) × (out' ≡ out)

-- the answers stand in a buffer from one place to another, and no byte around them has changed
pub record ServedAt (n : ℕ) (ws ws' work work' : List ℕ) (reads : List (Back Order)) (out out' : List ℕ) (at end : ℕ) : Type 0 where
  pub bytes : List ℕ
  pub run : Runs n ws work reads ws' work' bytes
  pub count : end ≡ at + length bytes
  pub inside : end ≤ length out
  pub after : out' ≡ take at out ++ (bytes ++ drop end out)

-- the lines that end between two places of a piece, answered; k and k' are what is kept of the line so far, before and behind; at every place before the last there was room for another answer
pub record PieceRan (n : ℕ) (ws ws' work work' k piece : List ℕ) (at : ℕ) (out out' k' : List ℕ) (at' written : ℕ) : Type 0 where
  pub forth : at ≤ at'
  pub within : at ≤ length piece → at' ≤ length piece
  pub over : length piece ≤ at → at' ≡ at
  pub room : (i : ℕ) → at ≤ i → i < at' → 27 * length (orders_from k (between at i piece)) + 27 ≤ length out
  pub keeps : k' ≡ kept_after k (between at at' piece)
  pub bytes : List ℕ
  pub run : Runs n ws work (orders_from k (between at at' piece)) ws' work' bytes
  pub count : written ≡ length bytes
  pub inside : written ≤ length out
  pub after : out' ≡ bytes ++ drop written out

-- the piece has ended, or there is no room for another answer
abbrev pub NoMore : List ℕ → ℕ → List ℕ → ℕ → Type 0
NoMore piece at out written = (length piece ≤ at) ⊎ (length out < written + 27)
