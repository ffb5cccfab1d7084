-- Orders as a code and the number in its body, and what writing one comes to.
use Rattle.std.specs.Prelude.{◌≡◌, Bool, false, cond, List, [], ◌∷◌, ◌++◌, ℕ, ◌^◌, ltb, length, drop}
use Rattle.frames.specs.Answers.{Back, refused}
use Rattle.frames.specs.Orders.{code_of, width_of, body_of, frame_of, order_of, writable}
use Rattle.frames.specs.Frames.{read_of}
use Rattle.frames.specs.Lines.{lays}
use Rattle.frames.specs.declared.Order.{Order}

-- the order of a code and a body that has room for the number
unfoldable pub asked : ℕ → ℕ → Back Order
unfolding order_of
asked code n = cond (ltb n (16 ^ width_of code)) (order_of code n) refused

-- an order's code and body, and 0 where there is none
abbrev pub code_in : List Order → ℕ
code_in [] = 0
code_in (o ∷ _) = code_of o

abbrev pub body_in : List Order → ℕ
body_in [] = 0
body_in (o ∷ _) = body_of o

-- whether it can be written, and its line
abbrev pub may_in : List Order → Bool
may_in [] = false
may_in (o ∷ _) = writable o

abbrev pub line_in : List Order → List ℕ
line_in [] = []
line_in (o ∷ _) = frame_of o

-- how many bytes were written, and 0 where none were
abbrev pub bytes_in : List ℕ → ℕ
bytes_in [] = 0
bytes_in (n ∷ _) = n

-- the number that comes back, how many bytes were written, and what then stands in the buffer: "changes no byte after them", or "answers 10 and writes nothing"
pub record Lined (may : Bool) (line out out' : List ℕ) (number written : ℕ) : Type 0 where
  pub number_is : number ≡ cond (lays may line out) 0 10
  pub written_is : written ≡ cond (lays may line out) (length line) 0
  pub after : out' ≡ cond (lays may line out) (line ++ drop (length line) out) out

-- ---- what the two exported functions promise

-- of a line that was read: the number that comes back, its order's code and the number in its body
pub record FrameRead (line : List ℕ) (number kind value : ℕ) : Type 0 where
  pub number_is : number ≡ (read_of line).number
  pub kind_is : kind ≡ code_in (read_of line).values
  pub value_is : value ≡ body_in (read_of line).values

-- of the order of a code and a number: its line, or 10 and nothing written
abbrev pub FrameWritten : (kind value : ℕ) (out out' : List ℕ) (number written : ℕ) → Type 0
FrameWritten kind value out out' number written = let os = (asked kind value).values in Lined (may_in os) (line_in os) out out' number written
