-- "Where an answer is an enum, a definition gives this paper's number and values for each of its cases."
use Rattle.std.specs.Prelude.{List, [], ◌∷◌, ℕ, Result, Ok, Err}
use Rattle.frames.specs.declared.Order.{Order}
use Rattle.frames.specs.declared.NotAFrame.{NotAFrame}

-- the number that comes back, and what comes with it
pub record Back (A : Type 0) : Type 0 where
  pub number : ℕ
  pub values : List A

-- 0 | done
abbrev pub done : {A : Type 0} → A → Back A
done a = record { number = 0; values = a ∷ [] }

-- 10 | "frame reader: not a frame; frame writer: as said under Frames"
abbrev pub refused : {A : Type 0} → Back A
refused = record { number = 10; values = [] }

-- the one error
abbrev pub not_a_frame : NotAFrame
not_a_frame = record {}

-- what came of a reader or a writer
abbrev pub back : {A : Type 0} → Result A NotAFrame → Back A
back (Ok a) = done a
back (Err _) = refused

-- the reader's answer
abbrev pub read_back : Result Order NotAFrame → Back Order
read_back r = back r

-- the writers'
abbrev pub written_back : Result ℕ NotAFrame → Back ℕ
written_back r = back r
