-- Calls by the library: what C gets back is a call, by the promises of the six exported calls.
use Rattle.std.specs.Prelude.{ℕ, Bool, false, List, [], ◌∷◌, length}
use Rattle.rules.specs.Answers.{answer_of}
use Rattle.rules.specs.Examples.{Order, setup_of, insert_of, take_it, look_at, held_now, audit_it}
use Rattle.gorgalhut.specs.Answered.{SetUp, PutIn, TakenOut, LookedAt, Counted, Audited}
use Rattle.demands.specs.Unread.{SameUpTo}
use Rattle.demands.specs.Histories.{Call}

-- an order, so many words of work area, and what came back, the answer by its number
abbrev pub got_back : Order → ℕ → ℕ → ℕ → ℕ → Bool → Call
got_back order work number word steps packed = record { order = order; work = work; answer = answer_of number; word = word; steps = steps; packed = packed }

-- a case for each: "Take, look, held and audit get no work area", nor does setup; only insert says whether it packed
pub data Called (ws : List ℕ) : Call → List ℕ → Type 0 where
  setup : (ws' : List ℕ) (links number word steps : ℕ) → SetUp links ws ws' number word steps → Called ws (got_back (setup_of links) 0 number word steps false) ws'
  insert : (ws' work work' : List ℕ) (entry number word steps : ℕ) (packed : Bool) → PutIn entry ws ws' work work' number word steps packed
      → Called ws (got_back (insert_of entry) (length work) number word steps packed) ws'
  take : (ws' : List ℕ) (number word steps : ℕ) → TakenOut ws ws' number word steps → Called ws (got_back take_it 0 number word steps false) ws'
  look : (ws' : List ℕ) (number word steps : ℕ) → LookedAt ws ws' number word steps → Called ws (got_back look_at 0 number word steps false) ws'
  held : (number word steps : ℕ) → Counted ws number word steps → Called ws (got_back held_now 0 number word steps false) ws
  audit : (number word steps : ℕ) → Audited ws number word steps → Called ws (got_back audit_it 0 number word steps false) ws

-- calls by the library one after the other on one array, the latest first, from the words ws on; meanwhile the box may write words past
-- the stated length and unused words of the book
pub data Calls (ws : List ℕ) : List Call → List ℕ → Type 0 where
  none : Calls ws [] ws
  more : (ws₁ ws₂ : List ℕ) (c : Call) (cs : List Call) → Calls ws cs ws₁ → Called ws₁ c ws₂ → Calls ws (c ∷ cs) ws₂
  meanwhile : (ws₁ vs : List ℕ) (cs : List Call) → Calls ws cs ws₁ → SameUpTo ws₁ vs → Calls ws cs vs
