-- Histories of calls on one array, and what has happened since the last accepted setup.
use Rattle.std.specs.Prelude.{ℕ, ◌+◌, ◌≤◌, ◌<◌, ◌≡◌, Bool, true, false, List, [], ◌∷◌, ◌++◌, eqb, length}
use Rattle.rules.specs.Answers.{Answer, is_done}
use Rattle.rules.specs.Entries.{the_rule, key_by}
use Rattle.rules.specs.Tests.{◌and◌, ◌or◌}
use Rattle.rules.specs.Examples.{Order, setup_of, insert_of, take_it, look_at, held_now, audit_it, call}
use Rattle.rules.specs.Links.{words}
use Rattle.rules.specs.Book.{sound}
use Rattle.rules.specs.Calls.{queue_of}
use Rattle.buffers.specs.Format.{links_in, book_of, lent_of}
use Rattle.queue.specs.Calls.{Called, Besides}
use Rattle.demands.specs.Unread.{SameUpTo}

-- ---- calls

-- a call: what was ordered, how many words of work area were lent with it, and what came back
pub record Call : Type 0 where
  pub order : Order
  pub work : ℕ
  pub answer : Answer
  pub word : ℕ
  pub steps : ℕ
  pub packed : Bool

-- "each related to the next by the contracts of the calls": the call was made on the words ws and left the words ws'
pub record Made (ws : List ℕ) (c : Call) (ws' : List ℕ) : Type 0 where
  pub called : Called ws ws' (call c.work c.order (lent_of ws)) c.answer c.word c.steps c.packed
  -- the work area that was lent, and as it was left
  pub area : List ℕ
  pub left : List ℕ
  pub lent : length area ≡ c.work
  pub besides : Besides c.order ws ws' area left c.answer

abbrev pub accepted : Call → Bool
accepted c = is_done c.answer

abbrev pub is_setup : Order → Bool
is_setup (setup_of links) = true
is_setup (insert_of entry) = false
is_setup take_it = false
is_setup look_at = false
is_setup held_now = false
is_setup audit_it = false

abbrev pub links_of : Order → ℕ
links_of (setup_of links) = links
links_of (insert_of entry) = 0
links_of take_it = 0
links_of look_at = 0
links_of held_now = 0
links_of audit_it = 0

-- an accepted setup begins anew
abbrev pub begins : Call → Bool
begins c = is_setup c.order and accepted c

-- the same came back from two calls, and where they were accepted, or the array was long enough and its book sound before, the same link number, counters and entries of every buffer stand afterwards
pub record MadeSame (ws : List ℕ) (c d : Call) (ws' vs' : List ℕ) : Type 0 where
  pub answers : c.answer ≡ d.answer
  pub words_are : c.word ≡ d.word
  pub steps_are : c.steps ≡ d.steps
  pub packings_are : c.packed ≡ d.packed
  pub accepted_alike : accepted c ≡ true → queue_of (lent_of ws') ≡ queue_of (lent_of vs')
  pub sound_alike : words (links_in ws) ≤ length ws → sound (book_of ws) ≡ true → queue_of (lent_of ws') ≡ queue_of (lent_of vs')

-- ---- histories

-- "a history is any sequence of calls on one array, each related to the next by the contracts of the calls, starting with an accepted setup": its calls, the latest
-- first, and the words that they left; the words before the setup may be any; between two calls the box may write
-- words past the stated length and unused words of the book
pub data History : List Call → List ℕ → Type 0 where
  first : (ws ws' : List ℕ) (c : Call) → begins c ≡ true → Made ws c ws' → History (c ∷ []) ws'
  next : (ws ws' : List ℕ) (c : Call) (cs : List Call) → History cs ws → Made ws c ws' → History (c ∷ cs) ws'
  between : (ws vs : List ℕ) (cs : List Call) → History cs ws → SameUpTo ws vs → History cs vs

-- the calls since the last accepted setup, and its number of links
abbrev pub since : List Call → List Call
since [] = []
since (c ∷ cs) = elim (begins c) [ true ↦ [] | false ↦ c ∷ since cs ]

abbrev pub links : List Call → ℕ
links [] = 0
links (c ∷ cs) = elim (begins c) [ true ↦ links_of c.order | false ↦ links cs ]

-- any calls one after the other on one array, from the words ws on: before the first accepted setup too; meanwhile the box may write as above
pub data Sequence (ws : List ℕ) : List Call → List ℕ → Type 0 where
  none : Sequence ws [] ws
  more : (ws₁ ws₂ : List ℕ) (c : Call) (cs : List Call) → Sequence ws cs ws₁ → Made ws₁ c ws₂ → Sequence ws (c ∷ cs) ws₂
  meanwhile : (ws₁ vs : List ℕ) (cs : List Call) → Sequence ws cs ws₁ → SameUpTo ws₁ vs → Sequence ws cs vs

abbrev pub has_setup : List Call → Bool
has_setup [] = false
has_setup (c ∷ cs) = begins c or has_setup cs

-- the last accepted setup, and the calls since
abbrev pub from_setup : List Call → List Call
from_setup [] = []
from_setup (c ∷ cs) = elim (begins c) [ true ↦ c ∷ [] | false ↦ c ∷ from_setup cs ]

-- ---- sums over calls

-- the entry that an order brings
abbrev pub brought : Order → List ℕ
brought (setup_of links) = []
brought (insert_of entry) = entry ∷ []
brought take_it = []
brought look_at = []
brought held_now = []
brought audit_it = []

-- the word of a take is the entry that it hands out
abbrev pub handed : Order → ℕ → List ℕ
handed (setup_of links) word = []
handed (insert_of entry) word = []
handed take_it word = word ∷ []
handed look_at word = []
handed held_now word = []
handed audit_it word = []

-- refused calls put nothing in and hand nothing out
abbrev pub if_done : Bool → List ℕ → List ℕ
if_done true es = es
if_done false es = []

-- the entries of the accepted inserts
abbrev pub put_in : List Call → List ℕ
put_in [] = []
put_in (c ∷ cs) = if_done (accepted c) (brought c.order) ++ put_in cs

-- the entries that the accepted takes handed out
abbrev pub taken_out : List Call → List ℕ
taken_out [] = []
taken_out (c ∷ cs) = if_done (accepted c) (handed c.order c.word) ++ taken_out cs

-- n: "accepted inserts"
abbrev pub inserts : List Call → ℕ
inserts cs = length (put_in cs)

-- and accepted takes
abbrev pub takes : List Call → ℕ
takes cs = length (taken_out cs)

abbrev pub once : Bool → ℕ
once true = 1
once false = 0

-- P: "packings"
abbrev pub packings : List Call → ℕ
packings [] = 0
packings (c ∷ cs) = once c.packed + packings cs

-- the merge steps that the calls reported, in all
abbrev pub steps : List Call → ℕ
steps [] = 0
steps (c ∷ cs) = c.steps + steps cs

-- how often an entry stands among some
abbrev pub times : ℕ → List ℕ → ℕ
times v [] = 0
times v (e ∷ es) = once (eqb v e) + times v es

-- "put in and still held": put in more often than handed out
abbrev pub StillHeld : ℕ → List Call → Type 0
StillHeld v cs = times v (taken_out cs) < times v (put_in cs)

-- "the smallest entry put in and still held", by the one rule's key: "Order is that of the whole word as a number"
pub record Smallest (e : ℕ) (cs : List Call) : Type 0 where
  pub held : StillHeld e cs
  pub least : (v : ℕ) → StillHeld v cs → key_by the_rule e ≤ key_by the_rule v
