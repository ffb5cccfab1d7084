-- What an exported call promises: the answer's number, the words it gives back, and the array as the rules determine it.
use Rattle.std.specs.Prelude.{◌≡◌, ◌≢◌, Bool, true, false, List, ℕ, ◌≤◌, length, get_or}
use Rattle.rules.specs.Links.{most, words}
use Rattle.rules.specs.Answers.{is_done, number_of}
use Rattle.rules.specs.Book.{sound}
use Rattle.rules.specs.Calls as rules
use Rattle.buffers.specs.Format.{links_in, book_of, lent_of}
use Rattle.buffers.specs.Post.{Unused}
use Rattle.queue.specs.Calls.{SlotsKept}

-- no unused word of the book and no word past the stated length changes; "Every refusal changes nothing; every accepted call leaves a book that keeps all book rules"
pub record Answered (ws ws' : List ℕ) (o : rules.Outcome) (number word steps : ℕ) : Type 0 where
  pub number_is : number ≡ number_of o.answer
  pub word_is : word ≡ o.word
  pub steps_are : steps ≡ o.steps
  pub long : length ws' ≡ length ws
  pub past : (p : ℕ) → words (links_in ws') ≤ p → get_or ws' p 0 ≡ get_or ws p 0
  pub unused : (p : ℕ) → Unused (links_in ws') p → get_or ws' p 0 ≡ get_or ws p 0
  pub refused : is_done o.answer ≡ false → ws' ≡ ws
  pub queue_is : is_done o.answer ≡ true → rules.queue_of (lent_of ws') ≡ o.queue
  pub sound_is : is_done o.answer ≡ true → sound (book_of ws') ≡ true

-- an insert's work area: its words past H are never touched, and a refusal changes none
pub record WorkLeft (links number : ℕ) (work work' : List ℕ) : Type 0 where
  pub long : length work' ≡ length work
  pub past : (p : ℕ) → most links ≤ p → get_or work' p 0 ≡ get_or work p 0
  pub refused : number ≢ 0 → work' ≡ work

-- ---- what each of the six calls promises, of the array's words before and after, the number, word and steps that come back, and an insert's work area and packing

-- "slots keep their words"
abbrev pub SetUp : ℕ → (ws ws' : List ℕ) → ℕ → ℕ → ℕ → Type 0
SetUp links ws ws' number word steps = Answered ws ws' (rules.setup links (lent_of ws)) number word steps × SlotsKept ws ws'

abbrev pub PutIn : ℕ → (ws ws' work work' : List ℕ) → ℕ → ℕ → ℕ → Bool → Type 0
PutIn entry ws ws' work work' number word steps packed =
    let o = rules.insert (length work) entry (lent_of ws) in
    Answered ws ws' o number word steps × (packed ≡ o.packed) × WorkLeft (links_in ws) number work work'

abbrev pub TakenOut : (ws ws' : List ℕ) → ℕ → ℕ → ℕ → Type 0
TakenOut ws ws' number word steps = Answered ws ws' (rules.take (lent_of ws)) number word steps

abbrev pub LookedAt : (ws ws' : List ℕ) → ℕ → ℕ → ℕ → Type 0
LookedAt ws ws' number word steps = Answered ws ws' (rules.look (lent_of ws)) number word steps

-- "held and audit change nothing": the array is lent to them to read only
abbrev pub Counted : List ℕ → ℕ → ℕ → ℕ → Type 0
Counted ws number word steps = Answered ws ws (rules.held_call (lent_of ws)) number word steps

abbrev pub Audited : List ℕ → ℕ → ℕ → ℕ → Type 0
Audited ws number word steps = Answered ws ws (rules.audit (lent_of ws)) number word steps
