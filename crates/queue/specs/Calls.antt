-- What a call over the array promises: the rules' outcome, and the array as they determine it.
use Rattle.std.specs.Prelude.{◌≡◌, Bool, true, false, List, ℕ, ◌≤◌, length, get_or, Result}
use Rattle.rules.specs.Links.{book_words, words, most}
use Rattle.rules.specs.Answers.{Answer, number_of, is_done, answer_in, word_in, steps_in, packed_in}
use Rattle.rules.specs.declared.Done.{Done}
use Rattle.rules.specs.declared.Refusal.{Refusal}
use Rattle.rules.specs.Book.{sound}
use Rattle.rules.specs.Calls as rules
use Rattle.rules.specs.Examples.{Order, setup_of, insert_of, take_it, look_at, held_now, audit_it}
use Rattle.buffers.specs.Format.{links_in, book_of, lent_of}
use Rattle.buffers.specs.Post.{Unused}

-- answer, word, steps and packing are the rules' own; no unused word of the book and no word past the stated length changes; "Every refusal changes nothing; every accepted call leaves a book that keeps all book rules"
pub record Called (ws ws' : List ℕ) (o : rules.Outcome) (answer : Answer) (word steps : ℕ) (packed : Bool) : Type 0 where
  pub number_is : number_of answer ≡ number_of o.answer
  pub word_is : word ≡ o.word
  pub steps_are : steps ≡ o.steps
  pub packed_is : packed ≡ o.packed
  pub long : length ws' ≡ length ws
  pub past : (p : ℕ) → words (links_in ws') ≤ p → get_or ws' p 0 ≡ get_or ws p 0
  pub unused : (p : ℕ) → Unused (links_in ws') p → get_or ws' p 0 ≡ get_or ws p 0
  pub refused : is_done answer ≡ false → ws' ≡ ws
  pub queue_is : is_done answer ≡ true → rules.queue_of (lent_of ws') ≡ o.queue
  pub sound_is : is_done answer ≡ true → sound (book_of ws') ≡ true

-- the same of what a call gives back
abbrev pub Gives : (ws ws' : List ℕ) (o : rules.Outcome) → Result Done Refusal → Type 0
Gives ws ws' o r = Called ws ws' o (answer_in r) (word_in r) (steps_in r) (packed_in r)

-- "slots keep their words": every word behind the book is as it was
abbrev pub SlotsKept : List ℕ → List ℕ → Type 0
SlotsKept ws ws' = (p : ℕ) → book_words ≤ p → get_or ws' p 0 ≡ get_or ws p 0

-- words of the work area past H are never touched, and a refusal changes none
pub record WorkKept (links : ℕ) (answer : Answer) (work work' : List ℕ) : Type 0 where
  pub long : length work' ≡ length work
  pub past : (p : ℕ) → most links ≤ p → get_or work' p 0 ≡ get_or work p 0
  pub refused : is_done answer ≡ false → work' ≡ work

-- what a call leaves besides: a setup "slots keep their words"; "held and audit change nothing"; "Take, look, held and audit get no work area"; of an insert's the words past H
abbrev pub Besides : Order → (ws ws' work work' : List ℕ) → Answer → Type 0
Besides (setup_of links) ws ws' work work' answer = SlotsKept ws ws' × (work' ≡ work)
Besides (insert_of entry) ws ws' work work' answer = WorkKept (links_in ws) answer work work'
Besides take_it ws ws' work work' answer = work' ≡ work
Besides look_at ws ws' work work' answer = work' ≡ work
Besides held_now ws ws' work work' answer = (ws' ≡ ws) × (work' ≡ work)
Besides audit_it ws ws' work work' answer = (ws' ≡ ws) × (work' ≡ work)
