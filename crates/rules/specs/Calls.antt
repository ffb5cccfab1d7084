-- The six calls on a lent array, with every refusal in the order in which checks run.
use Rattle.std.specs.Prelude.{ℕ, Bool, true, false, List, [], ◌∷◌, leb, ltb}
use Rattle.rules.specs.Answers.{Answer, Done, NoSuchLinks, ArrayShort, WorkShort, BookBroken, Full, NoneHeld, DoorAbove, OrderBroken, is_done}
use Rattle.rules.specs.Entries.{door}
use Rattle.rules.specs.Links.{most, words}
use Rattle.rules.specs.Tree.{Buffers, tree_of}
use Rattle.rules.specs.Take.{ready, take_one}
use Rattle.rules.specs.Queue.{Queue, key_of, held, fresh}
use Rattle.rules.specs.Insert.{inserted}
use Rattle.rules.specs.Order.{in_order}
use Rattle.rules.specs.Book.{Book, is_link_number, sound, plain_book}

-- what a call sees of the lent array: its length in words, its book, and what its buffers have
pub record Lent : Type 0 where
  pub length : ℕ
  pub book : Book
  pub buffers : Buffers

unfoldable pub queue_of : Lent → Queue
queue_of a = record { links = a.book.links; counters = a.book.counters; buffers = a.buffers }

-- "Every call answers with a number, a word and steps."; an insert also tells whether it packed; and the queue afterwards
pub record Outcome : Type 0 where
  pub answer : Answer
  pub word : ℕ
  pub steps : ℕ
  pub packed : Bool
  pub queue : Queue

-- ---- checks

infix 15 ◌else◌
pub data Check : Type 0 where
  ◌else◌ : Bool → Answer → Check

-- the first check that fails gives the answer
unfoldable pub first_failing : List Check → Answer
first_failing [] = Done
first_failing ((holds else refusal) ∷ checks) = elim holds [ true ↦ first_failing checks | false ↦ refusal ]

-- "Every refusal changes nothing", and gives a zero word and zero steps
unfoldable pub refused : Answer → Queue → Outcome
refused answer q = record { answer = answer; word = 0; steps = 0; packed = false; queue = q }

-- the call is done where no check fails
unfoldable pub unless : Answer → Queue → Outcome → Outcome
unfolding is_done refused
unless failing q accepted = elim (is_done failing) [ true ↦ accepted | false ↦ refused failing q ]

-- "all others: 2 (296 words), 4 (link number), 2 (its L)"
unfoldable pub array_checks : Lent → List Check → List Check
unfolding words is_link_number
array_checks a checks =
    (leb (words 1) a.length else ArrayShort)
    ∷ (is_link_number a.book.links else BookBroken)
    ∷ (leb (words a.book.links) a.length else ArrayShort)
    ∷ checks

-- ---- the calls

-- "setup 1, 2"
unfoldable pub setup : ℕ → Lent → Outcome
unfolding first_failing unless is_link_number words fresh queue_of
setup links a =
    let accepted : Outcome = record { answer = Done; word = 0; steps = 0; packed = false; queue = fresh links } in
    unless (first_failing ((is_link_number links else NoSuchLinks) ∷ (leb (words links) a.length else ArrayShort) ∷ [])) (queue_of a) accepted

-- "then insert 3, 4, 7, 5"
unfoldable pub insert_checks : ℕ → ℕ → Lent → List Check
unfolding array_checks most sound door held queue_of
insert_checks work entry a =
    let q = queue_of a in
    array_checks a (
    (leb (most q.links) work else WorkShort)
    ∷ (sound a.book else BookBroken)
    ∷ (leb (door entry) 2 else DoorAbove)
    ∷ (ltb (held q) (most q.links) else Full)
    ∷ [])

unfoldable pub insert : ℕ → ℕ → Lent → Outcome
unfolding first_failing unless insert_checks inserted queue_of
insert work entry a =
    let q = queue_of a in
    let z = inserted entry q in
    let accepted : Outcome = record { answer = Done; word = 0; steps = z.steps; packed = z.packed; queue = z.queue } in
    unless (first_failing (insert_checks work entry a)) q accepted

-- "take and look 4, 6"
unfoldable pub take_checks : Lent → List Check
unfolding array_checks sound held queue_of
take_checks a = array_checks a ((sound a.book else BookBroken) ∷ (ltb 0 (held (queue_of a)) else NoneHeld) ∷ [])

-- the one entry that was handed out
unfoldable pub the_entry : List ℕ → ℕ
the_entry [] = 0
the_entry (e ∷ es) = e

unfoldable pub with_buffers : Queue → Buffers → Queue
with_buffers q bs = record { links = q.links; counters = q.counters; buffers = bs }

unfoldable pub take : Lent → Outcome
unfolding first_failing unless take_checks take_one tree_of key_of the_entry with_buffers queue_of
take a =
    let q = queue_of a in
    let z = take_one (key_of q) (tree_of q.links) q.buffers in
    let accepted : Outcome = record { answer = Done; word = the_entry z.out; steps = z.steps; packed = false; queue = with_buffers q z.buffers } in
    unless (first_failing (take_checks a)) q accepted

-- "Look does the same and removes nothing."
unfoldable pub look : Lent → Outcome
unfolding first_failing unless take_checks ready take_one tree_of key_of the_entry with_buffers queue_of
look a =
    let q = queue_of a in
    let z = take_one (key_of q) (tree_of q.links) q.buffers in
    let now = ready (key_of q) (tree_of q.links) q.buffers in
    let accepted : Outcome = record { answer = Done; word = the_entry z.out; steps = z.steps; packed = false; queue = with_buffers q now.buffers } in
    unless (first_failing (take_checks a)) q accepted

-- "held 4"; "held gives the count"
unfoldable pub held_call : Lent → Outcome
unfolding first_failing unless array_checks sound held queue_of
held_call a =
    let q = queue_of a in
    let accepted : Outcome = record { answer = Done; word = held q; steps = 0; packed = false; queue = q } in
    unless (first_failing (array_checks a ((sound a.book else BookBroken) ∷ []))) q accepted

-- "audit 4, 9"
unfoldable pub audit : Lent → Outcome
unfolding first_failing unless array_checks sound in_order key_of tree_of queue_of
audit a =
    let q = queue_of a in
    let accepted : Outcome = record { answer = Done; word = 0; steps = 0; packed = false; queue = q } in
    unless (first_failing (array_checks a ((sound a.book else BookBroken) ∷ (in_order (key_of q) (tree_of q.links) q.buffers else OrderBroken) ∷ []))) q accepted

-- ---- calls one after the other

-- an array of so many zeros: "An array of zeros breaks them."
unfoldable pub zeros : ℕ → Lent
zeros n = record { length = n; book = record { links = 0; counters = []; counts = []; starts = []; marks = [] }; buffers = [] }

-- the lent array after a call, as far as the rules determine it; where they do not, the simplest: every start place 0 and no mark
unfoldable pub afterwards : Lent → Outcome → Lent
unfolding is_done plain_book
afterwards a o =
    elim (is_done o.answer) [
      | true ↦ record { length = a.length; book = plain_book o.queue; buffers = o.queue.buffers }
      | false ↦ a
    ]
