-- "every accepted call leaves a book that keeps all book rules": setup, take, look, insert, held and audit.
use Prim.Native.Nat.{ℕ, ◌<◌}
use mathlib.Core.Path.{◌≡◌, refl}
use mathlib.Core.Bool.{Bool, true, false}
use lib.Dec.{T, T_not}
use Rattle.rules.specs.Answers.{Answer, is_done}
use Rattle.rules.specs.Links.{most}
use Rattle.rules.specs.Tree.{tree_of}
use Rattle.rules.specs.Take.{ready, take_one}
use Rattle.rules.specs.Queue.{Queue, key_of, held, fresh}
use Rattle.rules.specs.Insert.{inserted}
use Rattle.rules.specs.Book.{Book, is_link_number, sound, plain_book}
use Rattle.rules.specs.Calls.{Lent, Outcome, queue_of, refused, with_buffers, setup, insert, take, look, held_call, audit, afterwards}
use Rattle.rules.specs.Examples.{Order, setup_of, insert_of, take_it, look_at, held_now, audit_it, call}
use Rattle.rules.proofs.BookLaws.{Kept, Describes, plain_describes, sound_says, says_sound}
use Rattle.rules.proofs.BookKept.{Shaped, fresh_kept, fresh_shaped, take_kept, take_shaped, look_kept, look_shaped}
use Rattle.rules.proofs.InsertLaws.{inserted_kept, inserted_shaped}
use Rattle.rules.proofs.Accepted.{Long, Refusal, setup_cases, take_cases, look_cases, insert_call_cases, held_cases, audit_cases}

-- a lent array whose book says how many entries each buffer has, with as many buffers and counters as its links ask for
pub record Lawful (a : Lent) : Type 0 where
  pub describes : Describes a.book (queue_of a)
  pub shape : T (is_link_number a.book.links) → Shaped (queue_of a)

-- what an accepted call leaves keeps the book rules
pub record Leaves (q : Queue) : Type 0 where
  pub kept : Kept 7 q
  pub shape : Shaped q

-- a call that is refused, or leaves a queue that keeps them
abbrev pub LeavesWell : Outcome → Type 0
LeavesWell o = T (is_done o.answer) → Leaves o.queue

-- a refusal is not an accepted call
refusal_well : (q : Queue) (answer : Answer) → Refusal answer → LeavesWell (refused answer q)
unfolding refused
refusal_well q answer r t = absurd (T_not (is_done answer) r.not_done t)

-- after a setup
pub setup_well : (links : ℕ) (a : Lent) → LeavesWell (setup links a)
setup_well links a = setup_cases links a LeavesWell (λ number long t. record { kept = fresh_kept links number; shape = fresh_shaped links }) (refusal_well (queue_of a))

module _ (a : Lent) (lawful : Lawful a) where
  abbrev q : Queue
  q = queue_of a

  -- what a sound book says
  module _ (long : Long a) (holds : T (sound a.book)) where
    kept_now : Kept 7 q
    kept_now = sound_says a.book q lawful.describes holds

    shape_now : Shaped q
    shape_now = lawful.shape long.number

  -- after a take
  pub take_well : LeavesWell (take a)
  take_well =
      take_cases a LeavesWell (refusal_well q) (λ may t.
      let s = shape_now may.long may.holds in
      let h = kept_now may.long may.holds in
      record { kept = take_kept 7 q s h; shape = take_shaped 7 q s h })

  -- after a look
  pub look_well : LeavesWell (look a)
  look_well =
      look_cases a LeavesWell (refusal_well q) (λ may t.
      let s = shape_now may.long may.holds in
      let h = kept_now may.long may.holds in
      record { kept = look_kept 7 q s h; shape = look_shaped 7 q s h })

  -- after an insert
  pub insert_well : (work entry : ℕ) → LeavesWell (insert work entry a)
  insert_well work entry =
      insert_call_cases a LeavesWell (refusal_well q) work entry (λ may t.
      let s = shape_now may.long may.holds in
      let h = kept_now may.long may.holds in
      record { kept = inserted_kept entry q s h may.not_full; shape = inserted_shaped entry q s h may.not_full })

  -- held and audit change nothing
  pub held_well : LeavesWell (held_call a)
  held_well = held_cases a LeavesWell (refusal_well q) (λ long holds t. record { kept = kept_now long holds; shape = shape_now long holds })

  pub audit_well : LeavesWell (audit a)
  audit_well = audit_cases a LeavesWell (refusal_well q) (λ long holds order t. record { kept = kept_now long holds; shape = shape_now long holds })

-- every call
pub call_well : (work : ℕ) (order : Order) (a : Lent) → Lawful a → LeavesWell (call work order a)
unfolding call
call_well work (setup_of links) a lawful = setup_well links a
call_well work (insert_of entry) a lawful = insert_well a lawful work entry
call_well work take_it a lawful = take_well a lawful
call_well work look_at a lawful = look_well a lawful
call_well work held_now a lawful = held_well a lawful
call_well work audit_it a lawful = audit_well a lawful

-- after an accepted call the plain book is sound
pub well_sound : (o : Outcome) → LeavesWell o → T (is_done o.answer) → T (sound (plain_book o.queue))
well_sound o well t = says_sound o.queue (well t).kept

-- and the lent array afterwards is as lawful as it was
pub afterwards_lawful : (a : Lent) (o : Outcome) → Lawful a → LeavesWell o → Lawful (afterwards a o)
unfolding afterwards queue_of
afterwards_lawful a o lawful well = go (is_done o.answer) refl
  where
    go : (b : Bool) → is_done o.answer ≡ b → Lawful (elim b [ true ↦ record { length = a.length; book = plain_book o.queue; buffers = o.queue.buffers } | false ↦ a ])
    go true e = record { describes = plain_describes o.queue; shape = λ number. (well (rw e tt)).shape }
    go false e = lawful

-- ---- of a queue by itself

-- a sound book of a queue, its marks and start places left out, is sound
pub plain_sound : (b : Book) (q : Queue) → Describes b q → T (sound b) → T (sound (plain_book q))
plain_sound b q d t = says_sound q (sound_says b q d t)

-- after a setup the plain book is sound
pub setup_sound : (links : ℕ) → T (is_link_number links) → T (sound (plain_book (fresh links)))
setup_sound links t = says_sound (fresh links) (fresh_kept links t)

module _ (q : Queue) (shape : Shaped q) (holds : T (sound (plain_book q))) where
  kept : Kept 7 q
  kept = sound_says (plain_book q) q (plain_describes q) holds

  -- after a take on a sound plain book it is
  pub take_sound : T (sound (plain_book (with_buffers q (take_one (key_of q) (tree_of q.links) q.buffers).buffers)))
  take_sound = says_sound (with_buffers q (take_one (key_of q) (tree_of q.links) q.buffers).buffers) (take_kept 7 q shape kept)

  -- and after a look
  pub look_sound : T (sound (plain_book (with_buffers q (ready (key_of q) (tree_of q.links) q.buffers).buffers)))
  look_sound = says_sound (with_buffers q (ready (key_of q) (tree_of q.links) q.buffers).buffers) (look_kept 7 q shape kept)

  -- and after an insert into a queue that is not full
  pub insert_sound : (e : ℕ) → held q < most q.links → T (sound (plain_book (inserted e q).queue))
  insert_sound e less = says_sound (inserted e q).queue (inserted_kept e q shape kept less)
