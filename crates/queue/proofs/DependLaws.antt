-- All that a call depends on: lent arrays with the same length, link number, verdict on the book and queue are answered alike.
use Prim.Native.Nat.{ℕ}
use mathlib.Core.Path.{◌≡◌, refl, sym, ap, ◌∙◌, subst}
use mathlib.Core.Bool.{Bool, true, false}
use mathlib.Core.List.{List, [], ◌∷◌}
use lib.Dec.{T, leb, ltb, leb→le}
use Rattle.rules.specs.Answers.{Answer, Done, NoSuchLinks, ArrayShort, WorkShort, BookBroken, Full, NoneHeld, DoorAbove, OrderBroken, is_done}
use Rattle.rules.specs.Entries.{door}
use Rattle.rules.specs.Links.{most, words}
use Rattle.rules.specs.Tree.{tree_of}
use Rattle.rules.specs.Take.{Taken, ready, take_one}
use Rattle.rules.specs.Queue.{Queue, key_of, held, fresh}
use Rattle.rules.specs.Insert.{inserted}
use Rattle.rules.specs.Order.{in_order}
use Rattle.rules.specs.Book.{is_link_number, sound}
use Rattle.rules.specs.Calls.{Lent, Outcome, Check, ◌else◌, first_failing, refused, unless, array_checks, insert_checks, take_checks, the_entry, with_buffers, queue_of}
use Rattle.rules.specs.Calls as rules
use Rattle.rules.specs.Examples.{Order, setup_of, insert_of, take_it, look_at, held_now, audit_it, call}
use Rattle.rules.proofs.Tests.{truth}
use Rattle.rules.proofs.Accepted.{Long}
use Rattle.queue.proofs.CheckLaws.{unlike}

-- the same answer, word, steps and packing, and where it is accepted the same queue
pub record Same (o p : Outcome) : Type 0 where
  pub answers : o.answer ≡ p.answer
  pub words : o.word ≡ p.word
  pub steps : o.steps ≡ p.steps
  pub packings : o.packed ≡ p.packed
  pub queues : is_done o.answer ≡ true → o.queue ≡ p.queue

same_self : (o : Outcome) → Same o o
same_self o = record { answers = refl; words = refl; steps = refl; packings = refl; queues = λ e. refl }

-- a refusal says nothing of the queue
refused_same : (refusal : Answer) (q r : Queue) (x y : Outcome) → is_done refusal ≡ false → Same (unless refusal q x) (unless refusal r y)
unfolding unless refused
refused_same refusal q r x y e = go (is_done refusal) refl e
  where
    go : (b : Bool) → is_done refusal ≡ b → b ≡ false → Same (elim b [ true ↦ x | false ↦ refused refusal q ]) (elim b [ true ↦ y | false ↦ refused refusal r ])
    go true is f = absurd (unlike f)
    go false is f = record { answers = refl; words = refl; steps = refl; packings = refl; queues = λ d. absurd (unlike (sym d ∙ is)) }

module _ (q r : Queue) (x y : Outcome) where
  abbrev Answered : List Check → List Check → Type 0
  Answered checks others = Same (unless (first_failing checks) q x) (unless (first_failing others) r y)

  -- a check that says the same of both
  check_same : (t u : Bool) (refusal : Answer) (checks others : List Check) → t ≡ u → is_done refusal ≡ false → (T t → Answered checks others)
      → Answered ((t else refusal) ∷ checks) ((u else refusal) ∷ others)
  unfolding first_failing
  check_same true true refusal checks others e refuses next = next tt
  check_same true false refusal checks others e refuses next = absurd (unlike e)
  check_same false true refusal checks others e refuses next = absurd (unlike (sym e))
  check_same false false refusal checks others e refuses next = refused_same refusal q r x y refuses

-- all that a call depends on: the length, the link number, the verdict on the book where the array is long enough, and the queue where the book is sound
pub record Depends (a b : Lent) : Type 0 where
  pub lengths : a.length ≡ b.length
  pub numbers : a.book.links ≡ b.book.links
  pub verdicts : Long a → sound a.book ≡ sound b.book
  pub queues : Long a → sound a.book ≡ true → queue_of a ≡ queue_of b

abbrev done_with : ℕ → ℕ → Bool → Queue → Outcome
done_with word steps packed q = record { answer = Done; word = word; steps = steps; packed = packed; queue = q }

abbrev taken : Queue → Taken
taken q = take_one (key_of q) (tree_of q.links) q.buffers

module _ (a b : Lent) (alike : Depends a b) where
  -- "all others: 2 (296 words), 4 (link number), 2 (its L)"
  array_same : (x y : Outcome) (checks others : List Check) → (Long a → Answered (queue_of a) (queue_of b) x y checks others)
      → Answered (queue_of a) (queue_of b) x y (array_checks a checks) (array_checks b others)
  unfolding array_checks is_done
  array_same x y checks others next =
      let l = a.book.links in
      let m = b.book.links in
      let third = (leb (words l) a.length else ArrayShort) ∷ checks in
      let third' = (leb (words m) b.length else ArrayShort) ∷ others in
      let at = check_same (queue_of a) (queue_of b) x y in
      at (leb (words 1) a.length) (leb (words 1) b.length) ArrayShort ((is_link_number l else BookBroken) ∷ third) ((is_link_number m else BookBroken) ∷ third')
      (ap (leb (words 1)) alike.lengths) refl
      (λ shortest. at (is_link_number l) (is_link_number m) BookBroken third third' (ap is_link_number alike.numbers) refl
      (λ number. at (leb (words l) a.length) (leb (words m) b.length) ArrayShort checks others (λ i. leb (words (alike.numbers i)) (alike.lengths i)) refl
      (λ enough. next (record { shortest = leb→le (words 1) a.length shortest; number = number; enough = leb→le (words l) a.length enough }))))

  module _ (others : Queue → List Check) (done : Queue → Outcome) where
    abbrev After : Lent → List Check
    After z = (sound z.book else BookBroken) ∷ others (queue_of z)

    -- the book's check, and behind it whatever a call does with the queue
    book_checked : Long a → Answered (queue_of a) (queue_of b) (done (queue_of a)) (done (queue_of b)) (After a) (After b)
    unfolding is_done
    book_checked long =
        let q = queue_of a in
        let r = queue_of b in
        check_same q r (done q) (done r) (sound a.book) (sound b.book) BookBroken (others q) (others r) (alike.verdicts long) refl
        (λ holds. subst (λ (z : Queue). Answered q z (done q) (done z) (others q) (others z)) (alike.queues long (truth (sound a.book) holds)) (same_self (unless (first_failing (others q)) q (done q))))

    -- a call that looks at the book right behind the array's checks
    book_first : Answered (queue_of a) (queue_of b) (done (queue_of a)) (done (queue_of b)) (array_checks a (After a)) (array_checks b (After b))
    book_first = array_same (done (queue_of a)) (done (queue_of b)) (After a) (After b) book_checked

  -- a setup looks at the length alone
  setup_same : (links : ℕ) → Same (rules.setup links a) (rules.setup links b)
  unfolding rules.setup is_done
  setup_same links =
      let now = done_with 0 0 false (fresh links) in
      let at = check_same (queue_of a) (queue_of b) now now in
      at (is_link_number links) (is_link_number links) NoSuchLinks ((leb (words links) a.length else ArrayShort) ∷ []) ((leb (words links) b.length else ArrayShort) ∷ []) refl refl
      (λ number. at (leb (words links) a.length) (leb (words links) b.length) ArrayShort [] [] (ap (leb (words links)) alike.lengths) refl (λ enough. same_self now))

  -- an insert's work area is looked at before the book, by the link number alone
  insert_same : (work entry : ℕ) → Same (rules.insert work entry a) (rules.insert work entry b)
  unfolding rules.insert insert_checks queue_of is_done
  insert_same work entry =
      let others : Queue → List Check = λ q. (leb (door entry) 2 else DoorAbove) ∷ (ltb (held q) (most q.links) else Full) ∷ [] in
      let done : Queue → Outcome = λ q. let i = inserted entry q in done_with 0 i.steps i.packed i.queue in
      let room : Lent → Bool = λ z. leb (most z.book.links) work in
      let x = done (queue_of a) in
      let y = done (queue_of b) in
      array_same x y ((room a else WorkShort) ∷ After others done a) ((room b else WorkShort) ∷ After others done b)
      (λ long. check_same (queue_of a) (queue_of b) x y (room a) (room b) WorkShort (After others done a) (After others done b) (ap (λ l. leb (most l) work) alike.numbers) refl
      (λ enough. book_checked others done long))

  take_same : Same (rules.take a) (rules.take b)
  unfolding rules.take take_checks
  take_same = book_first (λ q. (ltb 0 (held q) else NoneHeld) ∷ []) (λ q. done_with (the_entry (taken q).out) (taken q).steps false (with_buffers q (taken q).buffers))

  look_same : Same (rules.look a) (rules.look b)
  unfolding rules.look take_checks
  look_same =
      book_first (λ q. (ltb 0 (held q) else NoneHeld) ∷ [])
      (λ q. done_with (the_entry (taken q).out) (taken q).steps false (with_buffers q (ready (key_of q) (tree_of q.links) q.buffers).buffers))

  held_same : Same (rules.held_call a) (rules.held_call b)
  unfolding rules.held_call
  held_same = book_first (λ q. []) (λ q. done_with (held q) 0 false q)

  audit_same : Same (rules.audit a) (rules.audit b)
  unfolding rules.audit
  audit_same = book_first (λ q. (in_order (key_of q) (tree_of q.links) q.buffers else OrderBroken) ∷ []) (λ q. done_with 0 0 false q)

  pub call_same : (work : ℕ) (order : Order) → Same (call work order a) (call work order b)
  unfolding call
  call_same work (setup_of links) = setup_same links
  call_same work (insert_of entry) = insert_same work entry
  call_same work take_it = take_same
  call_same work look_at = look_same
  call_same work held_now = held_same
  call_same work audit_it = audit_same
