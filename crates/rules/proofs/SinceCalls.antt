-- Calls one after the other since a setup: accepted inserts, packings and merge steps are those of `Since`, so its bounds hold of every session.
use Prim.Native.Nat.{ℕ, suc, ◌+◌, ◌/◌, ◌≤◌}
use mathlib.Core.Path.{◌≡◌, refl, sym, subst}
use mathlib.Core.Bool.{Bool, true, false, not}
use mathlib.Core.List.{List, [], ◌∷◌}
use native.Mathlib.Omega.{arith}
use native.Mathlib.Nat.{add-zero, zero-add, add_assoc}
use lib.Dec.{T, T_not}
use Rattle.rules.specs.Answers.{Answer, Done, is_done}
use Rattle.rules.specs.Tree.{Tree, entries, tree_of}
use Rattle.rules.specs.Merge.{merge_step}
use Rattle.rules.specs.Take.{ready, take_one, insertion}
use Rattle.rules.specs.Queue.{Queue, key_of, fresh}
use Rattle.rules.specs.Insert.{inserted}
use Rattle.rules.specs.Links.{s}
use Rattle.rules.specs.Book.{is_link_number, plain_book}
use Rattle.rules.specs.Calls.{Lent, Outcome, queue_of, refused, insert, take, look, held_call, audit, afterwards}
use Rattle.rules.specs.Examples.{Order, setup_of, insert_of, take_it, look_at, held_now, audit_it, call}
use Rattle.rules.proofs.Weight.{one_if}
use Rattle.rules.proofs.Takes.{hand_steps}
use Rattle.rules.proofs.Accepted.{Refusal, setup_cases, take_cases, look_cases, insert_call_cases, held_cases, audit_cases}
use Rattle.rules.proofs.History.{Since, then_insert, then_take, then_look, packings_bound}
use Rattle.rules.proofs.History as history
use Rattle.rules.proofs.BoundLaws.{few_steps}
use Rattle.rules.specs.Calls as calls
use Rattle.rules.specs.Bounds.{steps_bound}

-- whether an order is an insert, and whether it is a setup
abbrev pub is_insert : Order → Bool
is_insert (setup_of links) = false
is_insert (insert_of entry) = true
is_insert take_it = false
is_insert look_at = false
is_insert held_now = false
is_insert audit_it = false

abbrev pub is_setup : Order → Bool
is_setup (setup_of links) = true
is_setup (insert_of entry) = false
is_setup take_it = false
is_setup look_at = false
is_setup held_now = false
is_setup audit_it = false

-- 1 for an accepted insert
abbrev pub inserts_in : Bool → Outcome → ℕ
inserts_in true o = one_if (is_done o.answer)
inserts_in false o = 0

-- a look's steps are those of its fill
take_steps : (key : ℕ → ℕ) (t : Tree) (q : Queue) → (take_one key t q.buffers).steps ≡ (ready key t q.buffers).steps
unfolding take_one
take_steps key t q = let now = ready key t q.buffers in hand_steps t (merge_step key (entries t now.buffers) (insertion now.buffers)) now

module _ {links n p t : ℕ} (a : Lent) (h : Since links n p t (queue_of a)) where
  -- the queue goes on since its setup, with this call's insert, packing and steps added
  abbrev Goes : Bool → Outcome → Type 0
  Goes b o = Since links (n + inserts_in b o) (p + one_if o.packed) (t + o.steps) o.queue

  same : Since links (n + 0) (p + 0) (t + 0) (queue_of a)
  same = rw (add-zero n, add-zero p, add-zero t) h

  not_one : (answer : Answer) → Refusal answer → one_if (is_done answer) ≡ 0
  not_one answer r = go (is_done answer) r.not_done
    where
      go : (b : Bool) → T (not b) → one_if b ≡ 0
      go true r = absurd r
      go false r = refl

  goes_refused : (b : Bool) (answer : Answer) → Refusal answer → Goes b (refused answer (queue_of a))
  unfolding refused
  goes_refused true answer r = rw (not_one answer r) same
  goes_refused false answer r = same

  goes_take : Goes false (take a)
  goes_take = take_cases a (Goes false) (goes_refused false) (λ may. rw (add-zero n, add-zero p) (then_take h))

  goes_look : Goes false (look a)
  goes_look = look_cases a (Goes false) (goes_refused false) (λ may. rw (add-zero n, add-zero p, take_steps (key_of (queue_of a)) (tree_of (queue_of a).links) (queue_of a)) (then_look h))

  goes_insert : (work entry : ℕ) → Goes true (insert work entry a)
  unfolding is_done
  goes_insert work entry = insert_call_cases a (Goes true) (goes_refused true) work entry (λ may. let e : n + 1 ≡ suc n = omega arith in rw e (then_insert entry may.not_full h))

  goes_held : Goes false (held_call a)
  goes_held = held_cases a (Goes false) (goes_refused false) (λ long holds. same)

  goes_audit : Goes false (audit a)
  goes_audit = audit_cases a (Goes false) (goes_refused false) (λ long holds order. same)

  -- every call but a setup
  pub goes_on : (work : ℕ) (order : Order) → is_setup order ≡ false → Goes (is_insert order) (call work order a)
  unfolding call
  goes_on work (setup_of links) e = absurd (subst T e tt)
  goes_on work (insert_of entry) e = goes_insert work entry
  goes_on work take_it e = goes_take
  goes_on work look_at e = goes_look
  goes_on work held_now e = goes_held
  goes_on work audit_it e = goes_audit

-- ---- the array after a call

-- "Every refusal changes nothing"
abbrev Unchanged : Lent → Outcome → Type 0
Unchanged a o = is_done o.answer ≡ false → o.queue ≡ queue_of a

module _ (a : Lent) where
  unchanged : (answer : Answer) → Refusal answer → Unchanged a (refused answer (queue_of a))
  unfolding refused
  unchanged answer r e = refl

  done_not : is_done Done ≡ false → ⊥
  unfolding is_done
  done_not e = subst T e tt

  accepted : (word steps : ℕ) (packed : Bool) (q : Queue) → Unchanged a (record { answer = Done; word = word; steps = steps; packed = packed; queue = q })
  unfolding is_done
  accepted word steps packed q e = absurd (subst T e tt)

  refusal_keeps : (work : ℕ) (order : Order) → is_setup order ≡ false → Unchanged a (call work order a)
  unfolding call
  refusal_keeps work (setup_of links) e = absurd (subst T e tt)
  refusal_keeps work (insert_of entry) e = insert_call_cases a (Unchanged a) unchanged work entry (λ may. accepted 0 (inserted entry (queue_of a)).steps (inserted entry (queue_of a)).packed (inserted entry (queue_of a)).queue)
  refusal_keeps work take_it e = take_cases a (Unchanged a) unchanged (λ may r. absurd (done_not r))
  refusal_keeps work look_at e = look_cases a (Unchanged a) unchanged (λ may r. absurd (done_not r))
  refusal_keeps work held_now e = held_cases a (Unchanged a) unchanged (λ long holds r. absurd (done_not r))
  refusal_keeps work audit_it e = audit_cases a (Unchanged a) unchanged (λ long holds order r. absurd (done_not r))

  -- the queue in it is the outcome's
  pub queue_after : (work : ℕ) (order : Order) → is_setup order ≡ false → queue_of (afterwards a (call work order a)) ≡ (call work order a).queue
  unfolding afterwards queue_of plain_book
  queue_after work order e = go (is_done (call work order a).answer) refl
    where
      o : Outcome
      o = call work order a

      go : (b : Bool) → is_done o.answer ≡ b → queue_of (elim b [ true ↦ record { length = a.length; book = plain_book o.queue; buffers = o.queue.buffers } | false ↦ a ]) ≡ o.queue
      go true d = refl
      go false d = sym (refusal_keeps work order e d)

-- ---- sessions

-- no order is a setup
abbrev pub NoSetup : List Order → Type 0
NoSetup [] = Unit {0}
NoSetup (order ∷ orders) = (is_setup order ≡ false) × NoSetup orders

-- the sum of what each call of a session gives, and the array after them all
abbrev pub summed : (Order → Outcome → ℕ) → ℕ → List Order → Lent → ℕ
summed f work [] a = 0
summed f work (order ∷ orders) a = f order (call work order a) + summed f work orders (afterwards a (call work order a))

abbrev pub after_all : ℕ → List Order → Lent → Lent
after_all work [] a = a
after_all work (order ∷ orders) a = after_all work orders (afterwards a (call work order a))

abbrev pub inserts_of : Order → Outcome → ℕ
inserts_of order o = inserts_in (is_insert order) o

abbrev pub packings_of : Order → Outcome → ℕ
packings_of order o = one_if o.packed

abbrev pub steps_of : Order → Outcome → ℕ
steps_of order o = o.steps

pub session_since : {links : ℕ} (n p t work : ℕ) (orders : List Order) (a : Lent) → NoSetup orders → Since links n p t (queue_of a)
    → Since links (n + summed inserts_of work orders a) (p + summed packings_of work orders a) (t + summed steps_of work orders a) (queue_of (after_all work orders a))
session_since n p t work [] a e h = rw (add-zero n, add-zero p, add-zero t) h
session_since {links} n p t work (order ∷ orders) a e h =
    let o = call work order a in
    let next = subst (Since links (n + inserts_of order o) (p + packings_of order o) (t + steps_of order o)) (sym (queue_after a work order e.0)) (goes_on a h work order e.0) in
    let now = afterwards a o in
    rw (sym (add_assoc n (inserts_of order o) (summed inserts_of work orders now)), sym (add_assoc p (packings_of order o) (summed packings_of work orders now)), sym (add_assoc t (steps_of order o) (summed steps_of work orders now)))
    (session_since (n + inserts_of order o) (p + packings_of order o) (t + steps_of order o) work orders now e.1 next)

-- ---- the bounds, of any session since a setup

done_after : (links : ℕ) (a : Lent) → queue_of (afterwards a (record { answer = Done; word = 0; steps = 0; packed = false; queue = fresh links })) ≡ fresh links
unfolding afterwards queue_of plain_book is_done
done_after links a = refl

not_refused : (answer : Answer) (a : Lent) → Refusal answer → T (is_done (refused answer (queue_of a)).answer) → ⊥
unfolding refused
not_refused answer a r d = T_not (is_done answer) r.not_done d

-- an accepted setup leaves the fresh queue
pub setup_fresh : (links : ℕ) (a : Lent) → T (is_done (calls.setup links a).answer) → queue_of (afterwards a (calls.setup links a)) ≡ fresh links
setup_fresh links a = setup_cases links a (λ o. T (is_done o.answer) → queue_of (afterwards a o) ≡ fresh links) (λ number long. left) (λ answer r d. absurd (refused_not answer r d))
  where
    left : T (is_done Done) → queue_of (afterwards a (record { answer = Done; word = 0; steps = 0; packed = false; queue = fresh links })) ≡ fresh links
    left d = done_after links a

    refused_not : (answer : Answer) → Refusal answer → T (is_done (refused answer (queue_of a)).answer) → ⊥
    refused_not answer r d = not_refused answer a r d

module _ (work : ℕ) (orders : List Order) (a : Lent) (none : NoSetup orders) where
  abbrev n : ℕ
  n = summed inserts_of work orders a

  abbrev p : ℕ
  p = summed packings_of work orders a

  abbrev t : ℕ
  t = summed steps_of work orders a

  pub since_setup : (links : ℕ) → queue_of a ≡ fresh links → Since links n p t (queue_of (after_all work orders a))
  since_setup links e = rw (zero-add n, zero-add p, zero-add t) at (session_since 0 0 0 work orders a none (subst (Since links 0 0 0) (sym e) history.setup))

  -- "n: accepted inserts since setup. P: packings since setup": their steps keep the bound
  pub session_bounded : (links : ℕ) → T (is_link_number links) → queue_of a ≡ fresh links → t ≤ steps_bound links n p
  session_bounded links number e = few_steps links number (since_setup links e)

  -- "at most n divided by s(L), rounded down"
  pub packings_few : (links : ℕ) → T (is_link_number links) → queue_of a ≡ fresh links → p ≤ n / s links
  packings_few links number e = packings_bound links number (since_setup links e)
