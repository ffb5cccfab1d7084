-- One call, of the rules: what it brings in and hands out is all that changes in what is held.
use Prim.Native.Nat.{ℕ, ◌+◌, ◌≤◌, ◌<◌}
use mathlib.Core.Path.{◌≡◌, refl, sym, ap, subst}
use mathlib.Core.Bool.{Bool, true, false}
use mathlib.Core.List.{List, [], ◌∷◌}
use native.Mathlib.Omega.{arith}
use borrow.Author.Tests.{eq-eqb}
use lib.Dec.{T, T_not, eqb}
use lib.ListN.{length}
use Rattle.rules.specs.Answers.{Answer, Done, is_done}
use Rattle.rules.specs.Links.{words}
use Rattle.rules.specs.Book.{is_link_number}
use Rattle.rules.specs.Tree.{tree_of}
use Rattle.rules.specs.Take.{insertion, take_one}
use Rattle.rules.specs.Queue.{Queue, key_of, held, fresh}
use Rattle.rules.specs.Order.{in_order}
use Rattle.rules.specs.Calls.{Lent, Outcome, queue_of, refused, the_entry, with_buffers, setup, insert, take, look, held_call, audit}
use Rattle.rules.specs.Examples.{Order, setup_of, insert_of, take_it, look_at, held_now, audit_it, call}
use Rattle.rules.proofs.Weight.{sum_of, sum_of_ones, one_if, held_weight}
use Rattle.rules.proofs.Takes.{Beside}
use Rattle.rules.proofs.TakeLaws.{weight_all, take_one_lem, take_pays, ready_pays, none_weighs}
use Rattle.rules.proofs.TakeOrder.{take_smallest}
use Rattle.rules.proofs.Held.{held_split}
use Rattle.rules.proofs.Numbering.{tree_roomy}
use Rattle.rules.proofs.BookKept.{beside_tree, fresh_empty, fresh_held}
use Rattle.rules.proofs.InsertLaws.{inserted_keeps, inserted_links}
use Rattle.rules.proofs.Accepted.{Refusal, take_cases, look_cases, setup_cases, insert_call_cases, held_cases, audit_cases}
use Rattle.rules.proofs.History.{Fine}
use Rattle.demands.specs.Histories.{is_setup, brought, handed, once}

-- ---- tests

pub once_is : (b : Bool) → once b ≡ one_if b
once_is true = refl
once_is false = refl

-- ---- what is held

-- a refusal is not an accepted call
refused_not : (answer : Answer) (q : Queue) → Refusal answer → T (is_done (refused answer q).answer) → ⊥
unfolding refused
refused_not answer q r d = T_not (is_done answer) r.not_done d

-- what all entries of a queue weigh together, each by itself
abbrev pub weight_of : (ℕ → ℕ) → Queue → ℕ
weight_of g q = weight_all (λ d. g) (tree_of q.links) q.buffers

-- each entry 1: the number held
pub held_is : (q : Queue) → held q ≡ weight_of (λ e. 1) q
held_is q = omega (arith, held_split q, sum_of_ones (insertion q.buffers), held_weight (tree_of q.links) 0 q.buffers)

-- the one entry of a run of one
pub one_entry : (es : List ℕ) → length es ≡ 1 → the_entry es ∷ [] ≡ es
unfolding the_entry
one_entry [] e = absurd (omega arith)
one_entry (x ∷ []) e = refl
one_entry (x ∷ y ∷ es) e = absurd (omega arith)

module _ {links : ℕ} (a : Lent) (fine : Fine links (queue_of a)) where
  abbrev q : Queue
  q = queue_of a

  beside : Beside (tree_of q.links) (length q.buffers)
  beside = beside_tree q.links q.buffers (omega (arith, fine.shape.buffers))

  -- one entry comes out where one is held
  comes_out : 0 < held q → the_entry (take_one (key_of q) (tree_of q.links) q.buffers).out ∷ [] ≡ (take_one (key_of q) (tree_of q.links) q.buffers).out
  comes_out some =
      let z = take_one (key_of q) (tree_of q.links) q.buffers in
      one_entry z.out (take_one_lem (key_of q) (tree_roomy q.links) q.buffers beside (omega (arith, held_split q)))

  not_done : (answer : Answer) → Refusal answer → T (is_done (refused answer q).answer) → ⊥
  not_done answer r d = refused_not answer q r d

  -- what an accepted call hands out and what is held then is what it brought in and what was held
  abbrev pub Moves : Order → Outcome → Type 0
  Moves order o = T (is_done o.answer) → (g : ℕ → ℕ) → sum_of g (handed order o.word) + weight_of g o.queue ≡ sum_of g (brought order) + weight_of g q

  moves_take : Moves take_it (take a)
  unfolding with_buffers
  moves_take =
      take_cases a (Moves take_it) (λ answer r d. absurd (not_done answer r d)) (λ may d g.
      omega (arith, ap (sum_of g) (comes_out may.some), take_pays (λ d. g) 0 (λ d x. omega arith) (key_of q) (tree_of q.links) q.buffers beside))

  moves_look : Moves look_at (look a)
  unfolding with_buffers
  moves_look =
      look_cases a (Moves look_at) (λ answer r d. absurd (not_done answer r d)) (λ may d g.
      omega (arith, ready_pays (λ d. g) 0 (λ d x. omega arith) (key_of q) (tree_of q.links) q.buffers beside))

  moves_insert : (work entry : ℕ) → Moves (insert_of entry) (insert work entry a)
  moves_insert work entry =
      insert_call_cases a (Moves (insert_of entry)) (λ answer r d. absurd (not_done answer r d)) work entry (λ may d g.
      rw (inserted_links entry q fine.shape fine.kept may.not_full) (omega (arith, inserted_keeps entry q fine.shape fine.kept may.not_full g)))

  pub moves : (work : ℕ) (order : Order) → is_setup order ≡ false → Moves order (call work order a)
  unfolding call
  moves work (setup_of links) e = absurd (subst T e tt)
  moves work (insert_of entry) e = moves_insert work entry
  moves work take_it e = moves_take
  moves work look_at e = moves_look
  moves work held_now e = held_cases a (Moves held_now) (λ answer r d. absurd (not_done answer r d)) (λ long holds d g. refl)
  moves work audit_it e = audit_cases a (Moves audit_it) (λ answer r d. absurd (not_done answer r d)) (λ long holds order d g. refl)

-- how often a value is held
abbrev pub times_held : ℕ → Queue → ℕ
times_held v q = weight_of (λ e. one_if (eqb v e)) q

-- an entry of those held whose key is the smallest
pub record LeastHeld (q : Queue) (e : ℕ) : Type 0 where
  pub there : 0 < times_held e q
  pub least : (v : ℕ) → 0 < times_held v q → key_of q e ≤ key_of q v

-- an entry is itself
pub itself : (e : ℕ) → one_if (eqb e e) ≡ 1
itself e = rw (eq-eqb e e refl) refl

module _ {links : ℕ} (a : Lent) (fine : Fine links (queue_of a)) (order : T (in_order (key_of (queue_of a)) (tree_of (queue_of a).links) (queue_of a).buffers)) where
  abbrev q₁ : Queue
  q₁ = queue_of a

  least : 0 < held q₁ → LeastHeld q₁ (the_entry (take_one (key_of q₁) (tree_of q₁.links) q₁.buffers).out)
  least some =
      let z = take_one (key_of q₁) (tree_of q₁.links) q₁.buffers in
      let e = the_entry z.out in
      let out = comes_out a fine some in
      record {
        there =
            omega (
              arith,
              ap (sum_of (λ x. one_if (eqb e x))) out,
              itself e,
              take_pays (λ d x. one_if (eqb e x)) 0 (λ d x. omega arith) (key_of q₁) (tree_of q₁.links) q₁.buffers (beside a fine),
            );
        least = λ v held. take_smallest (key_of q₁) (tree_roomy q₁.links) q₁.buffers (beside a fine) order e (sym out) v held;
      }

  -- the word of an accepted take, and of an accepted look
  pub least_taken : T (is_done (take a).answer) → LeastHeld q₁ (take a).word
  least_taken = take_cases a (λ o. T (is_done o.answer) → LeastHeld q₁ o.word) (λ answer r d. absurd (not_done a fine answer r d)) (λ may d. least may.some)

  pub least_seen : T (is_done (look a).answer) → LeastHeld q₁ (look a).word
  least_seen = look_cases a (λ o. T (is_done o.answer) → LeastHeld q₁ o.word) (λ answer r d. absurd (not_done a fine answer r d)) (λ may d. least may.some)

-- ---- refusals, and setups

-- "Every refusal changes nothing", and gives a zero word and zero steps
pub record Plain (a : Lent) (o : Outcome) : Type 0 where
  pub word : o.word ≡ 0
  pub steps : o.steps ≡ 0
  pub packed : o.packed ≡ false
  pub queue : o.queue ≡ queue_of a

module _ (a : Lent) where
  abbrev PlainIf : Outcome → Type 0
  PlainIf o = is_done o.answer ≡ false → Plain a o

  plain_refused : (answer : Answer) → Refusal answer → PlainIf (refused answer (queue_of a))
  unfolding refused
  plain_refused answer r e = record { word = refl; steps = refl; packed = refl; queue = refl }

  done_not : is_done Done ≡ false → ⊥
  unfolding is_done
  done_not e = subst T e tt

  pub refusal_plain : (work : ℕ) (order : Order) → PlainIf (call work order a)
  unfolding call
  refusal_plain work (setup_of links) = setup_cases links a PlainIf (λ number long r. absurd (done_not r)) plain_refused
  refusal_plain work (insert_of entry) = insert_call_cases a PlainIf plain_refused work entry (λ may r. absurd (done_not r))
  refusal_plain work take_it = take_cases a PlainIf plain_refused (λ may r. absurd (done_not r))
  refusal_plain work look_at = look_cases a PlainIf plain_refused (λ may r. absurd (done_not r))
  refusal_plain work held_now = held_cases a PlainIf plain_refused (λ long holds r. absurd (done_not r))
  refusal_plain work audit_it = audit_cases a PlainIf plain_refused (λ long holds order r. absurd (done_not r))

  -- what an accepted setup says
  pub record Begun (links : ℕ) (o : Outcome) : Type 0 where
    pub number : T (is_link_number links)
    pub long : words links ≤ a.length
    pub queue : o.queue ≡ fresh links

  pub setup_begun : (links : ℕ) → T (is_done (setup links a).answer) → Begun links (setup links a)
  setup_begun links =
      setup_cases links a (λ o. T (is_done o.answer) → Begun links o) (λ number long d. record { number = number; long = long; queue = refl })
      (λ answer r d. absurd (none answer r d))
    where
      none : (answer : Answer) → Refusal answer → T (is_done (refused answer (queue_of a)).answer) → ⊥
      none answer r d = refused_not answer (queue_of a) r d

-- a fresh queue has nothing to weigh
pub fresh_weight : (g : ℕ → ℕ) (links : ℕ) → weight_of g (fresh links) ≡ 0
unfolding fresh insertion
fresh_weight g links =
    let bs = (fresh links).buffers in
    omega (arith, ap (sum_of g) (fresh_empty links 0), none_weighs (λ d. g) (tree_of links) 0 bs (fresh_held links (tree_of links)))

-- the word of an accepted held is the number held
pub held_word : (a : Lent) → T (is_done (held_call a).answer) → (held_call a).word ≡ held (queue_of a)
held_word a = held_cases a (λ o. T (is_done o.answer) → o.word ≡ held (queue_of a)) (λ answer r d. absurd (refused_not answer (queue_of a) r d)) (λ long holds d. refl)

-- ---- what a call does not report

module _ (a : Lent) where
  abbrev Unpacked : Outcome → Type 0
  Unpacked o = o.packed ≡ false

  refused_unpacked : (answer : Answer) → Refusal answer → Unpacked (refused answer (queue_of a))
  unfolding refused
  refused_unpacked answer r = refl

  refused_steps : (answer : Answer) → Refusal answer → (refused answer (queue_of a)).steps ≡ 0
  unfolding refused
  refused_steps answer r = refl

  -- a setup makes no steps, and only an insert packs
  pub setup_steps : (links : ℕ) → (setup links a).steps ≡ 0
  setup_steps links = setup_cases links a (λ o. o.steps ≡ 0) (λ number long. refl) refused_steps

  pub setup_unpacked : (links : ℕ) → (setup links a).packed ≡ false
  setup_unpacked links = setup_cases links a Unpacked (λ number long. refl) refused_unpacked

  pub take_unpacked : (take a).packed ≡ false
  take_unpacked = take_cases a Unpacked refused_unpacked (λ may. refl)

  pub look_unpacked : (look a).packed ≡ false
  look_unpacked = look_cases a Unpacked refused_unpacked (λ may. refl)

  pub held_unpacked : (held_call a).packed ≡ false
  held_unpacked = held_cases a Unpacked refused_unpacked (λ long holds. refl)

  pub audit_unpacked : (audit a).packed ≡ false
  audit_unpacked = audit_cases a Unpacked refused_unpacked (λ long holds order. refl)
