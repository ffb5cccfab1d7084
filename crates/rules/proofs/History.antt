-- A queue since its setup: the book rules hold, steps are bounded, packings are rare.
use Prim.Native.Nat.{ℕ, suc, ◌+◌, ◌*◌, ◌/◌, ◌≤◌, ◌<◌}
use mathlib.Core.Path.{◌≡◌, refl, ◌∙◌, subst}
use mathlib.Core.List.{[]}
use native.Mathlib.Omega.{arith}
use native.Mathlib.Nat.{le-div_iff_mul-le, mul-add}
use lib.ListN.{get_or}
use lib.Dec.{T}
use Rattle.rules.specs.Links.{s, most}
use Rattle.rules.specs.Tree.{tree_of}
use Rattle.rules.specs.Take.{insertion, ready, take_one}
use Rattle.rules.specs.Queue.{Queue, key_of, held, fresh}
use Rattle.rules.specs.Order.{ascends, ordered, in_order}
use Rattle.rules.specs.Insert.{inserted}
use Rattle.rules.specs.Book.{is_link_number}
use Rattle.rules.specs.Calls.{with_buffers}
use Rattle.rules.proofs.Tests.{and_both}
use Rattle.rules.proofs.Weight.{one_if}
use Rattle.rules.proofs.Ordered.{says_ascends, says_ordered, none_all_ordered}
use Rattle.rules.proofs.TakeOrder.{take_ordered, ready_ordered}
use Rattle.rules.proofs.Sizes.{s_least}
use Rattle.rules.proofs.Numbering.{tree_roomy}
use Rattle.rules.proofs.BookLaws.{Kept}
use Rattle.rules.proofs.BookKept.{fresh_empty, fresh_held, Shaped, beside_tree, take_shrinks, ready_shrinks, take_kept, look_kept, take_shaped, look_shaped, fresh_kept, fresh_shaped}
use Rattle.rules.proofs.PackKept.{number_some}
use Rattle.rules.proofs.InsertLaws.{inserted_ordered, inserted_kept, inserted_shaped, inserted_links}
use Rattle.rules.proofs.Bound.{Paid, potential, insert_potential, take_potential, look_potential, fresh_potential}
use Rattle.rules.proofs.Packings.{since, insert_since, shrinks_since, fresh_since}

-- a queue of so many links, and since its setup: the accepted inserts, the packings, and the merge steps of all calls
pub data Since (links : ℕ) : (inserts packings steps : ℕ) → Queue → Type 0 where
  setup : Since links 0 0 0 (fresh links)
  then_insert : {n p t : ℕ} {q : Queue} (e : ℕ) → held q < most q.links → Since links n p t q
      → Since links (suc n) (p + one_if (inserted e q).packed) (t + (inserted e q).steps) (inserted e q).queue
  then_take : {n p t : ℕ} {q : Queue} → Since links n p t q
      → Since links n p (t + (take_one (key_of q) (tree_of q.links) q.buffers).steps) (with_buffers q (take_one (key_of q) (tree_of q.links) q.buffers).buffers)
  then_look : {n p t : ℕ} {q : Queue} → Since links n p t q
      → Since links n p (t + (ready (key_of q) (tree_of q.links) q.buffers).steps) (with_buffers q (ready (key_of q) (tree_of q.links) q.buffers).buffers)

-- what is known of a queue at any time since
pub record Fine (links : ℕ) (q : Queue) : Type 0 where
  pub same : q.links ≡ links
  pub shape : Shaped q
  pub kept : Kept 7 q

-- a queue just set up is in order
pub fresh_ordered : (links : ℕ) → T (in_order (key_of (fresh links)) (tree_of (fresh links).links) (fresh links).buffers)
unfolding in_order insertion
fresh_ordered links =
    let key = key_of (fresh links) in
    let t = tree_of (fresh links).links in
    let bs = (fresh links).buffers in
    and_both (ascends key 0 (get_or bs 0 [])) (ordered key t 0 bs) (rw (fresh_empty links 0) (says_ascends key 0 [] tt)) (says_ordered key t 0 bs (none_all_ordered key t 0 bs (fresh_held links t)))

module _ (links : ℕ) (number : T (is_link_number links)) where
  -- the book rules hold ever since
  pub since_fine : {n p t : ℕ} {q : Queue} → Since links n p t q → Fine links q
  unfolding fresh with_buffers
  since_fine setup = record { same = refl; shape = fresh_shaped links; kept = fresh_kept links number }
  since_fine (then_insert {q = q} e less h) =
      let f = since_fine h in
      record { same = inserted_links e q f.shape f.kept less ∙ f.same; shape = inserted_shaped e q f.shape f.kept less; kept = inserted_kept e q f.shape f.kept less }
  since_fine (then_take {q = q} h) =
      let f = since_fine h in
      record { same = f.same; shape = take_shaped 7 q f.shape f.kept; kept = take_kept 7 q f.shape f.kept }
  since_fine (then_look {q = q} h) =
      let f = since_fine h in
      record { same = f.same; shape = look_shaped 7 q f.shape f.kept; kept = look_kept 7 q f.shape f.kept }

  -- and the order rule
  pub since_ordered : {n p t : ℕ} {q : Queue} → Since links n p t q → T (in_order (key_of q) (tree_of q.links) q.buffers)
  unfolding with_buffers key_of
  since_ordered setup = fresh_ordered links
  since_ordered (then_insert {q = q} e less h) =
      let f = since_fine h in
      rw (inserted_links e q f.shape f.kept less) (inserted_ordered e q f.shape f.kept less (since_ordered h))
  since_ordered (then_take {q = q} h) =
      take_ordered (key_of q) (tree_roomy q.links) q.buffers (beside_tree q.links q.buffers (omega (arith, (since_fine h).shape.buffers))) (since_ordered h)
  since_ordered (then_look {q = q} h) =
      ready_ordered (key_of q) (tree_roomy q.links) q.buffers (beside_tree q.links q.buffers (omega (arith, (since_fine h).shape.buffers))) (since_ordered h)

  module _ (a b : ℕ) (g : ℕ → ℕ) (paid : Paid links a b g) where
    since_paid : {n p t : ℕ} {q : Queue} → Since links n p t q → t + potential a g q ≤ a * n + b * p
    since_paid setup = omega (arith, fresh_potential a g links)
    since_paid (then_insert {q = q} e less h) =
        let f = since_fine h in
        omega (arith, insert_potential a g b e q (rw f.same paid) f.shape f.kept less, since_paid h)
    since_paid (then_take {q = q} h) = omega (arith, take_potential a g q (since_fine h).shape, since_paid h)
    since_paid (then_look {q = q} h) = omega (arith, look_potential a g q (since_fine h).shape, since_paid h)

    -- "steps bound": a for each accepted insert and b for each packing
    pub steps_bound_lem : {n p t : ℕ} {q : Queue} → Since links n p t q → t ≤ a * n + b * p
    steps_bound_lem h = omega (arith, since_paid h)

  since_counted : {n p t : ℕ} {q : Queue} → Since links n p t q → s links * p + since q ≤ n
  since_counted setup = omega (arith, fresh_since links)
  since_counted (then_insert {p = p} {q = q} e less h) =
      let f = since_fine h in
      let x = one_if (inserted e q).packed in
      let one : s links * x + since (inserted e q).queue ≤ since q + 1 = subst (λ l. s l * x + since (inserted e q).queue ≤ since q + 1) f.same (insert_since e q f.shape f.kept less) in
      omega (arith, since_counted h, mul-add (s links) p x)
  since_counted (then_take {q = q} h) =
      let f = since_fine h in
      omega (arith, shrinks_since q (take_one (key_of q) (tree_of q.links) q.buffers).buffers (take_shrinks (key_of q) (tree_roomy q.links) q.buffers (beside_tree q.links q.buffers (omega (arith, f.shape.buffers)))), since_counted h)
  since_counted (then_look {q = q} h) =
      let f = since_fine h in
      omega (arith, shrinks_since q (ready (key_of q) (tree_of q.links) q.buffers).buffers (ready_shrinks (key_of q) (tree_roomy q.links) q.buffers (beside_tree q.links q.buffers (omega (arith, f.shape.buffers)))), since_counted h)

  -- "P: packings since setup, at most n divided by s(L), rounded down"
  pub packings_bound : {n p t : ℕ} {q : Queue} → Since links n p t q → p ≤ n / s links
  packings_bound {n} {p} h =
      let some : 0 < s links = omega (arith, s_least links (number_some number)) in
      let enough : p * s links ≤ n = omega (arith, since_counted h) in
      (le-div_iff_mul-le some).1 enough
