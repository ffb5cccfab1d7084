-- The steps bound: each accepted insert pays a, each packing pays b, and what a sweep costs is at hand when it is made.
use Prim.Native.Nat.{ℕ, zero, suc, ◌+◌, ◌-◌, ◌*◌, ◌≤◌, ◌<◌}
use mathlib.Core.Path.{◌≡◌, ap}
use mathlib.Core.List.{[]}
use native.Mathlib.Omega.{arith}
use native.Mathlib.Nat.{mul-le-mul_left}
use lib.ListN.{length, get_or}
use Rattle.rules.specs.Links.{s, height, capacity, first, most}
use Rattle.rules.specs.Tree.{Buffers, Tree, tree_of}
use Rattle.rules.specs.Take.{Taken, insertion, ready, take_one, take_all}
use Rattle.rules.specs.Queue.{Queue, key_of, counter, held, fresh}
use Rattle.rules.specs.Sweep.{outputs}
use Rattle.rules.specs.Insert.{Inserted, swept, packed, entered, inserted}
use Rattle.rules.specs.Calls.{with_buffers}
use Rattle.rules.proofs.Weight.{sum_of, sum_of_same, owed_in, one_if}
use Rattle.rules.proofs.TakeLaws.{none_weighs, take_pays, ready_pays}
use Rattle.rules.proofs.Takes.{Beside}
use Rattle.rules.proofs.LayLaws.{depth}
use Rattle.rules.proofs.Capacity.{Inside}
use Rattle.rules.proofs.Along.{owed_along}
use Rattle.rules.proofs.SweepLaws.{swept_insertion, swept_account}
use Rattle.rules.proofs.PackLaws.{pack_steps, pack_owed, laid_insertion}
use Rattle.rules.proofs.BookLaws.{Kept, links_inside}
use Rattle.rules.proofs.BookKept.{Shrinks, fresh_empty, fresh_held, fresh_counter, Shaped, beside_tree, take_shrinks, ready_shrinks}
use Rattle.rules.proofs.SweepKept.{rest_fits}
use Rattle.rules.proofs.PackKept.{number_some, all_fit_lem, S_used, used_most, counter_before, counter_last}
use Rattle.rules.proofs.InsertLaws.{entered_long, entered_owed, insert_cases, now_shaped, now_kept, now_room, destination, at_least, spent, counter_some, unspent, swept_before, swept_at, swept_behind}
use Rattle.rules.proofs.Credits.{credits, carried, credits_none, sweep_credits, pack_credits}
use Rattle.rules.proofs.Sizes.{k_some}
use Rattle.rules.proofs.Numbering.{tree_roomy}

-- ---- what the outputs of the links before i can owe

-- from link i on n outputs, each full, at depths from d on
unfoldable pub outputs_most : ℕ → ℕ → ℕ → ℕ
outputs_most d i zero = 0
outputs_most d i (suc n) = d * capacity i 0 + outputs_most (suc d) (suc i) n

outputs_most_lem : (bs : Buffers) (n d i : ℕ) → ((m : ℕ) → i ≤ m → m < i + n → length (get_or bs (first m) []) ≤ capacity m 0) → owed_along d (outputs i n) bs ≤ outputs_most d i n
unfolding outputs owed_along outputs_most
outputs_most_lem bs zero d i h = omega arith
outputs_most_lem bs (suc n) d i h =
    omega (arith, mul-le-mul_left d (h i (omega arith) (omega arith)), outputs_most_lem bs n (suc d) (suc i) (λ m low high. h m (omega arith) (omega arith)))

-- ---- what is paid

-- a for an insert and b for a packing are enough, with g(i) carried by each used S of link i
pub record Paid (links a b : ℕ) (g : ℕ → ℕ) : Type 0 where
  pub sweep : (i : ℕ) → 1 ≤ i → i ≤ links → g i + ((i + height i) * s i + outputs_most 0 1 (i - 1)) ≤ 8 * a + carried g 1 (i - 1)
  pub packing : (links + height links) * most links ≤ b

module _ (a : ℕ) (g : ℕ → ℕ) where
  -- what is owed, and what I and the used S carry
  abbrev pub potential : Queue → ℕ
  potential q = owed_in (tree_of q.links) q.buffers + a * length (insertion q.buffers) + credits g (counter q) 1 q.links

  module _ (b e : ℕ) (q : Queue) (paid : Paid q.links a b g) (shape : Shaped q) (kept : Kept 7 q) (less : held q < most q.links) where
    abbrev now : Queue
    now = entered e q

    abbrev i : ℕ
    i = destination e q shape kept less

    abbrev now_fine : Kept 8 now
    now_fine = now_kept e q shape kept less

    abbrev Enough : Inserted → Type 0
    Enough z = z.steps + potential z.queue ≤ potential q + a + b * one_if z.packed

    -- the entry in I carries what it paid
    now_potential : potential now ≡ potential q + a
    unfolding entered counter
    now_potential = omega (arith, entered_owed e q shape, ap (λ n. a * n) (entered_long e q shape))

    module _ (eight : length (insertion now.buffers) ≡ 8) (there : i ≤ now.links) where
      abbrev c : ℕ
      c = counter now i

      link : 1 ≤ i
      link = at_least e q shape kept less

      credits_now : credits g (counter (swept i now).queue) 1 now.links + carried g 1 (i - 1) ≡ credits g (counter now) 1 now.links + g i
      credits_now =
          sweep_credits g (counter now) (counter (swept i now).queue) now.links i link there
          (swept_before e q shape kept less there) (swept_at e q shape kept less there) (swept_behind e q shape kept less there)
          (λ m some before. spent e q shape kept less m some before (omega arith)) (counter_some e q shape kept less there)

      outputs_owe : owed_along 0 (outputs 1 (i - 1)) now.buffers ≤ outputs_most 0 1 (i - 1)
      unfolding tree_of
      outputs_owe =
          outputs_most_lem now.buffers (i - 1) 0 1 (λ m some before.
          let inside : Inside m now.buffers = links_inside now.buffers now.links 1 (omega arith) now_fine.fits m some (omega (arith, link)) in
          let e : first m + 0 ≡ first m = omega arith in
          rw e at (inside 0 (omega (arith, k_some m))))

      sweep_enough : Enough (swept i now)
      unfolding swept entered
      sweep_enough =
          let used = counter_some e q shape kept less there in
          let rest_of = unspent e q shape kept less there in
          let many = now_room e q shape kept less in
          let account = swept_account (key_of now) now.links i c link there used rest_of now.buffers many in
          let rest = rest_fits 8 now (now_shaped e q shape kept less) now_fine now_fine.few i link there rest_of in
          let none = ap length (swept_insertion (key_of now) now.links i c link there used rest_of now.buffers many) in
          let nothing : a * length (insertion (swept i now).queue.buffers) ≡ a * 0 = ap (λ n. a * n) none in
          let all_eight : a * length (insertion now.buffers) ≡ a * 8 = ap (λ n. a * n) eight in
          omega (arith, account, mul-le-mul_left (i + height i) rest, outputs_owe, credits_now, paid.sweep i link there, now_potential)

    module _ (eight : length (insertion now.buffers) ≡ 8) (past : now.links < i) where
      abbrev taken : Taken
      taken = take_all (key_of now) (tree_of now.links) now.buffers

      abbrev shaped : Shaped now
      shaped = now_shaped e q shape kept less

      some_links : 0 < now.links
      some_links = number_some now_fine.number

      credits_packed : credits g (counter (packed now).queue) 1 now.links ≤ credits g (counter now) 1 now.links
      unfolding packed
      credits_packed =
          pack_credits g (counter now) (counter (packed now).queue) now.links (S_used 8 now shaped now_fine) some_links
          (counter_before 8 now shaped now_fine) (counter_last 8 now shaped now_fine) (used_most 8 now shaped now_fine)
          (λ m some there. spent e q shape kept less m some (omega arith) there)

      pack_enough : Enough (packed now)
      unfolding packed entered
      pack_enough =
          let fits = all_fit_lem 8 now shaped now_fine in
          let many = now_room e q shape kept less in
          let steps = pack_steps (key_of now) now.links some_links now.buffers many in
          let owes = pack_owed (key_of now) now.links some_links now.buffers many fits in
          let none = ap length (laid_insertion now.links some_links taken.out fits) in
          let nothing : a * length (insertion (packed now).queue.buffers) ≡ a * 0 = ap (λ n. a * n) none in
          omega (arith, steps, owes, mul-le-mul_left (now.links + height now.links) fits, paid.packing, credits_packed, now_potential)

    -- what an insert costs is paid
    pub insert_potential : (inserted e q).steps + potential (inserted e q).queue ≤ potential q + a + b * one_if (inserted e q).packed
    insert_potential = insert_cases e q Enough (λ other. omega (arith, now_potential)) sweep_enough pack_enough

  module _ (q : Queue) (shape : Shaped q) where
    abbrev t : Tree
    t = tree_of q.links

    beside : Beside t (length q.buffers)
    beside = beside_tree q.links q.buffers (omega (arith, shape.buffers))

    -- steps that are paid with what was owed, and no more in I
    spends : (after : Buffers) (steps : ℕ) → Shrinks t q.buffers after → sum_of (depth 0) (insertion after) + owed_in t after + 1 * steps ≤ sum_of (depth 0) (insertion q.buffers) + owed_in t q.buffers
        → steps + potential (with_buffers q after) ≤ potential q
    unfolding with_buffers counter
    spends after steps sh h = omega (arith, sum_of_same 0 (insertion after), sum_of_same 0 (insertion q.buffers), mul-le-mul_left a sh.fewer)

    -- a take pays its steps with what was owed
    pub take_potential : (take_one (key_of q) t q.buffers).steps + potential (with_buffers q (take_one (key_of q) t q.buffers).buffers) ≤ potential q
    take_potential =
        let z = take_one (key_of q) t q.buffers in
        spends z.buffers z.steps (take_shrinks (key_of q) (tree_roomy q.links) q.buffers beside) (omega (arith, take_pays depth 1 (λ d x. omega arith) (key_of q) t q.buffers beside))

    -- and so does a look
    pub look_potential : (ready (key_of q) t q.buffers).steps + potential (with_buffers q (ready (key_of q) t q.buffers).buffers) ≤ potential q
    look_potential =
        let z = ready (key_of q) t q.buffers in
        spends z.buffers z.steps (ready_shrinks (key_of q) (tree_roomy q.links) q.buffers beside) (omega (arith, ready_pays depth 1 (λ d x. omega arith) (key_of q) t q.buffers beside))

  -- after a setup nothing is owed and nothing carried
  pub fresh_potential : (links : ℕ) → potential (fresh links) ≡ 0
  unfolding insertion fresh
  fresh_potential links =
      let none : a * length (get_or (fresh links).buffers 0 []) ≡ a * 0 = ap (λ es. a * length es) (fresh_empty links 0) in
      omega (
        arith,
        none_weighs depth (tree_of links) 0 (fresh links).buffers (fresh_held links (tree_of links)),
        credits_none g (counter (fresh links)) links 1 (λ m low high. fresh_counter links m low (omega arith)),
      )
