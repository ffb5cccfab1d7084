-- Packings are rare: s(L) accepted inserts go before each.
use Prim.Native.Nat.{ℕ, suc, ◌+◌, ◌-◌, ◌*◌, ◌≤◌, ◌<◌}
use mathlib.Core.Path.{◌≡◌, ap}
use native.Mathlib.Omega.{arith}
use lib.ListN.{length}
use Rattle.rules.specs.Links.{s, k, most}
use Rattle.rules.specs.Tree.{Buffers, tree_of}
use Rattle.rules.specs.Take.{insertion}
use Rattle.rules.specs.Queue.{Queue, key_of, counter, held, fresh}
use Rattle.rules.specs.Insert.{Inserted, swept, packed, entered, inserted}
use Rattle.rules.specs.Calls.{with_buffers}
use Rattle.rules.proofs.Weight.{one_if}
use Rattle.rules.proofs.Sizes.{by_leb}
use Rattle.rules.proofs.Credits.{credits, carried, credits_none, credits_full, s_carried, sweep_credits}
use Rattle.rules.proofs.SweepLaws.{swept_insertion}
use Rattle.rules.proofs.PackLaws.{laid_insertion}
use Rattle.rules.proofs.BookLaws.{Kept}
use Rattle.rules.proofs.BookKept.{Shaped, Shrinks, fresh_empty, fresh_counter}
use Rattle.rules.proofs.SweepKept.{s_one}
use Rattle.rules.proofs.PackKept.{number_some, run, all_fit_lem, counter_before}
use Rattle.rules.proofs.InsertLaws.{entered_long, insert_cases, now_shaped, now_kept, now_room, destination, at_least, spent, counter_some, unspent, swept_before, swept_at, swept_behind}

-- what stands in I, and s(i) for each used S of each link but the last: so many inserts were accepted since the last packing, at least
abbrev pub since : Queue → ℕ
since q = length (insertion q.buffers) + credits s (counter q) 1 (q.links - 1)

-- 8 and what the links before i carry, each used S s(i)
before_carried : (i : ℕ) → 1 ≤ i → 8 + carried s 1 (i - 1) ≡ s i
before_carried i link = let e : 1 + (i - 1) ≡ i = omega arith in omega (arith, rw e at (s_carried (i - 1) 1 (omega arith)), s_one)

module _ (e : ℕ) (q : Queue) (shape : Shaped q) (kept : Kept 7 q) (less : held q < most q.links) where
  abbrev now : Queue
  now = entered e q

  abbrev i : ℕ
  i = destination e q shape kept less

  abbrev Counted : Inserted → Type 0
  Counted z = s q.links * one_if z.packed + since z.queue ≤ since q + 1

  now_since : since now ≡ since q + 1
  unfolding entered counter
  now_since = omega (arith, entered_long e q shape)

  spent_here : (m : ℕ) → 1 ≤ m → m < i → m ≤ now.links → counter now m ≡ suc (k m)
  spent_here = spent e q shape kept less

  module _ (eight : length (insertion now.buffers) ≡ 8) (there : i ≤ now.links) where
    link : 1 ≤ i
    link = at_least e q shape kept less

    sweep_counted : Counted (swept i now)
    unfolding swept entered
    sweep_counted =
        let c = counter now i in
        let l = now.links in
        let c' = counter (swept i now).queue in
        let fall = swept_before e q shape kept less there in
        let none = ap length (swept_insertion (key_of now) l i c link there (counter_some e q shape kept less there) (unspent e q shape kept less there) now.buffers (now_room e q shape kept less)) in
        by_leb l i (λ b. s q.links * 0 + since (swept i now).queue ≤ since q + 1)
        (λ last. omega (arith, none, credits_none s c' (l - 1) 1 (λ m low high. fall m low (omega arith))))
        (λ before.
        omega (
          arith,
          none,
          before_carried i link,
          now_since,
          sweep_credits s (counter now) c' (l - 1) i link (omega arith) fall (swept_at e q shape kept less there) (swept_behind e q shape kept less there)
              (λ m some early. spent_here m some early (omega arith)) (counter_some e q shape kept less there),
        ))

  module _ (eight : length (insertion now.buffers) ≡ 8) (past : now.links < i) where
    abbrev fine : Kept 8 now
    fine = now_kept e q shape kept less

    abbrev shaped : Shaped now
    shaped = now_shaped e q shape kept less

    pack_counted : Counted (packed now)
    unfolding packed entered
    pack_counted =
        let l = now.links in
        let some = number_some fine.number in
        let none = ap length (laid_insertion l some (run 8 now shaped fine) (all_fit_lem 8 now shaped fine)) in
        omega (
          arith,
          none,
          now_since,
          before_carried l some,
          credits_full s (counter now) (l - 1) 1 (λ m low high. spent_here m low (omega arith) (omega arith)),
          credits_none s (counter (packed now).queue) (l - 1) 1 (λ m low high. counter_before 8 now shaped fine m low (omega arith)),
        )

  -- an insert counts for one, and a packing uses up s(L)
  pub insert_since : s q.links * one_if (inserted e q).packed + since (inserted e q).queue ≤ since q + 1
  insert_since = insert_cases e q Counted (λ other. omega (arith, now_since)) sweep_counted pack_counted

-- takes and looks bring none
pub shrinks_since : (q : Queue) (after : Buffers) → Shrinks (tree_of q.links) q.buffers after → since (with_buffers q after) ≤ since q
unfolding with_buffers counter
shrinks_since q after h = omega (arith, h.fewer)

-- none since a setup
pub fresh_since : (links : ℕ) → since (fresh links) ≡ 0
unfolding insertion fresh
fresh_since links =
    omega (arith, ap length (fresh_empty links 0), credits_none s (counter (fresh links)) (links - 1) 1 (λ m low high. fresh_counter links m low (omega arith)))
