-- The steps of a history are bounded, and its packings are rare.
use Prim.Native.Nat.{ℕ, zero, suc, ◌+◌, ◌-◌, ◌*◌, ◌≤◌}
use mathlib.Core.Path.{◌≡◌, subst}
use native.Mathlib.Omega.{arith}
use mathlib.Core.Bool.{Bool}
use lib.Dec.{T, leb, leb→le}
use Rattle.rules.specs.Tests.{every}
use Rattle.rules.specs.Links.{s, k, height, capacity, most_links, LinkNumber}
use Rattle.rules.specs.Bounds.{per_insert, per_packing, steps_bound, rows}
use Rattle.rules.specs.Queue.{Queue}
use Rattle.rules.specs.Book.{is_link_number}
use Rattle.rules.proofs.Table.{and_one, and_two, every_at}
use Rattle.rules.proofs.Credits.{carried}
use Rattle.rules.proofs.Bound.{Paid, outputs_most}
use Rattle.rules.proofs.History.{Since, steps_bound_lem}

-- a link number is a link's
pub is_link : (l : ℕ) → T (is_link_number l) → LinkNumber l
unfolding is_link_number
is_link l t = record { low = leb→le 1 l (and_one (leb 1 l) (leb l most_links) t); high = leb→le l most_links (and_two (leb 1 l) (leb l most_links) t) }

-- what a sweep to link i costs at most
unfoldable sweep_cost : ℕ → ℕ
unfolding height s outputs_most
sweep_cost i = (i + height i) * s i + outputs_most 0 1 (i - 1)

-- where each insert pays a, all S of the first i links carry so much together, and each S of link i what is left of eight inserts and of that after a sweep to it
unfoldable carried_up_to : ℕ → ℕ → ℕ
unfolding sweep_cost k
carried_up_to a zero = 0
carried_up_to a (suc i) = let before = carried_up_to a i in before + k (suc i) * (8 * a + before - sweep_cost (suc i))

unfoldable credit : ℕ → ℕ → ℕ
unfolding carried_up_to
credit a i = 8 * a + carried_up_to a (i - 1) - sweep_cost i

-- that is enough for each sweep
unfoldable paid_for : ℕ → ℕ → Bool
unfolding credit sweep_cost carried per_insert
paid_for l i = leb (credit (per_insert l) i + sweep_cost i) (8 * per_insert l + carried (credit (per_insert l)) 1 (i - 1))

abbrev Enough : ℕ → Type 0
Enough l = Paid l (per_insert l) (per_packing l) (credit (per_insert l))

-- "2n + 32P, 6n + 384P, 13n + 5,760P, 22n + 138,240P", and "33n + 5,875,200P" for a fifth link
paid : (l : ℕ) → 1 ≤ l → l ≤ 5 → Enough l
unfolding every paid_for sweep_cost per_packing capacity k
paid l some few =
    record {
      sweep = λ i low high.
          leb→le (credit (per_insert l) i + sweep_cost i) (8 * per_insert l + carried (credit (per_insert l)) 1 (i - 1))
          (every_at (paid_for l) 1 l (every_at (λ l. every (paid_for l) 1 l) 1 5 tt l some (omega arith)) i low (omega arith));
      packing = omega arith;
    }

-- "steps bound"
pub few_steps : (l : ℕ) → T (is_link_number l) → {n p t : ℕ} {q : Queue} → Since l n p t q → t ≤ steps_bound l n p
unfolding steps_bound
few_steps l number h = steps_bound_lem l number (per_insert l) (per_packing l) (credit (per_insert l)) (paid l (is_link l number).low (omega (arith, (is_link l number).high))) h

-- the rows, from the one bound
pub four_rows : (l n p t : ℕ) → t ≤ steps_bound l n p
    → (l ≡ 1 → t ≤ 2 * n + 32 * p) × (l ≡ 2 → t ≤ 6 * n + 384 * p) × (l ≡ 3 → t ≤ 13 * n + 5760 * p) × (l ≡ 4 → t ≤ 22 * n + 138240 * p)
four_rows l n p t h =
    let r = rows n p in
    let at : (m : ℕ) → l ≡ m → t ≤ steps_bound m n p = λ m e. subst (λ l. t ≤ steps_bound l n p) e h in
    (λ e. omega (arith, at 1 e, r.0), λ e. omega (arith, at 2 e, r.1), λ e. omega (arith, at 3 e, r.2), λ e. omega (arith, at 4 e, r.3))
