-- What filling v(1) can cost, link by link.
use Prim.Native.Nat.{ℕ, suc, ◌+◌, ◌-◌, ◌≤◌, ◌<◌}
use mathlib.Core.Path.{◌≡◌, refl, ap}
use native.Mathlib.Omega.{arith}
use Rattle.rules.specs.Links.{capacity}
use Rattle.rules.specs.Tree.{k_merger, links_from, tree_of}
use Rattle.rules.specs.Longest.{risen, longest_fill, longest_take}
use Rattle.limits.proofs.SizeLaws.{take_few}

-- so much is summed before link i
pub record LinksSummed (links i total : ℕ) : Type 0 where
  pub low : 1 ≤ i
  pub high : i ≤ links + 1
  pub kept : total + longest_fill (links_from i (links + 1 - i)) ≡ longest_take links

pub links_first : (links : ℕ) → LinksSummed links 1 0
unfolding longest_take tree_of
links_first links =
    let all : links + 1 - 1 ≡ links = omega arith in
    record { low = omega arith; high = omega arith; kept = omega (arith, ap (λ n. longest_fill (links_from 1 n)) all) }

-- the link that comes next
pub links_next : (links i total : ℕ) → LinksSummed links i total → i ≤ links → (total + (capacity i 0 + risen (k_merger i)) ≤ longest_take links) × LinksSummed links (i + 1) (total + (capacity i 0 + risen (k_merger i)))
unfolding longest_fill links_from
links_next links i total sum more =
    let here : links + 1 - i ≡ suc (links - i) = omega arith in
    let later : links + 1 - (i + 1) ≡ links - i = omega arith in
    let next : i + 1 ≡ suc i = omega arith in
    let before : longest_fill (links_from i (links + 1 - i)) ≡ capacity i 0 + (risen (k_merger i) + longest_fill (links_from (suc i) (links - i))) = rw here refl in
    let after : longest_fill (links_from (i + 1) (links + 1 - (i + 1))) ≡ longest_fill (links_from (suc i) (links - i)) = rw (later, next) refl in
    (omega (arith, sum.kept, before), record { low = omega arith; high = omega arith; kept = omega (arith, sum.kept, before, after) })

-- with the numbers that were asked for, and no more in all than five links cost
pub link_added : (links i total own below : ℕ) → LinksSummed links i total → i ≤ links → links ≤ 5 → own ≡ capacity i 0 → below ≡ risen (k_merger i)
    → (total + (own + below) ≤ 223488) × LinksSummed links (i + 1) (total + (own + below))
link_added links i total own below sum more five a r =
    let n = links_next links i total sum more in
    rw (a, r) (omega (arith, n.0, take_few links (omega (arith, sum.low)) five), n.1)

-- behind the last link it is all
pub links_last : (links i total : ℕ) → LinksSummed links i total → links < i → total ≡ longest_take links
unfolding longest_fill links_from
links_last links i total sum past =
    let none : links + 1 - i ≡ 0 = omega arith in
    omega (arith, sum.kept, ap (λ n. longest_fill (links_from i n)) none)
