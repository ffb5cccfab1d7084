-- How many mergers stand one below the other, and that no link is lower or smaller than the one before it.
use Prim.Native.Nat.{ℕ, zero, suc, ◌+◌, ◌-◌, ◌*◌, ◌^◌, ◌≤◌, ◌<◌, max}
use mathlib.Core.Path.{◌≡◌, refl, ap, ◌∙◌}
use mathlib.Core.Bool.{Bool, true, false}
use mathlib.Core.List.{List, [], ◌∷◌}
use native.Mathlib.Omega.{arith}
use native.Mathlib.Nat.{le-max_left, le-max_right, max-le, pow-zero, pow-suc, pow-le-pow_left, pow-le-pow_right}
use lib.ListN.{length}
use lib.Pow.{pow_pos, pow_mono}
use lib.Dec.{leb, leb→le}
use Rattle.rules.specs.Links.{least, height_for, s, k, height, levels, capacity, first}
use Rattle.rules.specs.Tree.{Tree, merger, height_of, perfect, k_merger, links_from}
use Rattle.rules.proofs.Sizes.{by_leb, s_next, k_power, length_levels}
use Rattle.rules.proofs.Capacity.{leb-true, below_power}

-- "the height below falls at each call": it falls from a merger to each of its inputs
pub height_falls : (n c : ℕ) (one two : Tree) → (height_of one < height_of (merger n c one two)) × (height_of two < height_of (merger n c one two))
unfolding height_of
height_falls n c one two = (omega (arith, le-max_left (height_of one) (height_of two)), omega (arith, le-max_right (height_of one) (height_of two)))

-- ---- a perfect tree

max_self : (n : ℕ) → max n n ≡ n
max_self n = let low : n ≤ max n n = le-max_left n n in let high : max n n ≤ n = max-le {a = n} {b = n} {k = n} (omega arith) (omega arith) in omega arith

-- it has a merger on each level
pub perfect_height : (a size : ℕ) (cs : List ℕ) (j : ℕ) → height_of (perfect a size cs j) ≡ length cs
unfolding height_of perfect
perfect_height a size [] j = refl
perfect_height a size (c ∷ cs) j = rw (perfect_height a size cs (2 * j), perfect_height a size cs (suc (2 * j)), max_self (length cs))

pub k_merger_height : (i : ℕ) → 0 < i → height_of (k_merger i) ≡ height i
unfolding k_merger
k_merger_height i link = rw (perfect_height (first i) (s i) (levels i) 1) (length_levels i link)

-- ---- from link to link

-- the least that passes is not above one that passes
least_at_most : (test : ℕ → Bool) (m : ℕ) → test m ≡ true → (tries n : ℕ) → n ≤ m → least test tries n ≤ m
unfolding least
least_at_most test m passes zero n low = low
least_at_most test m passes (suc tries) n low =
    by_leb m n (λ b. least test (suc tries) n ≤ m)
    (λ q. let e : n ≡ m = omega arith in let t : test n ≡ true = ap test e ∙ passes in rw (t, least) low)
    (λ q. go (test n) (least_at_most test m passes tries (suc n) q))
  where
    go : (b : Bool) → least test tries (suc n) ≤ m → elim b [ true ↦ n | false ↦ least test tries (suc n) ] ≤ m
    go true h = low
    go false h = h

-- and it passes where the last that is tried does
least_passes : (test : ℕ → Bool) (m : ℕ) → test m ≡ true → (tries n : ℕ) → n + tries ≡ m → test (least test tries n) ≡ true
unfolding least
least_passes test m last zero n e = let same : n ≡ m = omega arith in ap test same ∙ last
least_passes test m last (suc tries) n e = go (least_passes test m last tries (suc n) (omega arith)) (test n) refl
  where
    go : test (least test tries (suc n)) ≡ true → (b : Bool) → test n ≡ b → test (elim b [ true ↦ n | false ↦ least test tries (suc n) ]) ≡ true
    go further true h = h
    go further false h = further

cube_large : (n : ℕ) → n ≤ (2 ^ n) ^ 3
cube_large n = let one : (2 ^ n) ^ 1 ≡ 2 ^ n = rw (pow-suc (2 ^ n) 0, pow-zero (2 ^ n)) (omega arith) in omega (arith, below_power n, pow-le-pow_right {n = 2 ^ n} (pow_pos n) {i = 1} {j = 3} (omega arith))

-- more entries, no fewer levels
height_for_mono : (a b : ℕ) → a ≤ b → height_for a ≤ height_for b
unfolding height_for
height_for_mono a b h =
    let enough : leb b ((2 ^ height_for b) ^ 3) ≡ true = least_passes (λ h. leb b ((2 ^ h) ^ 3)) b (leb-true b ((2 ^ b) ^ 3) (cube_large b)) b 0 (omega arith) in
    let large : b ≤ (2 ^ height_for b) ^ 3 = leb→le b ((2 ^ height_for b) ^ 3) (rw enough tt) in
    least_at_most (λ h. leb a ((2 ^ h) ^ 3)) (height_for b) (leb-true a ((2 ^ height_for b) ^ 3) (omega arith)) a 0 (omega arith)

-- no link is lower than the one before it
pub height_rises : (i : ℕ) → 0 < i → height i ≤ height (suc i)
unfolding height
height_rises i link = height_for_mono (s i) (s (suc i)) (omega (arith, s_next i link))

-- nor than any before it
height_mono : (i n : ℕ) → 0 < i → height i ≤ height (i + n)
height_mono i zero link = let e : i + 0 ≡ i = omega arith in rw e (omega arith)
height_mono i (suc n) link = let e : i + suc n ≡ suc (i + n) = omega arith in rw e (omega (arith, height_mono i n link, height_rises (i + n) (omega arith)))

-- nor has it a smaller A
pub a_rises : (i : ℕ) → 0 < i → capacity i 0 ≤ capacity (suc i) 0
unfolding capacity
a_rises i link = pow-le-pow_left {n = k i} {m = k (suc i)} (rw (k_power i, k_power (suc i)) (pow_mono {i = height i} {j = height (suc i)} (height_rises i link))) 3

-- so many links, of which the last is at most m
pub links_height : (n i m : ℕ) → 0 < i → i + n ≤ suc m → height_of (links_from i n) ≤ n + height m
unfolding height_of links_from
links_height zero i m link last = omega arith
links_height (suc n) i m link last =
    let e : i + (m - i) ≡ m = omega arith in
    let here : height_of (k_merger i) ≤ n + height m = omega (arith, k_merger_height i link, rw e at (height_mono i (m - i) link)) in
    let further = links_height n (suc i) m (omega arith) (omega arith) in
    omega (arith, max-le {a = height_of (k_merger i)} {b = height_of (links_from (suc i) n)} {k = n + height m} here further)
