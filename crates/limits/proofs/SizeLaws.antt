-- The sizes of five links: what a computed test says of each.
use Prim.Native.Nat.{ℕ, suc, ◌+◌, ◌*◌, ◌^◌, ◌≤◌, ◌<◌}
use mathlib.Core.Path.{◌≡◌, sym, ap, ◌∙◌}
use mathlib.Core.Bool.{Bool}
use mathlib.Core.List.{List, [], ◌∷◌}
use native.Mathlib.Omega.{arith}
use native.Mathlib.Nat.{two-pow-succ}
use lib.Dec.{T, leb, leb→le, eqb, eqb→eq}
use lib.ListN.{get_or}
use lib.Pow.{pow_pos, pow_mono}
use Rattle.rules.specs.Tests.{every}
use Rattle.rules.specs.Links.{k, height, capacity, most_links, most, LinkNumber, InLink}
use Rattle.rules.specs.Tree.{k_merger}
use Rattle.rules.specs.Longest.{risen, longest_take}
use Rattle.rules.proofs.Table.{every_at, at_least, in_link}
use Rattle.rules.proofs.Sizes.{by_leb, k_power}

-- at most so much, of one to five links
at_most_five : (f : ℕ → ℕ) (m : ℕ) → T (every (λ i. leb (f i) m) 1 5) → (i : ℕ) → 1 ≤ i → i ≤ 5 → f i ≤ m
at_most_five f m t i low high = leb→le (f i) m (every_at (λ i. leb (f i) m) 1 5 t i low (omega arith))

pub k_few : (i : ℕ) → 1 ≤ i → i ≤ 5 → k i ≤ 32
unfolding every k
k_few = at_most_five k 32 tt

pub height_few : (i : ℕ) → 1 ≤ i → i ≤ 5 → height i ≤ 5
unfolding every height
height_few = at_most_five height 5 tt

pub risen_few : (i : ℕ) → 1 ≤ i → i ≤ 5 → risen (k_merger i) ≤ 223488
unfolding every risen k_merger
risen_few = at_most_five (λ i. risen (k_merger i)) 223488 tt

pub take_few : (links : ℕ) → 1 ≤ links → links ≤ 5 → longest_take links ≤ 223488
unfolding every longest_take
take_few = at_most_five longest_take 223488 tt

-- of the last link of a queue
pub most_some : {links : ℕ} → LinkNumber links → 8 ≤ most links
unfolding every most
most_some = at_least most 8 tt

-- ---- the fifth link

-- document 02, R-8: "k = 32"
pub fifth_k : {i : ℕ} → i ≡ 5 → 32 ≡ k i
unfolding k
fifth_k e = sym (ap k e)

-- document 02, R-8: "A and B of 32,768, inner buffers 2 of 8, 4 of 23, 8 of 182, 16 of 8": level r has so many buffers of one size, from a number on
abbrev sizes : List ℕ
sizes = 32768 ∷ 8 ∷ 23 ∷ 182 ∷ 8 ∷ []

abbrev many : List ℕ
many = 2 ∷ 2 ∷ 4 ∷ 8 ∷ 16 ∷ []

abbrev lows : List ℕ
lows = 0 ∷ 2 ∷ 4 ∷ 8 ∷ 16 ∷ []

level_right : ℕ → Bool
unfolding every
level_right r = every (λ j. eqb (get_or sizes r 0) (capacity 5 j)) (get_or lows r 0) (get_or many r 0)

levels_right : T (every level_right 0 5)
unfolding every level_right capacity
levels_right = tt

pub fifth : (r : ℕ) → T (leb (suc r) 5) → {i j : ℕ} → i ≡ 5 → get_or lows r 0 ≤ j → j < get_or lows r 0 + get_or many r 0 → get_or sizes r 0 ≡ capacity i j
unfolding level_right
fifth r known {i} {j} e low high =
    let size = get_or sizes r 0 in
    let level = every_at level_right 0 5 levels_right r (omega arith) (leb→le (suc r) 5 known) in
    eqb→eq size (capacity 5 j) (every_at (λ j. eqb size (capacity 5 j)) (get_or lows r 0) (get_or many r 0) level j low high) ∙ ap (λ i. capacity i j) (sym e)

-- a buffer that is no S of a link that a queue has
pub no_s : (i j : ℕ) → 1 ≤ i → i ≤ most_links → j < k i → InLink i j
no_s i j low high less = in_link (record { low = low; high = high }) (omega arith)

-- ---- k(i) is two to the height

-- the smaller power has the smaller exponent
power_below : (a b : ℕ) → 2 ^ a < 2 ^ b → a < b
power_below a b h = by_leb b a (λ t. a < b) (λ l. absurd (omega (arith, pow_mono {i = b} {j = a} l))) (λ l. l)

power_within : (a b : ℕ) → 2 ^ a ≤ 2 ^ b → a ≤ b
power_within a b h = by_leb a b (λ t. a ≤ b) (λ l. l) (λ l. absurd (omega (arith, pow_mono {i = suc b} {j = a} l, two-pow-succ b, pow_pos b)))

pub height_log : (i log : ℕ) → 2 ^ log ≤ k i → k i < 2 * 2 ^ log → log ≡ height i
height_log i log low high =
    let least : height i < suc log = power_below (height i) (suc log) (omega (arith, k_power i, two-pow-succ log)) in
    let most : log ≤ height i = power_within log (height i) (omega (arith, k_power i)) in
    omega arith
