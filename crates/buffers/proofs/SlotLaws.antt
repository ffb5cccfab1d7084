-- The buffers' stretches lie apart, behind the book and inside the array; and where link i's buffer j lies.
use mathlib.Core.Path.{◌≡◌, refl, ap}
use mathlib.Core.Logic.{◌≢◌}
use mathlib.Core.Bool.{Bool}
use Prim.Native.Nat.{ℕ, zero, suc, ◌+◌, ◌*◌, ◌^◌, ◌≤◌, ◌<◌}
use native.Mathlib.Nat.{not-suc-le-zero, le_of_suc-le-suc}
use native.Mathlib.Decide.{dec_lt}
use native.Mathlib.Omega.{arith}
use mathlib.Core.List.{List, [], ◌∷◌}
use lib.Dec.{T, eqb, eqb→eq, leb, leb→le, lit≤}
use lib.ListN.{get_or, take}
use Rattle.rules.specs.Tests.{◌and◌, every}
use Rattle.rules.specs.Links.{k, first, capacity, start, offset, sum, words, buffer_count, most_links, all_buffers, LinkNumber, InLink, book_words}
use Rattle.rules.proofs.Table.{and_one, and_two, every_at, each_link_lem, at_most, at_least, in_book}
use Rattle.buffers.specs.Slots.{capacities, capacity_of, slot_of, base}

sums_apart : (l : List ℕ) (i j : ℕ) → i < j → sum (take i l) + get_or l i 0 ≤ sum (take j l)
unfolding sum
sums_apart [] zero j h = omega arith
sums_apart [] (suc i) j h = omega arith
sums_apart (x ∷ l) i zero h = absurd (not-suc-le-zero h)
sums_apart (x ∷ l) zero (suc j) h = omega arith
sums_apart (x ∷ l) (suc i) (suc j) h = omega (arith, sums_apart l i j (le_of_suc-le-suc h))

-- a stretch ends where a later one begins, or before
pub apart : (n m : ℕ) → n < m → base n + capacity_of n ≤ base m
unfolding base slot_of capacity_of
apart n m h = omega (arith, sums_apart capacities n m h)

-- I begins behind the book, A(1) behind I
pub base_zero : base 0 ≡ book_words
unfolding base
base_zero = refl

pub base_one : base 1 ≡ book_words + 8
unfolding base
base_one = refl

pub behind_book : (n : ℕ) → book_words ≤ base n
unfolding base
behind_book n = omega arith

-- no word lies in two stretches
pub not_both : (n m p : ℕ) → n ≢ m → base n ≤ p → p < base n + capacity_of n → base m ≤ p → p < base m + capacity_of m → ⊥
not_both n m p differ h₁ h₂ h₃ h₄ = go (dec_lt n m)
  where
    go : Dec (n < m) → ⊥
    go (yes lt) = omega (arith, apart n m lt)
    go (no le) = omega (arith, apart m n (omega arith))

-- the words that l links need end with their last buffer
pub words_end : {l : ℕ} → LinkNumber l → words l ≡ base (buffer_count l)
unfolding every words base buffer_count slot_of
words_end {l} h = eqb→eq (words l) (base (buffer_count l)) (each_link_lem (λ l. eqb (words l) (base (buffer_count l))) tt h)

pub in_words : {l : ℕ} → LinkNumber l → (n : ℕ) → n < buffer_count l → base n + capacity_of n ≤ words l
in_words {l} h n lt = omega (arith, words_end h, apart n (buffer_count l) lt)

-- 32 bits are enough for every place
pub base_small : (n : ℕ) → n < all_buffers → base n ≤ 2 ^ 32
unfolding words all_buffers
base_small n h =
    let all : LinkNumber most_links = record { low = lit≤ tt; high = omega arith } in
    let few : words most_links ≤ 2 ^ 32 = lit≤ tt in
    omega (arith, in_words all n h)

-- no queue has more buffers than one of the most links
pub no_more : {l : ℕ} → LinkNumber l → buffer_count l ≤ all_buffers
unfolding every buffer_count all_buffers
no_more = at_most buffer_count all_buffers tt

-- each of them has its word in the book
pub few : {l : ℕ} → LinkNumber l → 8 + buffer_count l ≤ book_words
few h = omega (arith, no_more h, in_book)

-- I and those of link 1
pub some : {l : ℕ} → LinkNumber l → 5 ≤ buffer_count l
unfolding every buffer_count
some = at_least buffer_count (buffer_count 1) tt

-- a count has 16 bits; behind the last buffer nothing has room
pub small_capacity : (n : ℕ) → 8 + n < book_words → capacity_of n ≤ 65535
unfolding every capacity_of
small_capacity n h = leb→le (capacity_of n) 65535 (every_at (λ n. leb (capacity_of n) 65535) 0 book_words tt n (omega arith) (omega arith))

-- ---- link i's buffer j

unfoldable placed_right : ℕ → ℕ → Bool
placed_right i j = eqb (capacity_of (first i + j)) (capacity i j) and eqb (slot_of (first i + j)) (start i + offset i j)

placed : {i j : ℕ} → InLink i j → T (placed_right i j)
unfolding every placed_right capacity_of slot_of capacity start offset first k
placed {i} {j} h = every_at (placed_right i) 0 (2 * k i) (each_link_lem (λ i. every (placed_right i) 0 (2 * k i)) tt h.link) j (omega arith) (omega (arith, h.below))

pub capacity_is : {i j : ℕ} → InLink i j → capacity_of (first i + j) ≡ capacity i j
unfolding placed_right
capacity_is {i} {j} h = eqb→eq (capacity_of (first i + j)) (capacity i j) (and_one (eqb (capacity_of (first i + j)) (capacity i j)) (eqb (slot_of (first i + j)) (start i + offset i j)) (placed h))

pub base_is : {i j : ℕ} → InLink i j → base (first i + j) ≡ book_words + (start i + offset i j)
unfolding placed_right base
base_is {i} {j} h =
    ap (λ n. book_words + n) (eqb→eq (slot_of (first i + j)) (start i + offset i j) (and_two (eqb (capacity_of (first i + j)) (capacity i j)) (eqb (slot_of (first i + j)) (start i + offset i j)) (placed h)))
