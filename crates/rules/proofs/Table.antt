-- A test that computes to true for every link, or for every buffer of a level, holds of each: how the code's sizes are the rule's.
use mathlib.Core.Path.{◌≡◌, sym, ap, subst}
use mathlib.Core.Bool.{Bool, true, false}
use Prim.Native.Nat.{ℕ, zero, suc, ◌+◌, ◌-◌, ◌*◌, ◌^◌, ◌≤◌, ◌<◌}
use native.Mathlib.Omega.{arith}
use native.Mathlib.Decide.{ℕ_discrete}
use lib.Dec.{T, eqb, eqb→eq, leb, leb→le, lit≤}
use Rattle.rules.specs.Tests.{◌and◌, every}
use Rattle.rules.specs.Links.{k, s, first, capacity, start, offset, most, most_links, all_buffers, widest, book_words, LinkNumber, InLink}

-- ---- tests

pub and_one : (a b : Bool) → T (a and b) → T a
and_one true b t = tt
and_one false b t = t

pub and_two : (a b : Bool) → T (a and b) → T b
and_two true b t = t
and_two false b t = absurd t

pub every_at : (test : ℕ → Bool) (lo n : ℕ) → T (every test lo n) → (j : ℕ) → lo ≤ j → j < lo + n → T (test j)
unfolding every
every_at test lo zero t j low high = absurd (omega arith)
every_at test lo (suc n) t j low high =
    go (and_one (test lo) (every test (suc lo) n) t) (ℕ_discrete j lo) (every_at test (suc lo) n (and_two (test lo) (every test (suc lo) n) t) j)
  where
    go : T (test lo) → Dec (j ≡ lo) → (suc lo ≤ j → j < suc lo + n → T (test j)) → T (test j)
    go here (yes e) further = rw e here
    go here (no e) further = further (omega arith) (omega arith)

-- a test that computes to true at every link that there is holds of each
pub each_link_lem : (test : ℕ → Bool) → T (every test 1 most_links) → {i : ℕ} → LinkNumber i → T (test i)
each_link_lem test t {i} h = every_at test 1 most_links t i h.low (omega (arith, h.high))

-- of any size f: no link has more than so many
pub at_most : (f : ℕ → ℕ) (m : ℕ) → T (every (λ i. leb (f i) m) 1 most_links) → {i : ℕ} → LinkNumber i → f i ≤ m
at_most f m t {i} h = leb→le (f i) m (each_link_lem (λ i. leb (f i) m) t h)

-- none has fewer
pub at_least : (f : ℕ → ℕ) (m : ℕ) → T (every (λ i. leb m (f i)) 1 most_links) → {i : ℕ} → LinkNumber i → m ≤ f i
at_least f m t {i} h = leb→le m (f i) (each_link_lem (λ i. leb m (f i)) t h)

-- and the code's arm for link n computes it
pub at_link : (f : ℕ → ℕ) (n i : ℕ) → i ≡ n → f n ≡ f i
at_link f n i e = ap f (sym e)

-- ---- levels: buffers of one size, one behind the other

-- buffer j of link i has the size of buffer `low`, and lies behind it by so many of them
unfoldable pub alike : ℕ → ℕ → ℕ → Bool
unfolding capacity start offset
alike i low j = eqb (capacity i low) (capacity i j) and eqb (start i + offset i low + capacity i low * (j - low)) (start i + offset i j)

module _ (i low n : ℕ) (known : T (every (alike i low) low n)) {i' j : ℕ} (h : InLink i' j) (of : i' ≡ i) (from : low ≤ j) (to : j < low + n) where
  here : T (alike i low j)
  here = every_at (alike i low) low n known j from to

  pub size_at : capacity i low ≡ capacity i' j
  unfolding alike
  size_at = rw of (eqb→eq (capacity i low) (capacity i j) (and_one (eqb (capacity i low) (capacity i j)) (eqb (start i + offset i low + capacity i low * (j - low)) (start i + offset i j)) here))

  pub slot_at : start i + offset i low + capacity i low * (j - low) ≡ start i' + offset i' j
  unfolding alike
  slot_at =
      subst (λ x. start i + offset i low + capacity i low * (j - low) ≡ start x + offset x j) (sym of) (eqb→eq (start i + offset i low + capacity i low * (j - low)) (start i + offset i j) (and_two (eqb (capacity i low) (capacity i j)) (eqb (start i + offset i low + capacity i low * (j - low)) (start i + offset i j)) here))

-- the same for a level that begins with buffer 0
pub slot_from : (i n : ℕ) → T (every (alike i 0) 0 n) → {i' j : ℕ} → InLink i' j → i' ≡ i → j < n → start i + offset i 0 + capacity i 0 * j ≡ start i' + offset i' j
slot_from i n known {i'} {j} h of to =
    let e : j - 0 ≡ j = omega arith in
    let at : start i + offset i 0 + capacity i 0 * (j - 0) ≡ start i' + offset i' j = slot_at i 0 n known h of (omega arith) (omega arith) in
    rw e at at

-- the numbers of link n's buffers end at 2k
pub below_end : (n : ℕ) {i j : ℕ} → InLink i j → i ≡ n → j < 2 * k n
below_end n {i} {j} h e = subst (λ i. j < 2 * k i) e h.below

-- ---- bounds of every link

-- each has two S at least
pub k_least : {i : ℕ} → LinkNumber i → 2 ≤ k i
unfolding every k
k_least = at_least k 2 tt

-- none is wider than the last
pub k_most : {i : ℕ} → LinkNumber i → 2 * k i ≤ widest
unfolding every widest
k_most = at_most (λ i. 2 * k i) widest tt

-- each buffer of a link has a word in the book
pub k_in_book : {i : ℕ} → LinkNumber i → 2 * k i ≤ book_words
unfolding every k
k_in_book = at_most (λ i. 2 * k i) book_words tt

-- an S's count has 16 bits
pub s_most : {i : ℕ} → LinkNumber i → s i ≤ 65535
unfolding every s
s_most = at_most s 65535 tt

-- and a queue's entries 20
pub most_few : {i : ℕ} → LinkNumber i → most i < 2 ^ 20
unfolding every most
most_few = at_most (λ i. suc (most i)) (2 ^ 20) tt

-- no number is above those of the last link's buffers
pub first_most : {i : ℕ} → LinkNumber i → first i + 2 * k i ≤ all_buffers
unfolding every first k all_buffers
first_most = at_most (λ i. first i + 2 * k i) all_buffers tt

-- all of them have their words there
pub in_book : 8 + all_buffers ≤ book_words
unfolding all_buffers
in_book = lit≤ tt

-- a buffer of a link
pub in_link : {i j : ℕ} → LinkNumber i → j < 2 * k i → InLink i j
in_link h below = record { link = h; below = below; few = omega (arith, k_in_book h) }
