-- Facts about a link's sizes, over the link number.
use Prim.Native.Nat.{ℕ, zero, suc, ◌+◌, ◌-◌, ◌*◌, ◌^◌, ◌/◌, ◌≤◌, ◌<◌}
use mathlib.Core.Path.{◌≡◌, refl, ap}
use mathlib.Core.Logic.{◌≢◌}
use mathlib.Core.Bool.{Bool, true, false}
use mathlib.Core.List.{List, [], ◌∷◌}
use native.Mathlib.Omega.{arith}
use native.Mathlib.Nat.{one-le-pow}
use lib.Pow.{pow_pos}
use lib.ListN.{length}
use lib.Dec.{T, leb, ltb, eqb, leb→le, nleb→lt, eqb→eq, eqb_refl}
use Rattle.rules.specs.Links.{least, height_for, k_for, s, k, height, root, top_height, inner_size, inner_sizes, levels, capacity, first, book_words, words}

-- ---- cases of a test

-- equal or not
pub by_eqb : (x y : ℕ) (P : Bool → Type 0) → (x ≡ y → P true) → (x ≢ y → P false) → P (eqb x y)
by_eqb x y P f g = go (eqb x y) refl
  where
    go : (b : Bool) → eqb x y ≡ b → P b
    go true h = f (eqb→eq x y (rw h tt))
    go false h = g (λ q. let z : T (eqb x y) = rw q (eqb_refl y) in rw h at z)

-- at most or above
pub by_leb : (x y : ℕ) (P : Bool → Type 0) → (x ≤ y → P true) → (y < x → P false) → P (leb x y)
by_leb x y P f g = go (leb x y) refl
  where
    go : (b : Bool) → leb x y ≡ b → P b
    go true h = f (leb→le x y (rw h tt))
    go false h = g (nleb→lt x y (rw h tt))

-- ---- the least number that passes

least_from : (test : ℕ → Bool) (tries n : ℕ) → n ≤ least test tries n
unfolding least
least_from test zero n = omega arith
least_from test (suc tries) n = go (least_from test tries (suc n)) (test n)
  where
    go : suc n ≤ least test tries (suc n) → (b : Bool) → n ≤ elim b [ true ↦ n | false ↦ least test tries (suc n) ]
    go h true = omega arith
    go h false = omega arith

least_some : (test : ℕ → Bool) (tries : ℕ) → 0 < tries → test 0 ≡ false → 0 < least test tries 0
unfolding least
least_some test zero some fails = absurd (omega arith)
least_some test (suc tries) some fails = rw (fails, least) (least_from test tries 1)

-- a test that fails
pub leb-false : (x y : ℕ) → y < x → leb x y ≡ false
leb-false x y h = by_leb x y (λ b. b ≡ false) (λ l. absurd (omega arith)) (λ l. refl)

-- ---- s, k and the height

-- "s(i+1) = s(i) x (k(i) + 1)"
pub s_next : (i : ℕ) → 0 < i → s (suc i) ≡ s i + k i * s i
unfolding s k
s_next zero h = absurd (omega arith)
s_next (suc i) h = omega arith

-- no s is below s(1)
pub s_least : (i : ℕ) → 0 < i → 8 ≤ s i
unfolding s
s_least zero h = absurd (omega arith)
s_least (suc zero) h = omega arith
s_least (suc (suc i)) h = omega (arith, s_next (suc i) (omega arith), s_least (suc i) (omega arith))

-- k(i) is a power of two
pub k_power : (i : ℕ) → k i ≡ 2 ^ height i
unfolding k height k_for
k_power i = refl

-- and at least 1
pub k_some : (i : ℕ) → 0 < k i
k_some i = rw (k_power i) (pow_pos (height i))

-- between B(i) and an S(i,j) there is a merger
pub height_some : (i : ℕ) → 0 < i → 0 < height i
unfolding height height_for
height_some i h = least_some (λ h. leb (s i) ((2 ^ h) ^ 3)) (s i) (omega (arith, s_least i h)) (leb-false (s i) 1 (omega (arith, s_least i h)))

length_inner_sizes : (h d n : ℕ) → length (inner_sizes h d n) ≡ n
unfolding inner_sizes
length_inner_sizes h d zero = refl
length_inner_sizes h d (suc n) = ap suc (length_inner_sizes h (suc d) n)

-- from B(i) to an S(i,j) it is as many levels as mergers
pub length_levels : (i : ℕ) → 0 < i → length (levels i) ≡ height i
unfolding levels
length_levels i h = omega (arith, length_inner_sizes (height i) 1 (height i - 1), height_some i h)

-- ---- no buffer is without room

cube_some : (h : ℕ) → 0 < (2 ^ h) ^ 3
cube_some h = one-le-pow 3 (2 ^ h) (pow_pos h)

root_some : (n : ℕ) → 0 < n → 0 < root n
unfolding root
root_some n h = least_some (λ r. leb n (r * r)) n h (leb-false n 0 h)

inner_some : (deep h d : ℕ) → h ≤ deep → 0 < d → d < h → 0 < inner_size deep h d
unfolding inner_size top_height
inner_some zero h d a b c = absurd (omega arith)
inner_some (suc deep) h d a b c =
    let m = (h + 1) / 2 in
    by_eqb d m (λ t. 0 < elim t [ true ↦ root ((2 ^ h) ^ 3) | false ↦ elim (ltb d m) [ true ↦ inner_size deep m d | false ↦ inner_size deep (h - m) (d - m) ] ])
    (λ e. root_some ((2 ^ h) ^ 3) (cube_some h))
    (λ e. by_leb (suc d) m (λ t. 0 < elim t [ true ↦ inner_size deep m d | false ↦ inner_size deep (h - m) (d - m) ])
    (λ l. inner_some deep m d (omega arith) b l)
    (λ l. inner_some deep (h - m) (d - m) (omega arith) (omega arith) (omega arith)))

-- none of these sizes is 0
abbrev pub AllSome : List ℕ → Type 0
AllSome [] = Unit {0}
AllSome (c ∷ cs) = (0 < c) × AllSome cs

inners_some : (h d n : ℕ) → 0 < d → d + n ≤ h → AllSome (inner_sizes h d n)
unfolding inner_sizes
inners_some h d zero a b = tt
inners_some h d (suc n) a b = (inner_some h h d (omega arith) a (omega arith), inners_some h (suc d) n (omega arith) (omega arith))

-- A(i) has room
pub a_some : (i : ℕ) → 0 < capacity i 0
unfolding capacity
a_some i = rw (k_power i) (cube_some (height i))

-- and so has each buffer from B(i) downwards
pub levels_some : (i : ℕ) → 0 < i → AllSome (levels i)
unfolding levels
levels_some i h = (rw (k_power i) (cube_some (height i)), inners_some (height i) 1 (height i - 1) (omega arith) (omega (arith, height_some i h)))

-- ---- numbers of buffers

-- every array that is long enough has the book
pub book_in_words : (links : ℕ) → book_words ≤ words links
unfolding words
book_in_words links = omega arith

-- A(1) follows I
pub first_one : first 1 ≡ 1
unfolding first
first_one = refl

-- link i has 2k(i) buffers
pub first_next : (i : ℕ) → 0 < i → first (suc i) ≡ first i + 2 * k i
unfolding first
first_next zero h = absurd (omega arith)
first_next (suc i) h = refl

-- no link begins before I
pub first_some : (i : ℕ) → 0 < i → 0 < first i
unfolding first
first_some zero h = absurd (omega arith)
first_some (suc zero) h = omega arith
first_some (suc (suc i)) h = omega (arith, first_some (suc i) (omega arith))

-- further links have larger numbers
pub first_further : (i n : ℕ) → 0 < i → first i ≤ first (i + n)
first_further i zero h = let e : i + 0 ≡ i = omega arith in rw e (omega arith)
first_further i (suc n) h =
    let e : i + suc n ≡ suc (i + n) = omega arith in
    rw e (omega (arith, first_further i n h, first_next (i + n) (omega arith)))

-- either of two links, the larger its number the larger the numbers of its buffers
pub first_mono : (a b : ℕ) → 0 < a → a ≤ b → first a ≤ first b
first_mono a b some h = let e : a + (b - a) ≡ b = omega arith in rw e at (first_further a (b - a) some)
