-- The capacity of a buffer by its number is its capacity in the tree.
use Prim.Native.Nat.{ℕ, zero, suc, ◌+◌, ◌*◌, ◌^◌, ◌≤◌, ◌<◌}
use mathlib.Core.Path.{◌≡◌, refl, ap, ◌∙◌}
use mathlib.Core.Bool.{Bool, true, false}
use mathlib.Core.List.{List, [], ◌∷◌, ◌++◌}
use native.Mathlib.Omega.{arith}
use native.Mathlib.Nat.{two-pow-succ}
use lib.ListN.{length, get_or}
use lib.Seq.{get_or-append_seam}
use lib.Pow.{pow_pos, pow_mono}
use lib.Dec.{leb, ltb}
use Rattle.rules.specs.Links.{least, s, k, height, levels, depth_of, capacity, first}
use Rattle.rules.specs.Tree.{Buffers, perfect, k_merger}
use Rattle.rules.proofs.Full.{Fits}
use Rattle.rules.proofs.Sizes.{by_leb, leb-false, k_power, length_levels}
use Rattle.rules.proofs.Numbering.{doubled, doubled_mono, doubled_power, level_of}

-- ---- the depth of a number

-- a test that holds
pub leb-true : (x y : ℕ) → x ≤ y → leb x y ≡ true
leb-true x y h = by_leb x y (λ b. b ≡ true) (λ l. refl) (λ l. absurd (omega arith))

-- the least that passes is the one before which none does
pub least_is : (test : ℕ → Bool) (d : ℕ) → test d ≡ true → (tries n : ℕ) → n ≤ d → d ≤ n + tries → ((m : ℕ) → n ≤ m → m < d → test m ≡ false) → least test tries n ≡ d
unfolding least
least_is test d passes zero n low high others = omega arith
least_is test d passes (suc tries) n low high others =
    by_leb d n (λ b. least test (suc tries) n ≡ d)
    (λ q. let e : n ≡ d = omega arith in let t : test n ≡ true = ap test e ∙ passes in rw (t, least) e)
    (λ q. rw (others n (omega arith) q, least) (least_is test d passes tries (suc n) q (omega arith) (λ m l. others m (omega arith))))

-- no number reaches the power of two that it names
pub below_power : (d : ℕ) → d < 2 ^ d
below_power zero = omega arith
below_power (suc d) = omega (arith, below_power d, two-pow-succ d)

-- so many levels below B stand the numbers from 2 ^ d on
pub depth_is : (d y : ℕ) → 2 ^ d ≤ y → y < 2 * 2 ^ d → depth_of y ≡ d
unfolding depth_of
depth_is d y low high =
    least_is (λ d. ltb y (2 ^ suc d)) d (leb-true (suc y) (2 ^ suc d) (omega (arith, two-pow-succ d))) y 0 (omega arith) (omega (arith, below_power d))
    (λ m l less. leb-false (suc y) (2 ^ suc m) (omega (arith, pow_mono {i = suc m} {j = d} less)))

-- ---- capacities in a perfect tree, level by level

module _ (a size : ℕ) (bs : Buffers) where
  abbrev room : List ℕ → ℕ → ℕ
  room cs d = get_or (cs ++ size ∷ []) d 0

  -- a buffer so many levels below j
  abbrev Level : List ℕ → ℕ → Type 0
  Level cs j = (d y : ℕ) → d ≤ length cs → doubled d j ≤ y → y < doubled d (suc j) → length (get_or bs (a + y) []) ≤ room cs d

  fits_level : (cs : List ℕ) (j : ℕ) → Fits (perfect a size cs j) bs → Level cs j
  unfolding perfect
  fits_level [] j h zero y deep low high = let e : y ≡ j = omega arith in rw e h
  fits_level [] j h (suc d) y deep low high = absurd (omega arith)
  fits_level (c ∷ cs) j h zero y deep low high = let e : y ≡ j = omega arith in rw e h.0
  fits_level (c ∷ cs) j h (suc d) y deep low high =
      let e : 2 * suc j ≡ suc (suc (2 * j)) = omega arith in
      let up : y < doubled d (suc (suc (2 * j))) = rw e at high in
      by_leb (doubled d (suc (2 * j))) y (λ b. length (get_or bs (a + y) []) ≤ room cs d)
      (λ q. fits_level cs (suc (2 * j)) h.2 d y (omega arith) q up)
      (λ q. fits_level cs (2 * j) h.1 d y (omega arith) low q)

  level_fits : (cs : List ℕ) (j : ℕ) → Level cs j → Fits (perfect a size cs j) bs
  unfolding perfect
  level_fits [] j h = h 0 j (omega arith) (omega arith) (omega arith)
  level_fits (c ∷ cs) j h =
      let first : Level cs (2 * j) = λ d y deep low high. h (suc d) y (omega arith) low (omega (arith, doubled_mono d (suc (2 * j)) (2 * suc j) (omega arith))) in
      let second : Level cs (suc (2 * j)) = λ d y deep low high.
      h (suc d) y (omega arith) (omega (arith, doubled_mono d (2 * j) (suc (2 * j)) (omega arith))) (omega (arith, doubled_mono d (suc (suc (2 * j))) (2 * suc j) (omega arith))) in
      (h 0 j (omega arith) (omega arith) (omega arith), level_fits cs (2 * j) first, level_fits cs (suc (2 * j)) second)

-- ---- in a link

-- "every count .. inside its buffer", of the buffers of link i
abbrev pub Inside : ℕ → Buffers → Type 0
Inside i bs = (j : ℕ) → j < 2 * k i → length (get_or bs (first i + j) []) ≤ capacity i j

module _ (i : ℕ) (link : 0 < i) (bs : Buffers) where
  capacity_is : (d y : ℕ) → 2 ^ d ≤ y → y < 2 * 2 ^ d → capacity i y ≡ room (first i) (s i) bs (levels i) d
  unfolding capacity
  capacity_is d zero low high = absurd (omega (arith, pow_pos d))
  capacity_is d (suc y) low high = ap (λ n. get_or (levels i ++ s i ∷ []) n 0) (depth_is d (suc y) low high)

  k_merger_inside : Fits (k_merger i) bs → (y : ℕ) → 0 < y → y < 2 * k i → length (get_or bs (first i + y) []) ≤ capacity i y
  unfolding k_merger
  k_merger_inside h y some less =
      let u = level_of (height i) y some (omega (arith, k_power i)) in
      let d = u.depth in
      let low : 2 ^ d ≤ y = omega (arith, u.low, doubled_power d 1) in
      let high : y < 2 * 2 ^ d = omega (arith, u.high, doubled_power d 2) in
      rw (capacity_is d y low high) (fits_level (first i) (s i) bs (levels i) 1 h d y (rw (length_levels i link) u.deep) u.low u.high)

  -- what the tree allows in a link is what the numbers allow
  pub link_inside : length (get_or bs (first i) []) ≤ capacity i 0 → Fits (k_merger i) bs → Inside i bs
  link_inside a h zero less = let e : first i + 0 ≡ first i = omega arith in rw e a
  link_inside a h (suc j) less = k_merger_inside h (suc j) (omega arith) less

  -- and the other way round, below A(i)
  pub inside_k_merger : Inside i bs → Fits (k_merger i) bs
  unfolding k_merger
  inside_k_merger h =
      level_fits (first i) (s i) bs (levels i) 1 (λ d y deep low high.
      let l : 2 ^ d ≤ y = omega (arith, doubled_power d 1) in
      let u : y < 2 * 2 ^ d = omega (arith, doubled_power d 2) in
      let most : 2 ^ d ≤ 2 ^ height i = pow_mono {i = d} {j = height i} (rw (length_levels i link) at deep) in
      rw (capacity_is d y l u) at (h y (omega (arith, k_power i))))

  -- "k buffers S(i,1) to S(i,k) of s slots"
  pub s_capacity : (y : ℕ) → k i ≤ y → y < 2 * k i → capacity i y ≡ s i
  s_capacity y low high =
      let e : get_or (levels i ++ s i ∷ []) (height i) 0 ≡ s i = rw (← length_levels i link) (get_or-append_seam (levels i) (s i) [] 0) in
      capacity_is (height i) y (omega (arith, k_power i)) (omega (arith, k_power i)) ∙ e
