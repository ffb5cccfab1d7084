-- Credits: each used S of link i carries g(i). What a sweep and a packing do to them.
use Prim.Native.Nat.{ℕ, zero, suc, ◌+◌, ◌-◌, ◌*◌, ◌≤◌, ◌<◌}
use mathlib.Core.Path.{◌≡◌, refl}
use native.Mathlib.Omega.{arith}
use native.Mathlib.Nat.{mul-le-mul_right}
use lib.ListN.{get_or}
use Rattle.rules.specs.Links.{s, k}
use Rattle.rules.specs.Queue.{Queue, counter}
use Rattle.rules.proofs.Sizes.{s_next}
use Rattle.rules.proofs.PathCounts.{Lowest}

module _ (g : ℕ → ℕ) where
  -- what the used S of n links from link i on carry, by their counters
  unfoldable pub credits : (ℕ → ℕ) → ℕ → ℕ → ℕ
  credits c i zero = 0
  credits c i (suc n) = (c i - 1) * g i + credits c (suc i) n

  -- what n links from link i on carry where every S is used
  unfoldable pub carried : ℕ → ℕ → ℕ
  carried i zero = 0
  carried i (suc n) = k i * g i + carried (suc i) n

  credits_same : (c c' : ℕ → ℕ) (n i : ℕ) → ((m : ℕ) → i ≤ m → m < i + n → c m ≡ c' m) → credits c i n ≡ credits c' i n
  unfolding credits
  credits_same c c' zero i h = refl
  credits_same c c' (suc n) i h = rw (h i (omega arith) (omega arith), credits_same c c' n (suc i) (λ m low high. h m (omega arith) (omega arith)))

  credits_split : (c : ℕ → ℕ) (p n i : ℕ) → credits c i (p + n) ≡ credits c i p + credits c (i + p) n
  unfolding credits
  credits_split c zero n i = let e : i + 0 ≡ i = omega arith in let z : 0 + n ≡ n = omega arith in rw (e, z) (omega arith)
  credits_split c (suc p) n i =
      let e : i + suc p ≡ suc i + p = omega arith in
      let z : suc p + n ≡ suc (p + n) = omega arith in
      rw (e, z) (omega (arith, credits_split c p n (suc i)))

  -- with every counter at 1 nothing is carried
  pub credits_none : (c : ℕ → ℕ) (n i : ℕ) → ((m : ℕ) → i ≤ m → m < i + n → c m ≡ 1) → credits c i n ≡ 0
  unfolding credits
  credits_none c zero i h = refl
  credits_none c (suc n) i h =
      let e : (c i - 1) * g i ≡ 0 = rw (h i (omega arith) (omega arith)) (omega arith) in
      omega (arith, credits_none c n (suc i) (λ m low high. h m (omega arith) (omega arith)))

  -- with every counter at k + 1 all is carried
  pub credits_full : (c : ℕ → ℕ) (n i : ℕ) → ((m : ℕ) → i ≤ m → m < i + n → c m ≡ suc (k m)) → credits c i n ≡ carried i n
  unfolding credits carried
  credits_full c zero i h = refl
  credits_full c (suc n) i h =
      let u : suc (k i) - 1 ≡ k i = omega arith in
      rw (h i (omega arith) (omega arith), u, credits_full c n (suc i) (λ m low high. h m (omega arith) (omega arith)))

-- 8 + k(1) s(1) + .. + k(i) s(i) = s(i + 1)
pub s_carried : (n i : ℕ) → 0 < i → s i + carried s i n ≡ s (i + n)
unfolding carried
s_carried zero i link = let e : i + 0 ≡ i = omega arith in rw e (omega arith)
s_carried (suc n) i link = let e : i + suc n ≡ suc i + n = omega arith in rw e (omega (arith, s_carried n (suc i) (omega arith), s_next i link))

-- ---- what becomes of the counters

-- a link before the lowest that is not spent is spent
pub spent_before : (q : Queue) (l : ℕ) → Lowest 1 q.counters l → (m : ℕ) → 1 ≤ m → m < l → counter q m ≤ k m + 1 → counter q m ≡ suc (k m)
unfolding counter
spent_before q l low m some less most =
    let e : 1 + (m - 1) ≡ m = omega arith in
    let more : k m < get_or q.counters (m - 1) 0 = rw e at (low.others (m - 1) (omega arith)) in
    omega arith

module _ (g c c' : ℕ → ℕ) (links i : ℕ) (low : 1 ≤ i) (high : i ≤ links) (fall : (m : ℕ) → 1 ≤ m → m < i → c' m ≡ 1) (rise : c' i ≡ suc (c i)) (stay : (m : ℕ) → i < m → c' m ≡ c m)
    (spent : (m : ℕ) → 1 ≤ m → m < i → c m ≡ suc (k m)) (used : 1 ≤ c i) where
  apart : (d : ℕ → ℕ) → credits g d 1 links ≡ credits g d 1 (i - 1) + ((d i - 1) * g i + credits g d (suc i) (links - i))
  unfolding credits
  apart d =
      let e : (i - 1) + suc (links - i) ≡ links = omega arith in
      let f : 1 + (i - 1) ≡ i = omega arith in
      rw (e, f) at (credits_split g d (i - 1) (suc (links - i)) 1)

  -- a sweep spends what the links before i carry, and leaves the credit of one S
  pub sweep_credits : credits g c' 1 links + carried g 1 (i - 1) ≡ credits g c 1 links + g i
  sweep_credits =
      let up : (c' i - 1) * g i ≡ g i + (c i - 1) * g i = let e : suc (c i) - 1 ≡ suc (c i - 1) = omega arith in rw (rise, e) (omega arith) in
      omega (
        arith,
        apart c,
        apart c',
        credits_none g c' (i - 1) 1 (λ m l h. fall m l (omega arith)),
        credits_full g c (i - 1) 1 (λ m l h. spent m l (omega arith)),
        credits_same g c' c (links - i) (suc i) (λ m l h. stay m l),
      )

-- a packing leaves the credit of the S that it uses
pub pack_credits : (g c c' : ℕ → ℕ) (links used : ℕ) → 0 < links → ((m : ℕ) → 1 ≤ m → m < links → c' m ≡ 1) → c' links ≡ suc used → used ≤ k links
    → ((m : ℕ) → 1 ≤ m → m ≤ links → c m ≡ suc (k m)) → credits g c' 1 links ≤ credits g c 1 links
unfolding credits
pack_credits g c c' links used some fall last few spent =
    let e : (links - 1) + 1 ≡ links = omega arith in
    let f : 1 + (links - 1) ≡ links = omega arith in
    let before = rw (e, f) at (credits_split g c (links - 1) 1 1) in
    let after = rw (e, f) at (credits_split g c' (links - 1) 1 1) in
    let u : suc used - 1 ≡ used = omega arith in
    let v : suc (k links) - 1 ≡ k links = omega arith in
    let now : (c' links - 1) * g links ≡ used * g links = rw (last, u) in
    let then : (c links - 1) * g links ≡ k links * g links = rw (spent links some (omega arith), v) in
    omega (arith, before, after, credits_none g c' (links - 1) 1 (λ m l h. fall m l (omega arith)), mul-le-mul_right (g links) few)
