-- What filling B(i) once can cost, level by level.
use Prim.Native.Nat.{ℕ, zero, suc, ◌+◌, ◌-◌, ◌*◌, ◌^◌, ◌≤◌, ◌<◌}
use mathlib.Core.Path.{◌≡◌, refl, sym, ap, ◌∙◌}
use mathlib.Core.List.{List, [], ◌∷◌, ◌++◌}
use native.Mathlib.Omega.{arith}
use native.Mathlib.Nat.{two-pow-succ, mul-le-mul_left}
use lib.ListN.{length, get_or, drop, length-drop, get_or-append}
use lib.Seq.{drop-cons, drop-length}
use lib.Pow.{pow_pos}
use Rattle.rules.specs.Links.{s, k, height, levels, first, capacity}
use Rattle.rules.specs.Tree.{height_of, perfect, k_merger}
use Rattle.rules.specs.Longest.{risen}
use Rattle.rules.proofs.Sizes.{k_power, length_levels}
use Rattle.rules.proofs.Heights.{perfect_height}
use Rattle.rules.proofs.Capacity.{depth_is}

-- so many levels of mergers below the j buffers of a level, of which the first is buffer j
unfoldable pub rest_from : ℕ → ℕ → ℕ → ℕ
rest_from i zero j = 0
rest_from i (suc l) j = j * capacity i j * suc l + rest_from i l (2 * j)

-- in a perfect tree it does not matter which number the top has
risen_any : (a size : ℕ) (cs : List ℕ) (j j' : ℕ) → risen (perfect a size cs j) ≡ risen (perfect a size cs j')
unfolding risen perfect
risen_any a size [] j j' = refl
risen_any a size (c ∷ cs) j j' =
    omega (
      arith,
      ap (λ h. c * h) (perfect_height a size (c ∷ cs) j ∙ sym (perfect_height a size (c ∷ cs) j')),
      risen_any a size cs (2 * j) (2 * j'),
      risen_any a size cs (suc (2 * j)) (suc (2 * j')),
    )

-- the first buffer of a level has the level's capacity
level_capacity : (i d y : ℕ) → y ≡ 2 ^ d → d < length (levels i) → capacity i y ≡ get_or (levels i) d 0
unfolding capacity
level_capacity i d zero e h = absurd (omega (arith, pow_pos d))
level_capacity i d (suc y) e h = ap (λ n. get_or (levels i ++ s i ∷ []) n 0) (depth_is d (suc y) (omega arith) (omega (arith, pow_pos d))) ∙ get_or-append (levels i) (s i ∷ []) 0 d h

module _ (i : ℕ) (link : 0 < i) where
  abbrev part : ℕ → ℕ
  part d = risen (perfect (first i) (s i) (drop d (levels i)) 1)

  no_part : (d : ℕ) → d ≡ height i → part d ≡ 0
  unfolding perfect risen
  no_part d e =
      let none : drop d (levels i) ≡ [] = rw (e ∙ sym (length_levels i link)) (drop-length (levels i)) in
      ap (λ cs. risen (perfect (first i) (s i) cs 1)) none

  next_part : (d l : ℕ) → d + suc l ≡ height i → part d ≡ get_or (levels i) d 0 * suc l + (part (suc d) + part (suc d))
  unfolding perfect risen
  next_part d l e =
      let c = get_or (levels i) d 0 in
      let cs = drop (suc d) (levels i) in
      let is : drop d (levels i) ≡ c ∷ cs = drop-cons (levels i) d 0 (omega (arith, length_levels i link)) in
      let high : height_of (perfect (first i) (s i) (c ∷ cs) 1) ≡ suc l = perfect_height (first i) (s i) (c ∷ cs) 1 ∙ (omega (arith, length_levels i link, rest_long d l e)) in
      omega (
        arith,
        ap (λ cs. risen (perfect (first i) (s i) cs 1)) is,
        ap (λ h. c * h) high,
        risen_any (first i) (s i) cs 2 1,
        risen_any (first i) (s i) cs 3 1,
      )
    where
      rest_long : (d l : ℕ) → d + suc l ≡ height i → length (drop (suc d) (levels i)) ≡ l
      rest_long d l e = rw (length-drop (suc d) (levels i), length_levels i link) (omega arith)

  -- as often as there are buffers on the level
  rest_part : (l d j : ℕ) → j ≡ 2 ^ d → d + l ≡ height i → rest_from i l j ≡ j * part d
  unfolding rest_from
  rest_part zero d j is e = rw (no_part d (omega arith)) (omega arith)
  rest_part (suc l) d j is e =
      let c = get_or (levels i) d 0 in
      let here : j * capacity i j * suc l ≡ j * (c * suc l) = rw (level_capacity i d j is (omega (arith, length_levels i link))) (omega arith) in
      let whole : j * part d ≡ j * (c * suc l) + 2 * j * part (suc d) = rw (next_part d l e) (omega arith) in
      omega (arith, here, whole, rest_part l (suc d) (2 * j) (omega (arith, two-pow-succ d)) (omega arith))

  -- from B(i) on it is all
  pub rest_all : rest_from i (height i) 1 ≡ risen (k_merger i)
  unfolding k_merger
  rest_all = omega (arith, rest_part (height i) 0 1 refl (omega arith))

-- ---- level by level

-- so much is summed, and below the j buffers of a level stand so many levels
pub record LevelsSummed (i levels j total : ℕ) : Type 0 where
  pub kept : total + rest_from i levels j ≡ risen (k_merger i)
  pub doubled : j * 2 ^ levels ≡ k i
  pub some : 0 < j

pub levels_first : (i : ℕ) → 0 < i → (levels : ℕ) → levels ≡ height i → LevelsSummed i levels 1 0
levels_first i link levels e = record { kept = rw e (omega (arith, rest_all i link)); doubled = rw (e, k_power i) (omega arith); some = omega arith }

-- the level that comes next: it is of the link, and what it adds is part of the whole
pub record NextLevel (i levels j total : ℕ) : Type 0 where
  pub inner : j < k i
  pub each : j * capacity i j ≤ j * capacity i j * levels
  pub whole : total + j * capacity i j * levels ≤ risen (k_merger i)
  pub then : LevelsSummed i (levels - 1) (2 * j) (total + j * capacity i j * levels)

pub next_level : (i levels j total : ℕ) → LevelsSummed i levels j total → 0 < levels → NextLevel i levels j total
unfolding rest_from
next_level i zero j total sum more = absurd (omega arith)
next_level i (suc l) j total sum more =
    let up : j * 2 ^ suc l ≡ 2 * j * 2 ^ l = rw two-pow-succ (omega arith) in
    let large : 2 * j * 1 ≤ 2 * j * 2 ^ l = mul-le-mul_left (2 * j) (pow_pos l) in
    let same : suc l - 1 ≡ l = omega arith in
    record {
      inner = omega (arith, up, large, sum.doubled, sum.some);
      each = omega (arith, mul-le-mul_left (j * capacity i j) more);
      whole = omega (arith, sum.kept);
      then = rw same (record { kept = omega (arith, sum.kept); doubled = omega (arith, up, sum.doubled); some = omega (arith, sum.some) });
    }

-- with no level left it is all
pub levels_last : (i levels j total : ℕ) → LevelsSummed i levels j total → levels ≡ 0 → total ≡ risen (k_merger i)
unfolding rest_from
levels_last i levels j total sum none = let rest : rest_from i levels j ≡ 0 = ap (λ l. rest_from i l j) none in omega (arith, sum.kept)
