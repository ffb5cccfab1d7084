-- Laws of laying: what the loops keep.
use mathlib.Core.Path.{◌≡◌, refl, sym, ap, ◌∙◌}
use mathlib.Core.Bool.{true, false}
use mathlib.Core.List.{List, [], ◌∷◌, ◌++◌, append_assoc, append-nil}
use mathlib.Core.Logic.{◌⊎◌, inl, inr}
use Prim.Native.Nat.{ℕ, zero, suc, ◌+◌, ◌-◌, ◌≤◌, ◌<◌}
use native.Mathlib.Omega.{arith}
use native.Mathlib.Decide.{dec_lt}
use native.Mathlib.Numerals.{add-one}
use native.Mathlib.Nat.{zero-add, add-zero, sub-zero}
use lib.Dec.{leb}
use lib.ListN.{length, take, drop, get_or, set, length-append, length-take, length-drop, length-set, take-append-drop, drop_of_length-le, get_or-append}
use Rattle.std.proofs.lemmas.List.{drop-append-le}
use lib.Seq.{drop-cons, set_at, append_snoc, take_at, drop_at, take-append_seam, ext_get_or, take-take, take-nil, length-take-le, take_all, drop-drop, get_or-append-add, get_or-take, get_or-drop}
use Rattle.rules.specs.Merge.{merged}
use Rattle.runs.specs.Promises.{laid_at, stretch, Apart, Parts}
use Rattle.runs.proofs.MergeLaws.{reached, moves_first, moves_second, merged_more, merged_split, length_out}

-- ---- a run laid at a place

pub laid_none : (a : List ℕ) (at : ℕ) → a ≡ laid_at a at []
laid_none a at = sym (rw add-zero (take-append-drop at a))

pub length_laid : (a : List ℕ) (at : ℕ) (run : List ℕ) → at + length run ≤ length a → length (laid_at a at run) ≡ length a
length_laid a at run h = simp (length-append, length-drop) (omega (arith, length-take-le at a (omega arith)))

-- one word more
pub laid_more : (a : List ℕ) (at : ℕ) (run : List ℕ) (k v : ℕ) → k ≡ at + length run → k < length a → set (laid_at a at run) k v ≡ laid_at a at (run ++ v ∷ [])
laid_more a at run k v e h =
    let e' : at + length (run ++ v ∷ []) ≡ suc (at + length run) = simp length-append (omega arith) in
    let long : length (take at a ++ run) ≡ k = simp length-append (omega (arith, length-take-le at a (omega arith))) in
    let cut : drop (at + length run) a ≡ get_or a k 0 ∷ drop (suc (at + length run)) a = rw (← e) (drop-cons a k 0 h) in
    ap (λ l. set l k v) (ap (λ r. take at a ++ (run ++ r)) cut ∙ sym (append_assoc (take at a) run (get_or a k 0 ∷ drop (suc (at + length run)) a)))
    ∙ set_at (take at a ++ run) (get_or a k 0) (drop (suc (at + length run)) a) v k long
    ∙ rw e' (append_assoc (take at a) run (v ∷ drop (suc (at + length run)) a) ∙ ap (λ l. take at a ++ l) (sym (append_snoc run v (drop (suc (at + length run)) a))))

behind_at : (a p : List ℕ) (n i : ℕ) → length p ≡ n → n ≤ i → get_or (p ++ drop n a) i 0 ≡ get_or a i 0
behind_at a p n i e h =
    let place : i ≡ length p + (i - n) = omega arith in
    let back : n + (i - n) ≡ i = omega arith in
    ap (λ k. get_or (p ++ drop n a) k 0) place ∙ get_or-append-add p (drop n a) (i - n) 0 ∙ get_or-drop n a (i - n) 0 ∙ ap (λ k. get_or a k 0) back

-- a word that the run does not cover
pub laid_outside : (a : List ℕ) (at : ℕ) (run : List ℕ) (i : ℕ) → at + length run ≤ length a → (i < at) ⊎ (at + length run ≤ i) → get_or (laid_at a at run) i 0 ≡ get_or a i 0
laid_outside a at run i h (inl low) =
    get_or-append (take at a) (run ++ drop (at + length run) a) 0 i (rw (length-take-le at a (omega arith)) low) ∙ get_or-take at a i 0 low
laid_outside a at run i h (inr high) =
    let long : length (take at a ++ run) ≡ at + length run = simp length-append (omega (arith, length-take-le at a (omega arith))) in
    ap (λ l. get_or l i 0) (sym (append_assoc (take at a) run (drop (at + length run) a))) ∙ behind_at a (take at a ++ run) (at + length run) i long high

-- a run that covers everything
pub laid_whole : (a run : List ℕ) → length run ≡ length a → laid_at a 0 run ≡ run
laid_whole a run e =
    let past : length a ≤ 0 + length run = omega arith in
    ap (λ r. run ++ r) (drop_of_length-le a past) ∙ append-nil run

-- the run itself
pub laid_there : (a : List ℕ) (at : ℕ) (run : List ℕ) → at ≤ length a → stretch at (at + length run) (laid_at a at run) ≡ run
laid_there a at run h =
    let long : at + length run - at ≡ length run = omega arith in
    ap (take (at + length run - at)) (drop_at (take at a) (run ++ drop (at + length run) a) at (length-take-le at a h))
    ∙ rw long (take-append_seam run (drop (at + length run) a))

-- a run, and another right behind it
pub laid_on : (a : List ℕ) (at : ℕ) (run more : List ℕ) (k : ℕ) → k ≡ at + length run → k ≤ length a → laid_at (laid_at a at run) k more ≡ laid_at a at (run ++ more)
laid_on a at run more k e h =
    let rest = drop (at + length run) a in
    let flat : laid_at a at run ≡ (take at a ++ run) ++ rest = sym (append_assoc (take at a) run rest) in
    let long : length (take at a ++ run) ≡ k = simp length-append (omega (arith, length-take-le at a (omega arith))) in
    let both : at + length run + length more ≡ at + length (run ++ more) = simp length-append (omega arith) in
    let front : take k (laid_at a at run) ≡ take at a ++ run = ap (take k) flat ∙ take_at (take at a ++ run) rest k long in
    let back : drop (k + length more) (laid_at a at run) ≡ drop (at + length (run ++ more)) a =
    sym (drop-drop (length more) k (laid_at a at run)) ∙ ap (drop (length more)) (ap (drop k) flat ∙ drop_at (take at a ++ run) rest k long)
    ∙ drop-drop (length more) (at + length run) a ∙ ap (λ n. drop n a) both in
    rw (front, back) (append_assoc (take at a) run (more ++ drop (at + length (run ++ more)) a) ∙ ap (λ l. take at a ++ l) (sym (append_assoc run more (drop (at + length (run ++ more)) a))))

-- ---- a stretch

pub length_stretch : (a : List ℕ) (from end : ℕ) → end ≤ length a → length (stretch from end a) ≡ end - from
length_stretch a from end inside = simp (length-take, length-drop) (omega arith)

pub stretch_at : (a : List ℕ) (from end i : ℕ) → from + i < end → get_or (stretch from end a) i 0 ≡ get_or a (from + i) 0
stretch_at a from end i h = get_or-take (end - from) (drop from a) i 0 (omega arith) ∙ get_or-drop from a i 0

-- a position of one stretch lies before or behind the other
pub apart_at : {from end from' end' : ℕ} → Apart from end from' end' → (p : ℕ) → from ≤ p → p < end → (p < from') ⊎ (end' ≤ p)
apart_at {from} {end} {from'} {end'} apart p low high = go (dec_lt p from') (dec_lt p end')
  where
    go : Dec (p < from') → Dec (p < end') → (p < from') ⊎ (end' ≤ p)
    go (yes before) d = inl before
    go (no n) (yes inside) = absurd (apart p low high (omega arith) inside)
    go (no n) (no behind) = inr (omega arith)

-- a stretch that the run does not meet
pub laid_apart : (a : List ℕ) (at : ℕ) (run : List ℕ) (from end : ℕ) → at + length run ≤ length a → end ≤ length a → Apart from end at (at + length run)
    → stretch from end (laid_at a at run) ≡ stretch from end a
laid_apart a at run from end h inside apart =
    let same : end ≤ length (laid_at a at run) = rw (length_laid a at run h) inside in
    let long : length (stretch from end (laid_at a at run)) ≡ end - from = length_stretch (laid_at a at run) from end same in
    ext_get_or 0 (stretch from end (laid_at a at run)) (stretch from end a) (long ∙ sym (length_stretch a from end inside)) (λ i low. each i (rw long at low))
  where
    each : (i : ℕ) → i < end - from → get_or (stretch from end (laid_at a at run)) i 0 ≡ get_or (stretch from end a) i 0
    each i low =
        let high : from + i < end = omega arith in
        stretch_at (laid_at a at run) from end i high ∙ laid_outside a at run (from + i) h (apart_at apart (from + i) (omega arith) high) ∙ sym (stretch_at a from end i high)

-- the first entries of a stretch, and those behind them
pub stretch_take : (a : List ℕ) (from end n : ℕ) → from + n ≤ end → take n (stretch from end a) ≡ stretch from (from + n) a
stretch_take a from end n h =
    let many : from + n - from ≡ n = omega arith in
    take-take n (end - from) (drop from a) (omega arith) ∙ ap (λ k. take k (drop from a)) (sym many)

drop_take : (n m : ℕ) (l : List ℕ) → drop n (take m l) ≡ take (m - n) (drop n l)
drop_take zero m l = ap (λ k. take k l) (sym (sub-zero m))
drop_take (suc n) zero l =
    let none : 0 - suc n ≡ 0 = omega arith in
    sym (ap (λ k. take k (drop (suc n) l)) none)
drop_take (suc n) (suc m) [] = sym (take-nil (suc m - suc n))
drop_take (suc n) (suc m) (x ∷ l) =
    let same : m - n ≡ suc m - suc n = omega arith in
    drop_take n m l ∙ ap (λ k. take k (drop n l)) same

pub stretch_drop : (a : List ℕ) (from end n : ℕ) → drop n (stretch from end a) ≡ stretch (from + n) end a
stretch_drop a from end n =
    let many : end - from - n ≡ end - (from + n) = omega arith in
    drop_take n (end - from) (drop from a) ∙ ap (λ k. take k (drop n (drop from a))) many ∙ ap (take (end - (from + n))) (drop-drop n from a)

-- what is lent from a place to the end
pub to_the_end : (xs : List ℕ) (i : ℕ) → take (length xs - i) (drop i xs) ≡ drop i xs
to_the_end xs i = take_all (length xs - i) (drop i xs) (simp length-drop (omega arith))

-- ---- a lent part

-- what is laid at the beginning of a lent part, said of the whole array
pub lay_part : (a from part : List ℕ) (at k : ℕ) → length from ≤ k → at + k ≤ length a → part ≡ laid_at (take k (drop at a)) 0 from → take at a ++ (part ++ drop k (drop at a)) ≡ laid_at a at from
lay_part a from part at k h inside p =
    let fits : length from ≤ length (take k (drop at a)) = simp (length-take, length-drop) (omega arith) in
    let rest : drop (length from) (take k (drop at a)) ++ drop k (drop at a) ≡ drop (at + length from) a =
    sym (drop-append-le (length from) (take k (drop at a)) (drop k (drop at a)) fits) ∙ ap (drop (length from)) (take-append-drop k (drop at a)) ∙ drop-drop (length from) at a in
    rw (p, zero-add, append_assoc, rest)

module _ (key : ℕ → ℕ) where
  -- ---- t merge steps are laid at a place, i entries of them are the first run's

  pub record Laying (xs ys a₀ a : List ℕ) (at t i : ℕ) : Type 0 where
    pub of_first : i ≤ length xs
    pub of_both : i ≤ t
    pub of_second : t - i ≤ length ys
    pub inside : at + t ≤ length a₀
    pub sized : length a ≡ length a₀
    pub one : (merged key t xs ys).one ≡ drop i xs
    pub two : (merged key t xs ys).two ≡ drop (t - i) ys
    pub laid : a ≡ laid_at a₀ at (merged key t xs ys).out

  pub laying_start : (xs ys a : List ℕ) (at : ℕ) → at ≤ length a → Laying xs ys a a at 0 0
  unfolding merged
  laying_start xs ys a at h = record {
    of_first = omega arith;
    of_both = omega arith;
    of_second = omega arith;
    inside = omega arith;
    sized = refl;
    one = refl;
    two = refl;
    laid = laid_none a at;
  }

  module _ {xs ys a₀ a : List ℕ} {at t i : ℕ} (l : Laying xs ys a₀ a at t i) where
    pub out_long : length (merged key t xs ys).out ≡ t
    out_long = length_out key t xs ys (omega arith)

    step_laid : (k v : ℕ) → k ≡ at + t → k < length a₀ → (merged key (t + 1) xs ys).out ≡ (merged key t xs ys).out ++ v ∷ []
        → set a k v ≡ laid_at a₀ at (merged key (t + 1) xs ys).out
    step_laid k v e h m =
        ap (λ b. set b k v) l.laid ∙ laid_more a₀ at (merged key t xs ys).out k v (omega (arith, out_long)) h ∙ ap (laid_at a₀ at) (sym m)

    -- the first run's head is laid
    pub lay_first : (k t' i' v : ℕ) → k ≡ at + t → k < length a₀ → t' ≡ t + 1 → i' ≡ i + 1 → v ≡ get_or xs i 0 → i < length xs → t - i < length ys
        → leb (key v) (key (get_or ys (t - i) 0)) ≡ true → Laying xs ys a₀ (set a k v) at t' i'
    lay_first k t' i' v ek hk et ei ev hi hj first =
        let same : t + 1 - (i + 1) ≡ t - i = omega arith in
        let cut : drop i xs ≡ v ∷ drop (i + 1) xs = rw (ev, add-one) (drop-cons xs i 0 hi) in
        let other : drop (t - i) ys ≡ get_or ys (t - i) 0 ∷ drop (suc (t - i)) ys = drop-cons ys (t - i) 0 hj in
        let m = merged_more key t xs ys (drop (i + 1) xs) (drop (t - i) ys) v (rw (l.one, l.two, cut, other) (moves_first key v (get_or ys (t - i) 0) (drop (i + 1) xs) (drop (suc (t - i)) ys) first)) in
        rw (et, ei)
        record {
          of_first = omega arith;
          of_both = omega arith;
          of_second = omega arith;
          inside = omega arith;
          sized = length-set a k v ∙ l.sized;
          one = ap (λ z. z.one) m;
          two = rw same (ap (λ z. z.two) m);
          laid = step_laid k v ek hk (ap (λ z. z.out) m);
        }

    -- the second run's head is laid
    pub lay_second : (k t' v : ℕ) → k ≡ at + t → k < length a₀ → t' ≡ t + 1 → v ≡ get_or ys (t - i) 0 → i < length xs → t - i < length ys
        → leb (key (get_or xs i 0)) (key v) ≡ false → Laying xs ys a₀ (set a k v) at t' i
    lay_second k t' v ek hk et ev hi hj second =
        let next : t + 1 - i ≡ suc (t - i) = omega arith in
        let cut : drop (t - i) ys ≡ v ∷ drop (suc (t - i)) ys = rw ev (drop-cons ys (t - i) 0 hj) in
        let other : drop i xs ≡ get_or xs i 0 ∷ drop (suc i) xs = drop-cons xs i 0 hi in
        let m = merged_more key t xs ys (drop i xs) (drop (suc (t - i)) ys) v (rw (l.one, l.two, cut, other) (moves_second key (get_or xs i 0) v (drop (suc i) xs) (drop (suc (t - i)) ys) second)) in
        rw et
        record {
          of_first = l.of_first;
          of_both = omega arith;
          of_second = omega arith;
          inside = omega arith;
          sized = length-set a k v ∙ l.sized;
          one = ap (λ z. z.one) m;
          two = rw next (ap (λ z. z.two) m);
          laid = step_laid k v ek hk (ap (λ z. z.out) m);
        }

    -- so many merge steps more are laid as one block
    pub lay_block : (n i' : ℕ) (block : List ℕ) → merged key n (drop i xs) (drop (t - i) ys) ≡ reached block (drop i' xs) (drop (t + n - i') ys)
        → i' ≤ length xs → i' ≤ t + n → t + n - i' ≤ length ys → at + (t + n) ≤ length a₀ → Laying xs ys a₀ (laid_at a (at + t) block) at (t + n) i'
    lay_block n i' block e of_first of_both of_second inside =
        let many : length block ≡ n =
        ap (λ z. length z.out) (sym e) ∙ length_out key n (drop i xs) (drop (t - i) ys) (simp length-drop (omega (arith, l.of_first, l.of_both, l.of_second))) in
        let whole : merged key (t + n) xs ys ≡ reached ((merged key t xs ys).out ++ block) (drop i' xs) (drop (t + n - i') ys) = merged_split key t n xs ys ∙ rw (l.one, l.two, e) in
        record {
          of_first = of_first;
          of_both = of_both;
          of_second = of_second;
          inside = inside;
          sized = length_laid a (at + t) block (omega (arith, many, l.sized)) ∙ l.sized;
          one = ap (λ z. z.one) whole;
          two = ap (λ z. z.two) whole;
          laid =
              ap (λ b. laid_at b (at + t) block) l.laid
              ∙ laid_on a₀ at (merged key t xs ys).out block (at + t) (omega (arith, out_long)) (omega (arith, l.inside))
              ∙ ap (laid_at a₀ at) (sym (ap (λ z. z.out) whole));
        }

  -- out is full
  pub parts : (xs ys out₀ out : List ℕ) (t i : ℕ) → Laying xs ys out₀ out 0 t i → length out₀ ≤ t → Parts key xs ys out₀ out i
  parts xs ys out₀ out t i l h =
      let full : t ≡ length out₀ = omega arith in
      let l' : Laying xs ys out₀ out 0 (length out₀) i = rw full at l in
      record {
        laid = l'.laid ∙ laid_whole out₀ (merged key (length out₀) xs ys).out (out_long l');
        one = sym l'.one;
        two = sym l'.two;
        of_first = l'.of_first;
        of_both = l'.of_both;
        of_second = l'.of_second;
      }
