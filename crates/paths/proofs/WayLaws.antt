-- The path to an S, number by number: A(1) .. A(i-1) one behind the other, and below them halves of the last number.
use mathlib.Core.Path.{◌≡◌, refl, sym, ap, ◌∙◌}
use mathlib.Core.Bool.{Bool}
use mathlib.Core.List.{List, [], ◌∷◌, ◌++◌, map, map-append}
use Prim.Native.Nat.{ℕ, zero, suc, ◌+◌, ◌-◌, ◌*◌, ◌^◌, ◌/◌, ◌≤◌, ◌<◌}
use native.Mathlib.Omega.{arith}
use native.Mathlib.Numerals.{add-one}
use lib.Dec.{T, eqb, eqb→eq, leb, leb→le}
use borrow.Rule.Slice.PartMut.{put_mid, mid_of, mid_len, same_len_mid}
use Rattle.std.specs.List.{take-map}
use Rattle.std.proofs.lemmas.List.{length-map, map-set}
use Rattle.std.proofs.lemmas.Slice.{take-put_mid}
use lib.ListN.{length, take, drop, get_or, set, length-set, length-drop, take-append-drop}
use lib.Seq.{take-suc, take-suc-set, take_all, take_at}
use Rattle.rules.specs.Tests.{every}
use Rattle.rules.specs.Links.{k, first, most_links, path_room, book_words, LinkNumber}
use Rattle.rules.specs.Sweep.{outputs, path_in_link, path}
use Rattle.rules.proofs.Table.{every_at, each_link_lem}
use Rattle.paths.specs.declared.Step.{Step}
use Rattle.paths.specs.Way.{numbers_of, Ends, OutputsAre, PathIs}

-- ---- A(1), A(2) ..

pub length_outputs : (i n : ℕ) → length (outputs i n) ≡ n
unfolding outputs
length_outputs i zero = refl
length_outputs i (suc n) = ap suc (length_outputs (suc i) n)

outputs_more : (i n : ℕ) → outputs i (suc n) ≡ outputs i n ++ first (i + n) ∷ []
unfolding outputs
outputs_more i zero = let e : i + 0 ≡ i = omega arith in rw e
outputs_more i (suc n) = let e : i + suc n ≡ suc i + n = omega arith in rw e (ap (λ l. first i ∷ l) (outputs_more (suc i) n))

-- those before A(n) are written
pub record Outputs (i : ℕ) (ns : List ℕ) (n : ℕ) : Type 0 where
  pub within : n ≤ i
  pub long : length ns ≡ path_room
  pub begins : take (n - 1) ns ≡ outputs 1 (n - 1)

pub outputs_first : {i : ℕ} (steps : List Step) → LinkNumber i → length steps ≡ path_room → Outputs i (numbers_of steps) 1
unfolding outputs
outputs_first steps h long = record { within = h.low; long = length-map steps (λ (step : Step). step.buffer) ∙ long; begins = refl }

pub outputs_next : {i n : ℕ} (steps : List Step) → LinkNumber i → Outputs i (numbers_of steps) n → 1 ≤ n → n < i → (step : Step) → step.buffer ≡ first n → Outputs i (numbers_of (set steps (n - 1) step)) (n + 1)
outputs_next {i} {n} steps h o low more step e =
    let ns = numbers_of steps in
    let put : numbers_of (set steps (n - 1) step) ≡ set ns (n - 1) step.buffer = map-set (λ (step : Step). step.buffer) steps (n - 1) step in
    let place : n + 1 - 1 ≡ suc (n - 1) = omega arith in
    let swapped : first n ≡ first (1 + (n - 1)) = ap first (omega arith) in
    record {
      within = omega arith;
      long = ap length put ∙ length-set ns (n - 1) step.buffer ∙ o.long;
      begins = rw (put, place) (take-suc-set ns (n - 1) step.buffer (omega (arith, o.long, h.high)) ∙ rw (o.begins, e, swapped) (sym (outputs_more 1 (n - 1))));
    }

-- ---- in the link

-- every S that there is: one computed test each
module _ (test : ℕ → ℕ → Bool) (t : T (every (λ i. every (test i) 1 (k i)) 1 most_links)) where
  pub each_s : {i : ℕ} → LinkNumber i → (j : ℕ) → 1 ≤ j → j ≤ k i → T (test i j)
  each_s {i} h j low high = every_at (test i) 1 (k i) (each_link_lem (λ i. every (test i) 1 (k i)) t h) j low (omega arith)

module _ {i : ℕ} (h : LinkNumber i) where
  -- the numbers by which the last is divided: twice k, k .. 1
  half_next : (m : ℕ) → m < 7 → 2 * k i / 2 ^ m / 2 ≡ 2 * k i / 2 ^ (m + 1)
  unfolding every k
  half_next m few =
      eqb→eq (2 * k i / 2 ^ m / 2) (2 * k i / 2 ^ (m + 1))
      (every_at (λ m. eqb (2 * k i / 2 ^ m / 2) (2 * k i / 2 ^ (m + 1))) 0 7 (each_link_lem (λ i. every (λ m. eqb (2 * k i / 2 ^ m / 2) (2 * k i / 2 ^ (m + 1))) 0 7) tt h) m (omega arith) few)

  half_some : (m : ℕ) → m < i + 2 → 1 ≤ 2 * k i / 2 ^ m
  unfolding every k
  half_some m few =
      leb→le 1 (2 * k i / 2 ^ m) (every_at (λ m. leb 1 (2 * k i / 2 ^ m)) 0 (i + 2) (each_link_lem (λ i. every (λ m. leb 1 (2 * k i / 2 ^ m)) 0 (i + 2)) tt h) m (omega arith) (omega arith))

  module _ (j : ℕ) (low : 1 ≤ j) (high : j ≤ k i) where
    pub path_long : length (path i j) ≡ 2 * i + 1
    unfolding every k path
    path_long = eqb→eq (length (path i j)) (2 * i + 1) (each_s (λ i j. eqb (length (path i j)) (2 * i + 1)) tt h j low high)

    below_long : length (drop (i - 1) (path i j)) ≡ i + 2
    below_long = length-drop (i - 1) (path i j) ∙ omega (arith, path_long, h.low)

    path_at : (m : ℕ) → m < i + 2 → first i + (k i + (j - 1)) / (2 * k i / 2 ^ m) ≡ get_or (drop (i - 1) (path i j)) m 0
    unfolding every k path first
    path_at m few =
        eqb→eq (first i + (k i + (j - 1)) / (2 * k i / 2 ^ m)) (get_or (drop (i - 1) (path i j)) m 0)
        (every_at (λ m. eqb (first i + (k i + (j - 1)) / (2 * k i / 2 ^ m)) (get_or (drop (i - 1) (path i j)) m 0)) 0 (i + 2)
        (each_s (λ i j. every (λ m. eqb (first i + (k i + (j - 1)) / (2 * k i / 2 ^ m)) (get_or (drop (i - 1) (path i j)) m 0)) 0 (i + 2)) tt h j low high) m (omega arith) (omega arith))

    path_few : (m : ℕ) → m < i + 2 → first i + (k i + (j - 1)) / (2 * k i / 2 ^ m) < book_words
    unfolding every k first
    path_few m few =
        leb→le (suc (first i + (k i + (j - 1)) / (2 * k i / 2 ^ m))) book_words
        (every_at (λ m. leb (suc (first i + (k i + (j - 1)) / (2 * k i / 2 ^ m))) book_words) 0 (i + 2)
        (each_s (λ i j. every (λ m. leb (suc (first i + (k i + (j - 1)) / (2 * k i / 2 ^ m))) book_words) 0 (i + 2)) tt h j low high) m (omega arith) (omega arith))

-- in the link, so many numbers are written, and the next stands so far above the last
pub record Halves (i j : ℕ) (ns : List ℕ) (t above : ℕ) : Type 0 where
  pub long : length ns ≡ i + 2
  pub begins : take t ns ≡ take t (drop (i - 1) (path i j))
  pub halved : above ≡ 2 * k i / 2 ^ t

module _ {i j t above : ℕ} (steps : List Step) (h : Ends i j) (w : Halves i j (numbers_of steps) t above) where
  module _ (more : t < i + 2) where
    pub some_above : 1 ≤ above
    some_above = rw w.halved (half_some h.link t more)

    module _ (first' k' : ℕ) (e₁ : first' ≡ first i) (e₂ : k' ≡ k i) where
      next_is : first' + (k' + (j - 1)) / above ≡ get_or (drop (i - 1) (path i j)) t 0
      next_is = rw (e₁, e₂, w.halved) (path_at h.link j h.low h.high t more)

      pub next_few : first' + (k' + (j - 1)) / above < book_words
      next_few = rw (e₁, e₂, w.halved) (path_few h.link j h.low h.high t more)

      pub halves_next : (step : Step) → step.buffer ≡ first' + (k' + (j - 1)) / above → Halves i j (numbers_of (set steps t step)) (t + 1) (above / 2)
      halves_next step e =
          let ns = numbers_of steps in
          let put : numbers_of (set steps t step) ≡ set ns t step.buffer = map-set (λ (step : Step). step.buffer) steps t step in
          record {
            long = ap length put ∙ length-set ns t step.buffer ∙ w.long;
            begins = rw (put, add-one) (take-suc-set ns t step.buffer (omega (arith, w.long)) ∙ rw (w.begins, e, next_is) (sym (take-suc (drop (i - 1) (path i j)) t 0 (omega (arith, below_long h.link j h.low h.high)))));
            halved = rw w.halved (half_next h.link t (omega (arith, more, h.link.high)));
          }

  -- in the link all are written: with the outputs before them it is the path
  pub path_made : (all : List Step) → OutputsAre i (numbers_of all) → i + 2 ≤ t → PathIs i j (numbers_of (put_mid (i - 1) (2 * i + 1 - (i - 1)) all steps)) (2 * i + 1)
  unfolding path
  path_made all o past =
      let f : Step → ℕ = λ (step : Step). step.buffer in
      let part = 2 * i + 1 - (i - 1) in
      let long_steps : length steps ≡ i + 2 = sym (length-map steps f) ∙ w.long in
      let long_all : length all ≡ path_room = sym (length-map all f) ∙ o.long in
      let mid : length (mid_of (i - 1) part all) ≡ part = mid_len (i - 1) (2 * i + 1) all (omega (arith, long_all, h.link.high)) in
      let same : length (put_mid (i - 1) part all steps) ≡ length all = same_len_mid (i - 1) part all steps (omega (arith, long_steps, mid, h.link.low)) in
      let before : map f (take (i - 1) all) ≡ outputs 1 (i - 1) = sym (take-map f (i - 1) all) ∙ o.begins in
      let below : map f steps ≡ drop (i - 1) (path i j) =
      sym (take_all t (map f steps) (omega (arith, w.long))) ∙ w.begins ∙ take_all t (drop (i - 1) (path i j)) (omega (arith, below_long h.link j h.low h.high)) in
      let written = take-put_mid (i - 1) part all steps (2 * i + 1) (omega (arith, long_steps, h.link.low)) (omega (arith, long_all, h.link.high)) in
      let lead : outputs 1 (i - 1) ≡ take (i - 1) (path i j) = sym (take_at (outputs 1 (i - 1)) (path_in_link i j) (i - 1) (length_outputs 1 (i - 1))) in
      record {
        long = length-map (put_mid (i - 1) part all steps) f ∙ same ∙ long_all;
        few = omega (arith, h.link.high);
        many = sym (path_long h.link j h.low h.high);
        is =
            take-map f (2 * i + 1) (put_mid (i - 1) part all steps) ∙ ap (map f) written ∙ map-append f (take (i - 1) all) steps
            ∙ ap (λ l. l ++ map f steps) (before ∙ lead) ∙ ap (λ l. take (i - 1) (path i j) ++ l) below ∙ take-append-drop (i - 1) (path i j);
      }
