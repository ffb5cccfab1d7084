-- One buffer refilled, the last one, and the whole path.
use mathlib.Core.Path.{◌≡◌, refl, sym, ap, ◌∙◌}
use mathlib.Core.Logic.{◌≢◌}
use mathlib.Core.List.{List, [], ◌∷◌, ◌++◌}
use Prim.Native.Nat.{ℕ, zero, suc, ◌+◌, ◌-◌, ◌≤◌, ◌<◌}
use native.Mathlib.Omega.{arith}
use native.Mathlib.Decide.{dec_lt, ℕ_discrete}
use native.Mathlib.Numerals.{add-one}
use lib.ListN.{length, take, drop, get_or, set, length-take, length-drop, drop_of_length-le}
use lib.Seq.{take_at, drop_at, drop-cons, get_or-take, length-take-le}
use Rattle.rules.specs.Links.{sum, buffer_count}
use Rattle.rules.specs.Merge.{join}
use Rattle.rules.specs.Sweep.{refill_path}
use Rattle.rules.specs.Tree.{Buffers}
use Rattle.buffers.specs.Slots.{base, capacity_of}
use Rattle.buffers.specs.Format.{many, word_of, mark_in, start_in, buffers_of}
use Rattle.buffers.specs.Post.{Inside, Has, Only, Now, Word, Kept, Laying}
use Rattle.buffers.proofs.ArrayLaws.{has, only_word, only_kept, kept_none, kept_links, kept_then}
use Rattle.runs.specs.Promises.{laid_at, Parts}
use Rattle.runs.specs.Until.{until_end}
use Rattle.runs.proofs.MergeLaws.{length_out, until_most}
use Rattle.runs.proofs.PromiseLaws.{parts_join}
use Rattle.paths.specs.Refills.{Filling, Filled, Ending, Ended, Refilling, Refilled}
use Rattle.paths.proofs.SlotsLaws.{part_now, part_laid, laid_laying, laid_now}

-- ---- one buffer

module _ {key : ℕ → ℕ} (ws : List ℕ) (n m : ℕ) (xs ys : List ℕ) (h : Filling ws n m xs ys) (at : ℕ) (begins : at ≡ base n) (part : List ℕ) (r : ℕ)
    (p : Parts key xs ys (take (at + m - at) (drop at ws)) part r) where
  room_is : length (take (at + m - at) (drop at ws)) ≡ m
  room_is = simp (length-take, length-drop) (omega (arith, h.room, h.of.slots))

  part_long : length part ≡ m
  part_long = ap length p.laid ∙ length_out key (length (take (at + m - at) (drop at ws))) xs ys (omega (arith, room_is, h.enough)) ∙ room_is

  after_is : take at ws ++ (part ++ drop (at + m - at) (drop at ws)) ≡ laid_at ws (base n) part
  after_is =
      let e : length part ≡ at + m - at = omega (arith, part_long) in
      part_now ws at (at + m - at) part e ∙ rw begins

  pub fill_laying : Laying (take at ws ++ (part ++ drop (at + m - at) (drop at ws))) n m
  fill_laying = rw (after_is, ← part_long) (laid_laying ws n part h.of (omega (arith, part_long, h.room)))

  splits : join key xs ys ≡ part ++ join key (drop r xs) (drop (m - r) ys)
  splits = parts_join key p ∙ rw room_is

  pub fill_did : (ws' : List ℕ) → Now (take at ws ++ (part ++ drop (at + m - at) (drop at ws))) ws' n (take m (drop (base n) (take at ws ++ (part ++ drop (at + m - at) (drop at ws))))) → Word ws' n 0 0
      → Filled key ws ws' n m xs ys r
  fill_did ws' z w =
      let rests = join key (drop r xs) (drop (m - r) ys) in
      let first : take m (join key xs ys) ≡ part = ap (take m) splits ∙ take_at part rests m part_long in
      record {
        holds = rw first (laid_now ws n part h.of (omega (arith, part_long, h.room)) ws' (rw (after_is, ← part_long) at z));
        word = w;
        of_first = p.of_first;
        of_both = omega (arith, p.of_both, room_is);
        of_second = omega (arith, p.of_second, room_is);
        rest = ap (drop m) splits ∙ drop_at part rests m part_long;
      }

-- ---- two runs joined into a stretch

pub join_long : (key : ℕ → ℕ) (xs ys : List ℕ) → length (join key xs ys) ≡ length xs + length ys
unfolding join
join_long key xs ys = length_out key (length xs + length ys) xs ys (omega arith)

pub join_room : (key : ℕ → ℕ) (xs ys : List ℕ) → until_end key xs ys ≤ length xs + length ys
join_room key xs ys = until_most key (length xs + length ys) xs ys

-- ---- the last buffer

module _ (key : ℕ → ℕ) (ws : List ℕ) (n : ℕ) (xs ys : List ℕ) (h : Ending ws n xs ys) (at : ℕ) (begins : at ≡ base n) (part : List ℕ)
    (e : part ≡ laid_at (take (at + (length xs + length ys) - at) (drop at ws)) 0 (join key xs ys)) where
  abbrev size : ℕ
  size = at + (length xs + length ys) - at

  last_is : take at ws ++ (part ++ drop size (drop at ws)) ≡ laid_at ws (base n) (join key xs ys)
  last_is =
      rw e (part_laid ws at size (join key xs ys) (omega (arith, h.room, h.of.slots)) (omega (arith, join_long key xs ys))
      ∙ ap (λ p. laid_at ws p (join key xs ys)) begins)

  pub last_laying : Laying (take at ws ++ (part ++ drop size (drop at ws))) n (length xs + length ys)
  last_laying = rw (last_is, ← join_long key xs ys) (laid_laying ws n (join key xs ys) h.of (omega (arith, join_long key xs ys, h.room)))

  pub last_did : (ws' : List ℕ) → Now (take at ws ++ (part ++ drop size (drop at ws))) ws' n (take (length xs + length ys) (drop (base n) (take at ws ++ (part ++ drop size (drop at ws))))) → Word ws' n 0 0
      → Ended key ws ws' n xs ys
  last_did ws' z w = record {
    holds = laid_now ws n (join key xs ys) h.of (omega (arith, join_long key xs ys, h.room)) ws' (rw (last_is, ← join_long key xs ys) at z);
    word = w;
  }

-- ---- the path

pub sum_more : (cs : List ℕ) (t : ℕ) → t < length cs → sum (take (t + 1) cs) ≡ sum (take t cs) + get_or cs t 0
unfolding sum
sum_more [] t h = absurd (omega arith)
sum_more (c ∷ cs) zero h = omega arith
sum_more (c ∷ cs) (suc t) h = let e : suc t + 1 ≡ suc (t + 1) = omega arith in rw e (omega (arith, sum_more cs t (omega arith)))

sum_most : (cs : List ℕ) (t u : ℕ) → t ≤ u → sum (take t cs) ≤ sum (take u cs)
unfolding sum
sum_most [] zero u h = omega arith
sum_most [] (suc t) u h = omega arith
sum_most (c ∷ cs) zero u h = omega arith
sum_most (c ∷ cs) (suc t) zero h = absurd (omega arith)
sum_most (c ∷ cs) (suc t) (suc u) h = omega (arith, sum_most cs t u (omega arith))

-- a buffer that is not the last
refill_step : (ns cs run : List ℕ) (bs : Buffers) (t : ℕ) → t + 1 < length ns → t < length cs
    → refill_path (drop t ns) (drop t cs) run bs ≡ refill_path (drop (t + 1) ns) (drop (t + 1) cs) (drop (get_or cs t 0) run) (set bs (get_or ns t 0) (take (get_or cs t 0) run))
unfolding refill_path
refill_step ns cs run bs t h g =
    let e : t + 1 ≡ suc t = add-one t in
    rw (e, drop-cons ns t 0 (omega arith), drop-cons cs t 0 g, drop-cons ns (suc t) 0 (omega arith))

refill_end : (ns cs run : List ℕ) (bs : Buffers) (t : ℕ) → t + 1 ≡ length ns → refill_path (drop t ns) cs run bs ≡ set bs (get_or ns t 0) run
unfolding refill_path
refill_end ns cs run bs t h =
    let past : length ns ≤ suc t = omega arith in
    rw (drop-cons ns t 0 (omega arith), drop_of_length-le ns past)

-- t buffers are refilled: what is left of the runs gives the same answer
pub record Refills (key : ℕ → ℕ) (ws₀ ws ns cs : List ℕ) (n : ℕ) (xs₀ ys₀ xs ys : List ℕ) (t : ℕ) : Type 0 where
  pub within : t + 1 ≤ n
  pub left : length xs + length ys + sum (take t cs) ≡ length xs₀ + length ys₀
  pub array : Inside ws
  pub kept : Kept ws₀ ws
  pub state : refill_path (drop t (take n ns)) (drop t (take n cs)) (join key xs ys) (buffers_of ws) ≡ refill_path (take n ns) (take n cs) (join key xs₀ ys₀) (buffers_of ws₀)
  pub words : (u : ℕ) → u < t → Word ws (get_or ns u 0) 0 0
  pub others : (m : ℕ) → m < many ws₀ → ((u : ℕ) → u < n → m ≢ get_or ns u 0) → word_of ws m ≡ word_of ws₀ m

pub refills_first : {key : ℕ → ℕ} {ws ns cs : List ℕ} {n : ℕ} {xs ys : List ℕ} → Refilling ws ns cs n xs ys → Refills key ws ws ns cs n xs ys xs ys 0
unfolding sum
refills_first {ws} h = record {
  within = h.some;
  left = omega arith;
  array = h.path.array;
  kept = kept_none ws;
  state = refl;
  words = λ u less. absurd (omega arith);
  others = λ m less other. refl;
}

-- the words of a path, when one more of its buffers begins at its first slot without a mark
pub words_more : (ws ws' : List ℕ) (n m : ℕ) → Has ws n → Only ws ws' n → Word ws' n 0 0 → m < many ws → Word ws m 0 0 → Word ws' m 0 0
words_more ws ws' n m h only w less old = go (ℕ_discrete m n)
  where
    go : Dec (m ≡ n) → Word ws' m 0 0
    go (yes e) = rw e w
    go (no differ) =
        let same = only_word ws ws' n h only m less differ in
        record { mark = ap mark_in same ∙ old.mark; start = ap start_in same ∙ old.start }

module _ {key : ℕ → ℕ} {ws₀ ws ns cs : List ℕ} {n : ℕ} {xs₀ ys₀ xs ys : List ℕ} {t : ℕ} (h : Refilling ws₀ ns cs n xs₀ ys₀) (z : Refills key ws₀ ws ns cs n xs₀ ys₀ xs ys t) (b : ℕ) (b_is : b ≡ get_or ns t 0) where
  same_many : many ws ≡ many ws₀
  same_many = ap buffer_count (kept_links z.kept)

  long_ns : length (take n ns) ≡ n
  long_ns = length-take-le n ns (omega (arith, h.path.long, h.path.few))

  long_cs : length (take n cs) ≡ n
  long_cs = length-take-le n cs (omega (arith, h.noted, h.path.few))

  -- buffer t of the path, b, is one of the array
  here : t < n → Has ws b
  here less = has ws b z.array (rw (b_is, same_many) (h.path.each t less))

  -- it has been given its entries: the words of those of the path that have theirs, and of those that are not on it
  words_at : (ws' : List ℕ) → t < n → Only ws ws' b → Word ws' b 0 0 → (u : ℕ) → u < t + 1 → Word ws' (get_or ns u 0) 0 0
  words_at ws' less only word u before = go (dec_lt u t)
    where
      go : Dec (u < t) → Word ws' (get_or ns u 0) 0 0
      go (yes early) = words_more ws ws' b (get_or ns u 0) (here less) only word (rw same_many (h.path.each u (omega arith))) (z.words u early)
      go (no late) = let e : u ≡ t = omega arith in rw (e, ← b_is) word

  others_at : (ws' : List ℕ) → t < n → Only ws ws' b → (m : ℕ) → m < many ws₀ → ((u : ℕ) → u < n → m ≢ get_or ns u 0) → word_of ws' m ≡ word_of ws₀ m
  others_at ws' less only m inside other =
      let differs : m ≢ b = rw b_is (other t less) in
      only_word ws ws' b (here less) only m (rw same_many inside) differs ∙ z.others m inside other

  module _ (more : t + 1 < n) (m : ℕ) (m_is : m ≡ get_or cs t 0) where
    more_left : m ≤ length xs + length ys
    more_left = omega (arith, m_is, z.left, sum_more cs t (omega (arith, h.noted, h.path.few)), sum_most cs (t + 1) (n - 1) (omega arith), h.enough)

    pub refills_asks : Filling ws b m xs ys
    refills_asks = record { of = here (omega arith); room = rw (b_is, m_is) (h.fits t more); enough = more_left }

    pub refills_next : (ws' : List ℕ) (r : ℕ) → Filled key ws ws' b m xs ys r → (xs' ys' : List ℕ) → xs' ≡ drop r xs → ys' ≡ drop (m - r) ys → Refills key ws₀ ws' ns cs n xs₀ ys₀ xs' ys' (t + 1)
    refills_next ws' r f xs' ys' xs_is ys_is =
        let run = join key xs ys in
        let of = here (omega arith) in
        let e₁ : get_or (take n ns) t 0 ≡ b = get_or-take n ns t 0 (omega arith) ∙ sym b_is in
        let e₂ : get_or (take n cs) t 0 ≡ m = get_or-take n cs t 0 (omega arith) ∙ sym m_is in
        let step : refill_path (drop t (take n ns)) (drop t (take n cs)) run (buffers_of ws) ≡ refill_path (drop (t + 1) (take n ns)) (drop (t + 1) (take n cs)) (drop m run) (set (buffers_of ws) b (take m run)) =
        refill_step (take n ns) (take n cs) run (buffers_of ws) t (omega (arith, long_ns)) (omega (arith, long_cs)) ∙ rw (e₁, e₂) in
        let rests : drop m run ≡ join key xs' ys' = f.rest ∙ rw (← xs_is, ← ys_is) in
        record {
          within = omega arith;
          left = omega (
            arith,
            z.left,
            m_is,
            f.of_first,
            f.of_both,
            f.of_second,
            ap length xs_is,
            ap length ys_is,
            length-drop r xs,
            length-drop (m - r) ys,
            sum_more cs t (omega (arith, h.noted, h.path.few)),
          );
          array = f.holds.array;
          kept = kept_then z.kept (only_kept ws ws' b of f.holds.only);
          state = rw (← rests, f.holds.state) (sym step ∙ z.state);
          words = words_at ws' (omega arith) f.holds.only f.word;
          others = others_at ws' (omega arith) f.holds.only;
        }

  module _ (last : t + 1 ≡ n) where
    pub refills_ask_last : Ending ws b xs ys
    refills_ask_last =
        let e : n - 1 ≡ t = omega arith in
        let room : length xs₀ + length ys₀ ≤ sum (take t cs) + capacity_of (get_or ns t 0) = rw e at h.room in
        let here_room : length xs₀ + length ys₀ ≤ sum (take t cs) + capacity_of b = rw b_is room in
        record { of = here (omega arith); room = omega (arith, z.left) }

    pub refills_last : (ws' : List ℕ) → Ended key ws ws' b xs ys → Refilled key ws₀ ws' ns cs n xs₀ ys₀
    refills_last ws' f =
        let run = join key xs ys in
        let of = here (omega arith) in
        let e : get_or (take n ns) t 0 ≡ b = get_or-take n ns t 0 (omega arith) ∙ sym b_is in
        let end : refill_path (drop t (take n ns)) (drop t (take n cs)) run (buffers_of ws) ≡ set (buffers_of ws) b run =
        refill_end (take n ns) (drop t (take n cs)) run (buffers_of ws) t (omega (arith, long_ns)) ∙ rw e in
        record {
          array = f.holds.array;
          kept = kept_then z.kept (only_kept ws ws' b of f.holds.only);
          state = f.holds.state ∙ sym end ∙ z.state;
          words = λ u less. words_at ws' (omega arith) f.holds.only f.word u (omega arith);
          others = others_at ws' (omega arith) f.holds.only;
        }
