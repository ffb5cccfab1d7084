-- After a sweep the book rules hold, and what it leaves over has its place.
use Prim.Native.Nat.{ℕ, zero, suc, ◌+◌, ◌-◌, ◌*◌, ◌≤◌, ◌<◌}
use mathlib.Core.Path.{◌≡◌, refl, ap, ◌∙◌}
use mathlib.Core.Logic.{◌≢◌}
use mathlib.Core.List.{[]}
use native.Mathlib.Omega.{arith}
use native.Mathlib.Nat.{mul-le-mul_right}
use lib.ListN.{length, get_or}
use Rattle.rules.specs.Links.{s, k, capacity, first, number_of_s, buffer_count}
use Rattle.rules.specs.Tree.{Buffers, k_merger, tree_of}
use Rattle.rules.specs.Take.{insertion, held_in}
use Rattle.rules.specs.Queue.{Queue, key_of, counter, held_from}
use Rattle.rules.specs.Sweep.{Swept, sweep_to, raised}
use Rattle.rules.specs.Insert.{swept}
use Rattle.rules.proofs.Full.{Fits, no_entries}
use Rattle.rules.proofs.Weight.{sum_of_ones, held_weight}
use Rattle.rules.proofs.TakeLaws.{held_all}
use Rattle.rules.proofs.Sizes.{first_mono, by_eqb, by_leb, s_next, k_some, first_next}
use Rattle.rules.proofs.Numbering.{k_merger_range}
use Rattle.rules.proofs.Held.{k_merger_held, held_mono, held_but_one}
use Rattle.rules.proofs.PackLaws.{stands_none}
use Rattle.rules.proofs.Capacity.{Inside, s_capacity}
use Rattle.rules.proofs.PathCounts.{raised_long, raised_before, raised_at, raised_behind}
use Rattle.rules.proofs.Along.{lower}
use Rattle.rules.proofs.SweepLaws.{swept_as_many, swept_insertion, swept_rest, swept_keeps, swept_no_more, swept_last, swept_lower}
use Rattle.rules.proofs.BookLaws.{LinkKept, Kept, links_inside, inside_links}
use Rattle.rules.proofs.BookKept.{Shaped}

-- ---- what is left over

-- s(a) and what the links from a on can have below their outputs is at most the s of the link behind them
lower_most : (bs : Buffers) (p a : ℕ) → 0 < a → ((m : ℕ) → a ≤ m → m < a + p → held_in (k_merger m) bs ≤ k m * s m) → s a + lower a p bs ≤ s (a + p)
unfolding lower
lower_most bs zero a some h = let e : a + 0 ≡ a = omega arith in rw e (omega arith)
lower_most bs (suc p) a some h =
    let e : a + suc p ≡ suc a + p = omega arith in
    rw e (omega (arith, h a (omega arith) (omega arith), s_next a some, lower_most bs p (suc a) (omega arith) (λ m low high. h m (omega arith) (omega arith))))

-- s(1)
pub s_one : s 1 ≡ 8
unfolding s
s_one = refl

module _ (room : ℕ) (q : Queue) (shape : Shaped q) (kept : Kept room q) (eight : length (insertion q.buffers) ≤ 8) (i : ℕ) (low : 1 ≤ i) (high : i ≤ q.links) (unspent : counter q i ≤ k i) where
  abbrev bs : Buffers
  bs = q.buffers

  abbrev j : ℕ
  j = counter q i

  abbrev z : Swept
  z = sweep_to (key_of q) i j bs

  some : 0 < j
  some = (kept.each i low high).counter_low

  many : buffer_count q.links ≤ length bs
  many = omega (arith, shape.buffers)

  -- "(c(i)-1) x s(i)" is at most k(i) x s(i)
  link_most : (m : ℕ) → 1 ≤ m → m ≤ q.links → held_in (k_merger m) bs ≤ k m * s m
  link_most m l h =
      let c = kept.each m l h in
      let fewer : counter q m - 1 ≤ k m = omega (arith, c.counter_high) in
      omega (arith, c.not_over, mul-le-mul_right (s m) fewer)

  -- what a sweep to i leaves over has its place in S(i, c(i))
  pub rest_fits : z.rest ≤ s i
  rest_fits =
      let e : 1 + (i - 1) ≡ i = omega arith in
      let l = rw e at (lower_most bs (i - 1) 1 (omega arith) (λ m l h. link_most m l (omega arith))) in
      omega (arith, swept_rest (key_of q) q.links i j low high some unspent bs many, s_one)

  -- ---- the queue after it

  abbrev q' : Queue
  q' = record { links = q.links; counters = raised i q.counters; buffers = z.buffers }

  no_more : (m : ℕ) → m ≢ number_of_s i j → length (get_or z.buffers m []) ≤ length (get_or bs m [])
  no_more = swept_no_more (key_of q) q.links i j low high some unspent bs many

  -- S(i, c(i)) was empty, and now has the rest
  pub rest_laid : length (get_or z.buffers (number_of_s i j) []) ≡ z.rest
  rest_laid = let e = ap length ((kept.each i low high).unused j (omega arith) unspent) in omega (arith, swept_last (key_of q) q.links i j low high some unspent bs many)

  destination : (first i + k i ≤ number_of_s i j) × (number_of_s i j < first (suc i))
  unfolding number_of_s
  destination = (omega arith, omega (arith, first_next i low, some))

  swept_inside : (m : ℕ) → 1 ≤ m → m ≤ q.links → Inside m bs → Inside m z.buffers
  swept_inside m l h inside y less =
      by_eqb (first m + y) (number_of_s i j) (λ b. length (get_or z.buffers (first m + y) []) ≤ capacity m y)
      (λ e.
      let d = destination in
      let top = first_next m l in
      let same : m ≡ i = by_leb m i (λ b. m ≡ i)
      (λ p. by_leb i m (λ b. m ≡ i) (λ r. omega arith) (λ r. absurd (omega (arith, first_mono (suc m) i (omega arith) r, d.0))))
      (λ p. absurd (omega (arith, first_mono (suc i) m (omega arith) p, d.1))) in
      let at : first i + y ≡ number_of_s i j = rw same at e in
      let less_i : y < 2 * k i = rw same at less in
      rw (e, rest_laid, same, s_capacity i low bs y (omega (arith, d.0)) less_i) rest_fits)
      (λ e. omega (arith, no_more (first m + y) e, inside y less))

  -- ---- its counters

  counter_before : (m : ℕ) → 1 ≤ m → m < i → counter q' m ≡ 1
  unfolding counter
  counter_before m l less = raised_before i q.counters (m - 1) (omega arith) (omega (arith, shape.counters))

  counter_at : counter q' i ≡ suc (counter q i)
  unfolding counter
  counter_at = raised_at i q.counters (i - 1) (omega arith) (omega (arith, shape.counters))

  counter_behind : (m : ℕ) → i < m → counter q' m ≡ counter q m
  unfolding counter
  counter_behind m less = raised_behind i q.counters (m - 1) (omega arith)

  -- ---- link by link

  s_of : (m l : ℕ) → 1 ≤ m → 1 ≤ l → l ≤ k m → (first m < number_of_s m l) × (number_of_s m l < first (suc m))
  unfolding number_of_s
  s_of m l link low_l high_l = (omega (arith, k_some m), omega (arith, first_next m link))

  s_same : (m n l : ℕ) → number_of_s m n ≡ number_of_s m l → n - 1 ≡ l - 1
  unfolding number_of_s
  s_same m n l e = omega arith

  before_kept : (m : ℕ) → 1 ≤ m → m < i → LinkKept q' m
  before_kept m l less =
      let c = counter_before m l less in
      let lower_m = swept_lower (key_of q) q.links i j low high some unspent bs many m l less in
      record {
        counter_low = omega arith;
        counter_high = omega (arith, k_some m);
        unused = λ n cn few. let r = s_of m n l (omega arith) few in lower_m (number_of_s m n) r.0 r.1;
        not_over = rw (stands_none (k_merger m) z.buffers (λ n st. let r = k_merger_range m l st in lower_m n r.0 r.1)) (omega arith);
      }

  at_kept : LinkKept q' i
  at_kept =
      let c = counter_at in
      let old = kept.each i low high in
      let held : held_from (first i + 1) (2 * k i - 1) z.buffers ≤ held_from (first i + 1) (2 * k i - 1) bs + z.rest =
      held_but_one (first i + 1) (2 * k i - 1) (number_of_s i j) z.rest bs z.buffers no_more (omega (arith, rest_laid)) in
      record {
        counter_low = omega arith;
        counter_high = omega arith;
        unused = λ n cn few.
            let e = ap length (old.unused n (omega arith) few) in
            no_entries (get_or z.buffers (number_of_s i n) []) (omega (arith, no_more (number_of_s i n) (λ same. omega (arith, s_same i n j same, some))));
        not_over =
            let p = counter q i - 1 in
            let more : (suc (counter q i) - 1) * s i ≡ s i + p * s i = let e : suc (counter q i) - 1 ≡ suc p = omega (arith, some) in rw e (omega arith) in
            rw (c, more) (omega (arith, old.not_over, k_merger_held i low bs, k_merger_held i low z.buffers, rest_fits));
      }

  behind_kept : (m : ℕ) → i < m → m ≤ q.links → LinkKept q' m
  behind_kept m less h =
      let c = counter_behind m less in
      let old = kept.each m (omega arith) h in
      let d = destination in
      let f = first_mono (suc i) m (omega arith) less in
      record {
        counter_low = omega (arith, old.counter_low);
        counter_high = omega (arith, old.counter_high);
        unused = λ n cn few.
            let e = ap length (old.unused n (omega arith) few) in
            let r = s_of m n (omega arith) (omega (arith, old.counter_low)) few in
            no_entries (get_or z.buffers (number_of_s m n) []) (omega (arith, no_more (number_of_s m n) (λ q. omega (arith, r.0, d.1))));
        not_over =
            rw c (
            let mono = held_mono (first m + 1) (2 * k m - 1) bs z.buffers (λ n low_n high_n. no_more n (λ q. omega (arith, d.1))) in
            omega (arith, old.not_over, k_merger_held m (omega arith) bs, k_merger_held m (omega arith) z.buffers)
            );
      }

  -- ---- all together

  all_same : held_all (tree_of q.links) z.buffers ≡ held_all (tree_of q.links) bs
  all_same =
      let t = tree_of q.links in
      omega (
        arith,
        swept_keeps (key_of q) q.links i j low high some unspent bs many (λ e. 1),
        sum_of_ones (insertion bs),
        sum_of_ones (insertion z.buffers),
        held_weight t 0 bs,
        held_weight t 0 z.buffers,
      )

  each_kept : (m : ℕ) → 1 ≤ m → m ≤ q.links → LinkKept q' m
  each_kept m l h =
      by_leb m i (λ b. LinkKept q' m)
      (λ p. by_leb i m (λ b. LinkKept q' m) (λ r. let e : m ≡ i = omega arith in rw e at_kept) (λ r. before_kept m l r))
      (λ p. behind_kept m p h)

  fits_kept : Fits (tree_of q.links) z.buffers
  unfolding tree_of
  fits_kept =
      let n = q.links in
      inside_links z.buffers n 1 (omega arith) (λ m l h. swept_inside m l (omega arith) (links_inside bs n 1 (omega arith) kept.fits m l h))

  -- after a sweep the book rules hold
  pub swept_kept : Kept 7 (swept i q).queue
  unfolding swept
  swept_kept =
      let e = ap length (swept_insertion (key_of q) q.links i j low high some unspent bs many) in
      record { number = kept.number; few = omega arith; fits = fits_kept; each = each_kept; at_most = omega (arith, all_same, kept.at_most) }

  -- as many counters and buffers as before
  pub swept_shaped : Shaped (swept i q).queue
  unfolding swept
  swept_shaped = record { counters = raised_long i q.counters ∙ shape.counters; buffers = swept_as_many (key_of q) q.links i j low high some unspent bs many ∙ shape.buffers }
