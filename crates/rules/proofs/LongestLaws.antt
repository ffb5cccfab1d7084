-- How long a fill, a take, a look and an insert can run, whatever stands in the buffers.
use Prim.Native.Nat.{ℕ, zero, suc, ◌+◌, ◌-◌, ◌*◌, ◌≤◌, ◌<◌}
use mathlib.Core.Path.{◌≡◌, refl, ap}
use mathlib.Core.Logic.{◌⊎◌, inl, inr}
use mathlib.Core.List.{List, [], ◌∷◌}
use native.Mathlib.Omega.{arith}
use native.Mathlib.Nat.{mul-le-mul_left, mul-le-mul_right}
use lib.ListN.{length}
use Rattle.rules.specs.Links.{s, height, levels, first, capacity, buffer_count, most}
use Rattle.rules.specs.Tree.{Buffers, Tree, exhausted, buffer, merger, entries, height_of, perfect, k_merger, links_from, tree_of}
use Rattle.rules.specs.Merge.{merge_step}
use Rattle.rules.specs.Fill.{untouched, fill}
use Rattle.rules.specs.Take.{insertion, held_in, ready, take_one, take_all}
use Rattle.rules.specs.Queue.{Queue, key_of, held}
use Rattle.rules.specs.Sweep.{sweep_to}
use Rattle.rules.specs.Insert.{lowest, swept, packed, entered, inserted}
use Rattle.rules.specs.Longest.{risen, longest_fill, longest_take, longest_insert}
use Rattle.rules.proofs.Contents.{Below, Contents, below, view, Refilled, fill_contents}
use Rattle.rules.proofs.Lens.{fill_seen}
use Rattle.rules.proofs.Weight.{sum_of, sum_of_ones, sum_of_same, weight_below, weight, weight_seen, contents_pay, owed_in}
use Rattle.rules.proofs.Full.{Roomy, top_capacity, held_below, held_seen, contents_full, FitsBelow, FitsIn, fits_seen, fits_fill}
use Rattle.rules.proofs.Sizes.{by_leb, first_mono}
use Rattle.rules.proofs.Numbering.{k_merger_roomy, links_roomy, tree_roomy}
use Rattle.rules.proofs.Heights.{height_falls, perfect_height, links_height, a_rises}
use Rattle.rules.proofs.Once.{Once, unfilled, run_once}
use Rattle.rules.proofs.LayLaws.{depth}
use Rattle.rules.proofs.Takes.{hand_steps, ready_cases, Beside}
use Rattle.rules.proofs.TakeLaws.{take_all_pays}
use Rattle.rules.proofs.BookLaws.{Kept}
use Rattle.rules.proofs.BookKept.{Shaped, beside_tree}
use Rattle.rules.proofs.InsertLaws.{insert_cases, now_shaped, now_kept}

-- ---- how deep entries stand

-- no entry is deeper below the top than the tree is high
pub owed_most : (t : Tree) (d h : ℕ) (b : Below t) → d + height_of t ≤ h → weight_below depth t d b ≤ h * held_below t d b
unfolding weight_below
owed_most exhausted d h b deep = omega arith
owed_most (buffer n c) d h b deep = omega arith
owed_most (merger n c one two) d h b deep =
    let falls = height_falls n c one two in
    let low : suc d ≤ h = omega (arith, falls.0) in
    let x = b.0.0 in
    let y = b.1.0 in
    let p = held_below one (suc d) b.0.1 in
    let q = held_below two (suc d) b.1.1 in
    let all : h * ((sum_of (λ e. 1) x + p) + (sum_of (λ e. 1) y + q)) ≡ (h * length x + h * p) + (h * length y + h * q) =
    rw (sum_of_ones x, sum_of_ones y) (apart h (length x) p (length y) q) in
    omega (
      arith,
      all,
      sum_of_same (suc d) x,
      sum_of_same (suc d) y,
      mul-le-mul_right (length x) low,
      mul-le-mul_right (length y) low,
      owed_most one (suc d) h b.0.1 (omega (arith, falls.0)),
      owed_most two (suc d) h b.1.1 (omega (arith, falls.1)),
    )
  where
    apart : (h w x y z : ℕ) → h * ((w + x) + (y + z)) ≡ (h * w + h * x) + (h * y + h * z)
    apart h w x y z = omega arith

-- so what a tree's entries owe is at most its height for each
pub owed_at_most : (t : Tree) (h : ℕ) (bs : Buffers) → height_of t ≤ h → owed_in t bs ≤ h * held_in t bs
owed_at_most t h bs low =
    let all : h * held_in t bs ≡ h * length (entries t bs) + h * held_below t 0 (below t bs) = rw (held_seen t 0 bs) (omega arith) in
    omega (arith, all, weight_seen depth t 0 bs, sum_of_same 0 (entries t bs), owed_most t 0 h (below t bs) (omega arith))

-- the first links hold no more than all
links_fewer : (n m i : ℕ) (bs : Buffers) → n ≤ m → held_in (links_from i n) bs ≤ held_in (links_from i m) bs
unfolding links_from held_in
links_fewer zero m i bs low = omega arith
links_fewer (suc n) zero i bs low = absurd (omega arith)
links_fewer (suc n) (suc m) i bs low = omega (arith, links_fewer n m (suc i) bs (omega arith))

-- ---- one fill

module _ (a size : ℕ) where
  -- each entry of a perfect tree owes what the lowest owe, less what it has risen
  owed_least : (cs : List ℕ) (j d : ℕ) (z : Contents (perfect a size cs j)) → FitsIn (perfect a size cs j) z
      → let t = perfect a size cs j in (d + length cs) * (length z.0 + held_below t d z.1) ≤ weight depth t d z + risen t
  unfolding perfect risen weight_below
  owed_least [] j d z fits = omega (arith, sum_of_same d z.0)
  owed_least (c ∷ cs) j d z fits =
      let l = length cs in
      let x = z.1.0 in
      let y = z.1.1 in
      let t₁ = perfect a size cs (2 * j) in
      let t₂ = perfect a size cs (suc (2 * j)) in
      let p = held_below t₁ (suc d) x.1 in
      let q = held_below t₂ (suc d) y.1 in
      let e : height_of (perfect a size (c ∷ cs) j) ≡ suc l = perfect_height a size (c ∷ cs) j in
      let top : length z.0 * suc l ≤ c * height_of (perfect a size (c ∷ cs) j) = rw e (mul-le-mul_right (suc l) fits.0) in
      let all : (d + suc l) * (length z.0 + ((sum_of (λ e. 1) x.0 + p) + (sum_of (λ e. 1) y.0 + q))) ≡ (d * length z.0 + length z.0 * suc l) + ((suc d + l) * (length x.0 + p) + (suc d + l) * (length y.0 + q)) =
      rw (sum_of_ones x.0, sum_of_ones y.0) (apart d l (length z.0) (length x.0 + p) (length y.0 + q)) in
      omega (
        arith,
        all,
        top,
        sum_of_same d z.0,
        owed_least cs (2 * j) (suc d) x fits.1.0,
        owed_least cs (suc (2 * j)) (suc d) y fits.1.1,
      )
    where
      apart : (d l t x y : ℕ) → (d + suc l) * (t + (x + y)) ≡ (d * t + t * suc l) + ((suc d + l) * x + (suc d + l) * y)
      apart d l t x y = omega arith

module _ (key : ℕ → ℕ) where
  -- a fill of contents keeps what is held, and its steps are what is owed no more
  contents_held : (t : Tree) (b : Below t) → let r = fill_contents key t ([], b) in length r.contents.0 + held_below t 0 r.contents.1 ≡ held_below t 0 b
  contents_held t b =
      let r = fill_contents key t ([], b) in
      omega (arith, contents_pay (λ d e. 1) 0 (λ d e. omega arith) key t 0 ([], b), sum_of_ones r.contents.0)

  contents_owed : (t : Tree) (b : Below t) → let r = fill_contents key t ([], b) in weight depth t 0 r.contents + r.steps ≡ weight_below depth t 0 b
  contents_owed t b = omega (arith, contents_pay depth 1 (λ d e. omega arith) key t 0 ([], b))

  -- a perfect tree is filled once at the cost of what can have risen in it
  perfect_longest : (a size : ℕ) (cs : List ℕ) (j : ℕ) → let t = perfect a size cs j in Roomy t → (b : Below t) → FitsBelow t b → (fill_contents key t ([], b)).steps ≤ risen t
  perfect_longest a size cs j roomy b fits =
      let t = perfect a size cs j in
      let r = fill_contents key t ([], b) in
      let l = length cs in
      let same : (0 + l) * (length r.contents.0 + held_below t 0 r.contents.1) ≡ l * held_below t 0 b = rw (contents_held t b) (omega arith) in
      omega (
        arith,
        same,
        contents_owed t b,
        owed_most t 0 l b (omega (arith, perfect_height a size cs j)),
        owed_least a size cs j 0 r.contents (fits_fill key roomy ([], b) (omega arith, fits)),
      )

  -- ---- the inputs of a merger

  -- a fill with nothing below it makes no step
  idles : (t : Tree) (b : Below t) → held_below t 0 b ≡ 0 → let r = fill_contents key t ([], b) in (r.steps ≡ 0) × (held_below t 0 r.contents.1 ≡ 0)
  idles t b none =
      let nothing : height_of t * held_below t 0 b ≡ height_of t * 0 = ap (λ n. height_of t * n) none in
      (omega (arith, nothing, contents_owed t b, owed_most t 0 (height_of t) b (omega arith)), omega (arith, contents_held t b))

  -- an input that is not smaller than the output is filled once
  once : {t : Tree} → Roomy t → (c cost : ℕ) → c ≤ top_capacity t → ((b : Below t) → FitsBelow t b → (fill_contents key t ([], b)).steps ≤ cost) → Once (held_below t 0) (FitsBelow t) (fill_contents key t) c cost
  once {t} roomy c cost large costs =
      record {
        costs = costs;
        settles = λ b. let r = fill_contents key t ([], b) in by_leb c (length r.contents.0) (λ q. (c ≤ length r.contents.0) ⊎ (held_below t 0 r.contents.1 ≡ 0))
            inl (λ less. inr ((contents_full key roomy 0 ([], b)).done (omega arith)));
        idle = idles t;
      }

  -- behind the last link nothing is filled
  never : (c : ℕ) → Once (held_below exhausted 0) (FitsBelow exhausted) (fill_contents key exhausted) c 0
  unfolding fill_contents weight_below
  never c = record { costs = λ b fits. omega arith; settles = λ b. inr refl; idle = λ b none. (refl, refl) }

  module _ (i : ℕ) (link : 0 < i) where
    -- B(i)
    once_b : Once (held_below (k_merger i) 0) (FitsBelow (k_merger i)) (fill_contents key (k_merger i)) (capacity i 0) (risen (k_merger i))
    unfolding k_merger levels capacity perfect
    once_b = once (k_merger_roomy i link) (capacity i 0) (risen (k_merger i)) (omega arith) (perfect_longest (first i) (s i) (levels i) 1 (k_merger_roomy i link))

    -- A(i+1), where so many links follow
    once_a : (n : ℕ) → let t = links_from (suc i) n in ((b : Below t) → FitsBelow t b → (fill_contents key t ([], b)).steps ≤ longest_fill t)
        → Once (held_below t 0) (FitsBelow t) (fill_contents key t) (capacity i 0) (longest_fill t)
    unfolding links_from longest_fill
    once_a zero costs = never (capacity i 0)
    once_a (suc n) costs = once (links_roomy (suc i) (suc n) (omega arith)) (capacity i 0) (longest_fill (links_from (suc i) (suc n))) (a_rises i link) costs

  -- a fill of so many links, whatever stands in them
  links_longest : (n i : ℕ) → 0 < i → let t = links_from i n in (z : Contents t) → FitsBelow t z.1 → (fill_contents key t z).steps ≤ longest_fill t
  unfolding links_from longest_fill fill_contents
  links_longest zero i link z fits = omega arith
  links_longest (suc n) i link z fits =
      let one = k_merger i in
      let two = links_from (suc i) n in
      omega (
        arith,
        run_once key (held_below one 0) (FitsBelow one) (risen one) (held_below two 0) (FitsBelow two) (longest_fill two)
            (fill_contents key one) (fill_contents key two) (capacity i 0) (once_b i link) (once_a i link n (λ b. links_longest n (suc i) (omega arith) ([], b)))
            (capacity i 0 - length z.0) (omega arith) z.0 z.1.0.0 z.1.1.0 z.1.0.1 z.1.1.1 (risen one) (longest_fill two)
            (unfilled fits.0.1) (unfilled fits.1.1),
      )

-- ---- a queue that keeps the book rules, in order or not

module _ (room : ℕ) (q : Queue) (shape : Shaped q) (kept : Kept room q) where
  abbrev t : Tree
  t = tree_of q.links

  abbrev bs : Buffers
  bs = q.buffers

  whole : Beside t (length bs)
  whole = beside_tree q.links bs (omega (arith, shape.buffers))

  fill_longest : (fill (key_of q) t bs).steps ≤ longest_take q.links
  unfolding longest_take tree_of
  fill_longest =
      omega (
        arith,
        ap (λ (r : Refilled (Below t)). r.steps) (fill_seen (key_of q) t (length bs) whole.among bs refl),
        links_longest (key_of q) q.links 1 (omega arith) (view t bs) (fits_seen t bs kept.fits).1,
      )

  ready_longest : (ready (key_of q) t bs).steps ≤ longest_take q.links
  unfolding untouched
  ready_longest = ready_cases (key_of q) t bs (λ z. z.steps ≤ longest_take q.links) (omega arith) fill_longest

  -- a take makes at most so many merge steps, and a look those of a take
  pub take_longest : (take_one (key_of q) t bs).steps ≤ longest_take q.links
  unfolding take_one
  take_longest =
      let now = ready (key_of q) t bs in
      omega (arith, ready_longest, hand_steps t (merge_step (key_of q) (entries t now.buffers) (insertion now.buffers)) now)

  -- ---- repeated takes

  -- the first m links are emptied, each entry by as many steps as it is deep
  empties_longest : (m : ℕ) → m ≤ q.links → (take_all (key_of q) (tree_of m) bs).steps ≤ (q.links + height q.links) * held_in t bs
  unfolding tree_of buffer_count
  empties_longest m low =
      let u = links_from 1 m in
      let h = q.links + height q.links in
      let deep : height_of u ≤ h = omega (arith, links_height m 1 q.links (omega arith) (omega arith)) in
      let beside = beside_tree m bs (omega (arith, shape.buffers, first_mono (suc m) (suc q.links) (omega arith) (omega arith))) in
      omega (
        arith,
        take_all_pays depth 1 (λ d e. omega arith) (key_of q) (tree_roomy m) bs beside,
        sum_of_same 0 (insertion bs),
        owed_at_most u h bs deep,
        mul-le-mul_left h (links_fewer m q.links 1 bs low),
      )

-- ---- an insert into a queue that keeps the book rules and is not full

module _ (e : ℕ) (q : Queue) (shape : Shaped q) (kept : Kept 7 q) (less : held q < most q.links) where
  abbrev now : Queue
  now = entered e q

  -- with eight in I at most H - 8 stand in the links
  eight_in : (m : ℕ) → m ≤ q.links → length (insertion now.buffers) ≡ 8 → (take_all (key_of now) (tree_of m) now.buffers).steps ≤ longest_insert q.links
  unfolding longest_insert entered
  eight_in m low eight =
      let fine = now_kept e q shape kept less in
      let few : held_in (tree_of q.links) now.buffers ≤ most q.links - 8 = omega (arith, fine.at_most) in
      omega (arith, empties_longest 8 now (now_shaped e q shape kept less) fine m low, mul-le-mul_left (q.links + height q.links) few)

  -- it makes at most so many merge steps
  pub insert_longest : (inserted e q).steps ≤ longest_insert q.links
  unfolding swept packed sweep_to tree_of entered
  insert_longest =
      insert_cases e q (λ z. z.steps ≤ longest_insert q.links) (λ other. omega arith)
      (λ eight there. eight_in (lowest 1 q.counters - 1) (omega arith) eight)
      (λ eight past. eight_in q.links (omega arith) eight)
