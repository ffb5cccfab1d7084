-- Setup, take and look leave a queue that keeps the book rules.
use Prim.Native.Nat.{ℕ, zero, suc, ◌+◌, ◌-◌, ◌*◌, ◌≤◌, ◌<◌}
use mathlib.Core.Path.{◌≡◌, refl, sym, ap, ◌∙◌, subst}
use mathlib.Core.List.{List, [], ◌∷◌}
use native.Mathlib.Omega.{arith}
use lib.ListN.{length, get_or, length-replicate, get_or-replicate}
use lib.Dec.{T}
use Rattle.rules.specs.Links.{s, k, height, levels, first, number_of_s, buffer_count}
use Rattle.rules.specs.Tree.{Buffers, Tree, exhausted, buffer, merger, entries, perfect, k_merger, links_from, tree_of}
use Rattle.rules.specs.Merge.{Step}
use Rattle.rules.specs.Fill.{untouched}
use Rattle.rules.specs.Take.{insertion, held_in, ready, take_one}
use Rattle.rules.specs.Queue.{Queue, key_of, counter, fresh}
use Rattle.rules.specs.Book.{is_link_number}
use Rattle.rules.specs.Calls.{with_buffers}
use Rattle.rules.proofs.Steps.{Stepped, stops, from_first, from_second, stepped}
use Rattle.rules.proofs.Numbers.{Stands, itself, output, in_first, in_second}
use Rattle.rules.proofs.Contents.{Below, Contents, below, view, refill, fill_contents}
use Rattle.rules.proofs.Full.{Roomy, Fits, FitsIn, fits_seen, seen_fits, fits_fill, fill_fits, refill_keeps, no_entries}
use Rattle.rules.proofs.Takes.{take_frame, ready_frame, Took, hand_contents, take_contents, Beside, take_seen, ready_cases, ready_insertion}
use Rattle.rules.proofs.TakeLaws.{held_all, ready_held, take_held}
use Rattle.rules.proofs.Inputs.{Input, the_first, the_second, within_first, within_second, ready_fewer, take_fewer}
use Rattle.rules.proofs.Sizes.{by_leb, k_power, k_some, length_levels, first_some}
use Rattle.rules.proofs.Numbering.{doubled, doubled_power, tree_among, tree_roomy, insertion_outside}
use Rattle.rules.proofs.PackLaws.{stands_none}
use Rattle.rules.proofs.BookLaws.{LinkKept, Kept, same_at}

-- ---- a queue with as many counters as links, and as many buffers as its links have

pub record Shaped (q : Queue) : Type 0 where
  pub counters : length q.counters ≡ q.links
  pub buffers : length q.buffers ≡ buffer_count q.links

-- the tree of a queue stands beside I, each number once
pub beside_tree : (links : ℕ) (bs : Buffers) → buffer_count links ≤ length bs → Beside (tree_of links) (length bs)
unfolding buffer_count
beside_tree links bs many = record { among = tree_among links many; outside = insertion_outside links; some = omega (arith, first_some (suc links) (omega arith)) }

-- ---- what makes nothing more

-- I and each input have no more than before, and no buffer more than its capacity
pub record Shrinks (t : Tree) (before after : Buffers) : Type 0 where
  pub fewer : length (insertion after) ≤ length (insertion before)
  pub within : Fits t before → Fits t after
  pub inputs : {u : Tree} → Input u t → held_in u after ≤ held_in u before
  pub all : held_all t after ≤ held_all t before

module _ (key : ℕ → ℕ) {t : Tree} (roomy : Roomy t) (bs : Buffers) (b : Beside t (length bs)) where
  hand_fits : {xs ys : List ℕ} {s : Step} → Stepped key xs ys s → (z : Below t) (steps : ℕ) → FitsIn t (xs, z) → FitsIn t (hand_contents s z steps).tree
  unfolding hand_contents
  hand_fits stops z steps h = h
  hand_fits (from_first l) z steps h = (omega (arith, h.0), h.1)
  hand_fits (from_second l) z steps h = h

  take_contents_fits : (i : List ℕ) (z : Contents t) → FitsIn t z → FitsIn t (take_contents key t i z).tree
  unfolding take_contents
  take_contents_fits i z h =
      let now = refill (fill_contents key t) z.0 z.1 in
      hand_fits (stepped key now.contents.0 i) now.contents.1 now.steps (refill_keeps (FitsIn t) (fill_contents key t) (fits_fill key roomy) z.0 z.1 h)

  take_within : Fits t bs → Fits t (take_one key t bs).buffers
  take_within h =
      seen_fits t (take_one key t bs).buffers
      (subst (λ (r : Took (Below t)). FitsIn t r.tree) (sym (take_seen key t (length bs) b bs refl)) (take_contents_fits (insertion bs) (view t bs) (fits_seen t bs h)))

  hand_less : {xs ys : List ℕ} {s : Step} → Stepped key xs ys s → (z : Below t) (steps : ℕ) → length (hand_contents s z steps).insertion ≤ length ys
  unfolding hand_contents
  hand_less stops z steps = omega arith
  hand_less (from_first l) z steps = omega arith
  hand_less (from_second l) z steps = omega arith

  take_insertion : length (insertion (take_one key t bs).buffers) ≤ length (insertion bs)
  unfolding take_contents
  take_insertion =
      let now = refill (fill_contents key t) (entries t bs) (below t bs) in
      rw (ap (λ (r : Took (Below t)). length r.insertion) (take_seen key t (length bs) b bs refl))
      (hand_less (stepped key now.contents.0 (insertion bs)) now.contents.1 now.steps)

  -- a take makes nothing more
  pub take_shrinks : Shrinks t bs (take_one key t bs).buffers
  take_shrinks = record { fewer = take_insertion; within = take_within; inputs = λ s. take_fewer key s bs b; all = omega (arith, take_held key t bs b) }

  ready_within : Fits t bs → Fits t (ready key t bs).buffers
  unfolding untouched
  ready_within h = ready_cases key t bs (λ z. Fits t z.buffers) h (fill_fits key roomy bs b.among h)

  -- nor does a look
  pub ready_shrinks : Shrinks t bs (ready key t bs).buffers
  ready_shrinks =
      let i = ap length (ready_insertion key t (length bs) b bs refl) in
      record { fewer = omega arith; within = ready_within; inputs = λ s. ready_fewer key s bs b.among; all = omega (arith, ready_held key t bs b) }

-- ---- the links' parts as inputs

input_in : {u v t : Tree} → Input u v → Input v t → Input u t
input_in s the_first = within_first s
input_in s the_second = within_second s
input_in s (within_first r) = within_first (input_in s r)
input_in s (within_second r) = within_second (input_in s r)

-- the buffers that no merger feeds
perfect_leaf : (a size : ℕ) {t : Tree} (cs : List ℕ) (j y : ℕ) → doubled (length cs) j ≤ y → y < doubled (length cs) (suc j) → Input (perfect a size cs j) t → Input (buffer (a + y) size) t
unfolding perfect
perfect_leaf a size [] j y low high at = let e : y ≡ j = omega arith in rw e at
perfect_leaf a size {t} (c ∷ cs) j y low high at =
    let l = length cs in
    let e : 2 * suc j ≡ suc (suc (2 * j)) = omega arith in
    let up : y < doubled l (suc (suc (2 * j))) = subst (λ n. y < doubled l n) e high in
    by_leb (doubled l (suc (2 * j))) y (λ b. Input (buffer (a + y) size) t)
    (λ q. perfect_leaf a size cs (suc (2 * j)) y q up (input_in the_second at))
    (λ q. perfect_leaf a size cs (2 * j) y low q (input_in the_first at))

k_merger_leaf : (i j : ℕ) → 0 < i → 1 ≤ j → j ≤ k i → {t : Tree} → Input (k_merger i) t → Input (buffer (first i + (k i + (j - 1))) (s i)) t
unfolding k_merger
k_merger_leaf i j link some few at =
    let l = length_levels i link in
    perfect_leaf (first i) (s i) (levels i) 1 (k i + (j - 1)) (rw l (omega (arith, doubled_power (height i) 1, k_power i))) (rw l (omega (arith, doubled_power (height i) 2, k_power i))) at

k_merger_within : (n a i : ℕ) → a ≤ i → i < a + n → Input (k_merger i) (links_from a n)
unfolding links_from
k_merger_within zero a i low high = absurd (omega arith)
k_merger_within (suc n) a i low high =
    by_leb i a (λ b. Input (k_merger i) (links_from a (suc n)))
    (λ q. let e : i ≡ a = omega arith in subst (λ x. Input (k_merger x) (links_from a (suc n))) (sym e) the_first)
    (λ q. within_second (k_merger_within n (suc a) i q (omega arith)))

module _ (links i : ℕ) (low : 1 ≤ i) (high : i ≤ links) where
  -- the k-merger of each link is an input of the tree
  pub k_merger_input : Input (k_merger i) (tree_of links)
  unfolding tree_of
  k_merger_input = k_merger_within links 1 i low (omega arith)

  -- and so is each S(i,j)
  pub s_input : (j : ℕ) → 1 ≤ j → j ≤ k i → Input (buffer (number_of_s i j) (s i)) (tree_of links)
  unfolding number_of_s
  s_input j some few =
      let e : first i + k i + (j - 1) ≡ first i + (k i + (j - 1)) = omega arith in
      rw e (k_merger_leaf i j low some few k_merger_input)

-- ---- what makes nothing more keeps the book rules

shrinks_link : (q : Queue) (after : Buffers) (i : ℕ) → 1 ≤ i → i ≤ q.links → Shrinks (tree_of q.links) q.buffers after → LinkKept q i → LinkKept (with_buffers q after) i
unfolding with_buffers counter held_in
shrinks_link q after i low high sh h =
    record {
      counter_low = h.counter_low;
      counter_high = h.counter_high;
      unused = λ j c few.
          let e = ap length (h.unused j c few) in
          no_entries (get_or after (number_of_s i j) []) (omega (arith, sh.inputs (s_input q.links i low high j (omega (arith, h.counter_low)) few)));
      not_over = omega (arith, h.not_over, sh.inputs (k_merger_input q.links i low high));
    }

-- the whole queue
pub shrinks_kept : (room : ℕ) (q : Queue) (after : Buffers) → Shrinks (tree_of q.links) q.buffers after → Kept room q → Kept room (with_buffers q after)
unfolding with_buffers
shrinks_kept room q after sh h =
    record {
      number = h.number;
      few = omega (arith, sh.fewer, h.few);
      fits = sh.within h.fits;
      each = λ i low high. shrinks_link q after i low high sh (h.each i low high);
      at_most = omega (arith, sh.all, h.at_most);
    }

module _ (room : ℕ) (q : Queue) (shape : Shaped q) (h : Kept room q) where
  abbrev tree : Tree
  tree = tree_of q.links

  beside : Beside tree (length q.buffers)
  beside = beside_tree q.links q.buffers (omega (arith, shape.buffers))

  -- after a take the book rules hold
  pub take_kept : Kept room (with_buffers q (take_one (key_of q) tree q.buffers).buffers)
  take_kept = shrinks_kept room q (take_one (key_of q) tree q.buffers).buffers (take_shrinks (key_of q) (tree_roomy q.links) q.buffers beside) h

  -- and after a look
  pub look_kept : Kept room (with_buffers q (ready (key_of q) tree q.buffers).buffers)
  look_kept = shrinks_kept room q (ready (key_of q) tree q.buffers).buffers (ready_shrinks (key_of q) (tree_roomy q.links) q.buffers beside) h

  -- a take leaves as many counters and buffers
  pub take_shaped : Shaped (with_buffers q (take_one (key_of q) tree q.buffers).buffers)
  unfolding with_buffers
  take_shaped = record { counters = shape.counters; buffers = (take_frame (key_of q) tree q.buffers).as_many ∙ shape.buffers }

  -- and so does a look
  pub look_shaped : Shaped (with_buffers q (ready (key_of q) tree q.buffers).buffers)
  unfolding with_buffers
  look_shaped = record { counters = shape.counters; buffers = (ready_frame (key_of q) tree q.buffers).as_many ∙ shape.buffers }

-- ---- setup

none_fits : (t : Tree) (bs : Buffers) → ((m : ℕ) → Stands m t → get_or bs m [] ≡ []) → Fits t bs
none_fits exhausted bs h = tt
none_fits (buffer n c) bs h = let e = ap length (h n itself) in omega arith
none_fits (merger n c one two) bs h =
    let e = ap length (h n output) in
    (omega arith, none_fits one bs (λ m st. h m (in_first st)), none_fits two bs (λ m st. h m (in_second st)))

module _ (links : ℕ) where
  -- "Setup empties all buffers"
  pub fresh_empty : (m : ℕ) → get_or (fresh links).buffers m [] ≡ []
  unfolding fresh
  fresh_empty m = same_at (buffer_count links) m []

  -- nothing is held in any tree after it
  pub fresh_held : (t : Tree) → held_in t (fresh links).buffers ≡ 0
  fresh_held t = stands_none t (fresh links).buffers (λ m st. fresh_empty m)

  -- "and makes every c equal to 1"
  pub fresh_counter : (i : ℕ) → 1 ≤ i → i ≤ links → counter (fresh links) i ≡ 1
  unfolding fresh counter
  fresh_counter i low high = get_or-replicate links (i - 1) 1 0 (omega arith)

  fresh_link : (i : ℕ) → 1 ≤ i → i ≤ links → LinkKept (fresh links) i
  fresh_link i low high =
      let e = fresh_counter i low high in
      record {
        counter_low = omega arith;
        counter_high = omega (arith, k_some i);
        unused = λ j c few. fresh_empty (number_of_s i j);
        not_over = rw (fresh_held (k_merger i)) (omega arith);
      }

  -- after a setup the book rules hold
  pub fresh_kept : T (is_link_number links) → Kept 7 (fresh links)
  unfolding insertion fresh
  fresh_kept number =
      let e = ap length (fresh_empty 0) in
      record {
        number = number;
        few = omega arith;
        fits = none_fits (tree_of links) (fresh links).buffers (λ m st. fresh_empty m);
        each = fresh_link;
        at_most = omega (arith, fresh_held (tree_of links));
      }

  -- as many counters and buffers as the links ask for
  pub fresh_shaped : Shaped (fresh links)
  unfolding fresh
  fresh_shaped = record { counters = length-replicate links 1; buffers = length-replicate (buffer_count links) [] }
