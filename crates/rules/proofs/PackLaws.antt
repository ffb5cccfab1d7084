-- A packing: nothing is lost, its steps are all that was owed, and what it lays out is in order.
use Prim.Native.Nat.{ℕ, zero, suc, ◌+◌, ◌-◌, ◌*◌, ◌≤◌, ◌<◌}
use mathlib.Core.Path.{◌≡◌, refl, sym, ap, ◌∙◌}
use mathlib.Core.List.{List, [], ◌∷◌, ◌++◌, append_assoc}
use native.Mathlib.Omega.{arith}
use native.Mathlib.Nat.{mul-add}
use lib.ListN.{length, get_or, take, drop, replicate, length-append, length-replicate, get_or-replicate, length-drop, get_or-append}
use lib.Seq.{get_or-append_seam, get_or-append-add, drop-drop}
use lib.Dec.{T}
use Rattle.rules.specs.Links.{s, k, height, levels, first, number_of_s, buffer_count, most}
use Rattle.rules.specs.Tree.{Buffers, Tree, exhausted, buffer, merger, entries, perfect, k_merger, links_from, tree_of}
use Rattle.rules.specs.Take.{Taken, insertion, held_in, take_all}
use Rattle.rules.specs.Order.{ascends, last_key, ordered, in_order}
use Rattle.rules.specs.Sweep.{parts, laid_out}
use Rattle.rules.proofs.Tests.{and_both}
use Rattle.rules.proofs.Numbers.{Stands, itself, output, in_first, in_second}
use Rattle.rules.proofs.Contents.{below, view}
use Rattle.rules.proofs.Weight.{sum_of, sum_of_ones, sum_of_same, weight_in, held_weight, owed_in}
use Rattle.rules.proofs.Full.{no_entries}
use Rattle.rules.proofs.Ordered.{Ascends, says_ascends, Ordered, says_ordered}
use Rattle.rules.proofs.TakeLaws.{weight_all, take_all_pays, none_weighs}
use Rattle.rules.proofs.TakeOrder.{take_all_ascends}
use Rattle.rules.proofs.Takes.{Beside}
use Rattle.rules.proofs.LayLaws.{sum_of_split, depth, ascends_take, ascends_behind}
use Rattle.rules.proofs.Sizes.{by_leb, k_power, k_some, length_levels, first_next, first_some, first_further}
use Rattle.rules.proofs.Numbering.{doubled, doubled_grows, doubled_mono, doubled_power, count_is, links_range, tree_among, tree_roomy, insertion_outside}
use Rattle.rules.proofs.Held.{weight_from, tree_weight}
use Rattle.rules.proofs.Along.{links_weight_lem}

-- ---- sums over a list of buffers

-- what all buffers of a list weigh
unfoldable pub sum_all : (ℕ → ℕ) → Buffers → ℕ
sum_all g [] = 0
sum_all g (b ∷ bs) = sum_of g b + sum_all g bs

module _ (g : ℕ → ℕ) where
  sum_all_append : (xs bs : Buffers) → sum_all g (xs ++ bs) ≡ sum_all g xs + sum_all g bs
  unfolding sum_all
  sum_all_append [] bs = omega arith
  sum_all_append (x ∷ xs) bs = omega (arith, sum_all_append xs bs)

  sum_all_none : (n : ℕ) → sum_all g (replicate n []) ≡ 0
  unfolding sum_all
  sum_all_none zero = refl
  sum_all_none (suc n) = omega (arith, sum_all_none n)

  weight_from_behind : (front bs : Buffers) → weight_from g (length front) (length bs) (front ++ bs) ≡ sum_all g bs
  unfolding weight_from sum_all
  weight_from_behind front [] = refl
  weight_from_behind front (b ∷ bs) =
      let e : length (front ++ b ∷ []) ≡ suc (length front) = let l = length-append front (b ∷ []) in omega arith in
      let h = rw (e, append_assoc front (b ∷ []) bs) at (weight_from_behind (front ++ b ∷ []) bs) in
      omega (arith, ap (sum_of g) (get_or-append_seam front b bs []))

  -- all buffers of a list
  pub weight_from_all : (bs : Buffers) → weight_from g 0 (length bs) bs ≡ sum_all g bs
  weight_from_all bs = weight_from_behind [] bs

  -- the parts of a run, and what is behind them
  pub parts_weight : (n size : ℕ) (run : List ℕ) → sum_all g (parts n size run) + sum_of g (drop (n * size) run) ≡ sum_of g run
  unfolding parts sum_all
  parts_weight zero size run = let e : 0 * size ≡ 0 = omega arith in rw e (omega arith)
  parts_weight (suc n) size run =
      let e : suc n * size ≡ size + n * size = omega arith in
      let d : drop (size + n * size) run ≡ drop (n * size) (drop size run) = sym (drop-drop (n * size) size run) in
      rw (e, d) (omega (arith, parts_weight n size (drop size run), sum_of_split g size run))

-- ---- what a packing lays out

-- so many parts
pub length_parts : (n size : ℕ) (run : List ℕ) → length (parts n size run) ≡ n
unfolding parts
length_parts zero size run = refl
length_parts (suc n) size run = ap suc (length_parts n size (drop size run))

-- the part with number j, from 0 on
pub part_at : (n size : ℕ) (run : List ℕ) (j : ℕ) → j < n → get_or (parts n size run) j [] ≡ take size (drop (j * size) run)
unfolding parts
part_at zero size run j h = absurd (omega arith)
part_at (suc n) size run zero h = let e : 0 * size ≡ 0 = omega arith in rw e
part_at (suc n) size run (suc j) h =
    let e : suc j * size ≡ size + j * size = omega arith in
    rw e (part_at n size (drop size run) j (omega arith) ∙ ap (take size) (drop-drop (j * size) size run))

module _ (links : ℕ) (some : 0 < links) (run : List ℕ) where
  abbrev laid : Buffers
  laid = laid_out links run

  -- S(L,1) stands k(L) behind A(L)
  pub begins : number_of_s links 1 ≡ first links + k links
  unfolding number_of_s
  begins = omega arith

  ends : number_of_s links 1 + k links ≡ buffer_count links
  unfolding buffer_count
  ends = omega (arith, begins, first_next links some)

  -- as many buffers as the queue has
  pub laid_long : length laid ≡ buffer_count links
  unfolding laid_out
  laid_long = omega (arith, length-append (replicate (number_of_s links 1) []) (parts (k links) (s links) run), length-replicate {A = List ℕ} (number_of_s links 1) [], length_parts (k links) (s links) run, ends)

  -- "All other buffers are empty."
  pub laid_none : (m : ℕ) → m < first links + k links → get_or laid m [] ≡ []
  unfolding laid_out
  laid_none m h =
      let front : Buffers = replicate (number_of_s links 1) [] in
      let l : length front ≡ number_of_s links 1 = length-replicate (number_of_s links 1) [] in
      get_or-append front (parts (k links) (s links) run) [] m (omega (arith, begins)) ∙ get_or-replicate (number_of_s links 1) m [] [] (omega (arith, begins))

  -- "lay it in order into S(L,1), S(L,2), .., s(L) entries each"
  pub laid_part : (j : ℕ) → j < k links → get_or laid (first links + k links + j) [] ≡ take (s links) (drop (j * s links) run)
  unfolding laid_out
  laid_part j h =
      let front : Buffers = replicate (number_of_s links 1) [] in
      let l : length front ≡ number_of_s links 1 = length-replicate (number_of_s links 1) [] in
      let e : first links + k links + j ≡ length front + j = omega (arith, begins) in
      rw e (get_or-append-add front (parts (k links) (s links) run) j []) ∙ part_at (k links) (s links) run j h

  module _ (fits : length run ≤ most links) where
    laid_all : (g : ℕ → ℕ) → sum_all g laid ≡ sum_of g run
    unfolding laid_out most
    laid_all g =
        let none : drop (k links * s links) run ≡ [] = no_entries (drop (k links * s links) run) (omega (arith, length-drop (k links * s links) run)) in
        omega (
          arith,
          sum_all_append g (replicate (number_of_s links 1) []) (parts (k links) (s links) run),
          sum_all_none g (number_of_s links 1),
          parts_weight g (k links) (s links) run,
          ap (sum_of g) none,
        )

    -- I is empty
    pub laid_insertion : insertion laid ≡ []
    unfolding insertion
    laid_insertion = laid_none 0 (omega (arith, first_some links some))

    -- what is laid out weighs what the run weighed
    pub laid_keeps : (g : ℕ → ℕ) → weight_all (λ d. g) (tree_of links) laid ≡ sum_of g run
    unfolding tree_of insertion
    laid_keeps g = sym (tree_weight g laid links) ∙ ap (λ n. weight_from g 0 n laid) (sym laid_long) ∙ weight_from_all g laid ∙ laid_all g

-- ---- every merger's output is empty

-- no merger has anything in its output
abbrev pub Hollow : Tree → Buffers → Type 0
Hollow exhausted bs = Unit {0}
Hollow (buffer n c) bs = Unit {0}
Hollow (merger n c one two) bs = (get_or bs n [] ≡ []) × Hollow one bs × Hollow two bs

-- each output of a perfect tree has a number smaller than half the last
perfect_hollow : (a size : ℕ) (bs : Buffers) (half : ℕ) → ((y : ℕ) → y < half → get_or bs (a + y) [] ≡ [])
    → (cs : List ℕ) (j : ℕ) → doubled (length cs) (suc j) ≤ 2 * half → Hollow (perfect a size cs j) bs
unfolding perfect
perfect_hollow a size bs half none [] j h = tt
perfect_hollow a size bs half none (c ∷ cs) j h =
    let l = length cs in (
      none j (omega (arith, doubled_grows l (2 * suc j))),
      perfect_hollow a size bs half none cs (2 * j) (omega (arith, doubled_mono l (suc (2 * j)) (2 * suc j) (omega arith))),
      perfect_hollow a size bs half none cs (suc (2 * j)) (omega (arith, doubled_mono l (suc (suc (2 * j))) (2 * suc j) (omega arith))),
    )

-- all then stands at the depth of the last level
perfect_owed : (a size : ℕ) (bs : Buffers) (cs : List ℕ) (j d : ℕ) → Hollow (perfect a size cs j) bs
    → weight_in depth (perfect a size cs j) d bs ≡ (d + length cs) * held_in (perfect a size cs j) bs
unfolding perfect weight_in held_in
perfect_owed a size bs [] j d h = let e : d + 0 ≡ d = omega arith in rw e (sum_of_same d (get_or bs (a + j) []))
perfect_owed a size bs (c ∷ cs) j d h =
    let e : d + suc (length cs) ≡ suc d + length cs = omega arith in
    let p = ap length h.0 in
    let q = ap (sum_of (depth d)) h.0 in
    let n = suc d + length cs in
    let one = held_in (perfect a size cs (2 * j)) bs in
    let two = held_in (perfect a size cs (suc (2 * j))) bs in
    let here : length (get_or bs (a + j) []) + (one + two) ≡ one + two = omega arith in
    rw (e, here) (omega (arith, perfect_owed a size bs cs (2 * j) (suc d) h.1, perfect_owed a size bs cs (suc (2 * j)) (suc d) h.2, mul-add n one two))

-- with the outputs empty, a tree is in order where each of its buffers is
hollow_ordered : (key : ℕ → ℕ) (t : Tree) (bs : Buffers) → Hollow t bs → ((m : ℕ) → Stands m t → Ascends key 0 (get_or bs m [])) → Ordered key t 0 (view t bs)
unfolding entries below last_key
hollow_ordered key exhausted bs h a = (tt, tt)
hollow_ordered key (buffer n c) bs h a = (a n itself, tt)
hollow_ordered key (merger n c one two) bs h a =
    rw h.0 (tt, (hollow_ordered key one bs h.1 (λ m s. a m (in_first s)), hollow_ordered key two bs h.2 (λ m s. a m (in_second s))))

-- where each buffer of a tree is empty, nothing is held in it
pub stands_none : (t : Tree) (bs : Buffers) → ((m : ℕ) → Stands m t → get_or bs m [] ≡ []) → held_in t bs ≡ 0
unfolding held_in
stands_none exhausted bs h = refl
stands_none (buffer n c) bs h = ap length (h n itself)
stands_none (merger n c one two) bs h = omega (arith, ap length (h n output), stands_none one bs (λ m s. h m (in_first s)), stands_none two bs (λ m s. h m (in_second s)))

-- ---- the tree of a queue that was packed

module _ (links : ℕ) (bs : Buffers) (none : (m : ℕ) → m < first links + k links → get_or bs m [] ≡ []) where
  -- before the S of the last link
  early : (i : ℕ) → 0 < i → i ≤ links → first i + k i ≤ first links + k links
  early i link h =
      by_leb links i (λ b. first i + k i ≤ first links + k links)
      (λ q. let e : i ≡ links = omega arith in rw e (omega arith))
      (λ q.
      let e : suc i + (links - suc i) ≡ links = omega arith in
      let f : first (suc i) ≤ first links = rw e at (first_further (suc i) (links - suc i) (omega arith)) in
      omega (arith, first_next i link))

  k_merger_hollow : (i : ℕ) → 0 < i → i ≤ links → Hollow (k_merger i) bs
  unfolding k_merger
  k_merger_hollow i link h =
      perfect_hollow (first i) (s i) bs (k i) (λ y less. none (first i + y) (omega (arith, early i link h))) (levels i) 1
      (rw (length_levels i link) (omega (arith, doubled_power (height i) 2, k_power i)))

  links_hollow : (n i : ℕ) → 0 < i → i + n ≤ suc links → Hollow (links_from i n) bs
  unfolding links_from
  links_hollow zero i link h = tt
  links_hollow (suc n) i link h = (none (first i) (omega (arith, early i link (omega arith), k_some i)), k_merger_hollow i link (omega arith), links_hollow n (suc i) (omega arith) (omega arith))

  module _ (some : 0 < links) where
    -- the links before the last have nothing
    before_none : held_in (links_from 1 (links - 1)) bs ≡ 0
    before_none =
        let e : 1 + (links - 1) ≡ links = omega arith in
        stands_none (links_from 1 (links - 1)) bs (λ m st.
        let r : m < first links = rw e at (links_range 1 (links - 1) (omega arith) st).1 in
        none m (omega arith))

    last_owed : weight_in depth (k_merger links) links bs ≡ (links + height links) * held_in (k_merger links) bs
    unfolding k_merger
    last_owed =
        perfect_owed (first links) (s links) bs (levels links) 1 links (k_merger_hollow links some (omega arith)) ∙ ap (λ n. (links + n) * held_in (k_merger links) bs) (length_levels links some)

    last_split : (g : ℕ → ℕ → ℕ) (d : ℕ) → weight_in g (links_from links 1) d bs ≡ weight_in g (k_merger links) (suc d) bs
    unfolding links_from weight_in
    last_split g d = omega (arith, ap (sum_of (g d)) (none (first links) (omega (arith, k_some links))))

    -- all entries stand below B(L)
    pub packed_weight : (g : ℕ → ℕ → ℕ) → weight_in g (links_from 1 links) 0 bs ≡ weight_in g (k_merger links) links bs
    packed_weight g =
        let e : (links - 1) + 1 ≡ links = omega arith in
        let f : 1 + (links - 1) ≡ links = omega arith in
        let z : 0 + (links - 1) ≡ links - 1 = omega arith in
        let l : suc (links - 1) ≡ links = omega arith in
        let w = rw (e, f, z) at (links_weight_lem g (links - 1) 1 1 0 bs) in
        let v = rw l at (last_split g (links - 1)) in
        omega (arith, none_weighs g (links_from 1 (links - 1)) 0 bs before_none)

    -- each entry then owes the depth of an S of the last link
    pub packed_owed : owed_in (links_from 1 links) bs ≡ (links + height links) * held_in (links_from 1 links) bs
    packed_owed =
        let h : held_in (links_from 1 links) bs ≡ held_in (k_merger links) bs = held_weight (links_from 1 links) 0 bs ∙ packed_weight (λ d e. 1) ∙ sym (held_weight (k_merger links) links bs) in
        rw h (packed_weight depth ∙ last_owed)

-- ---- packing

module _ (key : ℕ → ℕ) (links : ℕ) (some : 0 < links) (bs : Buffers) (many : buffer_count links ≤ length bs) where
  abbrev tree : Tree
  tree = tree_of links

  abbrev taken : Taken
  taken = take_all key tree bs

  abbrev after : Buffers
  after = laid_out links taken.out

  -- the tree stands beside I
  pub pack_beside : Beside tree (length bs)
  unfolding buffer_count
  pack_beside = record { among = tree_among links many; outside = insertion_outside links; some = omega (arith, first_some (suc links) (omega arith)) }

  -- the steps of a packing are all that was owed
  pub pack_steps : taken.steps ≡ owed_in tree bs
  pack_steps = omega (arith, take_all_pays depth 1 (λ d e. omega arith) key (tree_roomy links) bs pack_beside, sum_of_same 0 taken.out, sum_of_same 0 (insertion bs))

  module _ (fits : length taken.out ≤ most links) where
    -- nothing is lost
    pub pack_keeps : (g : ℕ → ℕ) → weight_all (λ d. g) tree after ≡ weight_all (λ d. g) tree bs
    pack_keeps g = omega (arith, laid_keeps links some taken.out fits g, take_all_pays (λ d. g) 0 (λ d e. omega arith) key (tree_roomy links) bs pack_beside)

    -- "a packing charges what all entries then owe": each the depth of an S of the last link
    pub pack_owed : owed_in tree after ≡ (links + height links) * length taken.out
    unfolding tree_of
    pack_owed =
        let h : held_in (links_from 1 links) after ≡ length taken.out =
        omega (
          arith,
          held_weight (links_from 1 links) 0 after,
          laid_keeps links some taken.out fits (λ e. 1),
          sum_of_ones taken.out,
          ap (sum_of (λ e. 1)) (laid_insertion links some taken.out fits),
        ) in
        rw h at (packed_owed links after (laid_none links some taken.out) some)

  part_ascends : (low n m : ℕ) (run : List ℕ) → Ascends key low run → Ascends key low (take n (drop m run))
  part_ascends low n m run a = ascends_take key low n (drop m run) (ascends_behind key low m run a)

  -- what is laid out is in order
  pub pack_ordered : T (in_order key tree bs) → T (in_order key tree after)
  unfolding in_order tree_of
  pack_ordered h =
      let run = taken.out in
      let a = take_all_ascends key (tree_roomy links) bs pack_beside h in
      let none = laid_none links some run in
      let each : (m : ℕ) → Stands m (links_from 1 links) → Ascends key 0 (get_or after m []) = λ m st.
      by_leb (first links + k links) m (λ b. Ascends key 0 (get_or after m []))
      (λ q.
      let j = m - (first links + k links) in
      let e : m ≡ first links + k links + j = omega arith in
      let less : j < k links = omega (arith, (links_range 1 links (omega arith) st).1, count_is links, ends links some run, begins links some run) in
      rw (e, laid_part links some run j less) (part_ascends 0 (s links) (j * s links) run a))
      (λ q. rw (none m q) tt) in
      and_both (ascends key 0 (insertion after)) (ordered key (links_from 1 links) 0 after)
      (rw (none 0 (omega (arith, first_some links some))) (says_ascends key 0 [] tt))
      (says_ordered key (links_from 1 links) 0 after (hollow_ordered key (links_from 1 links) after (links_hollow links after none links 1 (omega arith) (omega arith)) each))
