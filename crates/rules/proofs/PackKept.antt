-- After a packing the book rules hold, and all that was held has its place.
use Prim.Native.Nat.{ℕ, suc, ◌+◌, ◌-◌, ◌*◌, ◌/◌, ◌≤◌, ◌<◌}
use mathlib.Core.Path.{◌≡◌, refl, ap, ◌∙◌}
use mathlib.Core.List.{List, [], ◌∷◌}
use native.Mathlib.Omega.{arith}
use native.Mathlib.Nat.{lt-div-mul-add, div-lt_iff_lt-mul, mul-le-mul_right}
use lib.ListN.{length, get_or, drop, replicate, length-append, length-replicate, get_or-replicate, length-take, length-drop, get_or-append}
use lib.Seq.{get_or_at}
use lib.Dec.{T, leb, leb→le}
use Rattle.rules.specs.Links.{s, k, capacity, first, number_of_s, most, most_links}
use Rattle.rules.specs.Tree.{Buffers, Tree, k_merger, tree_of}
use Rattle.rules.specs.Take.{Taken, insertion, held_in, take_all}
use Rattle.rules.specs.Queue.{Queue, key_of, counter}
use Rattle.rules.specs.Book.{is_link_number}
use Rattle.rules.specs.Sweep.{laid_out, packed_counters}
use Rattle.rules.specs.Insert.{packed}
use Rattle.rules.proofs.Table.{and_one}
use Rattle.rules.proofs.Full.{Fits, no_entries}
use Rattle.rules.proofs.Weight.{sum_of, sum_of_ones, held_weight}
use Rattle.rules.proofs.TakeLaws.{held_all, take_all_empties}
use Rattle.rules.proofs.Sizes.{first_mono, by_leb, s_least, k_some, first_next}
use Rattle.rules.proofs.Numbering.{k_merger_range, tree_roomy}
use Rattle.rules.proofs.PackLaws.{stands_none, laid_long, laid_none, laid_part, laid_keeps, laid_insertion, packed_weight}
use Rattle.rules.proofs.Capacity.{Inside, s_capacity}
use Rattle.rules.proofs.BookLaws.{LinkKept, Kept, inside_links}
use Rattle.rules.proofs.BookKept.{Shaped, beside_tree}

-- ---- how many S are used

-- n entries fill so many parts of a size, the last perhaps not whole
parts_enough : (n size : ℕ) → 0 < size → n ≤ (n + (size - 1)) / size * size
parts_enough n size some = let l : n + (size - 1) < (n + (size - 1)) / size * size + size = lt-div-mul-add some in omega arith

parts_most : (n size many : ℕ) → 0 < size → n ≤ many * size → (n + (size - 1)) / size ≤ many
parts_most n size many some h =
    let e : suc many * size ≡ size + many * size = omega arith in
    let l : (n + (size - 1)) / size < suc many = (div-lt_iff_lt-mul some).1 (rw e (omega arith)) in
    omega arith

-- a link number is at least 1
pub number_some : {links : ℕ} → T (is_link_number links) → 0 < links
unfolding is_link_number
number_some {links} t = leb→le 1 links (and_one (leb 1 links) (leb links most_links) t)

module _ (room : ℕ) (q : Queue) (shape : Shaped q) (kept : Kept room q) where
  abbrev links : ℕ
  links = q.links

  abbrev tree : Tree
  tree = tree_of links

  abbrev taken : Taken
  taken = take_all (key_of q) tree q.buffers

  -- all that was held, in order
  abbrev pub run : List ℕ
  run = taken.out

  abbrev after : Buffers
  after = laid_out links run

  -- "the number of S used"
  abbrev pub S_used : ℕ
  S_used = (length run + (s links - 1)) / s links

  abbrev q' : Queue
  q' = record { links = links; counters = packed_counters links (length run); buffers = after }

  some : 0 < links
  some = number_some kept.number

  sized : 0 < s links
  sized = omega (arith, s_least links some)

  long : length run ≡ held_all tree q.buffers
  long = (take_all_empties (key_of q) (tree_roomy links) q.buffers (beside_tree links q.buffers (omega (arith, shape.buffers)))).1

  -- all that was held has its place
  pub all_fit_lem : length run ≤ most links
  all_fit_lem = omega (arith, long, kept.at_most)

  -- at most k(L) of the S are used
  pub used_most : S_used ≤ k links
  unfolding most
  used_most = parts_most (length run) (s links) (k links) sized all_fit_lem

  -- ---- counters

  -- "the others are 1"
  pub counter_before : (m : ℕ) → 1 ≤ m → m < links → counter q' m ≡ 1
  unfolding counter packed_counters
  counter_before m l less =
      let front : List ℕ = replicate (links - 1) 1 in
      let n : length front ≡ links - 1 = length-replicate (links - 1) 1 in
      get_or-append front (suc S_used ∷ []) 0 (m - 1) (omega arith) ∙ get_or-replicate (links - 1) (m - 1) 1 0 (omega arith)

  -- "c(L) is one more than the number of S used"
  pub counter_last : counter q' links ≡ suc S_used
  unfolding counter packed_counters
  counter_last = get_or_at (replicate (links - 1) 1) (suc S_used) [] 0 (links - 1) (length-replicate (links - 1) 1)

  -- ---- link by link

  s_of : (m l : ℕ) → 1 ≤ m → 1 ≤ l → l ≤ k m → (number_of_s m l ≡ first m + k m + (l - 1)) × (number_of_s m l < first (suc m))
  unfolding number_of_s
  s_of m l link low high = (refl, omega (arith, first_next m link))

  none : (m : ℕ) → m < first links + k links → get_or after m [] ≡ []
  none = laid_none links some run

  before_kept : (m : ℕ) → 1 ≤ m → m < links → LinkKept q' m
  before_kept m l less =
      let c = counter_before m l less in
      let f = first_mono (suc m) links (omega arith) less in
      record {
        counter_low = omega arith;
        counter_high = omega (arith, k_some m);
        unused = λ n cn few. none (number_of_s m n) (omega (arith, (s_of m n l (omega arith) few).1));
        not_over = rw (stands_none (k_merger m) after (λ n st. none n (omega (arith, (k_merger_range m l st).1)))) (omega arith);
      }

  last_held : held_in (k_merger links) after ≡ length run
  unfolding tree_of
  last_held =
      omega (
        arith,
        held_weight (k_merger links) links after,
        packed_weight links after none some (λ d e. 1),
        laid_keeps links some run all_fit_lem (λ e. 1),
        sum_of_ones run,
        ap (sum_of (λ e. 1)) (laid_insertion links some run all_fit_lem),
      )

  last_kept : LinkKept q' links
  last_kept =
      let c = counter_last in
      let enough = parts_enough (length run) (s links) sized in
      let e : suc S_used - 1 ≡ S_used = omega arith in
      record {
        counter_low = omega arith;
        counter_high = omega (arith, used_most);
        unused = λ n cn few.
            let size = s links in
            let at = (s_of links n some (omega arith) few).0 in
            let behind : S_used * size ≤ (n - 1) * size = mul-le-mul_right size (omega arith) in
            let ends : drop ((n - 1) * size) run ≡ [] = no_entries (drop ((n - 1) * size) run) (omega (arith, length-drop ((n - 1) * size) run)) in
            no_entries (get_or after (number_of_s links n) []) (rw (at, laid_part links some run (n - 1) (omega arith)) (omega (arith, length-take size (drop ((n - 1) * size) run), ap length ends)));
        not_over = rw (c, last_held, e) enough;
      }

  each_kept : (m : ℕ) → 1 ≤ m → m ≤ links → LinkKept q' m
  each_kept m l h = by_leb links m (λ b. LinkKept q' m) (λ p. let e : m ≡ links = omega arith in rw e last_kept) (λ p. before_kept m l p)

  -- ---- capacities

  after_inside : (m : ℕ) → 1 ≤ m → m ≤ links → Inside m after
  after_inside m l h y less =
      by_leb (first links + k links) (first m + y) (λ b. length (get_or after (first m + y) []) ≤ capacity m y)
      (λ p.
      let same : m ≡ links = by_leb links m (λ b. m ≡ links) (λ r. omega arith) (λ r. absurd (omega (arith, first_mono (suc m) links (omega arith) r, first_next m l))) in
      let less_l : y < 2 * k links = rw same at less in
      let low : k links ≤ y = let p' : first links + k links ≤ first links + y = rw same at p in omega arith in
      let e : first links + y ≡ first links + k links + (y - k links) = omega arith in
      rw (same, s_capacity links some after y low less_l, e, laid_part links some run (y - k links) (omega arith)) (omega (arith, length-take (s links) (drop ((y - k links) * s links) run))))
      (λ p. rw (none (first m + y) p) (omega arith))

  fits_kept : Fits tree after
  unfolding tree_of
  fits_kept = inside_links after links 1 (omega arith) (λ m l h. after_inside m l (omega arith))

  -- what was laid is all that is held then
  pub all_laid : held_all tree after ≡ length run
  all_laid = omega (arith, laid_keeps links some run all_fit_lem (λ e. 1), sum_of_ones run, sum_of_ones (insertion after), held_weight tree 0 after)

  -- after a packing the book rules hold
  pub packed_kept : Kept 7 (packed q).queue
  unfolding packed
  packed_kept =
      let e = ap length (laid_insertion links some run all_fit_lem) in
      record {
        number = kept.number;
        few = omega arith;
        fits = fits_kept;
        each = each_kept;
        at_most = omega (arith, all_laid, all_fit_lem);
      }

  -- as many counters and buffers as before
  pub packed_shaped : Shaped (packed q).queue
  unfolding packed packed_counters
  packed_shaped =
      let l = length-append (replicate (links - 1) 1) (suc S_used ∷ []) in
      record { counters = omega (arith, length-replicate {A = ℕ} (links - 1) 1, some); buffers = laid_long links some run }
