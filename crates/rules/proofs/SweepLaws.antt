-- A sweep: nothing is lost, the order is kept, the account of its steps, and how many entries are left over for its destination.
use Prim.Native.Nat.{ℕ, suc, ◌+◌, ◌-◌, ◌*◌, ◌≤◌, ◌<◌}
use mathlib.Core.Path.{◌≡◌, sym, ap, ◌∙◌, subst}
use mathlib.Core.Logic.{◌⊎◌, inl, inr}
use mathlib.Core.List.{List, [], ◌∷◌, ◌++◌}
use native.Mathlib.Omega.{arith}
use lib.ListN.{length, get_or, length-append}
use lib.Dec.{T}
use Rattle.rules.specs.Links.{k, height, first, number_of_s, buffer_count, sum}
use Rattle.rules.specs.Tree.{Buffers, Tree, links_from, tree_of}
use Rattle.rules.specs.Merge.{join}
use Rattle.rules.specs.Take.{Taken, insertion, take_all}
use Rattle.rules.specs.Order.{ascends, ordered, in_order}
use Rattle.rules.specs.Sweep.{path_in_link, outputs, path, counts, run_along, Swept, sweep_to}
use Rattle.rules.proofs.Table.{and_one, and_two}
use Rattle.rules.proofs.Tests.{and_both}
use Rattle.rules.proofs.Numbers.{Stands}
use Rattle.rules.proofs.Contents.{view}
use Rattle.rules.proofs.Frame.{Frame, view_local}
use Rattle.rules.proofs.Weight.{sum_of, sum_of_ones, sum_of_same, weight_in, weight, weight_seen, owed_in, held_weight}
use Rattle.rules.proofs.Full.{no_entries}
use Rattle.rules.proofs.Ordered.{Ascends, says_ascends, Ordered, ordered_says, says_ordered}
use Rattle.rules.proofs.Takes.{take_all_frame, Beside}
use Rattle.rules.proofs.TakeLaws.{weight_all, held_all, take_all_pays, take_all_empties, none_stands, none_weighs}
use Rattle.rules.proofs.TakeOrder.{take_all_ascends}
use Rattle.rules.proofs.Joins.{join_keeps, join_long, join_ascends}
use Rattle.rules.proofs.Sizes.{by_leb, first_mono, first_one, first_some}
use Rattle.rules.proofs.Numbering.{links_range, links_stand, links_among, links_roomy, tree_among, insertion_outside, tree_range, s_stands}
use Rattle.rules.proofs.Paths.{along, lay, along_seen, refill_frame, lay_seen, path_in_link_is, link_way, length_from_b, path_way, WayOf, way_of}
use Rattle.rules.proofs.PathCounts.{last_of, path_ends, NoMoreBut, refill_no_more, refill_last, refill_outputs, NotOn, not_on_append, not_on_way, refill_other}
use Rattle.rules.proofs.LayLaws.{lay_keeps, owed_on, depth, lay_owed, NoLater, up_to, no_later, along_ascends, lay_ordered}
use Rattle.rules.proofs.Along.{links_weight_lem, owed_along, owed_along_append, owed_on_seen, owed_counts, run_along_append, along_within, counts_sum, length_outputs, lower, links_lower, no_outputs, outputs_within, not_on_outputs}
use Rattle.rules.proofs.Thinned.{Thinned, links_ordered, thinned_beside}

module _ (key : ℕ → ℕ) (links i j : ℕ) (link : 0 < i) (high : i ≤ links) (some_j : 0 < j) (few : j ≤ k i) (bs : Buffers) (many : buffer_count links ≤ length bs) where
  abbrev tree : Tree
  tree = tree_of links

  -- how many links are behind link i
  abbrev n : ℕ
  n = links - i

  -- the links before i, and those from i on
  abbrev before : Tree
  before = links_from 1 (i - 1)

  abbrev behind : Tree
  behind = links_from i (suc n)

  abbrev emptied : Taken
  emptied = take_all key before bs

  abbrev run : List ℕ
  run = join key (run_along (path_in_link i j) emptied.buffers) emptied.out

  abbrev z : Swept
  z = sweep_to key i j bs

  at_i : 1 + (i - 1) ≡ i
  at_i = omega arith

  whole : (i - 1) + suc n ≡ links
  whole = omega arith

  before_least : {m : ℕ} → Stands m before → (0 < m) × (m < first i)
  before_least st = let r = links_range 1 (i - 1) (omega arith) st in (omega (arith, r.0, first_one), rw at_i at r.1)

  before_stands : {m : ℕ} → 0 < m → m < first i → Stands m before
  before_stands low high = links_stand 1 (i - 1) (omega arith) (omega (arith, first_one)) (rw at_i high)

  enough : first i ≤ length bs
  unfolding buffer_count
  enough = omega (arith, first_mono i (suc links) link (omega arith))

  beside : Beside before (length bs)
  beside =
      let e = enough in
      record {
        among = links_among 1 (i - 1) (length bs) (omega arith) (rw at_i (omega arith));
        outside = λ st. omega (arith, (before_least st).0);
        some = omega (arith, first_some i link);
      }

  none : held_all before emptied.buffers ≡ 0
  none = (take_all_empties key (links_roomy 1 (i - 1) (omega arith)) bs beside).0

  -- the links from i on are left alone by the emptying
  behind_same : view behind emptied.buffers ≡ view behind bs
  behind_same =
      view_local behind bs emptied.buffers (λ m st.
      let r = links_range i (suc n) link st in
      (take_all_frame key before bs).same m (λ e. omega (arith, r.0, first_some i link)) (λ st'. omega (arith, r.0, (before_least st').1)))

  split_links : (g : ℕ → ℕ → ℕ) (b : Buffers) → weight_in g (links_from 1 links) 0 b ≡ weight_in g before 0 b + weight_in g behind (i - 1) b
  split_links g b = let e : 0 + (i - 1) ≡ i - 1 = omega arith in rw (whole, at_i, e) at (links_weight_lem g (i - 1) 1 (suc n) 0 b)

  -- what the tree weighs, the links before i and those from i on weigh
  split : (g : ℕ → ℕ → ℕ) (b : Buffers) → weight_in g tree 0 b ≡ weight_in g before 0 b + weight_in g behind (i - 1) b
  unfolding tree_of
  split g b = split_links g b

  behind_weighs : (g : ℕ → ℕ → ℕ) → weight_in g behind (i - 1) emptied.buffers ≡ weight_in g behind (i - 1) bs
  behind_weighs g = weight_seen g behind (i - 1) emptied.buffers ∙ ap (weight g behind (i - 1)) behind_same ∙ sym (weight_seen g behind (i - 1) bs)

  as_many : length emptied.buffers ≡ length bs
  as_many = (take_all_frame key before bs).as_many

  the_way : WayOf tree (path i j)
  unfolding tree_of
  the_way = way_of (path i j) (rw whole at (path_way i j n link some_j few))

  -- the run along the path from A(i) downwards is as before the emptying
  in_link : run_along (path_in_link i j) emptied.buffers ≡ run_along (path_in_link i j) bs
  in_link =
      let w = link_way i j link some_j few n in
      rw (path_in_link_is i j link some_j few) (sym (along_seen w emptied.buffers) ∙ ap (along w) behind_same ∙ along_seen w bs)

  -- and of the outputs before it nothing is left
  no_run : (g : ℕ → ℕ) → sum_of g (run_along (outputs 1 (i - 1)) emptied.buffers) ≡ 0
  no_run g = ap (sum_of g) (no_entries (run_along (outputs 1 (i - 1)) emptied.buffers) (omega (arith, links_lower 1 (i - 1) emptied.buffers, none)))

  run_keeps : (g : ℕ → ℕ) → sum_of g run ≡ sum_of g (run_along (path i j) emptied.buffers) + sum_of g emptied.out
  unfolding path
  run_keeps g =
      omega (
        arith,
        join_keeps key g (run_along (path_in_link i j) emptied.buffers) emptied.out,
        run_along_append (outputs 1 (i - 1)) (path_in_link i j) emptied.buffers g,
        no_run g,
      )

  -- the run is as long as what was noted, and what stands in I and below the outputs before i
  run_long : length run ≡ length (run_along (path i j) bs) + (length (insertion bs) + lower 1 (i - 1) bs)
  unfolding path
  run_long =
      let a = run_along (outputs 1 (i - 1)) bs in
      let b = run_along (path_in_link i j) bs in
      omega (
        arith,
        join_long key (run_along (path_in_link i j) emptied.buffers) emptied.out,
        ap length in_link,
        (take_all_empties key (links_roomy 1 (i - 1) (omega arith)) bs beside).1,
        links_lower 1 (i - 1) bs,
        run_along_append (outputs 1 (i - 1)) (path_in_link i j) bs (λ e. 1),
        sum_of_ones (run_along (outputs 1 (i - 1) ++ path_in_link i j) bs),
        sum_of_ones a,
        sum_of_ones b,
      )

  no_insertion : length (get_or emptied.buffers 0 []) ≤ length (get_or bs 0 [])
  unfolding insertion
  no_insertion = let e = none in omega arith

  -- what was noted goes back, and the rest is left over
  pub sweep_long : length run ≡ sum (counts (path i j) bs) + z.rest
  unfolding sweep_to
  sweep_long = omega (arith, run_long, counts_sum (path i j) bs)

  -- the run has no more than is held
  pub run_within : length run ≤ held_all tree bs
  run_within =
      let w = link_way i j link some_j few n in
      omega (
        arith,
        join_long key (run_along (path_in_link i j) emptied.buffers) emptied.out,
        ap length in_link,
        ap (λ ns. length (run_along ns bs)) (path_in_link_is i j link some_j few),
        along_within w bs,
        (take_all_empties key (links_roomy 1 (i - 1) (omega arith)) bs beside).1,
        split (λ d e. 1) bs,
        held_weight tree 0 bs,
        held_weight before 0 bs,
        held_weight behind (i - 1) bs,
      )

  -- what is left over for the destination: what stands in I and below the outputs before i
  pub swept_rest : z.rest ≡ length (insertion bs) + lower 1 (i - 1) bs
  unfolding sweep_to
  swept_rest = omega (arith, run_long, counts_sum (path i j) bs)

  -- ---- seen through the tree

  sweep_seen : view tree z.buffers ≡ lay the_way.way (view tree bs) run (view tree emptied.buffers)
  unfolding sweep_to
  sweep_seen =
      let w = the_way in
      rw w.is (lay_seen w.way bs emptied.buffers run (rw as_many (tree_among links many)))

  sweep_frame : Frame tree emptied.buffers z.buffers
  unfolding sweep_to
  sweep_frame = let w = the_way in rw w.is (refill_frame w.way (counts (w.head ∷ w.tail) bs) run emptied.buffers)

  -- as many buffers as before
  pub swept_as_many : length z.buffers ≡ length bs
  swept_as_many = sweep_frame.as_many ∙ as_many

  -- I is empty after a sweep
  pub swept_insertion : insertion z.buffers ≡ []
  unfolding insertion
  swept_insertion = sweep_frame.same 0 (insertion_outside links) ∙ no_entries (get_or emptied.buffers 0 []) (omega (arith, none))

  -- nothing is lost: in I and the tree all weighs what it weighed
  pub swept_keeps : (g : ℕ → ℕ) → weight_all (λ d. g) tree z.buffers ≡ weight_all (λ d. g) tree bs
  swept_keeps g =
      let w = the_way in
      let b = emptied.buffers in
      omega (
        arith,
        ap (weight (λ d. g) tree 0) sweep_seen,
        weight_seen (λ d. g) tree 0 z.buffers,
        lay_keeps g w.way 0 (view tree bs) run (view tree b),
        ap (sum_of g) (along_seen w.way b ∙ ap (λ ns. run_along ns b) (sym w.is)),
        run_keeps g,
        weight_seen (λ d. g) tree 0 b,
        split (λ d. g) b,
        split (λ d. g) bs,
        none_weighs (λ d. g) before 0 b (omega (arith, none)),
        take_all_pays (λ d. g) 0 (λ d e. omega arith) key (links_roomy 1 (i - 1) (omega arith)) bs beside,
        ap (sum_of g) swept_insertion,
        behind_weighs (λ d. g),
      )

  -- ---- how many each buffer has

  emptied_no_more : NoMoreBut (number_of_s i j) bs emptied.buffers
  emptied_no_more m other =
      by_leb (first i) m (λ b. length (get_or emptied.buffers m []) ≤ length (get_or bs m []))
      (λ q. let e = ap length ((take_all_frame key before bs).same m (λ e. omega (arith, first_some i link)) (λ st'. omega (arith, (before_least st').1))) in omega arith)
      (λ q. by_leb 1 m (λ b. length (get_or emptied.buffers m []) ≤ length (get_or bs m []))
      (λ r. let e = ap length (none_stands before emptied.buffers (omega (arith, none)) (before_stands r q)) in omega arith)
      (λ r. let e : m ≡ 0 = omega arith in rw e no_insertion))

  -- no buffer but S(i,j) has more than before
  pub swept_no_more : NoMoreBut (number_of_s i j) bs z.buffers
  unfolding sweep_to
  swept_no_more =
      let e = path_ends i j in
      rw e at (refill_no_more (path i j) run bs emptied.buffers (rw e emptied_no_more))

  -- and S(i,j) gets what is left over
  pub swept_last : length (get_or z.buffers (number_of_s i j) []) ≡ z.rest + length (get_or bs (number_of_s i j) [])
  unfolding sweep_to
  swept_last =
      let w = the_way in
      let less : number_of_s i j < length bs = omega (arith, (tree_range links (s_stands links i j link high some_j few)).1) in
      let e : last_of (w.head ∷ w.tail) ≡ number_of_s i j = ap last_of (sym w.is) ∙ path_ends i j in
      let long : length run ≡ sum (counts (w.head ∷ w.tail) bs) + z.rest = sweep_long ∙ ap (λ ns. sum (counts ns bs) + z.rest) w.is in
      let l = refill_last w.head w.tail run bs emptied.buffers (rw (e, as_many) less) (omega arith) in
      rw w.is (omega (arith, rw e at l))

  -- below the outputs of the links before i nothing is left
  pub swept_lower : (a : ℕ) → 0 < a → a < i → (m : ℕ) → first a < m → m < first (suc a) → get_or z.buffers m [] ≡ []
  unfolding sweep_to path
  swept_lower a some less m low high =
      let f = first_mono (suc a) i (omega arith) less in
      let w = link_way i j link some_j few n in
      let off : NotOn m (outputs 1 (i - 1) ++ path_in_link i j) =
      not_on_append m (outputs 1 (i - 1)) (path_in_link i j) (not_on_outputs (i - 1) 1 a m (omega arith) some low high)
      (rw (path_in_link_is i j link some_j few) (not_on_way w m (λ st. omega (arith, (links_range i (suc n) link st).0)))) in
      refill_other (outputs 1 (i - 1) ++ path_in_link i j) (counts (path i j) bs) run emptied.buffers m off
      ∙ none_stands before emptied.buffers (omega (arith, none)) (before_stands (omega arith) (omega arith))

  -- A(1) .. A(i-1) have as many as before
  pub swept_outputs : counts (outputs 1 (i - 1)) z.buffers ≡ counts (outputs 1 (i - 1)) bs
  unfolding sweep_to path
  swept_outputs =
      let w = link_way i j link some_j few n in
      let is = path_in_link_is i j link some_j few in
      let e = enough in
      refill_outputs (i - 1) 1 (path_in_link i j) run bs emptied.buffers (omega arith) (rw is (omega arith))
      (λ m less. let before_i : m < first i = rw at_i at less in rw is (not_on_way w m (λ st. omega (arith, (links_range i (suc n) link st).0))))
      (rw (at_i, as_many) (omega arith))
      (omega (arith, sweep_long))

  -- so that they owe what they owed
  pub swept_outputs_owe : owed_along 0 (outputs 1 (i - 1)) z.buffers ≡ owed_along 0 (outputs 1 (i - 1)) bs
  swept_outputs_owe = owed_counts 0 (outputs 1 (i - 1)) z.buffers bs swept_outputs

  -- ---- the account

  way_long : length the_way.tail ≡ i + height i
  unfolding path
  way_long =
      let w = the_way in
      let e : length (outputs 1 (i - 1) ++ path_in_link i j) ≡ suc (length w.tail) = ap length w.is in
      omega (arith, length-append (outputs 1 (i - 1)) (path_in_link i j), length_outputs 1 (i - 1), ap length (path_in_link_is i j link some_j few), length_from_b i j link some_j few)

  -- what the path owes after the emptying: only A(i) and what follows it
  path_owed : owed_along 0 (path i j) bs ≡ owed_along 0 (path i j) emptied.buffers + owed_along 0 (outputs 1 (i - 1)) bs
  unfolding path
  path_owed =
      let d = 0 + length (outputs 1 (i - 1)) in
      let v = link_way i j link some_j few n in
      let same : owed_along d (path_in_link i j) emptied.buffers ≡ owed_along d (path_in_link i j) bs =
      rw (path_in_link_is i j link some_j few) (sym (owed_on_seen v d emptied.buffers) ∙ ap (owed_on v d) behind_same ∙ owed_on_seen v d bs) in
      omega (
        arith,
        owed_along_append 0 (outputs 1 (i - 1)) (path_in_link i j) bs,
        owed_along_append 0 (outputs 1 (i - 1)) (path_in_link i j) emptied.buffers,
        no_outputs 1 (i - 1) 0 emptied.buffers (omega (arith, none)),
      )

  -- "A sweep to i charges what its new entries in S(i, c(i)) owe plus what A(1) to A(i-1) owe": the steps made and owed are those owed before and charged
  pub swept_account : z.steps + owed_in tree z.buffers ≡ owed_in tree bs + (owed_along 0 (outputs 1 (i - 1)) bs + (i + height i) * z.rest)
  unfolding sweep_to
  swept_account =
      let w = the_way in
      let b = emptied.buffers in
      let x = length (insertion bs) + lower 1 (i - 1) bs in
      let before_is : along w.way (view tree bs) ≡ run_along (path i j) bs = along_seen w.way bs ∙ ap (λ ns. run_along ns bs) (sym w.is) in
      let l = lay_owed w.way 0 (view tree bs) run (view tree b) x (rw before_is run_long) in
      let deep : (0 + length w.tail) * x ≡ (i + height i) * z.rest = let e : 0 + (i + height i) ≡ i + height i = omega arith in rw (swept_rest, way_long, e) in
      omega (
        arith,
        l,
        ap (weight depth tree 0) sweep_seen,
        weight_seen depth tree 0 z.buffers,
        weight_seen depth tree 0 b,
        owed_on_seen w.way 0 b ∙ ap (λ ns. owed_along 0 ns b) (sym w.is),
        owed_on_seen w.way 0 bs ∙ ap (λ ns. owed_along 0 ns bs) (sym w.is),
        path_owed,
        split depth b,
        split depth bs,
        none_weighs depth before 0 b (omega (arith, none)),
        take_all_pays depth 1 (λ d e. omega arith) key (links_roomy 1 (i - 1) (omega arith)) bs beside,
        sum_of_same 0 (insertion bs),
        sum_of_same 0 emptied.out,
        behind_weighs depth,
      )

  -- ---- order

  -- what was noted along the path is in the run
  path_within : (g : ℕ → ℕ) → sum_of g (along the_way.way (view tree bs)) ≤ sum_of g run
  unfolding path
  path_within g =
      let w = the_way in
      omega (
        arith,
        ap (sum_of g) (along_seen w.way bs ∙ ap (λ ns. run_along ns bs) (sym w.is)),
        run_along_append (outputs 1 (i - 1)) (path_in_link i j) bs g,
        join_keeps key g (run_along (path_in_link i j) emptied.buffers) emptied.out,
        ap (sum_of g) in_link,
        take_all_pays (λ d. g) 0 (λ d e. omega arith) key (links_roomy 1 (i - 1) (omega arith)) bs beside,
        outputs_within g 1 (i - 1) 0 bs,
      )

  thinned : Thinned tree bs emptied.buffers
  thinned m st =
      by_leb (first i) m (λ b. (get_or emptied.buffers m [] ≡ []) ⊎ (get_or emptied.buffers m [] ≡ get_or bs m []))
      (λ q. inr ((take_all_frame key before bs).same m (λ e. omega (arith, first_some i link)) (λ st'. omega (arith, (before_least st').1))))
      (λ q. inl (none_stands before emptied.buffers (omega (arith, none)) (before_stands (omega (arith, (tree_range links st).0)) q)))

  module _ (holds : T (in_order key tree bs)) where
    tree_ordered : Ordered key tree 0 (view tree bs)
    unfolding in_order
    tree_ordered = ordered_says key tree 0 bs (and_two (ascends key 0 (insertion bs)) (ordered key tree 0 bs) holds)

    parts : Ordered key (links_from 1 links) 0 (view (links_from 1 links) bs) → Ordered key before 0 (view before bs) × Ordered key behind 0 (view behind bs)
    parts h = let o = links_ordered key (i - 1) 1 (suc n) 0 bs (rw whole h) in (o.0, rw at_i at o.1)

    -- in order are the links before i, and those from i on
    parts_ordered : Ordered key before 0 (view before bs) × Ordered key behind 0 (view behind bs)
    unfolding tree_of
    parts_ordered = parts tree_ordered

    before_in_order : T (in_order key before bs)
    unfolding in_order
    before_in_order =
        and_both (ascends key 0 (insertion bs)) (ordered key before 0 bs) (and_one (ascends key 0 (insertion bs)) (ordered key tree 0 bs) holds)
        (says_ordered key before 0 bs parts_ordered.0)

    run_ascends : Ascends key 0 run
    run_ascends =
        let w = link_way i j link some_j few n in
        let is : along w (view behind bs) ≡ run_along (path_in_link i j) emptied.buffers =
        along_seen w bs ∙ ap (λ ns. run_along ns bs) (sym (path_in_link_is i j link some_j few)) ∙ sym in_link in
        let a : Ascends key 0 (run_along (path_in_link i j) emptied.buffers) = rw is at (along_ascends key w 0 (view behind bs) parts_ordered.1) in
        join_ascends key 0 (run_along (path_in_link i j) emptied.buffers) emptied.out a (take_all_ascends key (links_roomy 1 (i - 1) (omega arith)) bs beside before_in_order)

    path_no_later : NoLater key run (along the_way.way (view tree bs))
    path_no_later =
        no_later key 0 0 run (along the_way.way (view tree bs)) run_ascends (along_ascends key the_way.way 0 (view tree bs) tree_ordered) (λ v. path_within (up_to key v))

    -- a sweep keeps the order rule
    pub swept_ordered : T (in_order key tree z.buffers)
    unfolding in_order
    swept_ordered =
        let w = the_way in
        let o = lay_ordered key w.way (omega arith) (view tree bs) run (view tree emptied.buffers) (thinned_beside key w.way bs emptied.buffers thinned) tree_ordered run_ascends path_no_later in
        and_both (ascends key 0 (insertion z.buffers)) (ordered key tree 0 z.buffers)
        (rw swept_insertion (says_ascends key 0 [] tt))
        (says_ordered key tree 0 z.buffers (subst (Ordered key tree 0) (sym sweep_seen) o))
