-- Insert: its cases; nothing is lost, the order and the book rules are kept, and what is left over has its place.
use Prim.Native.Nat.{ℕ, suc, ◌+◌, ◌-◌, ◌≤◌, ◌<◌}
use mathlib.Core.Path.{◌≡◌, refl, sym, ap, ◌∙◌, subst}
use mathlib.Core.Logic.{◌≢◌}
use mathlib.Core.Bool.{true, false}
use mathlib.Core.List.{List, [], ◌∷◌}
use native.Mathlib.Omega.{arith}
use lib.ListN.{length, get_or, length-set}
use lib.Seq.{get_or-set_same, get_or-set_other}
use lib.Dec.{T, leb}
use Rattle.rules.specs.Links.{k, number_of_s, buffer_count, most}
use Rattle.rules.specs.Tree.{Buffers, Tree, k_merger, tree_of}
use Rattle.rules.specs.Take.{insertion, held_in}
use Rattle.rules.specs.Queue.{Queue, key_of, counter, held}
use Rattle.rules.specs.Order.{ascends, ordered, in_order}
use Rattle.rules.specs.Insert.{placed, lowest, Inserted, swept, packed, entered, inserted}
use Rattle.rules.specs.Rest.{HasPlace}
use Rattle.rules.proofs.Table.{and_one, and_two}
use Rattle.rules.proofs.Tests.{and_both}
use Rattle.rules.proofs.Numbers.{Outside}
use Rattle.rules.proofs.Contents.{view}
use Rattle.rules.proofs.Frame.{view_set}
use Rattle.rules.proofs.Weight.{sum_of, sum_of_ones, weight_in, weight, weight_seen, owed_in, held_weight}
use Rattle.rules.proofs.Full.{Fits, FitsIn, fits_seen, seen_fits}
use Rattle.rules.proofs.Ordered.{Ascends, ascends_says, says_ascends, Ordered, ordered_says, says_ordered}
use Rattle.rules.proofs.TakeLaws.{weight_all, held_all}
use Rattle.rules.proofs.Sizes.{by_eqb, by_leb, first_some, k_some}
use Rattle.rules.proofs.Numbering.{insertion_outside, k_merger_range}
use Rattle.rules.proofs.Held.{held_split}
use Rattle.rules.proofs.PathCounts.{Lowest, lowest_is, raised_before, raised_at, raised_behind}
use Rattle.rules.proofs.Credits.{spent_before}
use Rattle.rules.proofs.SweepLaws.{swept_keeps, swept_ordered}
use Rattle.rules.proofs.PackLaws.{pack_keeps, pack_ordered}
use Rattle.rules.proofs.BookLaws.{LinkKept, Kept}
use Rattle.rules.proofs.BookKept.{Shaped}
use Rattle.rules.proofs.SweepKept.{swept_kept, swept_shaped}
use Rattle.rules.proofs.PackKept.{number_some, all_fit_lem, packed_kept, packed_shaped}
use Rattle.rules.proofs.RestLaws.{has_place}

-- ---- "place the entry in I before the first larger one"

module _ (key : ℕ → ℕ) where
  -- the entry has come in, and nothing is lost
  pub placed_keeps : (g : ℕ → ℕ) (e : ℕ) (es : List ℕ) → sum_of g (placed key e es) ≡ g e + sum_of g es
  unfolding placed
  placed_keeps g e [] = refl
  placed_keeps g e (x ∷ xs) =
      by_leb (suc (key e)) (key x) (λ b. sum_of g (elim b [ true ↦ e ∷ x ∷ xs | false ↦ x ∷ placed key e xs ]) ≡ g e + (g x + sum_of g xs))
      (λ l. refl) (λ l. omega (arith, placed_keeps g e xs))

  -- one more
  pub placed_long : (e : ℕ) (es : List ℕ) → length (placed key e es) ≡ suc (length es)
  placed_long e es = omega (arith, placed_keeps (λ e. 1) e es, sum_of_ones es, sum_of_ones (placed key e es))

  -- an ascending run still ascends
  pub placed_ascends : (low e : ℕ) (es : List ℕ) → low ≤ key e → Ascends key low es → Ascends key low (placed key e es)
  unfolding placed
  placed_ascends low e [] l h = (l, tt)
  placed_ascends low e (x ∷ xs) l h =
      by_leb (suc (key e)) (key x) (λ b. Ascends key low (elim b [ true ↦ e ∷ x ∷ xs | false ↦ x ∷ placed key e xs ]))
      (λ p. (l, (omega arith, h.1))) (λ p. (h.0, placed_ascends (key x) e xs (omega arith) h.1))

-- ---- the entry in I

module _ (e : ℕ) (q : Queue) (shape : Shaped q) where
  abbrev bs : Buffers
  bs = q.buffers

  abbrev tree : Tree
  tree = tree_of q.links

  abbrev q' : Queue
  q' = entered e q

  enough : 0 < length bs
  unfolding buffer_count
  enough = omega (arith, shape.buffers, first_some (suc q.links) (omega arith))

  -- as many counters and buffers as before
  pub entered_shaped : Shaped q'
  unfolding entered
  entered_shaped = record { counters = shape.counters; buffers = length-set bs 0 (placed (key_of q) e (insertion bs)) ∙ shape.buffers }

  entered_insertion : insertion q'.buffers ≡ placed (key_of q) e (insertion bs)
  unfolding entered insertion
  entered_insertion = get_or-set_same bs 0 (placed (key_of q) e (get_or bs 0 [])) [] enough

  -- no buffer of a tree beside I is changed
  entered_view : (t : Tree) → Outside 0 t → view t q'.buffers ≡ view t bs
  unfolding entered
  entered_view t out = view_set t 0 out (placed (key_of q) e (insertion bs)) bs

  entered_weight : (g : ℕ → ℕ → ℕ) (t : Tree) → Outside 0 t → weight_in g t 0 q'.buffers ≡ weight_in g t 0 bs
  entered_weight g t out = weight_seen g t 0 q'.buffers ∙ ap (weight g t 0) (entered_view t out) ∙ sym (weight_seen g t 0 bs)

  entered_held : (t : Tree) → Outside 0 t → held_in t q'.buffers ≡ held_in t bs
  entered_held t out = held_weight t 0 q'.buffers ∙ entered_weight (λ d e. 1) t out ∙ sym (held_weight t 0 bs)

  -- one more is in I
  pub entered_long : length (insertion q'.buffers) ≡ suc (length (insertion bs))
  entered_long = ap length entered_insertion ∙ placed_long (key_of q) e (insertion bs)

  -- the entry has come in, and nothing else
  pub entered_keeps : (g : ℕ → ℕ) → weight_all (λ d. g) tree q'.buffers ≡ g e + weight_all (λ d. g) tree bs
  entered_keeps g =
      omega (arith, ap (sum_of g) entered_insertion, placed_keeps (key_of q) g e (insertion bs), entered_weight (λ d. g) tree (insertion_outside q.links))

  -- it owes nothing in I
  pub entered_owed : owed_in tree q'.buffers ≡ owed_in tree bs
  entered_owed = entered_weight (λ d e. d) tree (insertion_outside q.links)

  -- the order rule is kept
  pub entered_ordered : T (in_order (key_of q) tree bs) → T (in_order (key_of q) tree q'.buffers)
  unfolding in_order
  entered_ordered h =
      let key = key_of q in
      let i = ascends_says key 0 (insertion bs) (and_one (ascends key 0 (insertion bs)) (ordered key tree 0 bs) h) in
      let t = ordered_says key tree 0 bs (and_two (ascends key 0 (insertion bs)) (ordered key tree 0 bs) h) in
      and_both (ascends key 0 (insertion q'.buffers)) (ordered key tree 0 q'.buffers)
      (rw entered_insertion (says_ascends key 0 (placed key e (insertion bs)) (placed_ascends key 0 e (insertion bs) (omega arith) i)))
      (says_ordered key tree 0 q'.buffers (subst (Ordered key tree 0) (sym (entered_view tree (insertion_outside q.links))) t))

  -- the book rules, with one more in I
  module _ (room : ℕ) (kept : Kept room q) (less : held_all tree bs < most q.links) where
    k_merger_outside : (i : ℕ) → 1 ≤ i → Outside 0 (k_merger i)
    k_merger_outside i low st = omega (arith, (k_merger_range i low st).0)

    other_number : (i j : ℕ) → 1 ≤ i → number_of_s i j ≢ 0
    unfolding number_of_s
    other_number i j low same = omega (arith, k_some i)

    entered_link : (i : ℕ) → 1 ≤ i → i ≤ q.links → LinkKept q' i
    unfolding entered counter
    entered_link i low high =
        let h = kept.each i low high in
        record {
          counter_low = h.counter_low;
          counter_high = h.counter_high;
          unused = λ j c few. get_or-set_other bs 0 (number_of_s i j) (placed (key_of q) e (insertion bs)) [] (other_number i j low) ∙ h.unused j c few;
          not_over = rw (entered_held (k_merger i) (k_merger_outside i low)) h.not_over;
        }

    entered_fits : Fits tree q'.buffers
    entered_fits = seen_fits tree q'.buffers (subst (FitsIn tree) (sym (entered_view tree (insertion_outside q.links))) (fits_seen tree bs kept.fits))

    -- and the book rules but for I, which may have one more
    pub entered_kept : Kept (suc room) q'
    unfolding entered
    entered_kept =
        record {
          number = kept.number;
          few = omega (arith, entered_long, kept.few);
          fits = entered_fits;
          each = entered_link;
          at_most = omega (arith, entered_long, entered_held tree (insertion_outside q.links));
        }

-- ---- the three cases

module _ (e : ℕ) (q : Queue) where
  abbrev with_e : Queue
  with_e = entered e q

  abbrev goal : ℕ
  goal = lowest 1 with_e.counters

  -- "If I now has 8, let i be the lowest link with c(i) at most k(i), and sweep to it; if none, pack."
  pub insert_cases : (P : Inserted → Type 0)
      → (length (insertion with_e.buffers) ≢ 8 → P (record { queue = with_e; steps = 0; packed = false }))
      → (length (insertion with_e.buffers) ≡ 8 → goal ≤ with_e.links → P (swept goal with_e))
      → (length (insertion with_e.buffers) ≡ 8 → with_e.links < goal → P (packed with_e))
      → P (inserted e q)
  unfolding inserted
  insert_cases P keep sweep pack =
      by_eqb (length (insertion with_e.buffers)) 8
      (λ b. P (elim b [ false ↦ record { queue = with_e; steps = 0; packed = false } | true ↦ elim (leb goal with_e.links) [ true ↦ swept goal with_e | false ↦ packed with_e ] ]))
      (λ eight. by_leb goal with_e.links (λ b. P (elim b [ true ↦ swept goal with_e | false ↦ packed with_e ])) (sweep eight) (pack eight))
      keep

-- ---- an insert into a queue whose book is sound and that is not full

module _ (e : ℕ) (q : Queue) (shape : Shaped q) (kept : Kept 7 q) (less : held q < most q.links) where
  -- the queue with the entry in I
  abbrev pub now : Queue
  now = entered e q

  -- it has its shape
  pub now_shaped : Shaped now
  now_shaped = entered_shaped e q shape

  -- and keeps the book rules with at most 8 in I
  pub now_kept : Kept 8 now
  now_kept = entered_kept e q shape 7 kept (omega (arith, held_split q))

  -- and has all its buffers
  pub now_room : buffer_count now.links ≤ length now.buffers
  now_room = omega (arith, now_shaped.buffers)

  -- the link that a sweep would go to
  abbrev pub destination : ℕ
  destination = lowest 1 now.counters

  -- "the lowest link with c(i) at most k(i)"
  pub the_lowest : Lowest 1 now.counters destination
  the_lowest = lowest_is 1 now.counters

  -- links are counted from 1
  pub at_least : 1 ≤ destination
  at_least = the_lowest.low

  -- the links before it are spent
  pub spent : (m : ℕ) → 1 ≤ m → m < destination → m ≤ now.links → counter now m ≡ suc (k m)
  spent m some before there = spent_before now destination the_lowest m some before (now_kept.each m some there).counter_high

  module _ (there : destination ≤ now.links) where
    -- a counter is at least 1
    pub counter_some : 1 ≤ counter now destination
    counter_some = (now_kept.each destination at_least there).counter_low

    -- its c(i) is at most k(i)
    pub unspent : counter now destination ≤ k destination
    unfolding counter
    unspent = the_lowest.has (destination - 1) (omega (arith, at_least)) (omega (arith, at_least, now_shaped.counters))

    -- "Then c(i) rises by one and c(1) .. c(i-1) become 1."
    pub swept_before : (m : ℕ) → 1 ≤ m → m < destination → counter (swept destination now).queue m ≡ 1
    unfolding swept counter
    swept_before m some before = raised_before destination now.counters (m - 1) (omega arith) (omega (arith, now_shaped.counters))

    -- c(i) rises by one
    pub swept_at : counter (swept destination now).queue destination ≡ suc (counter now destination)
    unfolding swept counter
    swept_at = raised_at destination now.counters (destination - 1) (omega (arith, at_least)) (omega (arith, at_least, now_shaped.counters))

    -- those behind stay
    pub swept_behind : (m : ℕ) → destination < m → counter (swept destination now).queue m ≡ counter now m
    unfolding swept counter
    swept_behind m behind = raised_behind destination now.counters (m - 1) (omega arith)

  -- after an accepted insert the book rules hold
  pub inserted_kept : Kept 7 (inserted e q).queue
  inserted_kept =
      insert_cases e q (λ z. Kept 7 z.queue)
      (λ other. record { number = now_kept.number; few = omega (arith, now_kept.few, other); fits = now_kept.fits; each = now_kept.each; at_most = now_kept.at_most })
      (λ eight there. swept_kept 8 now now_shaped now_kept now_kept.few destination at_least there (unspent there))
      (λ eight past. packed_kept 8 now now_shaped now_kept)

  -- as many counters and buffers as before
  pub inserted_shaped : Shaped (inserted e q).queue
  inserted_shaped =
      insert_cases e q (λ z. Shaped z.queue) (λ other. now_shaped)
      (λ eight there. swept_shaped 8 now now_shaped now_kept now_kept.few destination at_least there (unspent there))
      (λ eight past. packed_shaped 8 now now_shaped now_kept)

  -- what a sweep or a packing then leaves over has its place
  pub now_has_place : HasPlace now
  now_has_place = has_place now now_shaped now_kept

  -- ---- entries and order

  abbrev tree_of_q : Tree
  tree_of_q = tree_of q.links

  -- the entry has come in, and nothing is lost
  pub inserted_keeps : (g : ℕ → ℕ) → weight_all (λ d. g) tree_of_q (inserted e q).queue.buffers ≡ g e + weight_all (λ d. g) tree_of_q q.buffers
  unfolding swept packed entered
  inserted_keeps g =
      let come = entered_keeps e q shape g in
      let i = destination in
      insert_cases e q (λ z. weight_all (λ d. g) tree_of_q z.queue.buffers ≡ g e + weight_all (λ d. g) tree_of_q q.buffers) (λ other. come)
      (λ eight there. swept_keeps (key_of now) q.links i (counter now i) at_least there (counter_some there) (unspent there) now.buffers now_room g ∙ come)
      (λ eight past. pack_keeps (key_of now) q.links (number_some kept.number) now.buffers now_room (all_fit_lem 8 now now_shaped now_kept) g ∙ come)

  -- the order rule is kept
  pub inserted_ordered : T (in_order (key_of q) tree_of_q q.buffers) → T (in_order (key_of q) tree_of_q (inserted e q).queue.buffers)
  unfolding swept packed entered
  inserted_ordered h =
      let o = entered_ordered e q shape h in
      let i = destination in
      insert_cases e q (λ z. T (in_order (key_of q) tree_of_q z.queue.buffers)) (λ other. o)
      (λ eight there. swept_ordered (key_of now) q.links i (counter now i) at_least there (counter_some there) (unspent there) now.buffers now_room o)
      (λ eight past. pack_ordered (key_of now) q.links (number_some kept.number) now.buffers now_room o)

  -- as many links as before
  pub inserted_links : (inserted e q).queue.links ≡ q.links
  unfolding swept packed entered
  inserted_links = insert_cases e q (λ z. z.queue.links ≡ q.links) (λ other. refl) (λ eight there. refl) (λ eight past. refl)
