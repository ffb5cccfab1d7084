-- What the book weighs tells exactly whether it keeps the book rules.
use mathlib.Core.Path.{◌≡◌, refl, sym, ap, subst, ◌∙◌}
use mathlib.Core.Bool.{Bool, true, false}
use mathlib.Core.Logic.{◌⊎◌, inl, inr, ⊎_elim}
use Prim.Native.Nat.{ℕ, zero, suc, ◌+◌, ◌-◌, ◌*◌, ◌≤◌, ◌<◌}
use native.Mathlib.Nat.{zero-add, add-zero}
use native.Mathlib.Omega.{arith}
use native.Mathlib.Decide.{ℕ_discrete, dec_lt}
use mathlib.Core.List.{List}
use Rattle.std.specs.Prelude.{Option, Some, None, is_some, unwrap_or}
use lib.ListN.{length}
use lib.Dec.{T, leb, ltb, eqb, eqb→eq, ltb→lt}
use borrow.Author.Tests.{eqb-true, eq-eqb, leb-true, le-leb, lt-leb}
use Rattle.rules.specs.Tests.{◌and◌, ◌or◌}
use Rattle.rules.specs.Links.{s, k, first, capacity, number_of_s, buffer_count, most, most_links, words, LinkNumber}
use Rattle.rules.specs.Tree.{Tree, exhausted, buffer, merger, k_merger, links_from, tree_of}
use Rattle.rules.specs.Book.{Book, count, start_place, marked, c, together, is_link_number, sound}
use Rattle.rules.proofs.Table.{and_one as T_one, and_two as T_two, k_least, in_link}
use Rattle.buffers.specs.Slots.{capacity_of}
use Rattle.buffers.specs.Format.{count_in, links_in, counter_in, word_of, count_of, start_of, mark_of, many, book_of}
use Rattle.buffers.specs.Rules.{Part, whole, in_one, in_two, held_under, top_marked, LinkRules, Rules}
use Rattle.buffers.specs.Weights.{broken, word_right, weigh, counts_from, weight, room, links_weight, weighs_right, held_if_sound, Behind}
use Rattle.buffers.specs.Post.{Inside}
use Rattle.buffers.proofs.SlotLaws.{capacity_is}
use Rattle.buffers.proofs.ArrayLaws.{each_at}
use Rattle.buffers.proofs.SoundLaws.{weigh_true, weigh_false, weigh_above, weigh_right, weigh_kept, Kept}
use Rattle.buffers.proofs.LinkWeights.{counts_none, none_counts, room_none, room_many, room_held, room_right, link_broken, link_right, most_small, used_few, behind_all}
use Rattle.buffers.proofs.RuleLaws.{both, link_number_lem, is_link_number_lem, sound_rules, rules_sound}
use Rattle.buffers.proofs.RuleLaws as rule
use Rattle.buffers.proofs.TreeLaws.{merger_held, all_held, numbered, occurs, tree_numbered, merger_numbered, tree_occurs, number_1, link_within, first_least, capacity_I, each_buffer}

-- ---- what the book of an array says

module _ (ws : List ℕ) where
  pub links_is : (book_of ws).links ≡ links_in ws
  unfolding book_of
  links_is = refl

  pub count_is : (n : ℕ) → n < many ws → count (book_of ws) n ≡ count_of ws n
  unfolding book_of count
  count_is n lt = each_at (count_of ws) 0 (many ws) n 0 lt ∙ ap (count_of ws) (zero-add n)

  pub start_is : (n : ℕ) → n < many ws → start_place (book_of ws) n ≡ start_of ws n
  unfolding book_of start_place
  start_is n lt = each_at (start_of ws) 0 (many ws) n 0 lt ∙ ap (start_of ws) (zero-add n)

  pub mark_is : (n : ℕ) → n < many ws → marked (book_of ws) n ≡ eqb (mark_of ws n) 1
  unfolding book_of marked
  mark_is n lt = each_at (λ n. eqb (mark_of ws n) 1) 0 (many ws) n false lt ∙ ap (λ n. eqb (mark_of ws n) 1) (zero-add n)

  pub counter_is : (i : ℕ) → 1 ≤ i → i ≤ links_in ws → c (book_of ws) i ≡ counter_in ws i
  unfolding book_of c
  counter_is i low high =
      let e : 1 + (i - 1) ≡ i = omega arith in
      each_at (counter_in ws) 1 (links_in ws) (i - 1) 0 (omega arith) ∙ ap (counter_in ws) e

-- ---- a tree that weighs less than what is broken keeps the rules; one that keeps them weighs what it holds

module _ (ws : List ℕ) where
  abbrev b : Book
  b = book_of ws

  record TreeKept (t : Tree) : Type 0 where
    pub held : held_under b t ≡ weight ws t
    pub fits : (n : ℕ) → T (occurs n t) → start_of ws n + count_of ws n ≤ capacity_of n
    pub marks : (t' : Tree) → Part t' t → top_marked b t' ≡ true → held_under b t' ≡ 0

  marked_is : (n : ℕ) → n < many ws → marked b n ≡ true → mark_of ws n ≡ 1
  marked_is n lt m = eqb-true (mark_of ws n) 1 (sym (mark_is ws n lt) ∙ m)

  T_or : (t u : Bool) → T (t or u) → T t ⊎ T u
  T_or true u h = inl tt
  T_or false u h = inr h

  module _ (n size : ℕ) (one two : Tree) (here : T (ltb n (many ws) and eqb size (capacity_of n))) where
    number_below : n < many ws
    number_below = ltb→lt n (many ws) (T_one (ltb n (many ws)) (eqb size (capacity_of n)) here)

    size_is : size ≡ capacity_of n
    size_is = eqb→eq size (capacity_of n) (T_two (ltb n (many ws)) (eqb size (capacity_of n)) here)

    buffer_kept : weight ws (buffer n size) < broken → TreeKept (buffer n size)
    unfolding occurs weight held_under top_marked
    buffer_kept less = record {
      held = omega (arith, count_is ws n number_below, kept.is);
      fits = λ m z. let q = eqb→eq m n z in rw q (omega (arith, kept.fits, size_is));
      marks = none;
    }
      where
        kept : Kept (word_of ws n) size 0
        kept = weigh_kept (word_of ws n) size 0 less

        none : (t' : Tree) → Part t' (buffer n size) → top_marked b t' ≡ true → held_under b t' ≡ 0
        none t' whole m = let z = kept.mark (marked_is n number_below m) in omega (arith, count_is ws n number_below)

    merger_kept : weight ws (merger n size one two) < broken → (weight ws one < broken → TreeKept one) → (weight ws two < broken → TreeKept two) → TreeKept (merger n size one two)
    unfolding occurs weight held_under top_marked
    merger_kept less one_kept two_kept = record { held = held; fits = fits; marks = none }
      where
        kept : Kept (word_of ws n) size (weight ws one + weight ws two)
        kept = weigh_kept (word_of ws n) size (weight ws one + weight ws two) less

        first_kept : TreeKept one
        first_kept = one_kept (omega (arith, kept.is))

        second_kept : TreeKept two
        second_kept = two_kept (omega (arith, kept.is))

        held : count b n + (held_under b one + held_under b two) ≡ weigh (word_of ws n) size (weight ws one + weight ws two)
        held = omega (arith, count_is ws n number_below, first_kept.held, second_kept.held, kept.is)

        fits : (m : ℕ) → T (eqb m n or occurs m one or occurs m two) → start_of ws m + count_of ws m ≤ capacity_of m
        fits m z =
            ⊎_elim (λ q. let p = eqb→eq m n q in rw p (omega (arith, kept.fits, size_is)))
            (λ q. ⊎_elim (first_kept.fits m) (second_kept.fits m) (T_or (occurs m one) (occurs m two) q)) (T_or (eqb m n) (occurs m one or occurs m two) z)

        none : (t' : Tree) → Part t' (merger n size one two) → top_marked b t' ≡ true → held_under b t' ≡ 0
        none t' whole m = let z = kept.mark (marked_is n number_below m) in omega (arith, held, kept.is)
        none t' (in_one p) m = first_kept.marks t' p m
        none t' (in_two p) m = second_kept.marks t' p m

  nothing_marked : (t' : Tree) → Part t' exhausted → top_marked b t' ≡ true → held_under b t' ≡ 0
  unfolding held_under
  nothing_marked t' whole m = refl

  tree_kept : (t : Tree) → T (numbered (many ws) t) → weight ws t < broken → TreeKept t
  unfolding numbered occurs weight held_under
  tree_kept exhausted h less = record { held = refl; fits = λ n z. absurd z; marks = nothing_marked }
  tree_kept (buffer n size) h less = buffer_kept n size exhausted exhausted h less
  tree_kept (merger n size one two) h less =
      let inputs = T_two (ltb n (many ws) and eqb size (capacity_of n)) (numbered (many ws) one and numbered (many ws) two) h in
      merger_kept n size one two (T_one (ltb n (many ws) and eqb size (capacity_of n)) (numbered (many ws) one and numbered (many ws) two) h) less
      (tree_kept one (T_one (numbered (many ws) one) (numbered (many ws) two) inputs)) (tree_kept two (T_two (numbered (many ws) one) (numbered (many ws) two) inputs))

  module _ (fits : (n : ℕ) → n < many ws → start_of ws n + count_of ws n ≤ capacity_of n) where
    -- a word whose mark keeps the rule
    word_weight : (n size under : ℕ) → T (ltb n (many ws) and eqb size (capacity_of n)) → (marked b n ≡ true → count_of ws n + under ≡ 0) → weigh (word_of ws n) size under ≡ count_of ws n + under
    word_weight n size under here none =
        let lt = number_below n size exhausted exhausted here in
        weigh_right (word_of ws n) size under (omega (arith, fits n lt, size_is n size exhausted exhausted here)) (λ m. none (mark_is ws n lt ∙ eq-eqb (mark_of ws n) 1 m))

    tree_weight : (t : Tree) → T (numbered (many ws) t) → ((t' : Tree) → Part t' t → top_marked b t' ≡ true → held_under b t' ≡ 0) → weight ws t ≡ held_under b t
    unfolding numbered weight held_under top_marked
    tree_weight exhausted h marks = refl
    tree_weight (buffer n size) h marks =
        let lt = number_below n size exhausted exhausted h in
        let e = word_weight n size 0 h (λ m. let z = marks (buffer n size) whole m in omega (arith, count_is ws n lt)) in
        omega (arith, count_is ws n lt)
    tree_weight (merger n size one two) h marks =
        let here = T_one (ltb n (many ws) and eqb size (capacity_of n)) (numbered (many ws) one and numbered (many ws) two) h in
        let inputs = T_two (ltb n (many ws) and eqb size (capacity_of n)) (numbered (many ws) one and numbered (many ws) two) h in
        let lt = number_below n size exhausted exhausted here in
        let first = tree_weight one (T_one (numbered (many ws) one) (numbered (many ws) two) inputs) (λ t' p m. marks t' (in_one p) m) in
        let second = tree_weight two (T_two (numbered (many ws) one) (numbered (many ws) two) inputs) (λ t' p m. marks t' (in_two p) m) in
        let e = word_weight n size (weight ws one + weight ws two) here (λ m. let z = marks (merger n size one two) whole m in omega (arith, count_is ws n lt)) in
        omega (arith, count_is ws n lt)

  -- ---- the links, one behind the other

  tree_is : (l : ℕ) → weight ws (tree_of l) ≡ weight ws (links_from 1 l)
  unfolding tree_of
  tree_is l = refl

  record LinksKept (i n : ℕ) : Type 0 where
    pub is : weight ws (links_from i n) ≡ links_weight ws i n
    pub each : (m : ℕ) → i ≤ m → m < i + n → weight ws (k_merger m) < room ws m

  link_kept : (i n : ℕ) → links_weight ws i (suc n) < broken → (links_weight ws (suc i) n < broken → LinksKept (suc i) n) → LinksKept i (suc n)
  unfolding links_weight links_from weight
  link_kept i n less further = go (dec_lt (weight ws (k_merger i)) (room ws i))
    where
      go : Dec (weight ws (k_merger i) < room ws i) → LinksKept i (suc n)
      go (no ge) = absurd (omega (arith, link_broken ws i (links_weight ws (suc i) n) (omega arith)))
      go (yes lt) =
          let e = link_right ws i (links_weight ws (suc i) n) lt in
          let kept = weigh_kept (word_of ws (first i)) (capacity i 0) (weight ws (k_merger i) + links_weight ws (suc i) n) (omega (arith, e)) in
          let rest = further (omega (arith, e, kept.is)) in
          record {
            is = ap (λ x. weigh (word_of ws (first i)) (capacity i 0) (weight ws (k_merger i) + x)) rest.is ∙ sym e;
            each = λ m low high. at m low high (ℕ_discrete m i) lt rest;
          }
        where
          at : (m : ℕ) → i ≤ m → m < i + suc n → Dec (m ≡ i) → weight ws (k_merger i) < room ws i → LinksKept (suc i) n → weight ws (k_merger m) < room ws m
          at m low high (yes q) lt rest = subst (λ m. weight ws (k_merger m) < room ws m) (sym q) lt
          at m low high (no q) lt rest = rest.each m (omega arith) (omega arith)

  links_kept : (i n : ℕ) → links_weight ws i n < broken → LinksKept i n
  unfolding links_weight links_from weight
  links_kept i zero less = record { is = refl; each = λ m low high. absurd (omega arith) }
  links_kept i (suc n) less = link_kept i n less (links_kept (suc i) n)

  links_weight_lem : (i n : ℕ) → ((m : ℕ) → i ≤ m → m < i + n → weight ws (k_merger m) < room ws m) → links_weight ws i n ≡ weight ws (links_from i n)
  unfolding links_weight links_from weight
  links_weight_lem i zero each = refl
  links_weight_lem i (suc n) each =
      link_right ws i (links_weight ws (suc i) n) (each i (omega arith) (omega arith))
      ∙ ap (λ x. weigh (word_of ws (first i)) (capacity i 0) (weight ws (k_merger i) + x)) (links_weight_lem (suc i) n (λ m low high. each m (omega arith) (omega arith)))

  record RoomRight (i : ℕ) : Type 0 where
    pub one : 1 ≤ counter_in ws i
    pub few : counter_in ws i ≤ k i + 1
    pub none : counts_from ws (first i + (k i + (counter_in ws i - 1))) (2 * k i - (k i + (counter_in ws i - 1))) ≡ 0
    pub is : room ws i ≡ (counter_in ws i - 1) * s i + 1

  room_kept : (i : ℕ) → 0 < room ws i → RoomRight i
  room_kept i some =
      go (dec_lt (counter_in ws i) 1) (dec_lt (k i + 1) (counter_in ws i)) (ℕ_discrete (counts_from ws (first i + (k i + (counter_in ws i - 1))) (2 * k i - (k i + (counter_in ws i - 1)))) 0)
    where
      go : Dec (counter_in ws i < 1) → Dec (k i + 1 < counter_in ws i) → Dec (counts_from ws (first i + (k i + (counter_in ws i - 1))) (2 * k i - (k i + (counter_in ws i - 1))) ≡ 0) → RoomRight i
      go (yes z) q r = absurd (omega (arith, room_none ws i z))
      go (no z) (yes q) r = absurd (omega (arith, room_many ws i (omega arith) q))
      go (no z) (no q) (no r) = absurd (omega (arith, room_held ws i (omega arith) (omega arith) r))
      go (no z) (no q) (yes r) =
          let one : 1 ≤ counter_in ws i = omega arith in
          let few : counter_in ws i ≤ k i + 1 = omega arith in
          record { one = one; few = few; none = r; is = room_right ws i one few r }

  -- ---- from the weights to the rules

  module _ (right : weighs_right ws ≡ true) where
    abbrev L : ℕ
    L = links_in ws

    abbrev inserted : ℕ
    inserted = weigh (word_of ws 0) 8 0

    number : LinkNumber L
    unfolding weighs_right
    number = link_number_lem L (rule.and_one (is_link_number L) (leb inserted 7 and leb (inserted + links_weight ws 1 L) (most L)) right)

    seven : inserted ≤ 7
    unfolding weighs_right
    seven = leb-true inserted 7 (rule.and_one (leb inserted 7) (leb (inserted + links_weight ws 1 L) (most L)) (rule.and_two (is_link_number L) (leb inserted 7 and leb (inserted + links_weight ws 1 L) (most L)) right))

    total : inserted + links_weight ws 1 L ≤ most L
    unfolding weighs_right
    total =
        leb-true (inserted + links_weight ws 1 L) (most L)
        (rule.and_two (leb inserted 7) (leb (inserted + links_weight ws 1 L) (most L)) (rule.and_two (is_link_number L) (leb inserted 7 and leb (inserted + links_weight ws 1 L) (most L)) right))

    I_kept : Kept (word_of ws 0) 8 0
    I_kept = weigh_kept (word_of ws 0) 8 0 (omega (arith, seven))

    all_kept : LinksKept 1 L
    all_kept = links_kept 1 L (omega (arith, total, most_small number))

    kept_tree : TreeKept (tree_of L)
    unfolding tree_of
    kept_tree = tree_kept (links_from 1 L) (tree_numbered number) (omega (arith, total, most_small number, all_kept.is))

    some_buffers : 0 < many ws
    some_buffers = omega (arith, link_within number (omega arith) number.low, k_least number_1)

    kept_buffer : (n : ℕ) → 1 ≤ n → n < many ws → start_of ws n + count_of ws n ≤ capacity_of n
    kept_buffer n low lt = kept_tree.fits n (tree_occurs number n low lt)

    module _ (i : ℕ) (low : 1 ≤ i) (high : i ≤ L) where
      number_i : LinkNumber i
      number_i = record { low = low; high = omega (arith, number.high) }

      below : (j : ℕ) → j < 2 * k i → first i + j < many ws
      below j lt = omega (arith, link_within number low high)

      room_i : RoomRight i
      room_i = room_kept i (omega (arith, all_kept.each i low (omega arith)))

      lower_is : held_under b (k_merger i) ≡ weight ws (k_merger i)
      lower_is =
          (tree_kept (k_merger i) (merger_numbered number low high)
          (omega (arith, all_kept.each i low (omega arith), room_i.is, used_few number_i (counter_in ws i - 1) (omega (arith, room_i.few))))).held

      rules_of_link : LinkRules b i
      unfolding number_of_s
      rules_of_link = record {
        inside = λ j lt.
            omega (
              arith,
              start_is ws (first i + j) (below j lt),
              count_is ws (first i + j) (below j lt),
              kept_buffer (first i + j) (omega (arith, first_least number_i)) (below j lt),
              capacity_is (in_link number_i lt),
            );
        from_one = omega (arith, counter_is ws i low high, room_i.one);
        to_all = omega (arith, counter_is ws i low high, room_i.few);
        unused_empty = λ j from to. unused j (omega (arith, counter_is ws i low high)) to;
        not_over = omega (arith, merger_held b number_i, lower_is, all_kept.each i low (omega arith), room_i.is, ap (λ n. (n - 1) * s i) (counter_is ws i low high));
      }
        where
          unused : (j : ℕ) → counter_in ws i ≤ j → j ≤ k i → count b (first i + k i + (j - 1)) ≡ 0
          unused j from to =
              let lt : first i + k i + (j - 1) < many ws = omega (arith, below (k i + (j - 1)) (omega (arith, room_i.one)), room_i.one) in
              count_is ws (first i + k i + (j - 1)) lt
              ∙ counts_none ws (first i + (k i + (counter_in ws i - 1))) (2 * k i - (k i + (counter_in ws i - 1))) room_i.none (first i + k i + (j - 1)) (omega (arith, room_i.one)) (omega (arith, room_i.one))

    whole_weight : weight ws (tree_of L) ≡ links_weight ws 1 L
    whole_weight = tree_is L ∙ all_kept.is

    -- all buffers together have what they weigh
    pub weights_held : together b 0 (buffer_count L) ≡ inserted + links_weight ws 1 L
    weights_held = omega (arith, all_held b number, count_is ws 0 some_buffers, I_kept.is, kept_tree.held, whole_weight)

    pub weights_rules : Rules b
    weights_rules = record {
      link_number = rw (links_is ws) number;
      inside = omega (arith, start_is ws 0 some_buffers, count_is ws 0 some_buffers, I_kept.fits);
      at_most_seven = omega (arith, count_is ws 0 some_buffers, I_kept.is, seven);
      each_link = λ i low high. rules_of_link i low (omega (arith, links_is ws));
      at_most_h = subst (λ l. together b 0 (buffer_count l) ≤ most l) (sym (links_is ws)) not_over_lem;
      mark_i = λ m. let z = I_kept.mark (marked_is 0 some_buffers m) in omega (arith, count_is ws 0 some_buffers);
      marks = subst (λ l. (t : Tree) → Part t (tree_of l) → top_marked b t ≡ true → held_under b t ≡ 0) (sym (links_is ws)) kept_tree.marks;
    }
      where
        not_over_lem : together b 0 (buffer_count L) ≤ most L
        not_over_lem = omega (arith, weights_held, total)

  -- ---- from the rules to the weights

  part_links : (t : Tree) (i n m : ℕ) → i ≤ m → m < i + n → Part t (k_merger m) → Part t (links_from i n)
  unfolding links_from
  part_links t i zero m low high p = absurd (omega arith)
  part_links t i (suc n) m low high p = go (ℕ_discrete m i) (part_links t (suc i) n m)
    where
      go : Dec (m ≡ i) → (suc i ≤ m → m < suc i + n → Part t (k_merger m) → Part t (links_from (suc i) n)) → Part t (merger (first i) (capacity i 0) (k_merger i) (links_from (suc i) n))
      go (yes e) further = in_one (subst (λ m. Part t (k_merger m)) e p)
      go (no e) further = in_two (further (omega arith) (omega arith) p)

  module _ (r : Rules b) where
    number_of_lem : LinkNumber (links_in ws)
    number_of_lem = subst LinkNumber (links_is ws) r.link_number

    rules_of : (i : ℕ) → 1 ≤ i → i ≤ links_in ws → LinkRules b i
    rules_of i low high = r.each_link i low (omega (arith, links_is ws))

    marks_of : (t : Tree) → Part t (tree_of (links_in ws)) → top_marked b t ≡ true → held_under b t ≡ 0
    marks_of = subst (λ l. (t : Tree) → Part t (tree_of l) → top_marked b t ≡ true → held_under b t ≡ 0) (links_is ws) r.marks

    not_over_lem : together b 0 (buffer_count (links_in ws)) ≤ most (links_in ws)
    not_over_lem = subst (λ l. together b 0 (buffer_count l) ≤ most l) (links_is ws) r.at_most_h

    some_of : 0 < many ws
    some_of = omega (arith, link_within number_of_lem (omega arith) number_of_lem.low, k_least number_1)

    below_of : (i j : ℕ) → 1 ≤ i → i ≤ links_in ws → j < 2 * k i → first i + j < many ws
    below_of i j low high lt = omega (arith, link_within number_of_lem low high)

    -- "every count and start place inside its buffer", by number
    pub rules_fit : (n : ℕ) → n < many ws → start_of ws n + count_of ws n ≤ capacity_of n
    unfolding buffer_count
    rules_fit = each_buffer (λ n. start_of ws n + count_of ws n ≤ capacity_of n) (links_in ws) number_of_lem.high zeroth each
      where
        zeroth : start_of ws 0 + count_of ws 0 ≤ capacity_of 0
        zeroth = omega (arith, r.inside, start_is ws 0 some_of, count_is ws 0 some_of, capacity_I)

        each : (i j : ℕ) → 1 ≤ i → i ≤ links_in ws → j < 2 * k i → start_of ws (first i + j) + count_of ws (first i + j) ≤ capacity_of (first i + j)
        each i j low high lt =
            let number : LinkNumber i = record { low = low; high = omega (arith, number_of_lem.high) } in
            omega (arith, (rules_of i low high).inside j lt, start_is ws (first i + j) (below_of i j low high lt), count_is ws (first i + j) (below_of i j low high lt), capacity_is (in_link number lt))

    tree_weighs : weight ws (tree_of (links_in ws)) ≡ held_under b (tree_of (links_in ws))
    tree_weighs = tree_weight rules_fit (tree_of (links_in ws)) (tree_numbered number_of_lem) marks_of

    module _ (i : ℕ) (low : 1 ≤ i) (high : i ≤ links_in ws) where
      number_here : LinkNumber i
      number_here = record { low = low; high = omega (arith, number_of_lem.high) }

      marks_here : (t : Tree) → Part t (k_merger i) → top_marked b t ≡ true → held_under b t ≡ 0
      unfolding tree_of
      marks_here t p m = marks_of t (part_links t 1 (links_in ws) i low (omega arith) p) m

      lower_weighs : weight ws (k_merger i) ≡ held_under b (k_merger i)
      lower_weighs = tree_weight rules_fit (k_merger i) (merger_numbered number_of_lem low high) marks_here

      one_of : 1 ≤ counter_in ws i
      one_of = omega (arith, (rules_of i low high).from_one, counter_is ws i low high)

      few_of : counter_in ws i ≤ k i + 1
      few_of = omega (arith, (rules_of i low high).to_all, counter_is ws i low high)

      spare_none : (n : ℕ) → first i + (k i + (counter_in ws i - 1)) ≤ n → n < (first i + (k i + (counter_in ws i - 1))) + (2 * k i - (k i + (counter_in ws i - 1))) → count_of ws n ≡ 0
      unfolding number_of_s
      spare_none n from to =
          let j = suc (n - (first i + k i)) in
          let e : first i + k i + (j - 1) ≡ n = omega arith in
          let z : count b (first i + k i + (j - 1)) ≡ 0 = (rules_of i low high).unused_empty j (omega (arith, counter_is ws i low high)) (omega arith) in
          let lt : n < many ws = omega (arith, link_within number_of_lem low high) in
          sym (count_is ws n lt) ∙ ap (count b) (sym e) ∙ z

      room_is : room ws i ≡ (counter_in ws i - 1) * s i + 1
      room_is = room_right ws i one_of few_of (none_counts ws (first i + (k i + (counter_in ws i - 1))) (2 * k i - (k i + (counter_in ws i - 1))) spare_none)

      lower_fits : weight ws (k_merger i) < room ws i
      lower_fits = omega (arith, room_is, lower_weighs, merger_held b number_here, (rules_of i low high).not_over, ap (λ n. (n - 1) * s i) (counter_is ws i low high))

    I_weighs : weigh (word_of ws 0) 8 0 ≡ count_of ws 0 + 0
    I_weighs =
        weigh_right (word_of ws 0) 8 0 (omega (arith, r.inside, start_is ws 0 some_of, count_is ws 0 some_of))
        (λ m. let z = r.mark_i (mark_is ws 0 some_of ∙ eq-eqb (mark_of ws 0) 1 m) in omega (arith, count_is ws 0 some_of))

    links_weigh : links_weight ws 1 (links_in ws) ≡ held_under b (tree_of (links_in ws))
    links_weigh = links_weight_lem 1 (links_in ws) (λ m low high. lower_fits m low (omega arith)) ∙ sym (tree_is (links_in ws)) ∙ tree_weighs

    pub rules_weights : weighs_right ws ≡ true
    unfolding weighs_right
    rules_weights =
        let inserted = weigh (word_of ws 0) 8 0 in
        both (is_link_number (links_in ws)) (leb inserted 7 and leb (inserted + links_weight ws 1 (links_in ws)) (most (links_in ws))) (is_link_number_lem (links_in ws) number_of_lem)
        (both (leb inserted 7) (leb (inserted + links_weight ws 1 (links_in ws)) (most (links_in ws)))
        (le-leb inserted 7 (omega (arith, I_weighs, r.at_most_seven, count_is ws 0 some_of)))
        (le-leb (inserted + links_weight ws 1 (links_in ws)) (most (links_in ws)) (omega (arith, I_weighs, links_weigh, all_held b number_of_lem, not_over_lem, count_is ws 0 some_of))))

-- ---- exactly

same_truth : (t u : Bool) → (t ≡ true → u ≡ true) → (u ≡ true → t ≡ true) → t ≡ u
same_truth true u f g = sym (f refl)
same_truth false true f g = g refl
same_truth false false f g = refl

pub exact : (ws : List ℕ) → weighs_right ws ≡ sound (book_of ws)
exact ws =
    same_truth (weighs_right ws) (sound (book_of ws)) (λ h. rules_sound (book_of ws) (weights_rules ws h)) (λ h. rules_weights ws (sound_rules (book_of ws) h))

-- a sound book in an array that is long enough for its links
pub sound_inside : (ws : List ℕ) → sound (book_of ws) ≡ true → words (links_in ws) ≤ length ws → Inside ws
sound_inside ws h long =
    let r = sound_rules (book_of ws) h in
    record { link = number_of_lem ws r; long = long; fits = rules_fit ws r }

-- ---- what the test hands back

module _ (ws : List ℕ) where
  abbrev all : ℕ
  all = together (book_of ws) 0 (buffer_count (book_of ws).links)

  pub handed : (t : Bool) → sound (book_of ws) ≡ t → held_if_sound (book_of ws) ≡ elim t [ true ↦ Some all | false ↦ None ]
  unfolding held_if_sound
  handed t e = ap (λ t. elim t [ true ↦ Some all | false ↦ None ]) e

  pub none_wrong : None ≡ held_if_sound (book_of ws) → sound (book_of ws) ≡ false
  none_wrong e = go (sound (book_of ws)) refl
    where
      go : (t : Bool) → sound (book_of ws) ≡ t → t ≡ false
      go true s = absurd (let z = handed true s in cc)
      go false s = refl

  -- a number n that it hands back
  module _ (n : ℕ) (n_is : Some n ≡ held_if_sound (book_of ws)) where
    pub held_right : sound (book_of ws) ≡ true
    held_right = go (sound (book_of ws)) refl
      where
        go : (t : Bool) → sound (book_of ws) ≡ t → t ≡ true
        go true s = refl
        go false s = absurd (let z = handed false s in cc)

    pub held_all_lem : n ≡ together (book_of ws) 0 (many ws)
    held_all_lem =
        let z = handed true held_right in
        let e : n ≡ all = cc in
        e ∙ ap (λ l. together (book_of ws) 0 (buffer_count l)) (links_is ws)

  pub some_exactly : (o : Option ℕ) → o ≡ held_if_sound (book_of ws) → is_some o ≡ sound (book_of ws)
  some_exactly None e = sym (none_wrong e)
  some_exactly (Some n) e = sym (held_right n e)

-- ---- the test's steps

module _ (ws : List ℕ) where
  abbrev last_test : ℕ → Bool
  last_test inserted = leb inserted 7 and leb (inserted + links_weight ws 1 (links_in ws)) (most (links_in ws))

  pub no_links : links_in ws < 1 → weighs_right ws ≡ false
  unfolding weighs_right is_link_number
  no_links h = ap (λ t. (t and leb (links_in ws) most_links) and last_test (weigh (word_of ws 0) 8 0)) (lt-leb 1 (links_in ws) h)

  pub many_links : 1 ≤ links_in ws → most_links < links_in ws → weighs_right ws ≡ false
  unfolding weighs_right is_link_number
  many_links one h =
      ap (λ t. (t and leb (links_in ws) most_links) and last_test (weigh (word_of ws 0) 8 0)) (le-leb 1 (links_in ws) one)
      ∙ ap (λ t. t and last_test (weigh (word_of ws 0) 8 0)) (lt-leb (links_in ws) most_links h)

  module _ (number : LinkNumber (links_in ws)) (inserted : ℕ) (is : inserted ≡ weigh (word_of ws 0) 8 0) where
    numbered_links : weighs_right ws ≡ last_test inserted
    unfolding weighs_right
    numbered_links = ap (λ t. t and last_test (weigh (word_of ws 0) 8 0)) (is_link_number_lem (links_in ws) number) ∙ ap last_test (sym is)

    pub eight_inserted : 7 < inserted → weighs_right ws ≡ false
    eight_inserted h = numbered_links ∙ ap (λ t. t and leb (inserted + links_weight ws 1 (links_in ws)) (most (links_in ws))) (lt-leb inserted 7 h)

    pub all_weighed : inserted ≤ 7 → (held H : ℕ) → held ≡ links_weight ws 1 (links_in ws) → H ≡ most (links_in ws) → weighs_right ws ≡ leb (inserted + held) H
    all_weighed h held H eh e_h =
        numbered_links ∙ ap (λ t. t and leb (inserted + links_weight ws 1 (links_in ws)) (most (links_in ws))) (le-leb inserted 7 h)
        ∙ ap (λ n. leb (inserted + n) (most (links_in ws))) (sym eh) ∙ ap (leb (inserted + held)) (sym e_h)

-- ---- and what it hands back at each

module _ (ws : List ℕ) where
  pub broken_weighs : weighs_right ws ≡ false → None ≡ held_if_sound (book_of ws)
  broken_weighs wrong = sym (handed ws false (sym (exact ws) ∙ wrong))

  pub no_such_link : (links_in ws < 1) ⊎ ((1 ≤ links_in ws) × (most_links < links_in ws)) → None ≡ held_if_sound (book_of ws)
  no_such_link (inl none) = broken_weighs (no_links ws none)
  no_such_link (inr many) = broken_weighs (many_links ws many.0 many.1)

  -- I's word w, which has so many entries
  module _ (number : LinkNumber (links_in ws)) (w inserted : ℕ) (w_is : w ≡ word_of ws 0) (inserted_is : inserted ≡ count_in w) where
    heavy : 7 < weigh w 8 0 → None ≡ held_if_sound (book_of ws)
    heavy h = broken_weighs (eight_inserted ws number (weigh w 8 0) (ap (λ v. weigh v 8 0) w_is) h)

    pub insertion_full : 7 < inserted → None ≡ held_if_sound (book_of ws)
    insertion_full h = heavy (weigh_above w 8 0 7 (omega arith) (omega (arith, inserted_is)))

    pub insertion_wrong : (r : Bool) → r ≡ word_right w 8 inserted → r ≡ false → None ≡ held_if_sound (book_of ws)
    insertion_wrong r e bad = heavy (omega (arith, weigh_false w 8 0 (ap (word_right w 8) (add-zero (count_in w) ∙ sym inserted_is) ∙ sym e ∙ bad)))

    module _ (right : word_right w 8 inserted ≡ true) (seven : inserted ≤ 7) where
      is_weight : inserted ≡ weigh (word_of ws 0) 8 0
      is_weight =
          inserted_is ∙ sym (add-zero (count_in w)) ∙ sym (weigh_true w 8 0 (ap (word_right w 8) (add-zero (count_in w) ∙ sym inserted_is) ∙ right)) ∙ ap (λ v. weigh v 8 0) w_is

      pub links_broken : broken ≤ links_weight ws 1 (links_in ws) → None ≡ held_if_sound (book_of ws)
      links_broken h =
          broken_weighs
          (all_weighed ws number inserted is_weight seven (links_weight ws 1 (links_in ws)) (most (links_in ws)) refl refl
          ∙ lt-leb (inserted + links_weight ws 1 (links_in ws)) (most (links_in ws)) (omega (arith, most_small number)))

      module _ (held H : ℕ) (behind : Behind ws (links_in ws) 1 held) (H_is : H ≡ most (links_in ws)) where
        beside_most : weighs_right ws ≡ leb (inserted + held) H
        beside_most = all_weighed ws number inserted is_weight seven held H (behind_all ws (links_in ws) held behind) H_is

        pub too_many : H < inserted + held → None ≡ held_if_sound (book_of ws)
        too_many h = broken_weighs (beside_most ∙ lt-leb (inserted + held) H h)

        pub all_held_here : inserted + held ≤ H → Some (inserted + held) ≡ held_if_sound (book_of ws)
        all_held_here h =
            let right : weighs_right ws ≡ true = beside_most ∙ le-leb (inserted + held) H h in
            let is_all : all ws ≡ weigh (word_of ws 0) 8 0 + links_weight ws 1 (links_in ws) = subst (λ l. together (book_of ws) 0 (buffer_count l) ≡ weigh (word_of ws 0) 8 0 + links_weight ws 1 (links_in ws)) (sym (links_is ws)) (weights_held ws right) in
            let e : inserted + held ≡ all ws = omega (arith, is_all, is_weight, behind_all ws (links_in ws) held behind) in
            ap (λ n. Some n) e ∙ sym (handed ws true (sym (exact ws) ∙ right))

-- ---- a number that tells it: `broken` where nothing is handed back, which no sound book's number reaches

module _ (ws : List ℕ) where
  all_small : sound (book_of ws) ≡ true → all ws < broken
  all_small right = let r = sound_rules (book_of ws) right in omega (arith, r.at_most_h, most_small r.link_number)

  pub below_exactly : (n : ℕ) → n ≡ unwrap_or (held_if_sound (book_of ws)) broken → ltb n broken ≡ sound (book_of ws)
  below_exactly n e = go (sound (book_of ws)) refl
    where
      go : (t : Bool) → sound (book_of ws) ≡ t → ltb n broken ≡ t
      go true s = le-leb (suc n) broken (omega (arith, all_small s, e ∙ ap (λ o. unwrap_or o broken) (handed ws true s)))
      go false s = lt-leb (suc n) broken (omega (arith, e ∙ ap (λ o. unwrap_or o broken) (handed ws false s)))
