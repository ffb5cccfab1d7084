-- The array's book and the rules' queue: what a sound book gives a call, and why the book is sound after it.
use Prim.Native.Nat.{ℕ, zero, suc, ◌+◌, ◌-◌, ◌*◌, ◌≤◌, ◌<◌}
use mathlib.Core.Path.{◌≡◌, refl, sym, ap, ◌∙◌}
use mathlib.Core.Bool.{true}
use mathlib.Core.List.{List, [], map}
use Rattle.std.specs.Prelude.{Some}
use native.Mathlib.Omega.{arith}
use native.Mathlib.Decide.{dec_lt}
use borrow.Author.Tests.{eq-eqb, eqb-true}
use lib.ListN.{length, get_or, get_or-eq_default}
use Rattle.rules.specs.Links.{from, k, first, number_of_s, buffer_count, LinkNumber}
use Rattle.rules.specs.Tree.{Tree, exhausted, buffer, merger, tree_of}
use Rattle.rules.specs.Take.{held_in}
use Rattle.rules.specs.Queue.{Queue, held}
use Rattle.rules.specs.Book.{Book, count, c, together, sound, plain_book}
use Rattle.rules.specs.Calls.{queue_of}
use Rattle.rules.proofs.Tests.{truth}
use Rattle.rules.proofs.Table.{in_link}
use Rattle.rules.proofs.Numbers.{Stands, itself, output, in_first, in_second}
use Rattle.rules.proofs.Numbering.{tree_range}
use Rattle.rules.proofs.Sizes.{first_mono, first_next}
use Rattle.rules.proofs.BookLaws as rules
use Rattle.rules.proofs.BookKept.{Shaped}
use Rattle.buffers.specs.Format.{links_in, count_of, mark_of, counter_in, many, book_of, lent_of, buffers_of}
use Rattle.buffers.specs.Slots.{capacity_of}
use Rattle.buffers.specs.Post.{Inside}
use Rattle.buffers.specs.Rules.{Part, whole, in_one, in_two, held_under, top_marked, LinkRules, Rules}
use Rattle.buffers.proofs.SlotLaws.{some, capacity_is}
use Rattle.buffers.proofs.ArrayLaws.{has, length_each, buffer_length, buffers_at, buffers_length}
use Rattle.buffers.proofs.RuleLaws.{sound_rules, rules_sound}
use Rattle.buffers.specs.Weights.{held_if_sound}
use Rattle.buffers.proofs.Exact.{count_is, start_is, mark_is, held_all_lem}
use Rattle.mergers.specs.Fills.{MarksRight}

count_past : (ws : List ℕ) (n : ℕ) → many ws ≤ n → count (book_of ws) n ≡ 0
unfolding count book_of
count_past ws n h = let out : length (map (count_of ws) (from 0 (many ws))) ≤ n = omega (arith, length_each (count_of ws) 0 (many ws)) in get_or-eq_default (map (count_of ws) (from 0 (many ws))) 0 out

together_same : (b p : Book) → ((n : ℕ) → count b n ≡ count p n) → (m n : ℕ) → together b m n ≡ together p m n
unfolding together
together_same b p same m zero = refl
together_same b p same m (suc n) = omega (arith, same m, together_same b p same (suc m) n)

insertion_capacity : capacity_of 0 ≡ 8
unfolding capacity_of
insertion_capacity = refl

module _ (ws : List ℕ) (array : Inside ws) where
  abbrev b : Book
  b = book_of ws

  abbrev q : Queue
  q = queue_of (lent_of ws)

  -- the book's counts are the lengths of the buffers
  count_length : (n : ℕ) → count b n ≡ length (get_or (buffers_of ws) n [])
  count_length n = go (dec_lt n (many ws))
    where
      go : Dec (n < many ws) → count b n ≡ length (get_or (buffers_of ws) n [])
      go (yes lt) = count_is ws n lt ∙ sym (ap length (buffers_at ws n lt) ∙ buffer_length ws n (has ws n array lt))
      go (no more) =
          let out : length (buffers_of ws) ≤ n = omega (arith, buffers_length ws) in
          count_past ws n (omega arith) ∙ sym (ap length (get_or-eq_default (buffers_of ws) [] out))

  pub describes : rules.Describes b q
  unfolding queue_of lent_of
  describes = record { links = refl; counters = refl; counts = count_length }

  pub shaped : Shaped q
  unfolding queue_of lent_of book_of
  shaped = record { counters = length_each (counter_in ws) 1 (links_in ws); buffers = buffers_length ws }

  -- what the book test hands back for a sound book is all that is held
  pub weighed_held : (n : ℕ) → Some n ≡ held_if_sound b → n ≡ held q
  unfolding held queue_of lent_of book_of
  weighed_held n n_is = held_all_lem ws n n_is ∙ rules.together_is b q describes 0 (many ws)

  -- ---- marks

  under_held : (t : Tree) → held_under b t ≡ held_in t (buffers_of ws)
  unfolding held_under held_in
  under_held exhausted = refl
  under_held (buffer n cap) = count_length n
  under_held (merger n cap one two) = omega (arith, count_length n, under_held one, under_held two)

  marks_of : (t : Tree) → ((m : ℕ) → Stands m t → m < many ws) → ((u : Tree) → Part u t → top_marked b u ≡ true → held_under b u ≡ 0) → MarksRight ws t
  unfolding top_marked
  marks_of exhausted below r = tt
  marks_of (buffer n cap) below r = λ e. sym (under_held (buffer n cap)) ∙ r (buffer n cap) whole (mark_is ws n (below n itself) ∙ eq-eqb (mark_of ws n) 1 e)
  marks_of (merger n cap one two) below r = (
    λ e. sym (under_held (merger n cap one two)) ∙ r (merger n cap one two) whole (mark_is ws n (below n output) ∙ eq-eqb (mark_of ws n) 1 e),
    marks_of one (λ m s. below m (in_first s)) (λ u p. r u (in_one p)),
    marks_of two (λ m s. below m (in_second s)) (λ u p. r u (in_two p)),
  )

  tree_below : (m : ℕ) → Stands m (tree_of (links_in ws)) → m < many ws
  tree_below m s = (tree_range (links_in ws) s).1

  -- a sound book's marks are right
  pub marks_right_lem : sound b ≡ true → MarksRight ws (tree_of (links_in ws))
  unfolding book_of
  marks_right_lem s = marks_of (tree_of (links_in ws)) tree_below (sound_rules b s).marks

  top_says : (t : Tree) → ((m : ℕ) → Stands m t → m < many ws) → MarksRight ws t → top_marked b t ≡ true → held_under b t ≡ 0
  unfolding top_marked held_under
  top_says exhausted below r e = refl
  top_says (buffer n cap) below r e = under_held (buffer n cap) ∙ r (eqb-true (mark_of ws n) 1 (sym (mark_is ws n (below n itself)) ∙ e))
  top_says (merger n cap one two) below r e = under_held (merger n cap one two) ∙ r.0 (eqb-true (mark_of ws n) 1 (sym (mark_is ws n (below n output)) ∙ e))

  marks_back : {u : Tree} (t : Tree) → ((m : ℕ) → Stands m t → m < many ws) → MarksRight ws t → Part u t → top_marked b u ≡ true → held_under b u ≡ 0
  marks_back t below r whole = top_says t below r
  marks_back (merger n cap one two) below r (in_one p) = marks_back one (λ m s. below m (in_first s)) r.1 p
  marks_back (merger n cap one two) below r (in_two p) = marks_back two (λ m s. below m (in_second s)) r.2 p

  -- ---- sound afterwards

  module _ (kept : rules.Kept 7 q) (marks : MarksRight ws (tree_of (links_in ws))) (mark_I : mark_of ws 0 ≡ 1 → count_of ws 0 ≡ 0) where
    abbrev p : Book
    p = plain_book q

    plain_rules : Rules p
    plain_rules = sound_rules p (truth (sound p) (rules.says_sound q kept))

    same_counts : (n : ℕ) → count b n ≡ count p n
    unfolding queue_of lent_of
    same_counts n = count_length n ∙ sym ((rules.plain_describes q).counts n)

    same_c : (i : ℕ) → c b i ≡ c p i
    unfolding c plain_book queue_of lent_of
    same_c i = refl

    zero_below : 0 < many ws
    zero_below = omega (arith, some array.link)

    in_links : (i j : ℕ) → 1 ≤ i → i ≤ links_in ws → j < 2 * k i → first i + j < many ws
    unfolding buffer_count
    in_links i j low high lt = omega (arith, first_next i low, first_mono (suc i) (suc (links_in ws)) (omega arith) (omega arith))

    link_rules : (i : ℕ) → 1 ≤ i → i ≤ links_in ws → LinkRules b i
    unfolding plain_book queue_of lent_of book_of
    link_rules i low high =
        let r = plain_rules.each_link i low high in
        let number : LinkNumber i = record { low = low; high = omega (arith, array.link.high) } in
        record {
          inside = λ j lt.
              let below : first i + j < many ws = in_links i j low high lt in
              let cap = capacity_is (in_link number lt) in
              omega (arith, array.fits (first i + j) below, start_is ws (first i + j) below, count_is ws (first i + j) below);
          from_one = rw (same_c i) r.from_one;
          to_all = rw (same_c i) r.to_all;
          unused_empty = λ j from to. same_counts (number_of_s i j) ∙ r.unused_empty j (rw (← same_c i) from) to;
          not_over = rw (same_c i, together_same b p same_counts (first i + 1) (2 * k i - 1)) r.not_over;
        }

    pub sound_after : sound b ≡ true
    unfolding plain_book queue_of lent_of book_of
    sound_after =
        rules_sound b
        record {
          link_number = array.link;
          inside = omega (arith, array.fits 0 zero_below, insertion_capacity, start_is ws 0 zero_below, count_is ws 0 zero_below);
          at_most_seven = omega (arith, same_counts 0, plain_rules.at_most_seven);
          each_link = link_rules;
          at_most_h = rw (together_same b p same_counts 0 (buffer_count (links_in ws))) plain_rules.at_most_h;
          mark_i = λ m. count_is ws 0 zero_below ∙ mark_I (eqb-true (mark_of ws 0) 1 (sym (mark_is ws 0 zero_below) ∙ m));
          marks = λ u part m. marks_back (tree_of (links_in ws)) tree_below marks part m;
        }
