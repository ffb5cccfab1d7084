-- The rules' test of a book holds exactly where the book rules hold.
use mathlib.Core.Path.{◌≡◌, refl, sym, ap, ◌∙◌}
use mathlib.Core.Bool.{Bool, true, false}
use mathlib.Core.Logic.{◌⊎◌, inl, inr, ⊎_elim}
use Prim.Native.Nat.{ℕ, zero, suc, ◌+◌, ◌-◌, ◌*◌, ◌≤◌, ◌<◌}
use native.Mathlib.Omega.{arith}
use native.Mathlib.Decide.{ℕ_discrete}
use lib.Dec.{leb, eqb}
use borrow.Author.Tests.{eqb-true, eq-eqb, leb-true, le-leb}
use Rattle.rules.specs.Tests.{◌and◌, ◌or◌, ◌implies◌, every}
use Rattle.rules.specs.Links.{s, k, first, capacity, number_of_s, buffer_count, most, most_links, LinkNumber}
use Rattle.rules.specs.Tree.{Tree, exhausted, buffer, merger, tree_of}
use Rattle.rules.specs.Book.{Book, count, start_place, marked, c, together, is_link_number, inside, inside_link, counter_inside, unused_empty, link_not_over, link_sound, marks_right, sound}
use Rattle.buffers.proofs.SoundLaws.{no_truth}
use Rattle.buffers.specs.Rules.{Part, whole, in_one, in_two, held_under, top_marked, LinkRules, Rules}

-- ---- tests one after the other

pub and_one : (t u : Bool) → t and u ≡ true → t ≡ true
and_one true u h = refl
and_one false u h = h

pub and_two : (t u : Bool) → t and u ≡ true → u ≡ true
and_two true u h = h
and_two false u h = no_truth h

pub both : (t u : Bool) → t ≡ true → u ≡ true → t and u ≡ true
both true u p q = q
both false u p q = p

module _ (test : ℕ → Bool) where
  pub every_true : (i n : ℕ) → every test i n ≡ true → (j : ℕ) → i ≤ j → j < i + n → test j ≡ true
  unfolding every
  every_true i zero h j low high = absurd (omega arith)
  every_true i (suc n) h j low high = go (ℕ_discrete j i) (every_true (suc i) n (and_two (test i) (every test (suc i) n) h) j)
    where
      go : Dec (j ≡ i) → (suc i ≤ j → j < suc i + n → test j ≡ true) → test j ≡ true
      go (yes e) further = rw e (and_one (test i) (every test (suc i) n) h)
      go (no e) further = further (omega arith) (omega arith)

  pub true_every : (i n : ℕ) → ((j : ℕ) → i ≤ j → j < i + n → test j ≡ true) → every test i n ≡ true
  unfolding every
  true_every i zero h = refl
  true_every i (suc n) h = both (test i) (every test (suc i) n) (h i (omega arith) (omega arith)) (true_every (suc i) n (λ j low high. h j (omega arith) (omega arith)))

-- ---- marks

module _ (b : Book) where
  -- under a mark nothing is held
  marks_under : (t : Tree) → marks_right b t true ≡ true → held_under b t ≡ 0
  unfolding marks_right held_under
  marks_under exhausted h = refl
  marks_under (buffer n size) h = eqb-true (count b n) 0 h
  marks_under (merger n size one two) h =
      let none = eqb-true (count b n) 0 (and_one (eqb (count b n) 0) (marks_right b one true and marks_right b two true) h) in
      let rest = and_two (eqb (count b n) 0) (marks_right b one true and marks_right b two true) h in
      omega (arith, marks_under one (and_one (marks_right b one true) (marks_right b two true) rest), marks_under two (and_two (marks_right b one true) (marks_right b two true) rest))

  marks_top : (t : Tree) (above : Bool) → marks_right b t above ≡ true → top_marked b t ≡ true → marks_right b t true ≡ true
  unfolding marks_right top_marked
  marks_top exhausted above h m = refl
  marks_top (buffer n size) true h m = h
  marks_top (buffer n size) false h m = ap (λ t. t implies eqb (count b n) 0) (sym m) ∙ h
  marks_top (merger n size one two) true h m = h
  marks_top (merger n size one two) false h m = ap (λ t. (t implies eqb (count b n) 0) and marks_right b one t and marks_right b two t) (sym m) ∙ h

  pub marks_part : {t' : Tree} (t : Tree) (above : Bool) → marks_right b t above ≡ true → Part t' t → top_marked b t' ≡ true → held_under b t' ≡ 0
  unfolding marks_right
  marks_part t above h whole m = marks_under t (marks_top t above h m)
  marks_part (merger n size one two) above h (in_one p) m =
      let here = above or marked b n in
      marks_part one here (and_one (marks_right b one here) (marks_right b two here) (and_two (here implies eqb (count b n) 0) (marks_right b one here and marks_right b two here) h)) p m
  marks_part (merger n size one two) above h (in_two p) m =
      let here = above or marked b n in
      marks_part two here (and_two (marks_right b one here) (marks_right b two here) (and_two (here implies eqb (count b n) 0) (marks_right b one here and marks_right b two here) h)) p m

  or_true : (t u : Bool) → t or u ≡ true → (t ≡ true) ⊎ (u ≡ true)
  or_true true u h = inl refl
  or_true false u h = inr h

  implied : (t : Bool) (n : ℕ) → (t ≡ true → n ≡ 0) → (t implies eqb n 0) ≡ true
  implied true n h = eq-eqb n 0 (h refl)
  implied false n h = refl

  pub part_marks : (t : Tree) (above : Bool) → ((t' : Tree) → Part t' t → top_marked b t' ≡ true → held_under b t' ≡ 0) → (above ≡ true → held_under b t ≡ 0)
      → marks_right b t above ≡ true
  unfolding marks_right held_under top_marked
  part_marks exhausted above h none = refl
  part_marks (buffer n size) above h none = implied (above or marked b n) (count b n) (λ e. ⊎_elim none (h (buffer n size) whole) (or_true above (marked b n) e))
  part_marks (merger n size one two) above h none =
      let here = above or marked b n in
      let under : here ≡ true → count b n + (held_under b one + held_under b two) ≡ 0 = λ e. ⊎_elim none (h (merger n size one two) whole) (or_true above (marked b n) e) in
      both (here implies eqb (count b n) 0) (marks_right b one here and marks_right b two here) (implied here (count b n) (λ e. let z = under e in omega arith))
      (both (marks_right b one here) (marks_right b two here)
      (part_marks one here (λ t' p m. h t' (in_one p) m) (λ e. let z = under e in omega arith))
      (part_marks two here (λ t' p m. h t' (in_two p) m) (λ e. let z = under e in omega arith)))

-- ---- a link

module _ (b : Book) (i : ℕ) where
  pub link_rules : link_sound b i ≡ true → LinkRules b i
  unfolding link_sound inside_link counter_inside unused_empty link_not_over inside
  link_rules h =
      let rest = and_two (inside_link b i) (counter_inside b i and unused_empty b i and link_not_over b i) h in
      let counter = and_one (counter_inside b i) (unused_empty b i and link_not_over b i) rest in
      let last = and_two (counter_inside b i) (unused_empty b i and link_not_over b i) rest in
      let each = every_true (λ j. inside b (first i + j) (capacity i j)) 0 (2 * k i) (and_one (inside_link b i) (counter_inside b i and unused_empty b i and link_not_over b i) h) in
      let empty = every_true (λ j. eqb (count b (number_of_s i j)) 0) (c b i) (k i + 1 - c b i) (and_one (unused_empty b i) (link_not_over b i) last) in
      record {
        inside = λ j lt. leb-true (start_place b (first i + j) + count b (first i + j)) (capacity i j) (each j (omega arith) (omega arith));
        from_one = leb-true 1 (c b i) (and_one (leb 1 (c b i)) (leb (c b i) (k i + 1)) counter);
        to_all = leb-true (c b i) (k i + 1) (and_two (leb 1 (c b i)) (leb (c b i) (k i + 1)) counter);
        unused_empty = λ j low high. eqb-true (count b (number_of_s i j)) 0 (empty j low (omega arith));
        not_over = leb-true (together b (first i + 1) (2 * k i - 1)) ((c b i - 1) * s i) (and_two (unused_empty b i) (link_not_over b i) last);
      }

  pub rules_link : LinkRules b i → link_sound b i ≡ true
  unfolding link_sound inside_link counter_inside unused_empty link_not_over inside
  rules_link r =
      both (inside_link b i) (counter_inside b i and unused_empty b i and link_not_over b i)
      (true_every (λ j. inside b (first i + j) (capacity i j)) 0 (2 * k i)
      (λ j low high. le-leb (start_place b (first i + j) + count b (first i + j)) (capacity i j) (r.inside j (omega arith))))
      (both (counter_inside b i) (unused_empty b i and link_not_over b i)
      (both (leb 1 (c b i)) (leb (c b i) (k i + 1)) (le-leb 1 (c b i) r.from_one) (le-leb (c b i) (k i + 1) r.to_all))
      (both (unused_empty b i) (link_not_over b i)
      (true_every (λ j. eqb (count b (number_of_s i j)) 0) (c b i) (k i + 1 - c b i)
      (λ j low high. eq-eqb (count b (number_of_s i j)) 0 (r.unused_empty j low (omega arith))))
      (le-leb (together b (first i + 1) (2 * k i - 1)) ((c b i - 1) * s i) r.not_over)))

-- ---- the whole book

pub link_number_lem : (l : ℕ) → is_link_number l ≡ true → LinkNumber l
unfolding is_link_number
link_number_lem l h = record { low = leb-true 1 l (and_one (leb 1 l) (leb l most_links) h); high = leb-true l most_links (and_two (leb 1 l) (leb l most_links) h) }

pub is_link_number_lem : (l : ℕ) → LinkNumber l → is_link_number l ≡ true
unfolding is_link_number
is_link_number_lem l h = both (leb 1 l) (leb l most_links) (le-leb 1 l h.low) (le-leb l most_links h.high)

module _ (b : Book) where
  abbrev marks_test : Bool
  marks_test = marks_right b (buffer 0 8) false and marks_right b (tree_of b.links) false

  abbrev held_test : Bool
  held_test = leb (together b 0 (buffer_count b.links)) (most b.links)

  abbrev links_test : Bool
  links_test = every (link_sound b) 1 b.links

  abbrev seven_test : Bool
  seven_test = leb (count b 0) 7

  mark_I : marks_right b (buffer 0 8) false ≡ true → marked b 0 ≡ true → count b 0 ≡ 0
  unfolding held_under top_marked
  mark_I h m = marks_part b (buffer 0 8) false h whole m

  I_mark : (marked b 0 ≡ true → count b 0 ≡ 0) → marks_right b (buffer 0 8) false ≡ true
  unfolding marks_right
  I_mark h = implied b (marked b 0) (count b 0) h

  pub sound_rules : sound b ≡ true → Rules b
  unfolding sound inside
  sound_rules h =
      let one = and_two (is_link_number b.links) (inside b 0 8 and seven_test and links_test and held_test and marks_test) h in
      let two = and_two (inside b 0 8) (seven_test and links_test and held_test and marks_test) one in
      let three = and_two seven_test (links_test and held_test and marks_test) two in
      let four = and_two links_test (held_test and marks_test) three in
      let five = and_two held_test marks_test four in
      let each = every_true (link_sound b) 1 b.links (and_one links_test (held_test and marks_test) three) in
      record {
        link_number = link_number_lem b.links (and_one (is_link_number b.links) (inside b 0 8 and seven_test and links_test and held_test and marks_test) h);
        inside = leb-true (start_place b 0 + count b 0) 8 (and_one (inside b 0 8) (seven_test and links_test and held_test and marks_test) one);
        at_most_seven = leb-true (count b 0) 7 (and_one seven_test (links_test and held_test and marks_test) two);
        each_link = λ i low high. link_rules b i (each i low (omega arith));
        at_most_h = leb-true (together b 0 (buffer_count b.links)) (most b.links) (and_one held_test marks_test four);
        mark_i = mark_I (and_one (marks_right b (buffer 0 8) false) (marks_right b (tree_of b.links) false) five);
        marks = λ t p m. marks_part b (tree_of b.links) false (and_two (marks_right b (buffer 0 8) false) (marks_right b (tree_of b.links) false) five) p m;
      }

  pub rules_sound : Rules b → sound b ≡ true
  unfolding sound inside
  rules_sound r =
      both (is_link_number b.links) (inside b 0 8 and seven_test and links_test and held_test and marks_test) (is_link_number_lem b.links r.link_number)
      (both (inside b 0 8) (seven_test and links_test and held_test and marks_test) (le-leb (start_place b 0 + count b 0) 8 r.inside)
      (both seven_test (links_test and held_test and marks_test) (le-leb (count b 0) 7 r.at_most_seven)
      (both links_test (held_test and marks_test) (true_every (link_sound b) 1 b.links (λ i low high. rules_link b i (r.each_link i low (omega arith))))
      (both held_test marks_test (le-leb (together b 0 (buffer_count b.links)) (most b.links) r.at_most_h)
      (both (marks_right b (buffer 0 8) false) (marks_right b (tree_of b.links) false) (I_mark r.mark_i)
      (part_marks b (tree_of b.links) false r.marks no_truth))))))
