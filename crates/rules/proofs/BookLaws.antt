-- The book rules as statements: the plain book of a queue is sound exactly where they hold.
use Prim.Native.Nat.{ℕ, zero, suc, ◌+◌, ◌-◌, ◌*◌, ◌≤◌, ◌<◌}
use mathlib.Core.Path.{◌≡◌, refl, sym, ap, ◌∙◌}
use mathlib.Core.Bool.{Bool, true, false}
use mathlib.Core.List.{[]}
use native.Mathlib.Omega.{arith}
use borrow.Author.Tests.{le-leb}
use lib.ListN.{length, get_or, replicate, get_or-map}
use lib.Dec.{T, leb, eqb, leb→le, le→leb, eqb→eq}
use Rattle.rules.specs.Links.{s, k, capacity, first, number_of_s, buffer_count, most_links, most, LinkNumber}
use Rattle.rules.specs.Tests.{◌and◌, every}
use Rattle.rules.specs.Tree.{Buffers, Tree, exhausted, buffer, merger, k_merger, links_from, tree_of}
use Rattle.rules.specs.Take.{held_in, insertion}
use Rattle.rules.specs.Queue.{Queue, counter, held_from, held}
use Rattle.rules.specs.Book.{Book, count, start_place, marked, c, together, is_link_number, inside, inside_link, counter_inside, unused_empty, link_not_over, link_sound, marks_right, sound, plain_book}
use Rattle.rules.proofs.Table.{and_one, and_two, every_at}
use Rattle.rules.proofs.Tests.{and_both, every_all}
use Rattle.rules.proofs.Full.{Fits, no_entries}
use Rattle.rules.proofs.Held.{held_split, k_merger_held}
use Rattle.rules.proofs.TakeLaws.{held_all}
use Rattle.rules.proofs.Sizes.{by_leb, k_some}
use Rattle.rules.proofs.Capacity.{Inside, link_inside, inside_k_merger}

-- ---- capacities of all links

module _ (bs : Buffers) where
  -- no buffer of these links has more than its capacity in the tree, so none has more than its capacity by its number
  pub links_inside : (n i : ℕ) → 0 < i → Fits (links_from i n) bs → (m : ℕ) → i ≤ m → m < i + n → Inside m bs
  unfolding links_from
  links_inside zero i some h m low high = absurd (omega arith)
  links_inside (suc n) i some h m low high =
      by_leb m i (λ b. Inside m bs)
      (λ q. let e : m ≡ i = omega arith in rw e (link_inside i some bs h.0 h.1))
      (λ q. links_inside n (suc i) (omega arith) h.2 m q (omega arith))

  -- and the other way round
  pub inside_links : (n i : ℕ) → 0 < i → ((m : ℕ) → i ≤ m → m < i + n → Inside m bs) → Fits (links_from i n) bs
  unfolding links_from
  inside_links zero i some h = tt
  inside_links (suc n) i some h =
      let here = h i (omega arith) (omega arith) in
      let e : first i + 0 ≡ first i = omega arith in
      let a : length (get_or bs (first i) []) ≤ capacity i 0 = rw e at (here 0 (omega (arith, k_some i))) in
      (a, inside_k_merger i some bs here, inside_links n (suc i) (omega arith) (λ m low high. h m (omega arith) (omega arith)))

-- ---- the book rules

-- "link number 1 to 4": the test passes
pub number_is : {links : ℕ} → LinkNumber links → is_link_number links ≡ true
unfolding is_link_number
number_is {links} h = rw (le-leb 1 links h.low, le-leb links most_links h.high)

-- of link i: "c(i) from 1 to k(i)+1; S(i,j) empty for j at or above c(i); B(i), inner buffers and S of link i together at most (c(i)-1) x s(i)"
pub record LinkKept (q : Queue) (i : ℕ) : Type 0 where
  pub counter_low : 1 ≤ counter q i
  pub counter_high : counter q i ≤ k i + 1
  pub unused : (j : ℕ) → counter q i ≤ j → j ≤ k i → get_or q.buffers (number_of_s i j) [] ≡ []
  pub not_over : held_in (k_merger i) q.buffers ≤ (counter q i - 1) * s i

-- of a queue, with at most so many entries in I
pub record Kept (room : ℕ) (q : Queue) : Type 0 where
  pub number : T (is_link_number q.links)
  pub few : length (insertion q.buffers) ≤ room
  pub fits : Fits (tree_of q.links) q.buffers
  pub each : (i : ℕ) → 1 ≤ i → i ≤ q.links → LinkKept q i
  pub at_most : held_all (tree_of q.links) q.buffers ≤ most q.links

-- ---- the plain book

-- a list of the same thing has it everywhere, and behind its end where it is what stands for nothing
pub same_at : {A : Type 0} (m n : ℕ) (a : A) → get_or (replicate m a) n a ≡ a
same_at zero n a = refl
same_at (suc m) zero a = refl
same_at (suc m) (suc n) a = same_at m n a

-- a book that says of a queue how many links it has, its counters, and how many entries each buffer has
pub record Describes (b : Book) (q : Queue) : Type 0 where
  pub links : b.links ≡ q.links
  pub counters : b.counters ≡ q.counters
  pub counts : (n : ℕ) → count b n ≡ length (get_or q.buffers n [])

-- the plain book does
pub plain_describes : (q : Queue) → Describes (plain_book q) q
unfolding count plain_book
plain_describes q = record { links = refl; counters = refl; counts = λ n. get_or-map length q.buffers n [] }

-- the tests of a book, from the second to the last
module _ (b : Book) where
  abbrev sixth_on : Bool
  sixth_on = marks_right b (buffer 0 8) false and marks_right b (tree_of b.links) false

  abbrev fifth_on : Bool
  fifth_on = leb (together b 0 (buffer_count b.links)) (most b.links) and sixth_on

  abbrev fourth_on : Bool
  fourth_on = every (link_sound b) 1 b.links and fifth_on

  abbrev third_on : Bool
  third_on = leb (count b 0) 7 and fourth_on

  abbrev second_on : Bool
  second_on = inside b 0 8 and third_on

module _ (b : Book) (q : Queue) (describes : Describes b q) where
  c_is : (i : ℕ) → c b i ≡ counter q i
  unfolding c counter
  c_is i = ap (λ cs. get_or cs (i - 1) 0) describes.counters

  pub together_is : (m n : ℕ) → together b m n ≡ held_from m n q.buffers
  unfolding together held_from
  together_is m zero = refl
  together_is m (suc n) = omega (arith, describes.counts m, together_is (suc m) n)

  -- ---- each test, and what it says

  inside_says : (n room : ℕ) → T (inside b n room) → length (get_or q.buffers n []) ≤ room
  unfolding inside
  inside_says n room t = omega (arith, leb→le (start_place b n + count b n) room t, describes.counts n)

  says_inside : (n room : ℕ) → start_place b n ≡ 0 → length (get_or q.buffers n []) ≤ room → T (inside b n room)
  unfolding inside
  says_inside n room start h = le→leb (start_place b n + count b n) room (omega (arith, describes.counts n))

  module _ (i : ℕ) (link : 0 < i) where
    counter_says : T (counter_inside b i) → (1 ≤ counter q i) × (counter q i ≤ k i + 1)
    unfolding counter_inside
    counter_says t =
        (omega (arith, leb→le 1 (c b i) (and_one (leb 1 (c b i)) (leb (c b i) (k i + 1)) t), c_is i), omega (arith, leb→le (c b i) (k i + 1) (and_two (leb 1 (c b i)) (leb (c b i) (k i + 1)) t), c_is i))

    says_counter : LinkKept q i → T (counter_inside b i)
    unfolding counter_inside
    says_counter h =
        and_both (leb 1 (c b i)) (leb (c b i) (k i + 1)) (le→leb 1 (c b i) (omega (arith, h.counter_low, c_is i))) (le→leb (c b i) (k i + 1) (omega (arith, h.counter_high, c_is i)))

    unused_says : counter q i ≤ k i + 1 → T (unused_empty b i) → (j : ℕ) → counter q i ≤ j → j ≤ k i → get_or q.buffers (number_of_s i j) [] ≡ []
    unfolding unused_empty
    unused_says high t j low most =
        let z = every_at (λ j. eqb (count b (number_of_s i j)) 0) (c b i) (k i + 1 - c b i) t j (omega (arith, c_is i)) (omega (arith, c_is i)) in
        no_entries (get_or q.buffers (number_of_s i j) []) (omega (arith, eqb→eq (count b (number_of_s i j)) 0 z, describes.counts (number_of_s i j)))

    says_unused : LinkKept q i → T (unused_empty b i)
    unfolding unused_empty
    says_unused h =
        every_all (λ j. eqb (count b (number_of_s i j)) 0) (c b i) (k i + 1 - c b i) (λ j low high.
        let n = describes.counts (number_of_s i j) in
        let e : count b (number_of_s i j) ≡ 0 = n ∙ ap length (h.unused j (omega (arith, c_is i)) (omega (arith, c_is i, h.counter_high))) in
        rw e tt)

    over_is : together b (first i + 1) (2 * k i - 1) ≡ held_in (k_merger i) q.buffers
    over_is = together_is (first i + 1) (2 * k i - 1) ∙ sym (k_merger_held i link q.buffers)

    over_says : T (link_not_over b i) → held_in (k_merger i) q.buffers ≤ (counter q i - 1) * s i
    unfolding link_not_over
    over_says t = rw (over_is, c_is i) at (leb→le (together b (first i + 1) (2 * k i - 1)) ((c b i - 1) * s i) t)

    says_over : LinkKept q i → T (link_not_over b i)
    unfolding link_not_over
    says_over h = le→leb (together b (first i + 1) (2 * k i - 1)) ((c b i - 1) * s i) (rw (over_is, c_is i) h.not_over)

    inside_link_says : T (inside_link b i) → Inside i q.buffers
    unfolding inside_link
    inside_link_says t j less =
        inside_says (first i + j) (capacity i j) (every_at (λ j. inside b (first i + j) (capacity i j)) 0 (2 * k i) t j (omega arith) (omega arith))

    says_inside_link : ((n : ℕ) → start_place b n ≡ 0) → Inside i q.buffers → T (inside_link b i)
    unfolding inside_link
    says_inside_link start h =
        every_all (λ j. inside b (first i + j) (capacity i j)) 0 (2 * k i) (λ j low high. says_inside (first i + j) (capacity i j) (start (first i + j)) (h j (omega arith)))

    link_says : T (link_sound b i) → LinkKept q i × Inside i q.buffers
    unfolding link_sound
    link_says t =
        let t₁ = and_two (inside_link b i) (counter_inside b i and unused_empty b i and link_not_over b i) t in
        let t₂ = and_two (counter_inside b i) (unused_empty b i and link_not_over b i) t₁ in
        let c = counter_says (and_one (counter_inside b i) (unused_empty b i and link_not_over b i) t₁) in (
          record {
            counter_low = c.0;
            counter_high = c.1;
            unused = unused_says c.1 (and_one (unused_empty b i) (link_not_over b i) t₂);
            not_over = over_says (and_two (unused_empty b i) (link_not_over b i) t₂);
          },
          inside_link_says (and_one (inside_link b i) (counter_inside b i and unused_empty b i and link_not_over b i) t),
        )

    says_link : ((n : ℕ) → start_place b n ≡ 0) → LinkKept q i → Inside i q.buffers → T (link_sound b i)
    unfolding link_sound
    says_link start h f =
        and_both (inside_link b i) (counter_inside b i and unused_empty b i and link_not_over b i) (says_inside_link start f)
        (and_both (counter_inside b i) (unused_empty b i and link_not_over b i) (says_counter h) (and_both (unused_empty b i) (link_not_over b i) (says_unused h) (says_over h)))

  -- ---- the whole book

  all_is : together b 0 (buffer_count b.links) ≡ held_all (tree_of q.links) q.buffers
  unfolding held
  all_is = ap (λ l. together b 0 (buffer_count l)) describes.links ∙ together_is 0 (buffer_count q.links) ∙ held_split q

  -- what a sound book says of its queue
  pub sound_says : T (sound b) → Kept 7 q
  unfolding sound tree_of insertion
  sound_says t =
      let l = b.links in
      let same = describes.links in
      let t₃ = and_two (is_link_number l) (second_on b) t in
      let t₄ = and_two (inside b 0 8) (third_on b) t₃ in
      let t₅ = and_two (leb (count b 0) 7) (fourth_on b) t₄ in
      let t₆ = and_two (every (link_sound b) 1 l) (fifth_on b) t₅ in
      let links = and_one (every (link_sound b) 1 l) (fifth_on b) t₅ in
      let at : (i : ℕ) → 1 ≤ i → i ≤ q.links → LinkKept q i × Inside i q.buffers = λ i low high. link_says i low (every_at (link_sound b) 1 l links i low (omega arith)) in
      let number : T (is_link_number l) = and_one (is_link_number l) (second_on b) t in
      let high : together b 0 (buffer_count l) ≤ most q.links = rw (← same) (leb→le (together b 0 (buffer_count l)) (most l) (and_one (leb (together b 0 (buffer_count l)) (most l)) (sixth_on b) t₆)) in
      record {
        number = rw (← same) number;
        few = omega (arith, leb→le (count b 0) 7 (and_one (leb (count b 0) 7) (fourth_on b) t₄), describes.counts 0);
        fits = inside_links q.buffers q.links 1 (omega arith) (λ m low high. (at m low (omega arith)).1);
        each = λ i low high. (at i low high).0;
        at_most = omega (arith, all_is);
      }

module _ (q : Queue) where
  abbrev plain : Book
  plain = plain_book q

  start_is : (n : ℕ) → start_place plain n ≡ 0
  unfolding start_place plain_book
  start_is n = same_at (length q.buffers) n 0

  mark_is : (n : ℕ) → marked plain n ≡ false
  unfolding marked plain_book
  mark_is n = same_at (length q.buffers) n false

  -- no mark breaks a rule where there is none
  marks_right_lem : (t : Tree) → T (marks_right plain t false)
  unfolding marks_right
  marks_right_lem exhausted = tt
  marks_right_lem (buffer n c) = rw (mark_is n) tt
  marks_right_lem (merger n c one two) = rw (mark_is n) (and_both (marks_right plain one false) (marks_right plain two false) (marks_right_lem one) (marks_right_lem two))

  -- where the rules hold, the plain book is sound
  pub says_sound : Kept 7 q → T (sound plain)
  unfolding sound plain_book tree_of insertion
  says_sound h =
      let l = q.links in
      let b = plain in
      let d = plain_describes q in
      and_both (is_link_number l) (second_on b) h.number
      (and_both (inside b 0 8) (third_on b) (says_inside b q d 0 8 (start_is 0) (omega (arith, h.few)))
      (and_both (leb (count b 0) 7) (fourth_on b) (le→leb (count b 0) 7 (omega (arith, h.few, d.counts 0)))
      (and_both (every (link_sound b) 1 l) (fifth_on b) (every_all (link_sound b) 1 l (λ i low high. says_link b q d i low start_is (h.each i low (omega arith)) (links_inside q.buffers l 1 (omega arith) h.fits i low high)))
      (and_both (leb (together b 0 (buffer_count l)) (most l)) (sixth_on b) (le→leb (together b 0 (buffer_count l)) (most l) (omega (arith, h.at_most, all_is b q d)))
      (and_both (marks_right b (buffer 0 8) false) (marks_right b (tree_of l) false) (marks_right_lem (buffer 0 8)) (marks_right_lem (tree_of l)))))))
