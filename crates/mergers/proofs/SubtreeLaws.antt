-- What feeds link i's buffer j, and what stands at the top of the tree below it.
use Prim.Native.Nat.{ℕ, zero, suc, ◌+◌, ◌-◌, ◌*◌, ◌^◌, ◌/◌, ◌≤◌, ◌<◌}
use mathlib.Core.Path.{◌≡◌, refl, sym, ◌∙◌}
use mathlib.Core.Bool.{Bool}
use mathlib.Core.List.{[], ◌∷◌}
use native.Mathlib.Omega.{arith}
use native.Mathlib.Nat.{add-zero}
use native.Mathlib.Decide.{ℕ_discrete}
use lib.Dec.{T, leb, eqb, leb→le, eqb→eq}
use lib.ListN.{length, get_or, drop, drop_of_length-le, get_or-append}
use lib.Seq.{drop-cons}
use Rattle.rules.specs.Tests.{◌and◌, every}
use Rattle.rules.specs.Links.{s, k, levels, first, depth_of, capacity, start, offset, buffer_count, most_links, all_buffers, book_words, LinkNumber, InLink}
use Rattle.rules.specs.Tree.{Tree, exhausted, buffer, merger, perfect, k_merger, links_from}
use Rattle.rules.proofs.Numbers.{Among, among_first, among_second}
use Rattle.rules.proofs.Full.{Roomy, over}
use Rattle.rules.proofs.Sizes.{first_mono}
use Rattle.rules.proofs.Numbering.{links_among, links_roomy}
use Rattle.rules.proofs.Table.{and_one, and_two, every_at, each_link_lem, k_least, first_most, in_book, in_link}
use Rattle.buffers.specs.Slots.{base}
use Rattle.buffers.proofs.SlotLaws.{base_is, base_small}
use Rattle.mergers.specs.Post.{Spot, Fed}
use Rattle.mergers.specs.Subtree.{subtree, first_input, second_input, second_link}

-- ---- depths, by one computed test over all links

unfoldable inner_depths : ℕ → ℕ → Bool
inner_depths i j = leb (suc (depth_of j)) (length (levels i)) and eqb (depth_of (2 * j)) (suc (depth_of j)) and eqb (depth_of (2 * j + 1)) (suc (depth_of j))

inner_depths_lem : {i : ℕ} → LinkNumber i → (j : ℕ) → 1 ≤ j → j < k i → T (inner_depths i j)
unfolding every inner_depths depth_of levels k
inner_depths_lem {i} h j low high = every_at (inner_depths i) 1 (k i - 1) (each_link_lem (λ i. every (inner_depths i) 1 (k i - 1)) tt h) j low (omega arith)

record Deeper (i j : ℕ) : Type 0 where
  inside : depth_of j < length (levels i)
  one : depth_of (2 * j) ≡ suc (depth_of j)
  two : depth_of (2 * j + 1) ≡ suc (depth_of j)

deeper : {i : ℕ} → LinkNumber i → (j : ℕ) → 1 ≤ j → j < k i → Deeper i j
unfolding inner_depths
deeper {i} h j low high =
    let a = leb (suc (depth_of j)) (length (levels i)) in
    let b = eqb (depth_of (2 * j)) (suc (depth_of j)) in
    let c = eqb (depth_of (2 * j + 1)) (suc (depth_of j)) in
    let t = inner_depths_lem h j low high in
    record {
      inside = leb→le (suc (depth_of j)) (length (levels i)) (and_one a (b and c) t);
      one = eqb→eq (depth_of (2 * j)) (suc (depth_of j)) (and_one b c (and_two a (b and c) t));
      two = eqb→eq (depth_of (2 * j + 1)) (suc (depth_of j)) (and_two b c (and_two a (b and c) t));
    }

deepest : {i : ℕ} → LinkNumber i → (j : ℕ) → k i ≤ j → j < 2 * k i → depth_of j ≡ length (levels i)
unfolding every depth_of levels k
deepest {i} h j low high =
    eqb→eq (depth_of j) (length (levels i)) (every_at (λ j. eqb (depth_of j) (length (levels i))) (k i) (k i) (each_link_lem (λ i. every (λ j. eqb (depth_of j) (length (levels i))) (k i) (k i)) tt h) j low (omega arith))

-- ---- the tree below a buffer

below_is : (last i j : ℕ) → 1 ≤ j → subtree last i j ≡ perfect (first i) (s i) (drop (depth_of j) (levels i)) j
unfolding subtree
below_is last i zero h = absurd (omega arith)
below_is last i (suc j) h = refl

pub past_last : (last i : ℕ) → last < i → subtree last i 0 ≡ exhausted
unfolding subtree links_from
past_last last i h = let e : suc last - i ≡ 0 = omega arith in rw e

-- S(i,j): no merger feeds it
pub fed_by_none : (last : ℕ) {i j : ℕ} → InLink i j → k i ≤ j → subtree last i j ≡ buffer (first i + j) (s i)
unfolding perfect
fed_by_none last {i} {j} h low =
    let some : 1 ≤ j = omega (arith, low, k_least h.link) in
    let far : length (levels i) ≤ depth_of j = omega (arith, deepest h.link j low h.below) in
    let none : drop (depth_of j) (levels i) ≡ [] = drop_of_length-le (levels i) far in
    below_is last i j some ∙ rw none

capacity_at : (i j : ℕ) → 1 ≤ j → depth_of j < length (levels i) → capacity i j ≡ get_or (levels i) (depth_of j) 0
unfolding capacity
capacity_at i zero low inside = absurd (omega arith)
capacity_at i (suc j) low inside = get_or-append (levels i) (s i ∷ []) 0 (depth_of (suc j)) inside

-- every other buffer has a merger with two inputs
module _ (last : ℕ) {i : ℕ} (h : LinkNumber i) where
  fed_a : i ≤ last → subtree last i 0 ≡ merger (first i) (capacity i 0) (subtree last i 1) (subtree last (suc i) 0)
  unfolding subtree links_from k_merger depth_of
  fed_a low =
      let e : suc last - i ≡ suc (last - i) = omega arith in
      let f : suc last - suc i ≡ last - i = omega arith in
      rw (e, f)

  fed_inner : (j : ℕ) → 1 ≤ j → j < k i → subtree last i j ≡ merger (first i + j) (capacity i j) (subtree last i (2 * j)) (subtree last i (2 * j + 1))
  unfolding perfect
  fed_inner j low high =
      let d = deeper h j low high in
      let e : 2 * j + 1 ≡ suc (2 * j) = omega arith in
      below_is last i j low
      ∙ rw (drop-cons (levels i) (depth_of j) 0 d.inside, capacity_at i j low d.inside, e, below_is last i (2 * j) (omega arith), below_is last i (suc (2 * j)) (omega arith), d.one, rw e at d.two)

  -- "Merger v(i) has first input B(i), second input A(i+1), output A(i)."; the others have the inputs 2j and 2j + 1
  pub fed_by_two : i ≤ last → (j : ℕ) → j < k i
      → subtree last i j ≡ merger (first i + j) (capacity i j) (subtree last i (first_input j)) (subtree last (second_link i j) (second_input j))
  fed_by_two low zero high = fed_a low ∙ rw (add-zero (first i))
  fed_by_two low (suc j) high = fed_inner (suc j) (omega arith) high

-- ---- where a buffer is

pub first_below : (i : ℕ) → 1 ≤ i → i ≤ suc most_links → first i ≤ book_words
unfolding all_buffers buffer_count
first_below i low high = omega (arith, first_mono i (suc most_links) low high, in_book)

pub base_here : {i j : ℕ} → InLink i j → {i' r : ℕ} → i' ≡ i → r ≡ start i' + offset i' j → book_words + r ≡ base (first i + j)
base_here {i} {j} h {i'} {r} e f = let g : r ≡ start i + offset i j = rw e at f in rw g (sym (base_is h))

pub slot_small : {i j : ℕ} → InLink i j → {i' r : ℕ} → i' ≡ i → r ≡ start i' + offset i' j → book_words + r ≤ 2 ^ 32
slot_small {i} {j} h e f = omega (arith, base_here h e f, base_small (first i + j) (omega (arith, h.below, first_most h.link)))

pub spot : {i j : ℕ} → InLink i j → Spot i j
spot h = record { low = h.link.low; high = omega (arith, h.link.high); few = h.few; inside = λ most. h }

-- the inputs' places
pub first_spot : {i j : ℕ} → Fed i j → Spot i (first_input j)
first_spot {i} {j} h = go j h.above h.inside.few
  where
    go : (j : ℕ) → j < k i → j < book_words → Spot i (first_input j)
    go zero above few = spot (in_link h.inside.link (omega (arith, k_least h.inside.link)))
    go (suc j) above few = spot (in_link h.inside.link (omega arith))

pub second_spot : {i j : ℕ} → Fed i j → Spot (second_link i j) (second_input j)
second_spot {i} {j} h = go j h.above
  where
    next : Spot (suc i) 0
    next = record {
      low = omega arith;
      high = omega (arith, h.inside.link.high);
      few = omega arith;
      inside = λ most.
          let l : LinkNumber (suc i) = record { low = omega arith; high = most } in
          in_link l (omega (arith, k_least l));
    }

    go : (j : ℕ) → j < k i → Spot (second_link i j) (second_input j)
    go zero above = next
    go (suc j) above = spot (in_link h.inside.link (omega arith))

roomy_inputs : {n c : ℕ} {one two : Tree} → Roomy (merger n c one two) → Roomy one × Roomy two
roomy_inputs (over some p q) = (p, q)

-- ---- what holds of a tree and is handed down to its inputs holds of every part of it

module _ (P : Tree → Type 0) (down : (n c : ℕ) (one two : Tree) → P (merger n c one two) → P one × P two) (last : ℕ) {i : ℕ} (h : LinkNumber i) (low : i ≤ last) (top : P (subtree last i 0)) where
  inputs_of : (parent : ℕ) → parent < k i → P (subtree last i parent) → P (subtree last i (first_input parent)) × P (subtree last (second_link i parent) (second_input parent))
  inputs_of parent above p = down (first i + parent) (capacity i parent) (subtree last i (first_input parent)) (subtree last (second_link i parent) (second_input parent)) (rw (fed_by_two last h low parent above) at p)

  -- j is the first or the second input of the merger with output j / 2
  from_parent : (j parent : ℕ) → 0 < j → parent ≡ j / 2 → j < 2 * k i → P (subtree last i parent) → P (subtree last i j)
  from_parent j zero some e below p = let one : j ≡ 1 = omega arith in rw one (inputs_of 0 (omega (arith, k_least h)) p).0
  from_parent j (suc parent) some e below p = go (ℕ_discrete j (2 * suc parent)) (inputs_of (suc parent) (omega arith) p)
    where
      go : Dec (j ≡ 2 * suc parent) → P (subtree last i (2 * suc parent)) × P (subtree last i (2 * suc parent + 1)) → P (subtree last i j)
      go (yes q) both = rw q both.0
      go (no q) both = let r : j ≡ 2 * suc parent + 1 = omega arith in rw r both.1

  one_down : (depth : ℕ) → ((j : ℕ) → j ≤ depth → j < 2 * k i → P (subtree last i j)) → (j : ℕ) → j ≤ suc depth → j < 2 * k i → P (subtree last i j)
  one_down depth above zero within below = top
  one_down depth above (suc j) within below = from_parent (suc j) (suc j / 2) (omega arith) refl below (above (suc j / 2) (omega arith) (omega arith))

  hand_down : (depth j : ℕ) → j ≤ depth → j < 2 * k i → P (subtree last i j)
  hand_down zero j within below = let e : j ≡ 0 = omega arith in rw e top
  hand_down (suc depth) j within below = one_down depth (hand_down depth) j within below

  pub everywhere : {j : ℕ} → InLink i j → P (subtree last i j)
  everywhere {j} inside = hand_down j j (omega arith) inside.below

-- the numbers of every part are different and below the number of buffers, and its mergers' outputs have room
pub part_among : (last links : ℕ) {i j : ℕ} → InLink i j → i ≤ last → last ≤ links → Among (subtree last i j) (buffer_count links)
unfolding subtree buffer_count
part_among last links {i} {j} inside low high =
    let n = suc last - i in
    let e : i + n ≡ suc last = omega arith in
    let f : last + (links - last) ≡ links = omega arith in
    let most : first (i + n) ≤ first (suc links) = rw e (first_mono (suc last) (suc links) (omega arith) (omega arith)) in
    everywhere (λ t. Among t (first (suc links))) (λ n c one two a. (among_first a, among_second a)) last inside.link low (links_among i n (first (suc links)) inside.link.low most) inside

pub part_roomy : (last : ℕ) {i j : ℕ} → InLink i j → i ≤ last → Roomy (subtree last i j)
unfolding subtree
part_roomy last {i} {j} inside low = everywhere Roomy (λ n c one two r. roomy_inputs r) last inside.link low (links_roomy i (suc last - i) inside.link.low) inside
