-- How the order rule goes down the tree: what decides at link i's buffer j, and what its inputs are asked.
use mathlib.Core.Path.{◌≡◌, refl, sym, ◌∙◌, ap}
use mathlib.Core.Bool.{Bool, true, false}
use mathlib.Core.List.{List, []}
use Prim.Native.Nat.{ℕ, zero, suc, ◌+◌, ◌-◌, ◌≤◌, ◌<◌}
use native.Mathlib.Omega.{arith}
use native.Mathlib.Decide.{dec_lt}
use lib.ListN.{get_or}
use Rattle.rules.specs.Tests.{◌and◌}
use Rattle.rules.specs.Links.{k, first, buffer_count, all_buffers, book_words, LinkNumber, InLink}
use Rattle.rules.specs.Tree.{Buffers, Tree, exhausted, buffer, merger, tree_of}
use Rattle.rules.specs.Order.{ascends, last_key, ordered, in_order}
use Rattle.rules.proofs.Sizes.{first_next, first_further}
use Rattle.rules.proofs.Table.{k_least, first_most, in_link}
use Rattle.buffers.specs.Slots.{base, slot_of}
use Rattle.buffers.specs.Format.{links_in, many, buffer_of, buffers_of}
use Rattle.buffers.specs.Post.{Inside}
use Rattle.buffers.proofs.SlotLaws.{some}
use Rattle.buffers.proofs.ArrayLaws.{has, buffers_at}
use Rattle.mergers.specs.Subtree.{subtree, first_input, second_input, second_link}
use Rattle.mergers.specs.Post.{Placed, Fed, At}
use Rattle.mergers.proofs.SubtreeLaws.{past_last, fed_by_none, fed_by_two, spot, first_spot, second_spot}
use Rattle.order.specs.Walk.{last_entry, CanWalk}
use Rattle.order.proofs.AscentLaws.{last_key_lem}

-- ---- the rule, case by case

module _ (key : ℕ → ℕ) (low : ℕ) (bs : Buffers) where
  none_ordered : ordered key exhausted low bs ≡ true
  unfolding ordered
  none_ordered = refl

  alone_ordered : (n c : ℕ) → ordered key (buffer n c) low bs ≡ ascends key low (get_or bs n [])
  unfolding ordered
  alone_ordered n c = refl

  both_ordered : (n c : ℕ) (one two : Tree)
      → ordered key (merger n c one two) low bs ≡ ascends key low (get_or bs n []) and ordered key one (last_key key low (get_or bs n [])) bs and ordered key two (last_key key low (get_or bs n [])) bs
  unfolding ordered
  both_ordered n c one two = refl

-- a link behind the last counts as exhausted
pub behind_ordered : (key : ℕ → ℕ) {ws : List ℕ} {links i j : ℕ} → CanWalk ws links i j → links < i → (low : ℕ) → true ≡ ordered key (subtree links i j) low (buffers_of ws)
behind_ordered key {ws} {links} {i} {j} h far low = rw (h.behind far, past_last links i far, none_ordered key low (buffers_of ws))

-- ---- at a buffer that there is

-- what is known once the walk has found the buffer's place
pub record Reached (ws : List ℕ) (links i j n at : ℕ) : Type 0 where
  pub can : CanWalk ws links i j
  pub counts : i ≤ links
  pub place : Placed i j n at

-- link i's buffer j is one of a link that counts
pub walk_in : {ws : List ℕ} {links i j : ℕ} → CanWalk ws links i j → i ≤ links → InLink i j
walk_in h counts = h.spot.inside (omega (arith, h.of, h.array.link.high))

-- and its number is below the number of buffers
walk_below : {ws : List ℕ} {links i j : ℕ} → CanWalk ws links i j → i ≤ links → first i + j < many ws
unfolding buffer_count
walk_below {ws} {links} {i} {j} h counts =
    let e : suc i + (links - i) ≡ suc (links_in ws) = omega (arith, h.of) in
    let last : first (suc i) ≤ first (suc (links_in ws)) = rw e at (first_further (suc i) (links - i) (omega arith)) in
    omega (arith, first_next i h.spot.low, (walk_in h counts).below)

module _ {ws : List ℕ} {links i j n at : ℕ} (g : Reached ws links i j n at) where
  abbrev inside : InLink i j
  inside = walk_in g.can g.counts

  -- the buffer and the word at which its slots begin
  pub walk_at : At ws n at
  walk_at = record { of = rw g.place.number (has ws (first i + j) g.can.array (walk_below g.can g.counts)); begins = rw g.place.number (g.place.at inside.link.high) }

  entries_here : get_or (buffers_of ws) (first i + j) [] ≡ buffer_of ws n
  entries_here = rw g.place.number (buffers_at ws (first i + j) (walk_below g.can g.counts))

  module _ (key : ℕ → ℕ) where
    -- what is asked of the buffer with all below it, and of the buffer alone
    abbrev Part : ℕ → Bool
    Part low = ordered key (subtree links i j) (key low) (buffers_of ws)

    abbrev Here : ℕ → Bool
    Here low = ascends key (key low) (buffer_of ws n)

    -- an S: no merger feeds it
    pub decided_alone : (low : ℕ) → k i ≤ j → Part low ≡ Here low
    decided_alone low far = rw (fed_by_none links inside far, alone_ordered key (key low) (buffers_of ws), entries_here)

    decided_by_inputs : (low : ℕ) → j < k i → let last = key (last_entry low (buffer_of ws n)) in
        Part low ≡ Here low and ordered key (subtree links i (first_input j)) last (buffers_of ws) and ordered key (subtree links (second_link i j) (second_input j)) last (buffers_of ws)
    decided_by_inputs low above =
        rw (fed_by_two links inside.link g.counts j above, both_ordered key (key low) (buffers_of ws), entries_here, last_key_lem key low (buffer_of ws n))

    -- where the buffer does not ascend, nothing below it matters
    pub broken_here : (low : ℕ) → Here low ≡ false → false ≡ Part low
    broken_here low t = go (dec_lt j (k i))
      where
        go : Dec (j < k i) → false ≡ Part low
        go (yes above) = sym (decided_by_inputs low above ∙ rw t)
        go (no beyond) = sym (decided_alone low (omega arith) ∙ t)

-- ---- at a merger's output that ascends: the inputs decide, the first and then the second

pub record Onward (key : ℕ → ℕ) (ws : List ℕ) (links i j n at low : ℕ) : Type 0 where
  pub reached : Reached ws links i j n at
  pub above : j < k i
  pub ascending : ascends key (key low) (buffer_of ws n) ≡ true

module _ {key : ℕ → ℕ} {ws : List ℕ} {links i j n at low : ℕ} (g : Onward key ws links i j n at low) where
  abbrev r : Reached ws links i j n at
  r = g.reached

  abbrev link : LinkNumber i
  link = (inside r).link

  fed : Fed i j
  fed = record { inside = inside r; above = g.above }

  -- the first input may be walked to, and its number is larger
  module _ {p : ℕ} (first_is : p ≡ first_input j) where
    pub first_can : CanWalk ws links i p
    first_can = rw first_is record { array = r.can.array; of = r.can.of; spot = first_spot fed; behind = λ far. absurd (omega (arith, r.counts)) }

    pub first_falls : all_buffers - (first i + p) < all_buffers - (first i + j)
    first_falls = rw first_is (omega (arith, further j, first_most link, (inside r).below))
      where
        further : (j : ℕ) → j < first_input j
        further zero = omega arith
        further (suc j) = omega arith

  -- so may the second
  module _ {s q : ℕ} (link_is : s ≡ second_link i j) (second_is : q ≡ second_input j) where
    pub second_can : CanWalk ws links s q
    second_can = rw (link_is, second_is) record { array = r.can.array; of = r.can.of; spot = second_spot fed; behind = go j }
      where
        go : (j : ℕ) → links < second_link i j → second_input j ≡ 0
        go zero far = refl
        go (suc j) far = absurd (omega (arith, r.counts))

    pub second_falls : all_buffers - (first s + q) < all_buffers - (first i + j)
    second_falls = rw (link_is, second_is) (omega (arith, further j, first_most link, (inside r).below))
      where
        further : (j : ℕ) → first i + j < first (second_link i j) + second_input j
        further zero = omega (arith, first_next i link.low, k_least link)
        further (suc j) = omega arith

  -- both are asked from the buffer's last entry on, and x is what the first answers
  module _ {p last : ℕ} {x : Bool} (first_is : p ≡ first_input j) (last_is : last ≡ last_entry low (buffer_of ws n))
      (x_is : x ≡ ordered key (subtree links i p) (key last) (buffers_of ws)) where
    answered : {b : Bool} → x ≡ b → ordered key (subtree links i (first_input j)) (key (last_entry low (buffer_of ws n))) (buffers_of ws) ≡ b
    answered t = rw (first_is, last_is) at (sym x_is ∙ t)

    -- it is broken there, or the second decides
    pub broken_in_first : x ≡ false → false ≡ Part r key low
    broken_in_first t = sym (decided_by_inputs r key low g.above ∙ rw (g.ascending, answered t))

    pub left_to_second : x ≡ true → {s q : ℕ} → s ≡ second_link i j → q ≡ second_input j
        → {y : Bool} → y ≡ ordered key (subtree links s q) (key last) (buffers_of ws) → y ≡ Part r key low
    left_to_second t link_is second_is y_is = (rw (link_is, second_is, last_is) at y_is) ∙ sym (decided_by_inputs r key low g.above ∙ rw (g.ascending, answered t))

-- ---- the whole queue

module _ (ws : List ℕ) (array : Inside ws) where
  -- A(1), at the root
  pub root_can : (links : ℕ) → links ≡ links_in ws → CanWalk ws links 1 0
  root_can links links_are =
      let one : LinkNumber 1 = record { low = omega arith; high = omega arith } in
      record { array = array; of = links_are; spot = spot (in_link one (omega (arith, k_least one))); behind = λ far. refl }

  -- I, whose slots follow the book
  pub insertion_at : At ws 0 book_words
  unfolding base slot_of
  insertion_at = record { of = has ws 0 array (omega (arith, some array.link)); begins = refl }

  whole_tree : subtree (links_in ws) 1 0 ≡ tree_of (links_in ws)
  unfolding subtree tree_of
  whole_tree = let e : suc (links_in ws) - 1 ≡ links_in ws = omega arith in rw e

  -- no key is below that of 0
  module _ (key : ℕ → ℕ) (least : key 0 ≡ 0) where
    in_both : in_order key (tree_of (links_in ws)) (buffers_of ws) ≡ ascends key 0 (get_or (buffers_of ws) 0 []) and ordered key (tree_of (links_in ws)) 0 (buffers_of ws)
    unfolding in_order
    in_both = refl

    -- I, which stands outside the tree, and then the tree
    decided_by_both : in_order key (tree_of (links_in ws)) (buffers_of ws) ≡ ascends key (key 0) (buffer_of ws 0) and ordered key (subtree (links_in ws) 1 0) (key 0) (buffers_of ws)
    decided_by_both = rw (least, whole_tree) (in_both ∙ rw (buffers_at ws 0 (omega (arith, some array.link))))

    -- where I is broken, the tree does not matter; where it is not, the tree decides
    pub broken_outside : ascends key (key 0) (buffer_of ws 0) ≡ false → false ≡ in_order key (tree_of (links_in ws)) (buffers_of ws)
    broken_outside t = sym (decided_by_both ∙ rw t)

    pub left_to_tree : ascends key (key 0) (buffer_of ws 0) ≡ true → (links : ℕ) → links ≡ links_in ws
        → ordered key (subtree links 1 0) (key 0) (buffers_of ws) ≡ in_order key (tree_of (links_in ws)) (buffers_of ws)
    left_to_tree t links is = ap (λ l. ordered key (subtree l 1 0) (key 0) (buffers_of ws)) is ∙ sym (decided_by_both ∙ rw t)
