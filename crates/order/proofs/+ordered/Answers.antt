-- `ordered` calls itself on the two inputs.
use Rattle.std.proofs.Common.{◌≡◌, ℕ, List, ◌≤◌, ◌<◌, true, sym, ap, ◌∙◌, arith}
use Rattle.rules.specs.Links.{k}
use Rattle.rules.specs.Order.{ascends}
use Rattle.buffers.specs.Format.{buffer_of}
use Rattle.mergers.specs.Post.{Placed}
use Rattle.order.specs.Walk.{CanWalk}
use Rattle.order.proofs.WalkLaws.{behind_ordered, Reached, walk_in, walk_at, decided_alone, broken_here, Onward, first_can, first_falls, second_can, second_falls, broken_in_first, left_to_second}
use Rattle.order.proofs.+ordered.Goals as goal

-- past the place of the buffer
reached_at : {ws : List ℕ} {links i j n at : ℕ} → CanWalk ws links i j → i ≤ links → Placed i j n at → Reached ws links i j n at
reached_at can counts place = record { can = can; counts = counts; place = place }

pub returns-then-links-i : goal.returns-then-links-i
returns-then-links-i t c = behind_ordered _ c.requires (omega arith) _

pub ascends-requires : goal.ascends-requires
ascends-requires t c = walk_at (reached_at c.requires (omega arith) c.place_of-place.ensures)

pub returns-then-not-ascends : goal.returns-then-not-ascends
returns-then-not-ascends t c = broken_here (reached_at c.requires (omega arith) c.place_of-place.ensures) _ _ (sym c.ascends.ensures ∙ c.if-not-ascends.true)

pub k-requires : goal.k-requires
k-requires t c = rw c.at.ensures (walk_in c.requires (omega arith)).link

pub returns-then-k-j : goal.returns-then-k-j
returns-then-k-j t c =
    let kis : c.k.result ≡ k c.args.i = c.k.ensures ∙ ap k c.at.ensures in
    sym (decided_alone (reached_at c.requires (omega arith) c.place_of-place.ensures) _ _ (omega arith) ∙ sym c.ascends.ensures ∙ c.if-not-ascends.false)

pub last_entry-last-requires : goal.last_entry-last-requires
last_entry-last-requires t c = walk_at (reached_at c.requires (omega arith) c.place_of-place.ensures)

-- past the test of k: a merger feeds the buffer, which ascends
onward_at : {key : ℕ → ℕ} {ws : List ℕ} {links i j n at low : ℕ} → Reached ws links i j n at → (a b : ℕ) → a ≡ i → b ≡ k a → j < b → ascends key (key low) (buffer_of ws n) ≡ true → Onward key ws links i j n at low
onward_at r a b a_is b_is above ascending = record { reached = r; above = omega (arith, ap k a_is); ascending = ascending }

pub ordered-requires : goal.ordered-requires
ordered-requires t c =
    let g = onward_at (reached_at c.requires (omega arith) c.place_of-place.ensures) _ _ c.at.ensures c.k.ensures (omega arith) (sym c.ascends.ensures ∙ c.if-not-ascends.false) in
    (omega (arith, first_falls g c.first_input.ensures), first_can g c.first_input.ensures)

pub returns-else-ordered : goal.returns-else-ordered
returns-else-ordered t c =
    c.if-ordered.false
    ∙ broken_in_first
    (onward_at (reached_at c.requires (omega arith) c.place_of-place.ensures) _ _ c.at.ensures c.k.ensures (omega arith) (sym c.ascends.ensures ∙ c.if-not-ascends.false))
    c.first_input.ensures
    c.last_entry-last.ensures
    c.ordered.ensures
    c.if-ordered.false

pub ordered-requires-then-ordered : goal.ordered-requires-then-ordered
ordered-requires-then-ordered t c =
    let g = onward_at (reached_at c.requires (omega arith) c.place_of-place.ensures) _ _ c.at.ensures c.k.ensures (omega arith) (sym c.ascends.ensures ∙ c.if-not-ascends.false) in
    (omega (arith, second_falls g c.second_link.ensures c.second_input.ensures), second_can g c.second_link.ensures c.second_input.ensures)

pub returns-then-ordered : goal.returns-then-ordered
returns-then-ordered t c =
    left_to_second
    (onward_at (reached_at c.requires (omega arith) c.place_of-place.ensures) _ _ c.at.ensures c.k.ensures (omega arith) (sym c.ascends.ensures ∙ c.if-not-ascends.false))
    c.first_input.ensures
    c.last_entry-last.ensures
    c.ordered.ensures
    c.if-ordered.true
    c.second_link.ensures
    c.second_input.ensures
    c.ordered-then-ordered.ensures
