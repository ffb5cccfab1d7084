-- Takes of a queue in order: they hand out a smallest entry, one after the other in ascending order, and leave the queue in order.
use Prim.Native.Nat.{ℕ, zero, suc, ◌+◌, ◌≤◌, ◌<◌}
use mathlib.Core.Path.{◌≡◌, refl, sym, ap, subst}
use mathlib.Core.List.{List, [], ◌∷◌, ◌++◌}
use native.Mathlib.Omega.{arith}
use lib.ListN.{length}
use lib.Dec.{T, eqb}
use Rattle.rules.specs.Tree.{Buffers, Tree, exhausted, buffer, merger, entries}
use Rattle.rules.specs.Merge.{Step}
use Rattle.rules.specs.Fill.{untouched}
use Rattle.rules.specs.Take.{insertion, held_in, ready, take_one, takes, take_all}
use Rattle.rules.specs.Order.{ascends, last_key, ordered, in_order}
use Rattle.rules.proofs.Table.{and_one, and_two}
use Rattle.rules.proofs.Tests.{and_both}
use Rattle.rules.proofs.Steps.{Stepped, stops, from_first, from_second, stepped}
use Rattle.rules.proofs.Contents.{Below, Contents, below, view, refill, fill_contents}
use Rattle.rules.proofs.Weight.{weight_below, weight_seen, one_if, times_of, times_in}
use Rattle.rules.proofs.Full.{Roomy, held_below, refill_drains, contents_drain, refill_keeps}
use Rattle.rules.proofs.Ordered.{Ascends, ascends_raise, ascends_from, ordered_from, ascends_says, says_ascends, OrderedBelow, Ordered, ordered_says, says_ordered, raise, none_ordered, contents_ordered, fill_ordered}
use Rattle.rules.proofs.Takes.{Took, hand_contents, take_contents, takes_contents, Beside, seen, take_seen, takes_seen, ready_cases, ready_insertion}
use Rattle.rules.proofs.Sizes.{by_eqb, by_leb}
use Rattle.rules.proofs.TakeLaws.{take_pays}

module _ (key : ℕ → ℕ) where
  -- ---- runs

  -- a run that goes on where another ends
  pub ascends_append : (low : ℕ) (xs ys : List ℕ) → Ascends key low xs → Ascends key (last_key key low xs) ys → Ascends key low (xs ++ ys)
  unfolding last_key
  ascends_append low [] ys p q = q
  ascends_append low (x ∷ xs) ys p q = (p.0, ascends_append (key x) xs ys p.1 q)

  -- the last key of both
  pub last_key_append : (low : ℕ) (xs ys : List ℕ) → last_key key low (xs ++ ys) ≡ last_key key (last_key key low xs) ys
  unfolding last_key
  last_key_append low [] ys = refl
  last_key_append low (x ∷ xs) ys = last_key_append (key x) xs ys

  -- no key is below the first bound
  pub ascends_last : (low : ℕ) (es : List ℕ) → Ascends key low es → low ≤ last_key key low es
  unfolding last_key
  ascends_last low [] h = omega arith
  ascends_last low (e ∷ es) h = omega (arith, h.0, ascends_last (key e) es h.1)

  -- in a run that ascends from `low` on, nothing smaller stands
  pub ascends_low : (low : ℕ) (es : List ℕ) → Ascends key low es → (v : ℕ) → key v < low → times_of v es ≡ 0
  ascends_low low [] h v less = refl
  ascends_low low (e ∷ es) h v less =
      by_eqb v e (λ b. one_if b + times_of v es ≡ 0)
      (λ q. let same : key v ≡ key e = ap key q in absurd (omega (arith, h.0)))
      (λ q. omega (arith, ascends_low (key e) es h.1 v (omega (arith, h.0))))

  below_low : (t : Tree) (d low : ℕ) (b : Below t) → OrderedBelow key t low b → (v : ℕ) → key v < low → weight_below (λ d e. one_if (eqb v e)) t d b ≡ 0
  unfolding weight_below
  below_low exhausted d low b h v less = refl
  below_low (buffer n c) d low b h v less = refl
  below_low (merger n c one two) d low b h v less =
      omega (
        arith,
        ascends_low low b.0.0 h.0.0 v less,
        ascends_low low b.1.0 h.1.0 v less,
        below_low one (suc d) (last_key key low b.0.0) b.0.1 h.0.1 v (omega (arith, ascends_last low b.0.0 h.0.0)),
        below_low two (suc d) (last_key key low b.1.0) b.1.1 h.1.1 v (omega (arith, ascends_last low b.1.0 h.1.0)),
      )

  -- in a tree in order from `low` on, nothing smaller stands
  pub ordered_low : (t : Tree) (low : ℕ) (bs : Buffers) → T (ordered key t low bs) → (v : ℕ) → key v < low → times_in v t bs ≡ 0
  ordered_low t low bs h v less =
      let o = ordered_says key t low bs h in
      omega (
        arith,
        weight_seen (λ d e. one_if (eqb v e)) t 0 bs,
        ascends_low low (entries t bs) o.0 v less,
        below_low t 0 (last_key key low (entries t bs)) (below t bs) o.1 v (omega (arith, ascends_last low (entries t bs) o.0)),
      )

  -- ---- one take

  module _ (t : Tree) where
    -- what was handed out ascends, and what is left goes on from there
    pub record TookInOrder (low : ℕ) (z : Took (Below t)) : Type 0 where
      pub out : Ascends key low z.out
      pub insertion : Ascends key (last_key key low z.out) z.insertion
      pub tree : Ordered key t (last_key key low z.out) z.tree

    hand_ordered : (low : ℕ) {xs ys : List ℕ} {s : Step} → Stepped key xs ys s → (b : Below t) (steps : ℕ) → (length xs ≡ 0 → held_below t 0 b ≡ 0)
        → Ascends key low ys → Ordered key t low (xs, b) → TookInOrder low (hand_contents s b steps)
    unfolding hand_contents last_key
    hand_ordered low stops b steps d i h = record { out = tt; insertion = i; tree = h }
    hand_ordered low (from_first {e = e} {xs = xs} {ys = ys} l) b steps d i h = record { out = (h.0.0, tt); insertion = ascends_raise key e low ys l i; tree = (h.0.1, h.1) }
    hand_ordered low (from_second {e = e} {xs = xs} {ys = ys} l) b steps d i h =
        record { out = (i.0, tt); insertion = i.1; tree = raise key (OrderedBelow key t) (held_below t 0) (none_ordered key t 0) e low xs b l d h }

  module _ {t : Tree} (roomy : Roomy t) where
    take_contents_ordered : (low : ℕ) (i : List ℕ) (z : Contents t) → Ascends key low i → Ordered key t low z → TookInOrder t low (take_contents key t i z)
    unfolding take_contents
    take_contents_ordered low i z a h =
        let now = refill (fill_contents key t) z.0 z.1 in
        hand_ordered t low (stepped key now.contents.0 i) now.contents.1 now.steps
        (refill_drains (held_below t 0) (fill_contents key t) (contents_drain key roomy 0) z.0 z.1) a
        (refill_keeps (Ordered key t low) (fill_contents key t) (contents_ordered key roomy low) z.0 z.1 h)

    takes_contents_ordered : (n low : ℕ) (i : List ℕ) (z : Contents t) → Ascends key low i → Ordered key t low z → TookInOrder t low (takes_contents key t n i z)
    unfolding takes_contents last_key
    takes_contents_ordered zero low i z a h = record { out = tt; insertion = a; tree = h }
    takes_contents_ordered (suc n) low i z a h =
        let one = take_contents key t i z in
        let o = take_contents_ordered low i z a h in
        let rest = takes_contents key t n one.insertion one.tree in
        let r = takes_contents_ordered n (last_key key low one.out) one.insertion one.tree o.insertion o.tree in
        let e = last_key_append low one.out rest.out in
        record { out = ascends_append low one.out rest.out o.out r.out; insertion = rw e r.insertion; tree = rw e r.tree }

    -- ---- on the buffers

    module _ (bs : Buffers) (b : Beside t (length bs)) (holds : T (in_order key t bs)) where
      insertion_ascends : Ascends key 0 (insertion bs)
      unfolding in_order
      insertion_ascends = ascends_says key 0 (insertion bs) (and_one (ascends key 0 (insertion bs)) (ordered key t 0 bs) holds)

      tree_ordered : Ordered key t 0 (view t bs)
      unfolding in_order
      tree_ordered = ordered_says key t 0 bs (and_two (ascends key 0 (insertion bs)) (ordered key t 0 bs) holds)

      ready_tree : T (ordered key t 0 bs) → T (ordered key t 0 (ready key t bs).buffers)
      unfolding untouched
      ready_tree h = ready_cases key t bs (λ z. T (ordered key t 0 z.buffers)) h (fill_ordered key roomy 0 bs b.among h)

      takes_ordered_seen : (n : ℕ) → TookInOrder t 0 (seen t (takes key t n bs))
      takes_ordered_seen n =
          subst (TookInOrder t 0) (sym (takes_seen key t (length bs) b n bs refl)) (takes_contents_ordered n 0 (insertion bs) (view t bs) insertion_ascends tree_ordered)

      take_ordered_seen : TookInOrder t 0 (seen t (take_one key t bs))
      take_ordered_seen =
          subst (TookInOrder t 0) (sym (take_seen key t (length bs) b bs refl)) (take_contents_ordered 0 (insertion bs) (view t bs) insertion_ascends tree_ordered)

      -- takes one after the other hand out ascending keys
      pub takes_ascend : (n : ℕ) → Ascends key 0 (takes key t n bs).out
      takes_ascend n = (takes_ordered_seen n).out

      -- and so does all that is taken out
      pub take_all_ascends : Ascends key 0 (take_all key t bs).out
      unfolding take_all
      take_all_ascends = takes_ascend (length (insertion bs) + held_in t bs)

      -- what is left after a take is in order
      pub take_ordered : T (in_order key t (take_one key t bs).buffers)
      unfolding in_order
      take_ordered =
          let z = take_one key t bs in
          let o = take_ordered_seen in
          and_both (ascends key 0 (insertion z.buffers)) (ordered key t 0 z.buffers)
          (says_ascends key 0 (insertion z.buffers) (ascends_from key (omega arith) (insertion z.buffers) o.insertion))
          (says_ordered key t 0 z.buffers (ordered_from key t (omega arith) (view t z.buffers) o.tree))

      -- so is what a look leaves
      pub ready_ordered : T (in_order key t (ready key t bs).buffers)
      unfolding in_order
      ready_ordered =
          let now = (ready key t bs).buffers in
          let i = ready_insertion key t (length bs) b bs refl in
          and_both (ascends key 0 (insertion now)) (ordered key t 0 now) (rw i (says_ascends key 0 (insertion bs) insertion_ascends)) (ready_tree (says_ordered key t 0 bs tree_ordered))

      -- a take hands out a smallest entry: none that is held has a smaller key
      pub take_smallest : (e : ℕ) → (take_one key t bs).out ≡ e ∷ [] → (v : ℕ) → 0 < times_of v (insertion bs) + times_in v t bs → key e ≤ key v
      unfolding last_key
      take_smallest e is v some =
          by_leb (key e) (key v) (λ b. key e ≤ key v) (λ l. l) (λ l.
          let z = take_one key t bs in
          let o = take_ordered_seen in
          let i : Ascends key (key e) (insertion z.buffers) = rw is at o.insertion in
          let h : Ordered key t (key e) (view t z.buffers) = rw is at o.tree in
          let pays = rw is at (take_pays (λ d x. one_if (eqb v x)) 0 (λ d x. omega arith) key t bs b) in
          let none : one_if (eqb v e) ≡ 0 = by_eqb v e (λ b. one_if b ≡ 0) (λ q. let same : key v ≡ key e = ap key q in absurd (omega arith)) (λ q. refl) in
          absurd (omega (arith, ascends_low (key e) (insertion z.buffers) i v l, ordered_low t (key e) z.buffers (says_ordered key t (key e) z.buffers h) v l))
          )
