-- Buffers that were emptied, or left as they were: the order rule holds on. And links in order, in front and behind.
use Prim.Native.Nat.{ℕ, zero, suc, ◌+◌, ◌≤◌}
use mathlib.Core.Path.{◌≡◌}
use mathlib.Core.Logic.{◌⊎◌, inl, inr}
use mathlib.Core.List.{List, []}
use native.Mathlib.Omega.{arith}
use lib.ListN.{get_or}
use Rattle.rules.specs.Links.{first}
use Rattle.rules.specs.Tree.{Buffers, Tree, exhausted, buffer, merger, entries, links_from}
use Rattle.rules.specs.Order.{last_key}
use Rattle.rules.proofs.Numbers.{Stands, itself, output, in_first, in_second}
use Rattle.rules.proofs.Contents.{below, view}
use Rattle.rules.proofs.Ordered.{Ascends, ascends_from, last_key_from, Ordered, ordered_from}
use Rattle.rules.proofs.TakeOrder.{ascends_last}
use Rattle.rules.proofs.Paths.{Way, end, by_first, by_second}
use Rattle.rules.proofs.LayLaws.{BesideWay}

-- each buffer of the tree is empty, or as it was
abbrev pub Thinned : Tree → Buffers → Buffers → Type 0
Thinned t before after = (m : ℕ) → Stands m t → (get_or after m [] ≡ []) ⊎ (get_or after m [] ≡ get_or before m [])

module _ (key : ℕ → ℕ) where
  thinned_ascends : {low low' : ℕ} → low ≤ low' → (xs ys : List ℕ) → (ys ≡ []) ⊎ (ys ≡ xs) → Ascends key low' xs → Ascends key low ys × (last_key key low ys ≤ last_key key low' xs)
  unfolding last_key
  thinned_ascends l xs ys (inl e) a = rw e (tt, omega (arith, ascends_last key _ xs a))
  thinned_ascends l xs ys (inr e) a = rw e (ascends_from key l xs a, last_key_from key l xs)

  -- links in order: those in front are, and those behind
  pub links_ordered : (p a n low : ℕ) (bs : Buffers) → Ordered key (links_from a (p + n)) low (view (links_from a (p + n)) bs)
      → Ordered key (links_from a p) low (view (links_from a p) bs) × Ordered key (links_from (a + p) n) low (view (links_from (a + p) n) bs)
  unfolding links_from entries below
  links_ordered zero a n low bs h = let e : a + 0 ≡ a = omega arith in let z : 0 + n ≡ n = omega arith in ((tt, tt), rw e (rw z at h))
  links_ordered (suc p) a n low bs h =
      let e : a + suc p ≡ suc a + p = omega arith in
      let z : suc p + n ≡ suc (p + n) = omega arith in
      let o : Ordered key (links_from a (suc (p + n))) low (view (links_from a (suc (p + n))) bs) = rw z at h in
      let r = links_ordered p (suc a) n (last_key key low (get_or bs (first a) [])) bs o.1.1 in
      ((o.0, (o.1.0, r.0)), rw e (ordered_from key (links_from (suc a + p) n) (ascends_last key low (get_or bs (first a) []) o.0) (view (links_from (suc a + p) n) bs) r.1))

  -- where buffers were emptied, the order rule holds on
  pub thinned_ordered : (t : Tree) {low low' : ℕ} → low ≤ low' → (before after : Buffers) → Thinned t before after → Ordered key t low' (view t before) → Ordered key t low (view t after)
  unfolding entries below
  thinned_ordered exhausted l before after h o = (tt, tt)
  thinned_ordered (buffer n c) l before after h o = ((thinned_ascends l (get_or before n []) (get_or after n []) (h n itself) o.0).0, tt)
  thinned_ordered (merger n c one two) l before after h o =
      let a = thinned_ascends l (get_or before n []) (get_or after n []) (h n output) o.0 in
      (a.0, (thinned_ordered one a.1 before after (λ m s. h m (in_first s)) o.1.0, thinned_ordered two a.1 before after (λ m s. h m (in_second s)) o.1.1))

  -- so what stands beside a way is in order wherever it was
  pub thinned_beside : {t : Tree} {n : ℕ} {ns : List ℕ} (w : Way t n ns) (before after : Buffers) → Thinned t before after → BesideWay key w (view t before) (view t after)
  unfolding BesideWay entries below
  thinned_beside end before after h = tt
  thinned_beside (by_first {two = two} w) before after h =
      (λ low o. thinned_ordered two (omega arith) before after (λ m s. h m (in_second s)) o, thinned_beside w before after (λ m s. h m (in_first s)))
  thinned_beside (by_second {one = one} w) before after h =
      (λ low o. thinned_ordered one (omega arith) before after (λ m s. h m (in_first s)) o, thinned_beside w before after (λ m s. h m (in_second s)))
