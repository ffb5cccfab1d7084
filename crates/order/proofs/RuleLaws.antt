-- The test of the order rule says true exactly where the rule's statements hold.
use mathlib.Core.Path.{◌≡◌, refl}
use mathlib.Core.Logic.{◌⊎◌, inl, inr, ⊎_elim}
use mathlib.Core.Bool.{Bool, true, false}
use mathlib.Core.List.{List, [], ◌∷◌}
use Prim.Native.Nat.{ℕ, zero, suc, ◌-◌, ◌≤◌, ◌<◌}
use native.Mathlib.Omega.{arith}
use lib.Dec.{T, eqb, eqb→eq}
use lib.ListN.{length, get_or}
use Rattle.rules.specs.Tests.{◌and◌, ◌or◌, every}
use Rattle.rules.specs.Links.{buffer_count, LinkNumber}
use Rattle.rules.specs.Tree.{Buffers, Tree, exhausted, buffer, merger, tree_of}
use Rattle.rules.specs.Take.{insertion}
use Rattle.rules.specs.Order.{ascends, last_key, ordered, in_order}
use Rattle.rules.proofs.Table.{and_one, and_two, every_at, each_link_lem}
use Rattle.rules.proofs.Tests.{and_both}
use Rattle.rules.proofs.Ordered.{Ascends, ascends_says, says_ascends}
use Rattle.buffers.specs.Format.{links_in, many, buffer_of, buffers_of}
use Rattle.buffers.specs.Post.{Inside}
use Rattle.buffers.proofs.ArrayLaws.{buffers_at}
use Rattle.mergers.specs.Fills.{StandsIn}
use Rattle.order.specs.Rule.{Nearer, Ascending, NoneSmaller, OrderRule}

of_true : {b : Bool} → b ≡ true → T b
of_true e = rw e tt

to_true : (b : Bool) → T b → b ≡ true
to_true true t = refl
to_true false t = absurd t

module _ (key : ℕ → ℕ) where
  -- ---- one buffer, from a key on

  abbrev From : ℕ → List ℕ → Type 0
  From low es = (p : ℕ) → p < length es → low ≤ key (get_or es p 0)

  ascends_from : (low : ℕ) (es : List ℕ) → Ascends key low es → From low es
  ascends_from low [] h p lt = absurd (omega arith)
  ascends_from low (e ∷ es) h zero lt = h.0
  ascends_from low (e ∷ es) h (suc p) lt = omega (arith, h.0, ascends_from (key e) es h.1 p (omega arith))

  ascends_each : (low : ℕ) (es : List ℕ) → Ascends key low es → Ascending key es
  ascends_each low [] h p lt = absurd (omega arith)
  ascends_each low (e ∷ []) h p lt = absurd (omega arith)
  ascends_each low (e ∷ f ∷ es) h zero lt = h.1.0
  ascends_each low (e ∷ f ∷ es) h (suc p) lt = ascends_each (key e) (f ∷ es) h.1 p (omega arith)

  rest_ascending : (e : ℕ) (es : List ℕ) → Ascending key (e ∷ es) → Ascending key es
  rest_ascending e es h p lt = h (suc p) (omega arith)

  head_least : (e : ℕ) (es : List ℕ) → Ascending key (e ∷ es) → From (key e) es
  head_least e [] h p lt = absurd (omega arith)
  head_least e (f ∷ es) h zero lt = h 0 (omega arith)
  head_least e (f ∷ es) h (suc p) lt = omega (arith, h 0 (omega arith), head_least f es (rest_ascending e (f ∷ es) h) p (omega arith))

  each_ascends : (low : ℕ) (es : List ℕ) → From low es → Ascending key es → Ascends key low es
  each_ascends low [] from h = tt
  each_ascends low (e ∷ es) from h = (from 0 (omega arith), each_ascends (key e) es (head_least e es h) (rest_ascending e es h))

  -- ---- the key that is handed down is the largest nearer the root, and no larger than what all of them keep to

  low_last : (low : ℕ) (es : List ℕ) → Ascends key low es → low ≤ last_key key low es
  unfolding last_key
  low_last low [] h = omega arith
  low_last low (e ∷ es) h = omega (arith, h.0, low_last (key e) es h.1)

  each_last : (low : ℕ) (es : List ℕ) → Ascends key low es → (p : ℕ) → p < length es → key (get_or es p 0) ≤ last_key key low es
  unfolding last_key
  each_last low [] h p lt = absurd (omega arith)
  each_last low (e ∷ es) h zero lt = low_last (key e) es h.1
  each_last low (e ∷ es) h (suc p) lt = each_last (key e) es h.1 p (omega arith)

  last_within : (low y : ℕ) (es : List ℕ) → low ≤ y → ((p : ℕ) → p < length es → key (get_or es p 0) ≤ y) → last_key key low es ≤ y
  unfolding last_key
  last_within low y [] l h = l
  last_within low y (e ∷ es) l h = last_within (key e) y es (h 0 (omega arith)) (λ p lt. h (suc p) (omega arith))

  -- ---- a tree, from a key on

  record Keeps (t : Tree) (low : ℕ) (bs : Buffers) : Type 0 where
    from : (n : ℕ) → StandsIn n t → From low (get_or bs n [])
    buffers : (n : ℕ) → StandsIn n t → Ascending key (get_or bs n [])
    ways : (m n : ℕ) → Nearer m n t → NoneSmaller key (get_or bs m []) (get_or bs n [])

  keeps_from : {t : Tree} {low low' : ℕ} {bs : Buffers} → low' ≤ low → Keeps t low bs → (n : ℕ) → StandsIn n t → From low' (get_or bs n [])
  keeps_from l k n s p lt = omega (arith, k.from n s p lt)

  module _ (n c : ℕ) (one two : Tree) (low : ℕ) (bs : Buffers) where
    abbrev es : List ℕ
    es = get_or bs n []

    abbrev last : ℕ
    last = last_key key low es

    both_keep : Ascends key low es → Keeps one last bs → Keeps two last bs → Keeps (merger n c one two) low bs
    both_keep a k l = record {
      from = λ m s. ⊎_elim (λ e. rw e (ascends_from low es a)) (⊎_elim (keeps_from (low_last low es a) k m) (keeps_from (low_last low es a) l m)) s;
      buffers = λ m s. ⊎_elim (λ e. rw e (ascends_each low es a)) (⊎_elim (k.buffers m) (l.buffers m)) s;
      ways = λ m o w. ⊎_elim (λ h. rw h.0 (⊎_elim (nearest k o) (nearest l o) h.1)) (⊎_elim (k.ways m o) (l.ways m o)) w;
    }
      where
        nearest : {t : Tree} → Keeps t last bs → (o : ℕ) → StandsIn o t → NoneSmaller key es (get_or bs o [])
        nearest k o s p q lp lq = omega (arith, each_last low es a p lp, k.from o s q lq)

    keep_one : Keeps (merger n c one two) low bs → Keeps one last bs
    keep_one k = record {
      from = λ m s q lt. last_within low (key (get_or (get_or bs m []) q 0)) es (k.from m (inr (inl s)) q lt) (λ p lp. k.ways n m (inl (refl, inl s)) p q lp lt);
      buffers = λ m s. k.buffers m (inr (inl s));
      ways = λ m o w. k.ways m o (inr (inl w));
    }

    keep_two : Keeps (merger n c one two) low bs → Keeps two last bs
    keep_two k = record {
      from = λ m s q lt. last_within low (key (get_or (get_or bs m []) q 0)) es (k.from m (inr (inr s)) q lt) (λ p lp. k.ways n m (inl (refl, inr s)) p q lp lt);
      buffers = λ m s. k.buffers m (inr (inr s));
      ways = λ m o w. k.ways m o (inr (inr w));
    }

    keep_here : Keeps (merger n c one two) low bs → Ascends key low es
    keep_here k = each_ascends low es (k.from n (inl refl)) (k.buffers n (inl refl))

  ordered_keeps : (t : Tree) (low : ℕ) (bs : Buffers) → T (ordered key t low bs) → Keeps t low bs
  unfolding ordered
  ordered_keeps exhausted low bs t = record { from = λ n s. absurd s; buffers = λ n s. absurd s; ways = λ m n w. absurd w }
  ordered_keeps (buffer n c) low bs t =
      let a = ascends_says key low (get_or bs n []) t in
      record { from = λ m e. rw e (ascends_from low (get_or bs n []) a); buffers = λ m e. rw e (ascends_each low (get_or bs n []) a); ways = λ m o w. absurd w }
  ordered_keeps (merger n c one two) low bs t =
      let es = get_or bs n [] in
      let last = last_key key low es in
      let p = ordered key one last bs in
      let q = ordered key two last bs in
      let rest = and_two (ascends key low es) (p and q) t in
      both_keep n c one two low bs (ascends_says key low es (and_one (ascends key low es) (p and q) t)) (ordered_keeps one last bs (and_one p q rest)) (ordered_keeps two last bs (and_two p q rest))

  keeps_ordered : (t : Tree) (low : ℕ) (bs : Buffers) → Keeps t low bs → T (ordered key t low bs)
  unfolding ordered
  keeps_ordered exhausted low bs k = tt
  keeps_ordered (buffer n c) low bs k = says_ascends key low (get_or bs n []) (each_ascends low (get_or bs n []) (k.from n refl) (k.buffers n refl))
  keeps_ordered (merger n c one two) low bs k =
      let es = get_or bs n [] in
      let last = last_key key low es in
      and_both (ascends key low es) (ordered key one last bs and ordered key two last bs) (says_ascends key low es (keep_here n c one two low bs k))
      (and_both (ordered key one last bs) (ordered key two last bs) (keeps_ordered one last bs (keep_one n c one two low bs k)) (keeps_ordered two last bs (keep_two n c one two low bs k)))

  -- ---- the rule

  -- where the test says true, the rule holds
  pub in_order_says : (tree : Tree) (bs : Buffers) → in_order key tree bs ≡ true → OrderRule key tree bs
  unfolding in_order
  in_order_says tree bs e =
      let t = of_true e in
      let k = ordered_keeps tree 0 bs (and_two (ascends key 0 (insertion bs)) (ordered key tree 0 bs) t) in
      record {
        outside = ascends_each 0 (insertion bs) (ascends_says key 0 (insertion bs) (and_one (ascends key 0 (insertion bs)) (ordered key tree 0 bs) t));
        buffers = k.buffers;
        ways = k.ways;
      }

  -- and where the rule holds, the test says true
  pub says_in_order : (tree : Tree) (bs : Buffers) → OrderRule key tree bs → in_order key tree bs ≡ true
  unfolding in_order
  says_in_order tree bs r =
      to_true (ascends key 0 (insertion bs) and ordered key tree 0 bs)
      (and_both (ascends key 0 (insertion bs)) (ordered key tree 0 bs)
      (says_ascends key 0 (insertion bs) (each_ascends 0 (insertion bs) (λ p lt. omega arith) r.outside))
      (keeps_ordered tree 0 bs record { from = λ n s p lt. omega arith; buffers = r.buffers; ways = r.ways }))

-- ---- every buffer of a queue but I stands in its tree

unfoldable standing : ℕ → Tree → Bool
standing m exhausted = false
standing m (buffer n c) = eqb m n
standing m (merger n c one two) = eqb m n or standing m one or standing m two

or_says : {P Q : Type 0} (a b : Bool) → (T a → P) → (T b → Q) → T (a or b) → P ⊎ Q
or_says true b p q t = inl (p tt)
or_says false b p q t = inr (q t)

standing_says : (m : ℕ) (t : Tree) → T (standing m t) → StandsIn m t
unfolding standing
standing_says m exhausted h = h
standing_says m (buffer n c) h = eqb→eq m n h
standing_says m (merger n c one two) h =
    or_says (eqb m n) (standing m one or standing m two) (eqb→eq m n) (or_says (standing m one) (standing m two) (standing_says m one) (standing_says m two)) h

pub every_stands : {links : ℕ} → LinkNumber links → (n : ℕ) → 1 ≤ n → n < buffer_count links → StandsIn n (tree_of links)
unfolding every standing tree_of buffer_count
every_stands {links} h n low high =
    standing_says n (tree_of links)
    (every_at (λ n. standing n (tree_of links)) 1 (buffer_count links - 1) (each_link_lem (λ l. every (λ n. standing n (tree_of l)) 1 (buffer_count l - 1)) tt h) n low (omega arith))

-- so that each buffer of the array ascends where the test says true
pub each_ascends_in : (key : ℕ → ℕ) (ws : List ℕ) → Inside ws → in_order key (tree_of (links_in ws)) (buffers_of ws) ≡ true → (n : ℕ) → n < many ws → Ascending key (buffer_of ws n)
unfolding insertion
each_ascends_in key ws array e n lt = rw (← buffers_at ws n lt) (go n lt)
  where
    rule : OrderRule key (tree_of (links_in ws)) (buffers_of ws)
    rule = in_order_says key (tree_of (links_in ws)) (buffers_of ws) e

    go : (n : ℕ) → n < many ws → Ascending key (get_or (buffers_of ws) n [])
    go zero lt = rule.outside
    go (suc n) lt = rule.buffers (suc n) (every_stands array.link (suc n) (omega arith) lt)
