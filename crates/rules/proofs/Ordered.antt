-- A fill keeps the order rule.
use Prim.Native.Nat.{ℕ, zero, suc, ◌+◌, ◌-◌, ◌≤◌}
use mathlib.Core.Path.{◌≡◌, refl, sym, subst}
use mathlib.Core.List.{List, [], ◌∷◌, ◌++◌}
use native.Mathlib.Omega.{arith}
use lib.ListN.{length, get_or}
use lib.Dec.{T, leb, leb→le, le→leb}
use Rattle.rules.specs.Tests.{◌and◌}
use Rattle.rules.specs.Tree.{Buffers, Tree, exhausted, buffer, merger, entries}
use Rattle.rules.specs.Merge.{Step}
use Rattle.rules.specs.Fill.{fill}
use Rattle.rules.specs.Take.{held_in}
use Rattle.rules.specs.Order.{ascends, last_key, ordered}
use Rattle.rules.proofs.Table.{and_one, and_two}
use Rattle.rules.proofs.Tests.{and_both}
use Rattle.rules.proofs.Steps.{NotAbove, Stepped, stops, from_first, from_second, stepped}
use Rattle.rules.proofs.Numbers.{Among}
use Rattle.rules.proofs.Contents.{Below, Contents, below, view, Refilled, Run, more_steps, refill, step_then, merge_into, fill_contents}
use Rattle.rules.proofs.Lens.{fill_seen}
use Rattle.rules.proofs.Weight.{sum_of_ones, weight_below}
use Rattle.rules.proofs.Full.{held_seen, Roomy, nothing, alone, over, held_below, Drains, refill_drains, contents_drain, Fills, refill_keeps}

module _ (key : ℕ → ℕ) where
  -- ---- ascending runs

  -- the run ascends, from the key `low` on
  abbrev pub Ascends : ℕ → List ℕ → Type 0
  Ascends low [] = Unit {0}
  Ascends low (e ∷ es) = (low ≤ key e) × Ascends (key e) es

  -- what the test says
  pub ascends_says : (low : ℕ) (es : List ℕ) → T (ascends key low es) → Ascends low es
  unfolding ascends
  ascends_says low [] t = tt
  ascends_says low (e ∷ es) t =
      (leb→le low (key e) (and_one (leb low (key e)) (ascends key (key e) es) t), ascends_says (key e) es (and_two (leb low (key e)) (ascends key (key e) es) t))

  -- and where it holds the test passes
  pub says_ascends : (low : ℕ) (es : List ℕ) → Ascends low es → T (ascends key low es)
  unfolding ascends
  says_ascends low [] h = tt
  says_ascends low (e ∷ es) h = and_both (leb low (key e)) (ascends key (key e) es) (le→leb low (key e) h.0) (says_ascends (key e) es h.1)

  -- the last key of a run with one more entry at its end
  pub last_key_snoc : (low : ℕ) (es : List ℕ) (e : ℕ) → last_key key low (es ++ e ∷ []) ≡ key e
  unfolding last_key
  last_key_snoc low [] e = refl
  last_key_snoc low (x ∷ es) e = last_key_snoc (key x) es e

  -- an entry at the end that is no smaller than the last
  pub ascends_snoc : (low : ℕ) (es : List ℕ) (e : ℕ) → Ascends low es → last_key key low es ≤ key e → Ascends low (es ++ e ∷ [])
  unfolding last_key
  ascends_snoc low [] e h b = (b, tt)
  ascends_snoc low (x ∷ es) e h b = (h.0, ascends_snoc (key x) es e h.1 b)

  -- a run whose head has no smaller key than e ascends from e's key on
  pub ascends_raise : (e low : ℕ) (xs : List ℕ) → NotAbove key e xs → Ascends low xs → Ascends (key e) xs
  ascends_raise e low [] l h = tt
  ascends_raise e low (x ∷ xs) l h = (l, h.1)

  -- a run that ascends from a key on does so from any smaller key on
  pub ascends_from : {low low' : ℕ} → low' ≤ low → (es : List ℕ) → Ascends low es → Ascends low' es
  ascends_from l [] h = tt
  ascends_from l (e ∷ es) h = (omega (arith, h.0), h.1)

  -- ---- trees in order

  -- what stands below a buffer whose last key is `low` keeps the order rule
  abbrev pub OrderedBelow : (t : Tree) → ℕ → Below t → Type 0
  OrderedBelow exhausted low b = Unit {0}
  OrderedBelow (buffer n c) low b = Unit {0}
  OrderedBelow (merger n c one two) low b =
      (Ascends low b.0.0 × OrderedBelow one (last_key key low b.0.0) b.0.1) × (Ascends low b.1.0 × OrderedBelow two (last_key key low b.1.0) b.1.1)

  -- the order rule in a whole tree, from the key `low` on
  abbrev pub Ordered : (t : Tree) → ℕ → Contents t → Type 0
  Ordered t low z = Ascends low z.0 × OrderedBelow t (last_key key low z.0) z.1

  -- what the test of the order rule says
  pub ordered_says : (t : Tree) (low : ℕ) (bs : Buffers) → T (ordered key t low bs) → Ordered t low (view t bs)
  unfolding ordered entries below
  ordered_says exhausted low bs h = (tt, tt)
  ordered_says (buffer n c) low bs h = (ascends_says low (get_or bs n []) h, tt)
  ordered_says (merger n c one two) low bs h =
      let es = get_or bs n [] in
      let last = last_key key low es in
      let rest = and_two (ascends key low es) (ordered key one last bs and ordered key two last bs) h in (
        ascends_says low es (and_one (ascends key low es) (ordered key one last bs and ordered key two last bs) h),
        (ordered_says one last bs (and_one (ordered key one last bs) (ordered key two last bs) rest), ordered_says two last bs (and_two (ordered key one last bs) (ordered key two last bs) rest)),
      )

  -- and where it holds the test passes
  pub says_ordered : (t : Tree) (low : ℕ) (bs : Buffers) → Ordered t low (view t bs) → T (ordered key t low bs)
  unfolding ordered entries below
  says_ordered exhausted low bs h = tt
  says_ordered (buffer n c) low bs h = says_ascends low (get_or bs n []) h.0
  says_ordered (merger n c one two) low bs h =
      let es = get_or bs n [] in
      let last = last_key key low es in
      and_both (ascends key low es) (ordered key one last bs and ordered key two last bs) (says_ascends low es h.0)
      (and_both (ordered key one last bs) (ordered key two last bs) (says_ordered one last bs h.1.0) (says_ordered two last bs h.1.1))

  -- from a smaller key on the last key is no larger
  pub last_key_from : {low low' : ℕ} → low' ≤ low → (es : List ℕ) → last_key key low' es ≤ last_key key low es
  unfolding last_key
  last_key_from l [] = l
  last_key_from l (e ∷ es) = omega arith

  below_from : (t : Tree) {low low' : ℕ} → low' ≤ low → (b : Below t) → OrderedBelow t low b → OrderedBelow t low' b
  below_from exhausted l b h = tt
  below_from (buffer n c) l b h = tt
  below_from (merger n c one two) l b h = (
    (ascends_from l b.0.0 h.0.0, below_from one (last_key_from l b.0.0) b.0.1 h.0.1),
    (ascends_from l b.1.0 h.1.0, below_from two (last_key_from l b.1.0) b.1.1 h.1.1),
  )

  -- what is in order from a key on is so from any smaller key on
  pub ordered_from : (t : Tree) {low low' : ℕ} → low' ≤ low → (z : Contents t) → Ordered t low z → Ordered t low' z
  ordered_from t l z h = (ascends_from l z.0 h.0, below_from t (last_key_from l z.0) z.1 h.1)

  none_ascends : (low : ℕ) (es : List ℕ) → length es ≡ 0 → Ascends low es
  none_ascends low [] e = tt
  none_ascends low (x ∷ es) e = absurd (omega arith)

  -- where nothing stands below, the order rule holds from any key on
  pub none_ordered : (t : Tree) (d low : ℕ) (b : Below t) → held_below t d b ≡ 0 → OrderedBelow t low b
  unfolding weight_below
  none_ordered exhausted d low b e = tt
  none_ordered (buffer n c) d low b e = tt
  none_ordered (merger n c one two) d low b e =
      let p = sum_of_ones b.0.0 in
      let q = sum_of_ones b.1.0 in (
        (none_ascends low b.0.0 (omega arith), none_ordered one (suc d) (last_key key low b.0.0) b.0.1 (omega arith)),
        (none_ascends low b.1.0 (omega arith), none_ordered two (suc d) (last_key key low b.1.0) b.1.1 (omega arith)),
      )

  -- a tree with nothing in it is in order
  pub none_all_ordered : (t : Tree) (low : ℕ) (bs : Buffers) → held_in t bs ≡ 0 → Ordered t low (view t bs)
  none_all_ordered t low bs h =
      let e = held_seen t 0 bs in
      (none_ascends low (entries t bs) (omega arith), none_ordered t 0 (last_key key low (entries t bs)) (below t bs) (omega arith))

  -- ---- a run of merge steps keeps the order

  -- an input, what stands below which keeps P
  abbrev pub From : {A : Type 0} → (ℕ → A → Type 0) → ℕ → List ℕ × A → Type 0
  From P low z = Ascends low z.0 × P (last_key key low z.0) z.1

  module _ {A : Type 0} (P : ℕ → A → Type 0) (ha : A → ℕ) (free : (low : ℕ) (a : A) → ha a ≡ 0 → P low a) where
    -- what no head is smaller than may stand before it
    pub raise : (e low : ℕ) (xs : List ℕ) (a : A) → NotAbove key e xs → (length xs ≡ 0 → ha a ≡ 0) → From P low (xs, a) → From P (key e) (xs, a)
    unfolding last_key
    raise e low [] a l d h = (tt, free (key e) a (d refl))
    raise e low (x ∷ xs) a l d h = ((l, h.0.1), h.1)

  module _ {A B : Type 0} (P : ℕ → A → Type 0) (Q : ℕ → B → Type 0) (ha : A → ℕ) (hb : B → ℕ)
      (free_one : (low : ℕ) (a : A) → ha a ≡ 0 → P low a) (free_two : (low : ℕ) (b : B) → hb b ≡ 0 → Q low b) (low : ℕ) where
    -- the output ascends, and the inputs go on from its last key
    pub record InOrder (z : Run A B) : Type 0 where
      pub out : Ascends low z.out
      pub one : From P (last_key key low z.out) z.one
      pub two : From Q (last_key key low z.out) z.two

    abbrev RunOrdered : (List ℕ → List ℕ × A → List ℕ × B → Run A B) → Type 0
    RunOrdered run = (out : List ℕ) (one : List ℕ × A) (two : List ℕ × B)
        → Ascends low out → From P (last_key key low out) one → From Q (last_key key low out) two → InOrder (run out one two)

    module _ (rest : List ℕ → List ℕ × A → List ℕ × B → Run A B) (h : RunOrdered rest) where
      move_ordered : (out : List ℕ) (steps e : ℕ) (one : List ℕ × A) (two : List ℕ × B) → Ascends low out → last_key key low out ≤ key e → From P (key e) one → From Q (key e) two
          → InOrder (more_steps (suc steps) (rest (out ++ e ∷ []) one two))
      move_ordered out steps e one two asc b p q =
          let z = h (out ++ e ∷ []) one two (ascends_snoc low out e asc b) (rw (last_key_snoc low out e) p) (rw (last_key_snoc low out e) q) in
          record { out = z.out; one = z.one; two = z.two }

      step_ordered : (out : List ℕ) (steps : ℕ) (a : A) (b : B) {xs ys : List ℕ} {s : Step} → Stepped key xs ys s → (length xs ≡ 0 → ha a ≡ 0) → (length ys ≡ 0 → hb b ≡ 0)
          → Ascends low out → From P (last_key key low out) (xs, a) → From Q (last_key key low out) (ys, b) → InOrder (step_then rest out steps a b s)
      unfolding step_then last_key
      step_ordered out steps a b stops da db asc p q = record { out = asc; one = p; two = q }
      step_ordered out steps a b (from_first {e = e} {xs = xs} {ys = ys} l) da db asc p q =
          move_ordered out steps e (xs, a) (ys, b) asc p.0.0 (p.0.1, p.1) (raise Q hb free_two e (last_key key low out) ys b l db q)
      step_ordered out steps a b (from_second {e = e} {xs = xs} {ys = ys} l) da db asc p q =
          move_ordered out steps e (xs, a) (ys, b) asc q.0.0 (raise P ha free_one e (last_key key low out) xs a l da p) (q.0.1, q.1)

    run_ordered : (f : List ℕ × A → Refilled A) → Drains ha f → ((l : ℕ) → Fills (From P l) f) → (g : List ℕ × B → Refilled B) → Drains hb g → ((l : ℕ) → Fills (From Q l) g)
        → (room : ℕ) → RunOrdered (merge_into key f g room)
    unfolding merge_into
    run_ordered f df kf g dg kg zero out one two asc p q = record { out = asc; one = p; two = q }
    run_ordered f df kf g dg kg (suc room) out one two asc p q =
        let a = refill f one.0 one.1 in
        let b = refill g two.0 two.1 in
        let last = last_key key low out in
        step_ordered (merge_into key f g room) (run_ordered f df kf g dg kg room) out (a.steps + b.steps) a.contents.1 b.contents.1
        (stepped key a.contents.0 b.contents.0) (refill_drains ha f df one.0 one.1) (refill_drains hb g dg two.0 two.1)
        asc (refill_keeps (From P last) f (kf last) one.0 one.1 p) (refill_keeps (From Q last) g (kg last) two.0 two.1 q)

  -- a fill of contents keeps the order
  pub contents_ordered : {t : Tree} → Roomy t → (low : ℕ) → Fills (Ordered t low) (fill_contents key t)
  unfolding fill_contents
  contents_ordered nothing low z h = h
  contents_ordered alone low z h = h
  contents_ordered (over {n = n} {c = c} {one = one} {two = two} some p q) low z h =
      let r = run_ordered (OrderedBelow one) (OrderedBelow two) (held_below one 0) (held_below two 0) (none_ordered one 0) (none_ordered two 0) low
      (fill_contents key one) (contents_drain key p 0) (contents_ordered p) (fill_contents key two) (contents_drain key q 0) (contents_ordered q)
      (c - length z.0) z.0 z.1.0 z.1.1 h.0 h.1.0 h.1.1 in
      (r.out, (r.one, r.two))

  -- a fill keeps the order rule
  pub fill_ordered : {t : Tree} → Roomy t → (low : ℕ) (bs : Buffers) → Among t (length bs) → T (ordered key t low bs) → T (ordered key t low (fill key t bs).buffers)
  fill_ordered {t} roomy low bs a h =
      says_ordered t low (fill key t bs).buffers
      (subst (λ (r : Refilled (Below t)). Ordered t low r.contents) (sym (fill_seen key t (length bs) a bs refl)) (contents_ordered roomy low (view t bs) (ordered_says t low bs h)))
