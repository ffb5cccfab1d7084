-- One law for every sum over the entries of a tree: how often a value stands in it, how many entries it has, and the account of the merge steps.
use Prim.Native.Nat.{ℕ, zero, suc, ◌+◌, ◌-◌, ◌*◌}
use mathlib.Core.Path.{◌≡◌, refl, sym, ap}
use mathlib.Core.Bool.{Bool, true, false}
use mathlib.Core.List.{List, [], ◌∷◌, ◌++◌}
use native.Mathlib.Omega.{arith}
use lib.ListN.{length, get_or}
use lib.Dec.{eqb}
use Rattle.rules.specs.Tree.{Buffers, Tree, exhausted, buffer, merger, entries}
use Rattle.rules.specs.Merge.{Step}
use Rattle.rules.specs.Fill.{fill}
use Rattle.rules.specs.Take.{held_in}
use Rattle.rules.proofs.Steps.{Stepped, stops, from_first, from_second, stepped}
use Rattle.rules.proofs.Numbers.{Among}
use Rattle.rules.proofs.Contents.{Below, Contents, below, view, Refilled, Run, refill, step_then, merge_into, fill_contents}
use Rattle.rules.proofs.Lens.{fill_seen}

-- ---- sums over a run

-- what the entries of a run weigh together
abbrev pub sum_of : (ℕ → ℕ) → List ℕ → ℕ
sum_of w [] = 0
sum_of w (e ∷ es) = w e + sum_of w es

-- one run behind another
pub sum_of_append : (w : ℕ → ℕ) (xs ys : List ℕ) → sum_of w (xs ++ ys) ≡ sum_of w xs + sum_of w ys
sum_of_append w [] ys = omega arith
sum_of_append w (x ∷ xs) ys = omega (arith, sum_of_append w xs ys)

-- each entry 1: the length
pub sum_of_ones : (es : List ℕ) → sum_of (λ e. 1) es ≡ length es
sum_of_ones [] = refl
sum_of_ones (e ∷ es) = omega (arith, sum_of_ones es)

-- each entry d: d times the length
pub sum_of_same : (d : ℕ) (es : List ℕ) → sum_of (λ e. d) es ≡ d * length es
sum_of_same d [] = omega arith
sum_of_same d (e ∷ es) = omega (arith, sum_of_same d es)

-- ---- weights of a tree: `g d e` is what entry e weighs at depth d

-- what the entries of a tree weigh, its top at depth d
unfoldable pub weight_in : (ℕ → ℕ → ℕ) → Tree → ℕ → Buffers → ℕ
weight_in g exhausted d bs = 0
weight_in g (buffer n c) d bs = sum_of (g d) (get_or bs n [])
weight_in g (merger n c one two) d bs = sum_of (g d) (get_or bs n []) + (weight_in g one (suc d) bs + weight_in g two (suc d) bs)

-- of what stands below the top, which is at depth d
unfoldable pub weight_below : (ℕ → ℕ → ℕ) → (t : Tree) → ℕ → Below t → ℕ
weight_below g exhausted d b = 0
weight_below g (buffer n c) d b = 0
weight_below g (merger n c one two) d b =
    (sum_of (g (suc d)) b.0.0 + weight_below g one (suc d) b.0.1) + (sum_of (g (suc d)) b.1.0 + weight_below g two (suc d) b.1.1)

-- of all contents
abbrev pub weight : (ℕ → ℕ → ℕ) → (t : Tree) → ℕ → Contents t → ℕ
weight g t d z = sum_of (g d) z.0 + weight_below g t d z.1

-- seen through the tree
pub weight_seen : (g : ℕ → ℕ → ℕ) (t : Tree) (d : ℕ) (bs : Buffers) → weight_in g t d bs ≡ weight g t d (view t bs)
unfolding weight_in weight_below entries below
weight_seen g exhausted d bs = refl
weight_seen g (buffer n c) d bs = omega arith
weight_seen g (merger n c one two) d bs = omega (arith, weight_seen g one (suc d) bs, weight_seen g two (suc d) bs)

-- ---- the law, on contents

module _ (e : ℕ) {A : Type 0} (w : ℕ → ℕ) (below : A → ℕ) where
  -- what is lost in weight is e for each step
  abbrev Pays : (List ℕ × A → Refilled A) → Type 0
  Pays f = (z : List ℕ × A) → let r = f z in sum_of w r.contents.0 + below r.contents.1 + e * r.steps ≡ sum_of w z.0 + below z.1

  -- so does a fill that is made only where the input is empty
  pub refill_pays : (f : List ℕ × A → Refilled A) → Pays f → (es : List ℕ) (a : A)
      → let r = refill f es a in sum_of w r.contents.0 + below r.contents.1 + e * r.steps ≡ sum_of w es + below a
  unfolding refill
  refill_pays f h [] a = h ([], a)
  refill_pays f h (x ∷ es) a = omega arith

-- an entry weighs e more in an input than in the output
module _ (e : ℕ) {A B : Type 0} (up low : ℕ → ℕ) (falls : (x : ℕ) → low x ≡ up x + e) (wa : A → ℕ) (wb : B → ℕ) where
  abbrev whole : Run A B → ℕ
  whole z = sum_of up z.out + (sum_of low z.one.0 + wa z.one.1) + (sum_of low z.two.0 + wb z.two.1) + e * z.steps

  abbrev RunPays : (List ℕ → List ℕ × A → List ℕ × B → Run A B) → Type 0
  RunPays run = (out : List ℕ) (one : List ℕ × A) (two : List ℕ × B)
      → whole (run out one two) ≡ sum_of up out + (sum_of low one.0 + wa one.1) + (sum_of low two.0 + wb two.1)

  step_pays : (rest : List ℕ → List ℕ × A → List ℕ × B → Run A B) → RunPays rest → (key : ℕ → ℕ) (out : List ℕ) (steps : ℕ) (a : A) (b : B)
      → {xs ys : List ℕ} {s : Step} → Stepped key xs ys s → whole (step_then rest out steps a b s) ≡ sum_of up out + (sum_of low xs + wa a) + (sum_of low ys + wb b) + e * steps
  unfolding step_then
  step_pays rest h key out steps a b stops = refl
  step_pays rest h key out steps a b (from_first {e = x} {xs = xs} {ys = ys} l) = omega (arith, h (out ++ x ∷ []) (xs, a) (ys, b), sum_of_append up out (x ∷ []), falls x)
  step_pays rest h key out steps a b (from_second {e = x} {xs = xs} {ys = ys} l) = omega (arith, h (out ++ x ∷ []) (xs, a) (ys, b), sum_of_append up out (x ∷ []), falls x)

  run_pays : (key : ℕ → ℕ) (f : List ℕ × A → Refilled A) → Pays e low wa f → (g : List ℕ × B → Refilled B) → Pays e low wb g
      → (room : ℕ) → RunPays (merge_into key f g room)
  unfolding merge_into
  run_pays key f hf g hg zero out one two = omega arith
  run_pays key f hf g hg (suc room) out one two =
      let a = refill f one.0 one.1 in
      let b = refill g two.0 two.1 in
      omega (
        arith,
        step_pays (merge_into key f g room) (run_pays key f hf g hg room) key out (a.steps + b.steps) a.contents.1 b.contents.1
            (stepped key a.contents.0 b.contents.0),
        refill_pays e low wa f hf one.0 one.1,
        refill_pays e low wb g hg two.0 two.1,
      )

module _ (g : ℕ → ℕ → ℕ) (e : ℕ) (deeper : (d x : ℕ) → g (suc d) x ≡ g d x + e) (key : ℕ → ℕ) where
  -- a fill of contents
  pub contents_pay : (t : Tree) (d : ℕ) → Pays e (g d) (weight_below g t d) (fill_contents key t)
  unfolding fill_contents weight_below
  contents_pay exhausted d z = omega arith
  contents_pay (buffer n c) d z = omega arith
  contents_pay (merger n c one two) d z =
      omega (
        arith,
        run_pays e (g d) (g (suc d)) (deeper d) (weight_below g one (suc d)) (weight_below g two (suc d)) key
            (fill_contents key one) (contents_pay one (suc d)) (fill_contents key two) (contents_pay two (suc d))
            (c - length z.0) z.0 z.1.0 z.1.1,
      )

  -- where an entry weighs e more at each level below, a fill lowers the weight by e for each merge step
  pub fill_pays : (t : Tree) (d : ℕ) (bs : Buffers) → Among t (length bs) → weight_in g t d (fill key t bs).buffers + e * (fill key t bs).steps ≡ weight_in g t d bs
  fill_pays t d bs a =
      let z = fill key t bs in
      let seen : weight g t d (view t z.buffers) + e * z.steps ≡ weight g t d (fill_contents key t (view t bs)).contents + e * (fill_contents key t (view t bs)).steps =
      ap (λ (r : Refilled (Below t)). weight g t d r.contents + e * r.steps) (fill_seen key t (length bs) a bs refl) in
      omega (arith, seen, contents_pay t d (view t bs), weight_seen g t d z.buffers, weight_seen g t d bs)

-- ---- what it says of values, of numbers held and of steps

-- 1 where a test holds
abbrev pub one_if : Bool → ℕ
one_if true = 1
one_if false = 0

-- how often a value stands in a run; in a tree
abbrev pub times_of : ℕ → List ℕ → ℕ
times_of v = sum_of (λ e. one_if (eqb v e))

-- and in a tree
abbrev pub times_in : ℕ → Tree → Buffers → ℕ
times_in v t bs = weight_in (λ d e. one_if (eqb v e)) t 0 bs

-- the steps owed: each entry owes its depth
abbrev pub owed_in : Tree → Buffers → ℕ
owed_in t bs = weight_in (λ d e. d) t 0 bs

-- the number held is a weight
pub held_weight : (t : Tree) (d : ℕ) (bs : Buffers) → held_in t bs ≡ weight_in (λ d e. 1) t d bs
unfolding held_in weight_in
held_weight exhausted d bs = refl
held_weight (buffer n c) d bs = sym (sum_of_ones (get_or bs n []))
held_weight (merger n c one two) d bs = omega (arith, sum_of_ones (get_or bs n []), held_weight one (suc d) bs, held_weight two (suc d) bs)

module _ (key : ℕ → ℕ) (t : Tree) (bs : Buffers) (a : Among t (length bs)) where
  -- a fill keeps every entry: each value stands in the tree as often as before
  pub fill_times : (v : ℕ) → times_in v t (fill key t bs).buffers ≡ times_in v t bs
  fill_times v = omega (arith, fill_pays (λ d e. one_if (eqb v e)) 0 (λ d e. omega arith) key t 0 bs a)

  -- as many entries are held
  pub fill_held : held_in t (fill key t bs).buffers ≡ held_in t bs
  fill_held = omega (arith, fill_pays (λ d e. 1) 0 (λ d e. omega arith) key t 0 bs a, held_weight t 0 bs, held_weight t 0 (fill key t bs).buffers)

  -- the account: the merge steps made and those owed after are those owed before
  pub fill_owed : (fill key t bs).steps + owed_in t (fill key t bs).buffers ≡ owed_in t bs
  fill_owed = omega (arith, fill_pays (λ d e. d) 1 (λ d e. omega arith) key t 0 bs a)
