-- What stands in a tree, as a tree: the entries of its top buffer, and what stands below it; and a fill of that.
use Prim.Native.Nat.{ℕ, zero, suc, ◌+◌, ◌-◌}
use mathlib.Core.List.{List, [], ◌∷◌, ◌++◌}
use lib.ListN.{length}
use Rattle.rules.specs.Tree.{Buffers, Tree, exhausted, buffer, merger, entries}
use Rattle.rules.specs.Merge.{Step, stop, move, merge_step}

-- what stands below the top buffer
abbrev pub Below : Tree → Type 0
Below exhausted = Unit {0}
Below (buffer n c) = Unit {0}
Below (merger n c one two) = (List ℕ × Below one) × (List ℕ × Below two)

-- the entries of the top buffer, and what stands below it
abbrev pub Contents : Tree → Type 0
Contents t = List ℕ × Below t

-- what the buffers show below the top
unfoldable pub below : (t : Tree) → Buffers → Below t
below exhausted bs = tt
below (buffer n c) bs = tt
below (merger n c one two) bs = ((entries one bs, below one bs), (entries two bs, below two bs))

-- what the buffers show of a tree
abbrev pub view : (t : Tree) → Buffers → Contents t
view t bs = (entries t bs, below t bs)

-- what a fill leaves, and the merge steps made
pub record Refilled (A : Type 0) : Type 0 where
  pub contents : List ℕ × A
  pub steps : ℕ

-- what a run of merge steps leaves of the output and of the two inputs, and how many there were
pub record Run (A B : Type 0) : Type 0 where
  pub out : List ℕ
  pub one : List ℕ × A
  pub two : List ℕ × B
  pub steps : ℕ

-- so many steps more
abbrev pub more_steps : {A B : Type 0} → ℕ → Run A B → Run A B
more_steps n z = record { out = z.out; one = z.one; two = z.two; steps = n + z.steps }

-- an input is filled where it has no entries
unfoldable pub refill : {A : Type 0} → (List ℕ × A → Refilled A) → List ℕ → A → Refilled A
refill fill [] a = fill ([], a)
refill fill (e ∷ es) a = record { contents = (e ∷ es, a); steps = 0 }

-- one merge step and then the rest of the filling; a and b stand below the inputs
unfoldable pub step_then : {A B : Type 0} → (List ℕ → List ℕ × A → List ℕ × B → Run A B) → List ℕ → ℕ → A → B → Step → Run A B
step_then rest out steps a b stop = record { out = out; one = ([], a); two = ([], b); steps = steps }
step_then rest out steps a b (move e xs ys) = more_steps (suc steps) (rest (out ++ e ∷ []) (xs, a) (ys, b))

module _ (key : ℕ → ℕ) where
  -- "while its output is not full": with room for so many more
  unfoldable pub merge_into : {A B : Type 0} → (List ℕ × A → Refilled A) → (List ℕ × B → Refilled B) → ℕ → List ℕ → List ℕ × A → List ℕ × B → Run A B
  unfolding refill step_then merge_step
  merge_into fill_one fill_two zero out one two = record { out = out; one = one; two = two; steps = 0 }
  merge_into fill_one fill_two (suc room) out one two =
      let first = refill fill_one one.0 one.1 in
      let second = refill fill_two two.0 two.1 in
      step_then (merge_into fill_one fill_two room) out (first.steps + second.steps) first.contents.1 second.contents.1
      (merge_step key first.contents.0 second.contents.0)

  -- "Fill a merger"
  unfoldable pub fill_contents : (t : Tree) → Contents t → Refilled (Below t)
  unfolding merge_into
  fill_contents exhausted t = record { contents = t; steps = 0 }
  fill_contents (buffer n c) t = record { contents = t; steps = 0 }
  fill_contents (merger n c one two) t =
      let z = merge_into (fill_contents one) (fill_contents two) (c - length t.0) t.0 t.1.0 t.1.1 in
      record { contents = (z.out, (z.one, z.two)); steps = z.steps }
