-- Filling: a recursive walk down the merger tree.
use Prim.Native.Nat.{ℕ, zero, suc, ◌+◌, ◌-◌}
use Rattle.std.specs.Prelude.{List, [], ◌∷◌, ◌++◌, get_or, set}
use Rattle.std.proofs.Math.ListN.{length}
use Rattle.rules.specs.Tree.{Buffers, Tree, exhausted, buffer, merger, entries, put}
use Rattle.rules.specs.Merge.{Step, stop, move, merge_step}

-- the buffers afterwards, and the merge steps made
pub record Filled : Type 0 where
  pub buffers : Buffers
  pub steps : ℕ

unfoldable pub untouched : Buffers → Filled
untouched bs = record { buffers = bs; steps = 0 }

-- "fill an empty first input if a merger feeds it, then likewise the second": fill runs where the input's entries are none
unfoldable pub if_empty : (Buffers → Filled) → List ℕ → Buffers → Filled
unfolding untouched
if_empty fill [] bs = fill bs
if_empty fill (e ∷ es) bs = untouched bs

-- the entry goes to the end of the output; the inputs keep what is left of them
unfoldable pub move_up : ℕ → Tree → Tree → ℕ → List ℕ → List ℕ → Buffers → Buffers
unfolding put
move_up out one two e xs ys bs = put two ys (put one xs (set bs out (get_or bs out [] ++ e ∷ [])))

-- "then one merge step. If both are still empty, stop.": with so many steps made already, and then the rest of the filling
unfoldable pub step_and : (Buffers → Filled) → ℕ → Tree → Tree → ℕ → Step → Buffers → Filled
unfolding move_up
step_and rest out one two steps stop bs = record { buffers = bs; steps = steps }
step_and rest out one two steps (move e xs ys) bs =
    let after = rest (move_up out one two e xs ys bs) in
    record { buffers = after.buffers; steps = suc steps + after.steps }

module _ (key : ℕ → ℕ) where
  -- "while its output is not full": with room for so many more
  unfoldable pub fill_room : (Buffers → Filled) → (Buffers → Filled) → ℕ → Tree → Tree → ℕ → Buffers → Filled
  unfolding untouched if_empty step_and merge_step entries
  fill_room fill_one fill_two out one two zero bs = untouched bs
  fill_room fill_one fill_two out one two (suc room) bs =
      let first = if_empty fill_one (entries one bs) bs in
      let second = if_empty fill_two (entries two first.buffers) first.buffers in
      let now = second.buffers in
      step_and (fill_room fill_one fill_two out one two room) out one two (first.steps + second.steps) (merge_step key (entries one now) (entries two now)) now

  -- "Fill a merger: while its output is not full, fill an empty first input if a merger feeds it, then likewise the second; then one merge step."
  unfoldable pub fill : Tree → Buffers → Filled
  unfolding untouched fill_room
  fill exhausted bs = untouched bs
  fill (buffer n c) bs = untouched bs
  fill (merger n c one two) bs = fill_room (fill one) (fill two) n one two (c - length (get_or bs n [])) bs
