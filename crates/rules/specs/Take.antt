-- Takes and looks, one or many, over I and a tree.
use Prim.Native.Nat.{ℕ, zero, suc, ◌+◌}
use Rattle.std.specs.Prelude.{List, [], ◌∷◌, ◌++◌, length, get_or, set}
use Rattle.rules.specs.Tree.{Buffers, Tree, exhausted, buffer, merger, entries, put}
use Rattle.rules.specs.Merge.{Step, stop, move, merge_step}
use Rattle.rules.specs.Fill.{Filled, if_empty, fill}

-- the insertion buffer I has number 0
unfoldable pub insertion : Buffers → List ℕ
insertion bs = get_or bs 0 []

-- what a take hands out, in order; the buffers afterwards; the merge steps made
pub record Taken : Type 0 where
  pub out : List ℕ
  pub buffers : Buffers
  pub steps : ℕ

-- the entry leaves A(1) or I, which keep what is left of them
unfoldable pub hand_out : Tree → Step → Filled → Taken
unfolding put
hand_out tree stop now = record { out = []; buffers = now.buffers; steps = now.steps }
hand_out tree (move e xs ys) now = record { out = e ∷ []; buffers = set (put tree xs now.buffers) 0 ys; steps = now.steps }

-- how many entries stand in a tree
unfoldable pub held_in : Tree → Buffers → ℕ
held_in exhausted bs = 0
held_in (buffer n c) bs = length (get_or bs n [])
held_in (merger n c one two) bs = length (get_or bs n []) + (held_in one bs + held_in two bs)

module _ (key : ℕ → ℕ) where
  -- "if A(1) is empty, fill v(1)"
  unfoldable pub ready : Tree → Buffers → Filled
  unfolding if_empty fill entries
  ready tree bs = if_empty (fill key tree) (entries tree bs) bs

  -- "Hand out the smaller of the heads of A(1) and I; at equality A(1)'s.": the merge step of A(1) and I
  unfoldable pub take_one : Tree → Buffers → Taken
  unfolding ready hand_out merge_step entries insertion
  take_one tree bs =
      let now = ready tree bs in
      hand_out tree (merge_step key (entries tree now.buffers) (insertion now.buffers)) now

  -- so many takes
  unfoldable pub takes : Tree → ℕ → Buffers → Taken
  unfolding take_one
  takes tree zero bs = record { out = []; buffers = bs; steps = 0 }
  takes tree (suc n) bs =
      let one = take_one tree bs in
      let rest = takes tree n one.buffers in
      record { out = one.out ++ rest.out; buffers = rest.buffers; steps = one.steps + rest.steps }

  -- "take everything out by repeated takes": all that stands in I and in the tree
  unfoldable pub take_all : Tree → Buffers → Taken
  unfolding takes held_in insertion
  take_all tree bs = takes tree (length (insertion bs) + held_in tree bs) bs
