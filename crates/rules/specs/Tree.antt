-- The tree of buffers. A queue's buffers are one binary tree with A(1) at its root; I stands outside it.
use Rattle.std.specs.Prelude.{ℕ, zero, suc, ◌+◌, ◌*◌, max, List, [], ◌∷◌, get_or, set}
use Rattle.rules.specs.Links.{s, levels, first, capacity}

-- every buffer's entries, by the buffer's number
abbrev pub Buffers : Type 0
Buffers = List (List ℕ)

pub data Tree : Type 0 where
  -- an input that counts as exhausted: nothing comes from it
  exhausted : Tree
  -- a buffer that no merger feeds: its number and its capacity
  buffer : ℕ → ℕ → Tree
  -- a merger: the number and the capacity of its output, then its first and its second input
  merger : ℕ → ℕ → Tree → Tree → Tree

-- what stands in the buffer at the top of a tree
unfoldable pub entries : Tree → Buffers → List ℕ
entries exhausted bs = []
entries (buffer n c) bs = get_or bs n []
entries (merger n c one two) bs = get_or bs n []

-- the same buffers with other entries at the top
unfoldable pub put : Tree → List ℕ → Buffers → Buffers
put exhausted es bs = bs
put (buffer n c) es bs = set bs n es
put (merger n c one two) es bs = set bs n es

-- how many mergers stand one below the other, at most
unfoldable pub height_of : Tree → ℕ
height_of exhausted = 0
height_of (buffer n c) = 0
height_of (merger n c one two) = suc (max (height_of one) (height_of two))

-- "Its k-merger is a perfect binary tree over them, left to right, output B(i)": from buffer j downwards, with these capacities level by level, over buffers of size
unfoldable pub perfect : ℕ → ℕ → List ℕ → ℕ → Tree
perfect a size [] j = buffer (a + j) size
perfect a size (c ∷ cs) j = merger (a + j) c (perfect a size cs (2 * j)) (perfect a size cs (suc (2 * j)))

unfoldable pub k_merger : ℕ → Tree
unfolding perfect first s levels
k_merger i = perfect (first i) (s i) (levels i) 1

-- "Merger v(i) has first input B(i), second input A(i+1), output A(i)." So many links from link i on, behind which all counts as exhausted.
unfoldable pub links_from : ℕ → ℕ → Tree
unfolding first capacity k_merger
links_from i zero = exhausted
links_from i (suc n) = merger (first i) (capacity i 0) (k_merger i) (links_from (suc i) n)

-- "In the last link the second input is always empty."
unfoldable pub tree_of : ℕ → Tree
unfolding links_from
tree_of links = links_from 1 links
