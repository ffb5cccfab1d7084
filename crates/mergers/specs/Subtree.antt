-- The part of the tree below link i's buffer j, where links behind `last` count as exhausted; and which buffers feed it.
use Rattle.std.specs.Prelude.{ℕ, zero, suc, ◌+◌, ◌-◌, ◌*◌, drop}
use Rattle.rules.specs.Links.{s, levels, first, depth_of}
use Rattle.rules.specs.Tree.{Tree, height_of, perfect, links_from}

unfoldable pub subtree : ℕ → ℕ → ℕ → Tree
unfolding links_from perfect first s levels depth_of
subtree last i zero = links_from i (suc last - i)
subtree last i (suc j) = perfect (first i) (s i) (drop (depth_of (suc j)) (levels i)) (suc j)

-- the height below link i's buffer j
abbrev pub height_below : ℕ → ℕ → ℕ → ℕ
height_below last i j = height_of (subtree last i j)

-- "Merger v(i) has first input B(i), second input A(i+1), output A(i)."; below, the merger with output j has the inputs 2j and 2j + 1
abbrev pub first_input : ℕ → ℕ
first_input zero = 1
first_input (suc j) = 2 * suc j

abbrev pub second_input : ℕ → ℕ
second_input zero = 0
second_input (suc j) = 2 * suc j + 1

abbrev pub second_link : ℕ → ℕ → ℕ
second_link i zero = suc i
second_link i (suc j) = i
