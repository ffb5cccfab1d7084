-- All lines are read. Then it is known whether there were more than 4,096; else the first that is no pair, by its number; else all pairs.
use Rattle.std.specs.Prelude.{List, [], ◌∷◌, ◌++◌, map, ◌≡◌, ℕ, ◌+◌, ◌≤◌, length, take, Option, None, Some}
use Rattle.frames.specs.Answers.{Back, done, refused}
use Rattle.lateness.specs.Pairs.{Pair, pairs_of}
use Rattle.pairs.specs.State.{State, Room}

-- a line with this number: told if it is no pair, else it leaves the answer to the rest
unfoldable pub wrong_at : ℕ → List Pair → Option ℕ → Option ℕ
wrong_at n [] rest = Some n
wrong_at n (p ∷ ps) rest = rest

unfoldable pub wrong_from : ℕ → List (Back Pair) → Option ℕ
wrong_from n [] = None
wrong_from n (read ∷ reads) = wrong_at n read.values (wrong_from (n + 1) reads)

-- the number of the first that is no pair, counted from 1; none where all are
abbrev pub first_wrong : List (Back Pair) → Option ℕ
first_wrong reads = wrong_from 1 reads

-- the first n pairs of the arrays
abbrev pub first_pairs : ℕ → State → List Pair
first_pairs n s = pairs_of (take n s.due) (take n s.acting) (take n s.doors)

pub record Kept (reads : List (Back Pair)) (s : State) : Type 0 where
  pub counted : s.lines ≡ length (take 4097 reads)
  pub first : s.wrong ≡ first_wrong (take 4096 reads)
  pub pairs : s.wrong ≡ None → map done (first_pairs (length (take 4096 reads)) s) ≡ take 4096 reads
  pub room : Room s.due s.acting s.doors

-- all before are pairs, and then one is not
pub record WrongBehind (reads : List (Back Pair)) (before : ℕ) : Type 0 where
  pub pairs : List Pair
  pub rest : List (Back Pair)
  pub count : length pairs ≡ before
  pub split : reads ≡ map done pairs ++ (refused ∷ rest)

-- nothing that is told differs: the number of lines, the first wrong one, and the pairs where all lines are pairs and not too many
pub record Alike (s t : State) : Type 0 where
  pub lines : s.lines ≡ t.lines
  pub wrong : s.wrong ≡ t.wrong
  pub pairs : s.wrong ≡ None → s.lines ≤ 4096 → first_pairs s.lines s ≡ first_pairs t.lines t
