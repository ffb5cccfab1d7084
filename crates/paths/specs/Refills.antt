-- A path's buffers, refilled from two runs that are joined.
use Rattle.std.specs.Prelude.{◌≡◌, ◌≢◌, ℕ, ◌+◌, ◌-◌, ◌≤◌, ◌<◌, List, length, get_or, take, drop}
use Rattle.rules.specs.Links.{sum, path_room}
use Rattle.rules.specs.Merge.{join}
use Rattle.rules.specs.Sweep.{refill_path}
use Rattle.buffers.specs.Slots.{capacity_of}
use Rattle.buffers.specs.Format.{many, word_of, buffers_of}
use Rattle.buffers.specs.Post.{Inside, Has, Now, Word, Kept}
use Rattle.paths.specs.Along.{OnPath}

-- room for m entries of the joined runs, which have so many
pub record Filling (ws : List ℕ) (n m : ℕ) (xs ys : List ℕ) : Type 0 where
  pub of : Has ws n
  pub room : m ≤ capacity_of n
  pub enough : m ≤ length xs + length ys

-- buffer n has the first m; what is left of the joined run is the joining of what is left of the runs, r entries of the first being gone
pub record Filled (key : ℕ → ℕ) (ws ws' : List ℕ) (n m : ℕ) (xs ys : List ℕ) (r : ℕ) : Type 0 where
  pub holds : Now ws ws' n (take m (join key xs ys))
  pub word : Word ws' n 0 0
  pub of_first : r ≤ length xs
  pub of_both : r ≤ m
  pub of_second : m - r ≤ length ys
  pub rest : drop m (join key xs ys) ≡ join key (drop r xs) (drop (m - r) ys)

-- room for all of them
pub record Ending (ws : List ℕ) (n : ℕ) (xs ys : List ℕ) : Type 0 where
  pub of : Has ws n
  pub room : length xs + length ys ≤ capacity_of n

pub record Ended (key : ℕ → ℕ) (ws ws' : List ℕ) (n : ℕ) (xs ys : List ℕ) : Type 0 where
  pub holds : Now ws ws' n (join key xs ys)
  pub word : Word ws' n 0 0

-- a path of n buffers with their noted counts: every one but the last has room for its count, and the last for the rest
pub record Refilling (ws ns cs : List ℕ) (n : ℕ) (xs ys : List ℕ) : Type 0 where
  pub path : OnPath ws ns n
  pub some : 1 ≤ n
  pub noted : length cs ≡ path_room
  pub fits : (t : ℕ) → t + 1 < n → get_or cs t 0 ≤ capacity_of (get_or ns t 0)
  pub enough : sum (take (n - 1) cs) ≤ length xs + length ys
  pub room : length xs + length ys ≤ sum (take (n - 1) cs) + capacity_of (get_or ns (n - 1) 0)

-- the path's buffers are refilled and begin at their first slots, without a mark; no other buffer's word has changed
pub record Refilled (key : ℕ → ℕ) (ws ws' ns cs : List ℕ) (n : ℕ) (xs ys : List ℕ) : Type 0 where
  pub array : Inside ws'
  pub kept : Kept ws ws'
  pub state : buffers_of ws' ≡ refill_path (take n ns) (take n cs) (join key xs ys) (buffers_of ws)
  pub words : (t : ℕ) → t < n → Word ws' (get_or ns t 0) 0 0
  pub others : (m : ℕ) → m < many ws → ((t : ℕ) → t < n → m ≢ get_or ns t 0) → word_of ws' m ≡ word_of ws m
