-- A path's buffers, read: where they lie, their counts, and the run along them.
use Rattle.std.specs.Prelude.{◌≡◌, ℕ, ◌+◌, ◌*◌, ◌≤◌, ◌<◌, List, length, get_or, take, drop}
use Rattle.rules.specs.Links.{k, first, all_buffers, path_room, LinkNumber}
use Rattle.rules.specs.Sweep.{counts, run_along}
use Rattle.buffers.specs.Format.{count_of, many, buffers_of}
use Rattle.buffers.specs.Post.{Inside, Has}
use Rattle.runs.specs.Promises.{laid_at}

-- a buffer of a link
pub record Number (n : ℕ) : Type 0 where
  pub low : 1 ≤ n
  pub few : n < all_buffers

pub record LinkOf (n i : ℕ) : Type 0 where
  pub link : LinkNumber i
  pub low : first i ≤ n
  pub high : n < first i + 2 * k i

-- the first n numbers of ns are buffers of the array
pub record OnPath (ws ns : List ℕ) (n : ℕ) : Type 0 where
  pub array : Inside ws
  pub long : length ns ≡ path_room
  pub few : n ≤ path_room
  pub each : (t : ℕ) → t < n → get_or ns t 0 < many ws

pub record Noting (ws ns : List ℕ) (n : ℕ) (cs : List ℕ) : Type 0 where
  pub path : OnPath ws ns n
  pub room : length cs ≡ path_room

pub record Noted (ws ns : List ℕ) (n : ℕ) (cs : List ℕ) : Type 0 where
  pub long : length cs ≡ path_room
  pub are : take n cs ≡ counts (take n ns) (buffers_of ws)

-- a buffer, and room for its entries
pub record Copying (ws : List ℕ) (n : ℕ) (work : List ℕ) (at : ℕ) : Type 0 where
  pub of : Has ws n
  pub room : at + count_of ws n ≤ length work

-- a run is laid at a place
pub record Copied (run work work' : List ℕ) (at r : ℕ) : Type 0 where
  pub many : r ≡ length run
  pub laid : work' ≡ laid_at work at run

-- the run along the first n buffers of a path, from one place of it on
abbrev pub along_from : List ℕ → List ℕ → ℕ → ℕ → List ℕ
along_from ws ns from n = run_along (drop from (take n ns)) (buffers_of ws)

pub record Gathering (ws ns : List ℕ) (from n : ℕ) (work : List ℕ) (at : ℕ) : Type 0 where
  pub path : OnPath ws ns n
  pub inside : from ≤ n
  pub room : at + length (along_from ws ns from n) ≤ length work
