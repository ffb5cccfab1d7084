-- What placing an entry in I asks.
use Rattle.std.specs.Prelude.{ℕ, ◌+◌, ◌≤◌, ◌<◌, List, length}
use Rattle.rules.specs.Links.{book_words}
use Rattle.buffers.specs.Format.{start_of, count_of}
use Rattle.buffers.specs.Post.{Has}

-- so many entries from a place on, and a slot more than they take
pub record Holds (slots : List ℕ) (start count : ℕ) : Type 0 where
  pub inside : start + count ≤ length slots
  pub free : count < length slots

-- I has at most seven entries; what follows is what that gives, by `placing`, for the code's places
pub record Placing (ws : List ℕ) : Type 0 where
  pub of : Has ws 0
  pub few : count_of ws 0 ≤ 7
  pub inside : start_of ws 0 + count_of ws 0 ≤ 8
  pub long : book_words + 8 ≤ length ws
