-- The counters in the book: what reading and writing them asks and ensures.
use Rattle.std.specs.Prelude.{◌≡◌, List, ℕ, ◌≤◌, ◌<◌, length, get_or}
use Rattle.rules.specs.Links.{most_links, book_words}
use Rattle.buffers.specs.Format.{links_in, counter_in}
use Rattle.buffers.specs.Post.{Inside}

-- an array, and a link of it; what follows is what that gives, by `has_counter`, for the code's places
pub record HasCounter (ws : List ℕ) (i : ℕ) : Type 0 where
  pub array : Inside ws
  pub low : 1 ≤ i
  pub high : i ≤ links_in ws
  pub small : i ≤ most_links
  pub long : book_words ≤ length ws

-- c(i) is c, those before it are 1, and no other word has changed
pub record CounterPut (ws ws' : List ℕ) (i c : ℕ) : Type 0 where
  pub long : length ws' ≡ length ws
  pub at : counter_in ws' i ≡ c
  pub before : (m : ℕ) → 1 ≤ m → m < i → counter_in ws' m ≡ 1
  pub zeroth : links_in ws' ≡ links_in ws
  pub behind : (p : ℕ) → i < p → get_or ws' p 0 ≡ get_or ws p 0
