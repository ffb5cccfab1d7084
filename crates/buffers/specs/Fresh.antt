-- What setup writes into the book.
use Rattle.std.specs.Prelude.{◌≡◌, List, ℕ, ◌+◌, ◌≤◌, ◌<◌, length, get_or}
use Rattle.rules.specs.Links.{LinkNumber, buffer_count, words}
use Rattle.buffers.specs.Format.{links_in, counter_in, word_of}

-- every word from one place up to another is w now, and no other word has changed
pub record Written (ws ws' : List ℕ) (at end w : ℕ) : Type 0 where
  pub long : length ws' ≡ length ws
  pub there : (p : ℕ) → at ≤ p → p < end → get_or ws' p 0 ≡ w
  pub elsewhere : (p : ℕ) → (at ≤ p → p < end → ⊥) → get_or ws' p 0 ≡ get_or ws p 0

-- a link number, and an array that is long enough for its links
pub record CanBegin (ws : List ℕ) (links : ℕ) : Type 0 where
  pub link : LinkNumber links
  pub enough : words links ≤ length ws

-- "Setup empties all buffers and makes every c equal to 1": every start place is 0 and no buffer has a mark; words outside the format stay as they are
pub record Begun (ws ws' : List ℕ) (links : ℕ) : Type 0 where
  pub long : length ws' ≡ length ws
  pub number : links_in ws' ≡ links
  pub counters : (i : ℕ) → 1 ≤ i → i ≤ links → counter_in ws' i ≡ 1
  pub buffers : (n : ℕ) → n < buffer_count links → word_of ws' n ≡ 0
  pub between : (p : ℕ) → links < p → p < 8 → get_or ws' p 0 ≡ get_or ws p 0
  pub behind : (p : ℕ) → 8 + buffer_count links ≤ p → get_or ws' p 0 ≡ get_or ws p 0
