-- What the accessors and writers ask and ensure, with a name for each part.
use Rattle.std.specs.Prelude.{◌≡◌, ◌≢◌, ◌⊎◌, ℕ, ◌+◌, ◌≤◌, ◌<◌, List, length, get_or, set}
use Rattle.rules.specs.Links.{all_buffers, book_words, buffer_count, LinkNumber, words}
use Rattle.buffers.specs.Slots.{base, capacity_of}
use Rattle.buffers.specs.Format.{links_in, count_of, start_of, mark_of, many, buffers_of}

-- the array is long enough for its links, and every count and start place is inside its buffer
pub record Inside (ws : List ℕ) : Type 0 where
  pub link : LinkNumber (links_in ws)
  pub long : words (links_in ws) ≤ length ws
  pub fits : (n : ℕ) → n < many ws → start_of ws n + count_of ws n ≤ capacity_of n

-- such an array and a buffer of it; what follows the first two is what they give, by `has`, for the code's sums and places: each has a word in the book, and a count has 16 bits
pub record Has (ws : List ℕ) (n : ℕ) : Type 0 where
  pub array : Inside ws
  pub below : n < many ws
  pub numbered : n < all_buffers
  pub small : 8 + n < book_words
  pub behind : book_words ≤ base n
  pub room : capacity_of n ≤ 65535
  pub slots : base n + capacity_of n ≤ length ws
  pub fits : start_of ws n + count_of ws n ≤ capacity_of n

-- a change that concerns buffer n alone: its word and its slots
pub record Only (ws ws' : List ℕ) (n : ℕ) : Type 0 where
  pub long : length ws' ≡ length ws
  pub outside : (p : ℕ) → p ≢ 8 + n → (base n ≤ p → p < base n + capacity_of n → ⊥) → get_or ws' p 0 ≡ get_or ws p 0

-- buffer n now has the entries es, and nothing else has changed
pub record Now (ws ws' : List ℕ) (n : ℕ) (es : List ℕ) : Type 0 where
  pub array : Inside ws'
  pub only : Only ws ws' n
  pub state : buffers_of ws' ≡ set (buffers_of ws) n es

-- the book's words that mean nothing in a queue of so many links: counters and buffer words of links behind it, and those outside the format
abbrev pub Unused : ℕ → ℕ → Type 0
Unused links p = ((links < p) × (p < 8)) ⊎ ((8 + buffer_count links ≤ p) × (p < book_words))

-- what a change of buffers leaves alone: the length, the link number and the counters, and all words past the stated length
pub record Kept (ws ws' : List ℕ) : Type 0 where
  pub long : length ws' ≡ length ws
  pub front : (p : ℕ) → p < 8 → get_or ws' p 0 ≡ get_or ws p 0
  pub spare : (p : ℕ) → 8 + many ws ≤ p → p < book_words → get_or ws' p 0 ≡ get_or ws p 0
  pub past : (p : ℕ) → words (links_in ws) ≤ p → get_or ws' p 0 ≡ get_or ws p 0

-- what the writers ask beside a buffer: entries to drop, room to grow, room from the first slot on, nothing in it
pub record Dropping (ws : List ℕ) (n m : ℕ) : Type 0 where
  pub of : Has ws n
  pub enough : m ≤ count_of ws n

pub record Growing (ws : List ℕ) (n m : ℕ) : Type 0 where
  pub of : Has ws n
  pub room : start_of ws n + count_of ws n + m ≤ capacity_of n

pub record Laying (ws : List ℕ) (n m : ℕ) : Type 0 where
  pub of : Has ws n
  pub room : m ≤ capacity_of n

pub record Emptied (ws : List ℕ) (n : ℕ) : Type 0 where
  pub of : Has ws n
  pub none : count_of ws n ≡ 0

-- a buffer that has an entry, and the word at which its slots begin
pub record Headed (ws : List ℕ) (n p : ℕ) : Type 0 where
  pub of : Has ws n
  pub begins : p ≡ base n
  pub some : 0 < count_of ws n

-- what becomes of buffer n's mark and start place
pub record Word (ws : List ℕ) (n m s : ℕ) : Type 0 where
  pub mark : mark_of ws n ≡ m
  pub start : start_of ws n ≡ s
