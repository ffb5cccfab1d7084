-- A run laid into the S of the last link, all other buffers being emptied.
use Rattle.std.specs.Prelude.{◌≡◌, ℕ, ◌≤◌, ◌<◌, List, [], length, take, replicate}
use Rattle.rules.specs.Links.{book_words, LinkNumber}
use Rattle.rules.specs.Sweep.{laid_out}
use Rattle.buffers.specs.Slots.{capacity_of}
use Rattle.buffers.specs.Format.{links_in, many, buffers_of}
use Rattle.buffers.specs.Post.{Inside, Has, Word, Kept}

-- a buffer, and room in it for a run
pub record Lays (ws : List ℕ) (n : ℕ) (run : List ℕ) : Type 0 where
  pub of : Has ws n
  pub room : length run ≤ capacity_of n

pub record Emptying (ws : List ℕ) (end : ℕ) : Type 0 where
  pub array : Inside ws
  pub inside : end ≤ many ws
  pub few : end ≤ book_words

-- the buffers before the end-th are empty and have no mark
pub record Empty (ws ws' : List ℕ) (end : ℕ) : Type 0 where
  pub array : Inside ws'
  pub kept : Kept ws ws'
  pub none : take end (buffers_of ws') ≡ replicate end []
  pub words : (n : ℕ) → n < end → Word ws' n 0 0

pub record LayingOut (ws : List ℕ) (links : ℕ) : Type 0 where
  pub array : Inside ws
  pub of : links_in ws ≡ links
  pub link : LinkNumber links

-- the buffers are the rules'; each begins at its first slot, without a mark
pub record LaidOut (ws ws' : List ℕ) (links : ℕ) (run : List ℕ) : Type 0 where
  pub array : Inside ws'
  pub kept : Kept ws ws'
  pub state : buffers_of ws' ≡ laid_out links run
  pub words : (n : ℕ) → n < many ws → Word ws' n 0 0
