-- A path in an array: what asks for it, and what is then known of it.
use Rattle.std.specs.Prelude.{◌≡◌, ℕ, ◌-◌, ◌≤◌, List, length, take, map}
use Rattle.paths.specs.declared.Step.{Step}
use Rattle.rules.specs.Links.{k, path_room, book_words, LinkNumber}
use Rattle.rules.specs.Sweep.{outputs, path}

-- the buffers of some steps, by their numbers, and the counts noted on them
abbrev pub numbers_of : List Step → List ℕ
numbers_of steps = map (λ (step : Step). step.buffer) steps

abbrev pub counts_of : List Step → List ℕ
counts_of steps = map (λ (step : Step). step.count) steps

-- an S of a link; each buffer has a word in the book, so that the code's sums fit
pub record Ends (i j : ℕ) : Type 0 where
  pub link : LinkNumber i
  pub low : 1 ≤ j
  pub high : j ≤ k i
  pub few : k i ≤ book_words

pub record OutputsAre (i : ℕ) (ns : List ℕ) : Type 0 where
  pub long : length ns ≡ path_room
  pub begins : take (i - 1) ns ≡ outputs 1 (i - 1)

-- the first r numbers of ns are the path to S(i,j)
pub record PathIs (i j : ℕ) (ns : List ℕ) (r : ℕ) : Type 0 where
  pub long : length ns ≡ path_room
  pub few : r ≤ path_room
  pub many : r ≡ length (path i j)
  pub is : take r ns ≡ path i j
