-- What emptying I and the first links asks and ensures.
use Rattle.std.specs.Prelude.{◌≡◌, ◌≢◌, List, ℕ, ◌≤◌, ◌<◌, length}
use Rattle.rules.specs.Links.{buffer_count}
use Rattle.rules.specs.Tree.{links_from}
use Rattle.rules.specs.Take.{Taken}
use Rattle.rules.specs.Queue.{held_from}
use Rattle.buffers.specs.Format.{word_of, many, buffers_of}
use Rattle.buffers.specs.Post.{Kept}
use Rattle.mergers.specs.Fills.{StandsIn}
use Rattle.runs.specs.Promises.{laid_at}
use Rattle.takes.specs.Heads.{CanTake}

-- a take can be made over the first links, and the work area has room for all that stands in I and in them
pub record CanEmpty (ws : List ℕ) (last : ℕ) (work : List ℕ) : Type 0 where
  pub can : CanTake ws last
  pub room : held_from 0 (buffer_count last) (buffers_of ws) ≤ length work

-- the rules' takes z over the first links: what came out stands at the beginning of the work area, in order; buffers and steps are the rules' own
pub record TookAll (ws ws' : List ℕ) (last : ℕ) (z : Taken) (work work' : List ℕ) (count steps : ℕ) : Type 0 where
  pub can : CanTake ws' last
  pub state : buffers_of ws' ≡ z.buffers
  pub out : work' ≡ laid_at work 0 z.out
  pub all : count ≡ length z.out
  pub made : steps ≡ z.steps
  pub kept : Kept ws ws'
  pub others : (n : ℕ) → n < many ws → n ≢ 0 → (StandsIn n (links_from 1 last) → ⊥) → word_of ws' n ≡ word_of ws n
