-- What making room in I asks and ensures: a sweep, a packing; and what an insert leaves of its work area.
use Rattle.std.specs.Prelude.{◌≡◌, List, [], ℕ, ◌≤◌, length, get_or}
use Rattle.rules.specs.declared.Rule.{Rule}
use Rattle.rules.specs.Links.{s, k, most, number_of_s, words}
use Rattle.rules.specs.Tree.{links_from}
use Rattle.rules.specs.Queue.{held_from}
use Rattle.rules.specs.Insert.{Inserted, lowest}
use Rattle.rules.specs.Rest.{rest_of_sweep}
use Rattle.rules.specs.Calls.{queue_of}
use Rattle.buffers.specs.Format.{links_in, counter_in, rule_in, count_of, mark_of, many, book_of, buffer_of, buffers_of, lent_of}
use Rattle.buffers.specs.Post.{Inside, Unused}
use Rattle.mergers.specs.Fills.{MarksRight}
use Rattle.takes.specs.Heads.{CanTake}

-- the rule is the array's, a take can be made over all links, and the work area has room for all that a queue of them holds
pub record CanMove (rule : Rule) (ws work : List ℕ) : Type 0 where
  pub ruled : rule ≡ rule_in ws
  pub can : CanTake ws (links_in ws)
  pub few : held_from 0 (many ws) (buffers_of ws) ≤ most (links_in ws)
  pub room : most (links_in ws) ≤ length work

-- S(i, c(i)) is there and empty, and what is left over has its place in it
pub record CanSweep (rule : Rule) (ws : List ℕ) (i : ℕ) (work : List ℕ) : Type 0 where
  pub moves : CanMove rule ws work
  pub low : 1 ≤ i
  pub there : i ≤ links_in ws
  pub counted : 1 ≤ counter_in ws i
  pub unspent : counter_in ws i ≤ k i
  pub empty : buffer_of ws (number_of_s i (counter_in ws i)) ≡ []
  pub fits : rest_of_sweep i (queue_of (lent_of ws)) ≤ s i

pub record CanPack (rule : Rule) (ws : List ℕ) (links : ℕ) (work : List ℕ) : Type 0 where
  pub moves : CanMove rule ws work
  pub of : links_in ws ≡ links

-- what a sweep asks holds where one is to be made
pub record CanMakeRoom (rule : Rule) (ws work : List ℕ) : Type 0 where
  pub moves : CanMove rule ws work
  pub mark_I : mark_of ws 0 ≡ 1 → count_of ws 0 ≡ 0
  pub sweeps : lowest 1 (book_of ws).counters ≤ links_in ws → CanSweep rule ws (lowest 1 (book_of ws).counters) work

-- the rules' outcome z; marks are right, and no unused word of the book changes, no word past the stated length, nor one of the work area past H
pub record MadeRoom (ws ws' : List ℕ) (z : Inserted) (work work' : List ℕ) (steps : ℕ) : Type 0 where
  pub array : Inside ws'
  pub links : links_in ws' ≡ links_in ws
  pub queue_is : queue_of (lent_of ws') ≡ z.queue
  pub made : steps ≡ z.steps
  pub marks : MarksRight ws' (links_from 1 (links_in ws'))
  pub mark_I : mark_of ws' 0 ≡ 1 → count_of ws' 0 ≡ 0
  pub long : length ws' ≡ length ws
  pub past : (p : ℕ) → words (links_in ws) ≤ p → get_or ws' p 0 ≡ get_or ws p 0
  pub unused : (p : ℕ) → Unused (links_in ws) p → get_or ws' p 0 ≡ get_or ws p 0
  pub work_long : length work' ≡ length work
  pub work_past : (p : ℕ) → most (links_in ws) ≤ p → get_or work' p 0 ≡ get_or work p 0
