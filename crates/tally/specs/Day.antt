-- "The tally of a race day is one record lent and brought up to date: accepted inserts, entries handed out by take, merge steps, packings, 64 bits each."
use Rattle.std.specs.Prelude.{ℕ, ◌+◌, ◌-◌, ◌^◌, min, Bool, true, false}
use Rattle.rules.specs.Answers.{Answer, is_done}
use Rattle.tally.specs.declared.Call.{Call}
use Rattle.tally.specs.declared.Call.TheVariants.{Setup, Insert, Take, Look, Held, Audit}
use Rattle.tally.specs.declared.Tally.{Tally}

-- what the tally is told of a call
pub record Outcome : Type 0 where
  pub answer : Answer
  pub steps : ℕ
  pub packed : Bool

abbrev pub tally_of : ℕ → ℕ → ℕ → ℕ → Tally
tally_of inserts takes steps packings = record { inserts = inserts; takes = takes; steps = steps; packings = packings }

abbrev pub nothing : Tally
nothing = tally_of 0 0 0 0

-- "64 bits each"
abbrev pub largest : ℕ
largest = 2 ^ 64 - 1

-- "A field that would pass its largest value becomes that value."
abbrev pub plus : ℕ → ℕ → ℕ
plus field more = min (field + more) largest

abbrev pub plus_each : Tally → Tally → Tally
plus_each tally more = tally_of (plus tally.inserts more.inserts) (plus tally.takes more.takes) (plus tally.steps more.steps) (plus tally.packings more.packings)

-- "an insert also telling the tally whether it packed"
abbrev pub once : Bool → ℕ
once true = 1
once false = 0

-- "setup and refused calls add nothing": here setup; a look makes merge steps too, held and audit "report 0 steps"
abbrev pub added_if_done : Call → ℕ → Bool → Tally
added_if_done Setup steps packed = nothing
added_if_done Insert steps packed = tally_of 1 0 steps (once packed)
added_if_done Take steps packed = tally_of 0 1 steps 0
added_if_done Look steps packed = tally_of 0 0 steps 0
added_if_done Held steps packed = tally_of 0 0 steps 0
added_if_done Audit steps packed = tally_of 0 0 steps 0

-- and here refused calls
unfoldable pub added : Call → Outcome → Tally
unfolding is_done
added call outcome = elim (is_done outcome.answer) [ true ↦ added_if_done call outcome.steps outcome.packed | false ↦ nothing ]

-- "Each call's outcome is added after the call"
unfoldable pub up_to_date : Tally → Call → Outcome → Tally
unfolding added
up_to_date tally call outcome = plus_each tally (added call outcome)
