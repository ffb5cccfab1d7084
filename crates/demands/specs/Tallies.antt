-- The day tally over the calls of a history.
use Rattle.std.specs.Prelude.{List, [], ◌∷◌}
use Rattle.tally.specs.Day.{Outcome}
use Rattle.tally.specs.declared.Tally.{Tally}
use Rattle.tally.specs.Day.{tally_of, nothing, up_to_date}
use Rattle.tally.specs.Told.{call_of}
use Rattle.demands.specs.Histories.{Call, inserts, takes, packings, steps}

-- what the tally is told of a call
abbrev pub told_of : Call → Outcome
told_of c = record { answer = c.answer; steps = c.steps; packed = c.packed }

-- "Each call's outcome is added after the call": the tally after these calls, which begins with nothing
abbrev pub tally_after : List Call → Tally
tally_after [] = nothing
tally_after (c ∷ cs) = up_to_date (tally_after cs) (call_of c.order) (told_of c)

-- "accepted inserts, entries handed out by take, merge steps, packings"
abbrev pub sums : List Call → Tally
sums cs = tally_of (inserts cs) (takes cs) (steps cs) (packings cs)
