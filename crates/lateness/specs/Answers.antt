-- What the code's answers stand for.
use Rattle.std.specs.Prelude.{ℕ, List, [], Result, Ok, Err}
use Rattle.lateness.specs.Pairs.{Pair, of_door}
use Rattle.lateness.specs.Reports.{Answered, row_of}
use Rattle.lateness.specs.declared.Refusal.{Refusal}
use Rattle.lateness.specs.declared.Refusal.TheVariants.{DoorAbove, NoPairs, TooMany}
use Rattle.lateness.specs.declared.Report.{Report}

-- the numbers of refusals
abbrev pub number_of : Refusal → ℕ
number_of DoorAbove = 7
number_of NoPairs = 10
number_of TooMany = 15

-- 0 beside a report's rows; a refusal's number, and zeros
abbrev pub reported : Result Report Refusal → Answered
reported (Ok r) = record { answer = 0; both = r.both; left = r.left; right = r.right }
reported (Err e) = record { answer = number_of e; both = row_of []; left = row_of []; right = row_of [] }

-- a report's rows
abbrev pub rows_of : List Pair → Report
rows_of pairs = record { both = row_of (of_door 0 pairs); left = row_of (of_door 1 pairs); right = row_of (of_door 2 pairs) }
