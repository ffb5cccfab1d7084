-- What has been told so far is told of the pairs behind the place.
use Rattle.lateness.specs.Reports.{seen_of}
use Rattle.lateness.proofs.PairLaws.{Passed}
use Rattle.lateness.proofs.Day.seen.Given as goal

abbrev pub invariant-loop-i : goal.invariant-loop-i
invariant-loop-i l = let day = l.self-inside in Passed seen_of l.door day.due.now day.acting.now day.doors.now l.i l.seen
