-- What has been counted so far is counted of the pairs behind the place.
use Rattle.lateness.specs.Ordered.{at_most}
use Rattle.lateness.proofs.PairLaws.{Passed}
use Rattle.lateness.proofs.Day.at_most.Given as goal

abbrev pub invariant-loop-i : goal.invariant-loop-i
invariant-loop-i l = let day = l.self-inside in Passed (at_most l.most) l.door day.due.now day.acting.now day.doors.now l.i l.count
