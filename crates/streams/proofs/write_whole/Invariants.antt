-- What is gone from `rest` has been written.
use lib.ListN.{length}
use Rattle.streams.proofs.FrontLaws.{Wrote}
use Rattle.streams.proofs.write_whole.Given as goal

abbrev pub invariant-loop-rest : goal.invariant-loop-rest
invariant-loop-rest g l = Wrote (g.W.Write.contents l.fn.output) (g.W.Write.contents l.output) l.fn.bytes l.rest

abbrev pub decreases-loop-rest : goal.decreases-loop-rest
decreases-loop-rest g l = length l.rest
