use Rattle.buffers.proofs.LinkWeights.{Merged}
use Rattle.buffers.proofs.sound.mergers.Given as goal

abbrev pub invariant-loop-low : goal.invariant-loop-low
invariant-loop-low l = Merged l.a l.below l.i l.l.i l.first l.low

abbrev pub decreases-loop-low : goal.decreases-loop-low
decreases-loop-low l = l.low
