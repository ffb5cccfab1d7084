-- Each turn answers at least one byte more of the piece.
use Prim.Native.Nat.{◌-◌}
use lib.ListN.{length}
use Rattle.lines.specs.Cutter.{kept}
use Rattle.gate.proofs.RunLaws.{SoFar}
use Rattle.gate.proofs.Gate.answer_piece.Given as goal

abbrev pub invariant-loop-at : goal.invariant-loop-at
invariant-loop-at g l =
    SoFar (length l.fn.self.work) l.fn.self.a l.self.a l.fn.self.work l.self.work (kept l.fn.self.cutter) (kept l.self.cutter) l.piece l.at
    (g.W.Write.contents l.fn.output) (g.W.Write.contents l.output)

abbrev pub decreases-loop-at : goal.decreases-loop-at
decreases-loop-at g l = length l.piece - l.at
