use Rattle.std.proofs.Common.{◌-◌, length}
use Rattle.lines.specs.Cutter.{kept}
use Rattle.sessions.specs.Runs.{PieceRan}
use Rattle.sessions.proofs.run_piece.Given as goal

abbrev pub invariant-loop-ran : goal.invariant-loop-ran
invariant-loop-ran l =
    PieceRan (length l.initial.work) l.initial.a l.a l.initial.work l.work (kept l.initial.ran.cutter) l.piece l.at l.initial.out l.out (kept l.ran.cutter) l.ran.at l.ran.written

abbrev pub decreases-loop-ran : goal.decreases-loop-ran
decreases-loop-ran l = length l.piece - l.ran.at
