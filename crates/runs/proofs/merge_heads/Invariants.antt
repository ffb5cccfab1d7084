-- The loop keeps: i + j merge steps are laid, and x and y are the heads at i and j.
use Rattle.rules.specs.Entries.{key_by}
use Rattle.runs.proofs.LentLaws.{AtBoth}
use Rattle.runs.proofs.merge_heads.Given as goal

abbrev pub invariant-loop-slot : goal.invariant-loop-slot
invariant-loop-slot l = AtBoth (key_by l.rule) l.xs l.ys l.fn.out l.out l.slot-index l.i l.j l.x l.y
