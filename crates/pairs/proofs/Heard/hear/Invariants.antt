use Rattle.lines.specs.Cutter.{kept}
use Rattle.pairs.specs.State.{state_of}
use Rattle.pairs.proofs.HearLaws.{Hearing}
use Rattle.pairs.proofs.Heard.hear.Given as goal

abbrev pub invariant-loop-byte : goal.invariant-loop-byte
invariant-loop-byte l =
    let s = l.initial in
    Hearing l.piece (state_of s.due s.acting s.doors s.heard) (kept s.heard.cutter) (state_of l.due l.acting l.doors l.heard) (kept l.heard.cutter) l.byte-index
