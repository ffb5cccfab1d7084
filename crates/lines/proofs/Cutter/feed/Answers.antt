use Rattle.std.proofs.Common.{ap, ◌∙◌, arith}
use Rattle.frames.specs.Frames.{read_of}
use Rattle.lines.proofs.CutterLaws.{fed_end, fed_onward}
use Rattle.lines.proofs.Cutter.feed.Goals as goal

pub returns-then-byte-eq-LINE_END : goal.returns-then-byte-eq-LINE_END
returns-then-byte-eq-LINE_END c = fed_end _ _ c.new.result c.read.result (omega arith) c.new.ensures (c.read.ensures ∙ ap read_of c.kept.ensures)

pub returns : goal.returns
returns c = fed_onward _ _ c.onward.result (λ e. omega arith) c.onward.ensures
