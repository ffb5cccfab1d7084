use Rattle.std.proofs.Common.{sym, ◌∙◌, arith}
use Rattle.lines.specs.Cutter.{kept}
use Rattle.frames.proofs.FrameLaws.{to_the_end}
use Rattle.lines.proofs.CutterLaws.{kept_decisive}
use Rattle.lines.proofs.WholeLaws.{line_over, line_ends, line_open}
use Rattle.lines.proofs.Cutter.next_line.Goals as goal

pub returns-then-piece-at : goal.returns-then-piece-at
returns-then-piece-at c = line_over _ _ c.args.self (omega arith)

pub returns-in-Some : goal.returns-in-Some
returns-in-Some c =
    line_ends _ _ _ (kept c.args.self) (kept_decisive c.args.self (omega arith)) (to_the_end c.args.at c.args.piece.now) _ c.new.result c.line_with.result (sym c.line_end.ensures ∙ c.in-Some.is) c.new.ensures c.line_with.ensures

pub returns-in-None : goal.returns-in-None
returns-in-None c =
    line_open _ _ _ (kept c.args.self) (kept_decisive c.args.self (omega arith)) (to_the_end c.args.at c.args.piece.now) (omega arith) c.keep.result (sym c.line_end.ensures ∙ c.in-None.is) c.keep.ensures
