use Rattle.std.proofs.Common.{◌∙◌}
use Rattle.lines.specs.Cutter.{kept}
use Rattle.lines.proofs.WholeLaws.{read_begun}
use Rattle.lines.proofs.Cutter.line_with.Goals as goal

pub returns : goal.returns
returns c = read_begun (kept c.args.self) _ _ _ (c.kept.ensures ∙ c.keep.ensures) c.read-2.ensures
