-- Three rows, one behind another.
use Rattle.std.proofs.Common.{ap, ◌∙◌, ◌++◌}
use Rattle.text.specs.Bytes.{bytes}
use Rattle.late.specs.Lines.{row_line}
use Rattle.late.proofs.LineLaws.{report_laid}
use Rattle.late.proofs.lay_report.Goals as goal

pub returns : goal.returns
unfolding bytes
returns c = report_laid c.args.report (c.lay_row.ensures.text ∙ ap (λ l. l ++ row_line (bytes "both   ") c.args.report.both) c.new-out.ensures) c.lay_row-2.ensures.text c.lay_row-3.ensures.text
