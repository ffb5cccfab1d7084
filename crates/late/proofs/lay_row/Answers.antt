-- Name, numbers, median and mean, one behind another.
use Rattle.std.proofs.Common.{rules}
use Rattle.text.specs.Bytes.{bytes}
use Rattle.late.proofs.LineLaws.{as_late, row_laid}
use Rattle.late.proofs.lay_row.Goals as goal

pub returns-clause-text : goal.returns-clause-text
unfolding bytes
returns-clause-text c =
    let median = as_late "  median " _ (search rules) c.field.ensures.text in
    row_laid _ _ _ c.text.ensures c.lay_seen.ensures.text median c.lay_mean.ensures.text c.text-2.ensures
