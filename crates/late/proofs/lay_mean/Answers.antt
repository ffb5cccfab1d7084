-- The sum, and the count behind it.
use Rattle.std.proofs.Common.{rules}
use Rattle.text.specs.Bytes.{bytes}
use Rattle.late.proofs.LineLaws.{as_count, as_late, mean_laid}
use Rattle.late.proofs.lay_mean.Goals as goal

pub returns-clause-text : goal.returns-clause-text
unfolding bytes
returns-clause-text c =
    let sum = as_late "  mean " _ (search rules) c.field.ensures.text in
    let count = as_count "/" _ _ c.field-2.ensures.text in
    mean_laid _ _ sum count
