-- Five fields, one behind the other.
use Rattle.std.proofs.Common.{rules}
use Rattle.text.specs.Bytes.{bytes}
use Rattle.late.proofs.LineLaws.{as_count, as_late, seen_laid}
use Rattle.late.proofs.lay_seen.Goals as goal

pub returns-clause-text : goal.returns-clause-text
unfolding bytes
returns-clause-text c =
    let counted = as_count "count " _ _ c.field.ensures.text in
    let first = as_late "  earliest " _ (search rules) c.field-2.ensures.text in
    let last = as_late "  latest " _ (search rules) c.field-3.ensures.text in
    let total = as_late "  sum " _ (search rules) c.field-4.ensures.text in
    let hits = as_count "  exact " _ _ c.field-5.ensures.text in
    seen_laid _ _ counted first last total hits
