-- Fields, sizes and inserts, one behind the other.
use Rattle.std.proofs.Common.{refl}
use Rattle.text.specs.Bytes.{bytes}
use Rattle.limits.proofs.FieldLaws.{as_field, line_laid}
use Rattle.limits.proofs.lay_line.Goals as goal

pub returns-clause-text : goal.returns-clause-text
unfolding bytes
returns-clause-text c =
    let many = as_field "links " _ refl c.field.ensures.text in
    let take = as_field "  longest take " _ c.longest_take.ensures c.field-2.ensures.text in
    line_laid _ _ many c.lay_sizes.ensures.text take c.lay_inserts.ensures.text c.text.ensures
