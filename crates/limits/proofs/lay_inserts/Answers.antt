-- Three fields, one behind the other.
use Rattle.std.proofs.Common.{arith}
use Rattle.text.specs.Bytes.{bytes}
use Rattle.limits.proofs.FieldLaws.{as_field, inserts_laid, no_inserts}
use Rattle.limits.proofs.lay_inserts.Goals as goal

pub returns-then-links-gt-MOST-clause-text : goal.returns-then-links-gt-MOST-clause-text
returns-then-links-gt-MOST-clause-text c = no_inserts _ (omega arith) _

pub returns-clause-text : goal.returns-clause-text
unfolding bytes
returns-clause-text c =
    let longest = as_field "  longest insert " _ c.longest_insert.ensures c.field.ensures.text in
    let insert = as_field "  per insert " _ c.per_insert.ensures c.field-2.ensures.text in
    let packing = as_field "  per packing " _ c.per_packing.ensures c.field-3.ensures.text in
    inserts_laid _ (omega arith) _ longest insert packing
