-- Three fields, one behind the other.
use Rattle.std.proofs.Common.{arith, ap, ◌∙◌}
use Rattle.rules.specs.Links.{most, words}
use Rattle.text.specs.Bytes.{bytes}
use Rattle.limits.proofs.FieldLaws.{as_field, sizes_laid, no_sizes}
use Rattle.limits.proofs.lay_sizes.Goals as goal

pub returns-then-links-gt-MOST-clause-text : goal.returns-then-links-gt-MOST-clause-text
returns-then-links-gt-MOST-clause-text c = no_sizes _ (omega arith) _

pub returns-clause-text : goal.returns-clause-text
unfolding bytes
returns-clause-text c =
    let is = c.at-last.ensures in
    let array = as_field "  array " _ (c.words.ensures ∙ ap words is) c.field.ensures.text in
    let work = as_field "  work " _ (c.most.ensures ∙ ap most is) c.field-2.ensures.text in
    let entries = as_field "  entries " _ (c.most-2.ensures ∙ ap most is) c.field-3.ensures.text in
    sizes_laid _ (omega arith) _ array work entries
