use Rattle.std.proofs.Common.{ap, ◌∙◌, unwrap_or}
use Rattle.order.specs.Walk.{last_entry}
use Rattle.order.proofs.AscentLaws.{last_is}
use Rattle.order.proofs.last_entry.Goals as goal

pub returns : goal.returns
returns c =
    c.unwrap_or.ensures ∙ ap (λ o. unwrap_or o c.args.low) (c.copied.ensures ∙ c.last.ensures.value) ∙ last_is c.args.low _
    ∙ ap (last_entry c.args.low) c.entries.ensures
