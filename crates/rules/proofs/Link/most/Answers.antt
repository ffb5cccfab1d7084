-- `Link::most` answers by the rule for the last link too.
use native.Mathlib.Omega.{arith}
use Rattle.rules.specs.Links.{most}
use Rattle.rules.proofs.Table.{at_link}
use Rattle.rules.proofs.Link.most.Goals as goal

pub returns-in_default : goal.returns-in_default
unfolding most
returns-in_default c = at_link most 4 c.args.self.i (omega arith)
