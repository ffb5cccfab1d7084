-- `Link::k` answers by the rule for the last link too.
use native.Mathlib.Omega.{arith}
use Rattle.rules.specs.Links.{k}
use Rattle.rules.proofs.Table.{at_link}
use Rattle.rules.proofs.Link.k.Goals as goal

pub returns-in_default : goal.returns-in_default
unfolding k
returns-in_default c = at_link k 4 c.args.self.i (omega arith)
