-- `Link::words` answers by the rule for the last link too.
use native.Mathlib.Omega.{arith}
use Rattle.rules.specs.Links.{words}
use Rattle.rules.proofs.Table.{at_link}
use Rattle.rules.proofs.Link.words.Goals as goal

pub returns-in_default : goal.returns-in_default
unfolding words
returns-in_default c = at_link words 4 c.args.self.i (omega arith)
