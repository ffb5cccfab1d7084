use Rattle.std.proofs.Common.{rules}
use Rattle.frames.proofs.Loops.{capital_all}
use Rattle.frames.proofs.capital.Goals as goal

pub returns : goal.returns
returns c = capital_all _ _ (search rules)
