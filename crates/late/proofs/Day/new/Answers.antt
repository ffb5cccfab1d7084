use Rattle.std.proofs.Common.{rules}
use Rattle.pairs.proofs.KeptLaws.{begins}
use Rattle.late.proofs.Day.new.Goals as goal

pub returns-clause-begins : goal.returns-clause-begins
returns-clause-begins c = begins _ c.new.ensures.lines_value c.new.ensures.wrong_value (search rules)
