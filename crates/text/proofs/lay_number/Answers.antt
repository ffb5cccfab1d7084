use Rattle.std.proofs.Common.{arith}
use Rattle.text.proofs.LaidLaws.{number_laid}
use Rattle.text.proofs.lay_number.Goals as goal

pub returns : goal.returns
returns c = number_laid _ _ _ _ _ _ (omega arith) (omega arith) (omega arith) (omega arith) c.put.ensures
