-- Where a run has ended, the rest of the other is handed back.
use Rattle.std.proofs.Common.{refl, arith}
use Rattle.runs.proofs.EndLaws.{joins_first, joins_second}
use Rattle.runs.proofs.join.Goals as goal

pub returns-then-second-ys : goal.returns-then-second-ys
returns-then-second-ys c = joins_second _ c.merge_until-moved.ensures c.requires (omega arith) _ refl refl

pub returns : goal.returns
returns c = joins_first _ c.merge_until-moved.ensures c.requires (omega arith) _ refl refl
