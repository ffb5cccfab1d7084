use Rattle.std.proofs.Common.{refl, ap, ◌∙◌, arith}
use Rattle.pairs.specs.Reads.{pair_of}
use Rattle.pairs.proofs.StateLaws.{more_pair}
use Rattle.pairs.proofs.Heard.ended.Goals as goal

pub returns-clause-result_after : goal.returns-clause-result_after
returns-clause-result_after c = more_pair _ _ (c.in-Some.ensures ∙ ap pair_of c.kept.ensures) refl (omega arith) refl refl
