use Rattle.std.proofs.Common.{refl, arith}
use Rattle.pairs.proofs.HearLaws.{hears_on, heard_state, heard_keeps}
use Rattle.pairs.proofs.Heard.hear.Goals as goal

pub loop-byte-preserved : goal.loop-byte-preserved
loop-byte-preserved c =
    let heard = c.hear_byte-heard.ensures in
    hears_on _ _ _ _ c.loop-byte.invariant _ (omega arith) refl heard.result_after heard.cutter_value

pub returns : goal.returns
returns c = record {
  result_after = heard_state _ _ _ _ c.loop-byte.invariant (omega arith);
  cutter_value = heard_keeps _ _ _ _ c.loop-byte.invariant (omega arith);
}
