use Rattle.std.proofs.Common.{sym, arith}
use Rattle.pairs.proofs.ReadLaws.{part_field, part_below, pair_read}
use Rattle.pairs.proofs.read.Goals as goal

pub number-requires : goal.number-requires
number-requires c = part_field 0 8 _ (sym c.if-not-capital.ensures) (omega arith) (omega arith)

pub overflow_cast-result : goal.overflow_cast-result
overflow_cast-result c = record { fits = omega (arith, c.number.ensures, part_below 0 8 _ (sym c.if-not-capital.ensures) (omega arith)) }

pub number-requires-2 : goal.number-requires-2
number-requires-2 c = part_field 8 8 _ (sym c.if-not-capital.ensures) (omega arith) (omega arith)

pub overflow_cast-result-2 : goal.overflow_cast-result-2
overflow_cast-result-2 c = record { fits = omega (arith, c.number-2.ensures, part_below 8 8 _ (sym c.if-not-capital.ensures) (omega arith)) }

pub number-requires-3 : goal.number-requires-3
number-requires-3 c = part_field 16 2 _ (sym c.if-not-capital.ensures) (omega arith) (omega arith)

pub overflow_cast-result-3 : goal.overflow_cast-result-3
overflow_cast-result-3 c = record { fits = omega (arith, c.number-3.ensures, part_below 16 2 _ (sym c.if-not-capital.ensures) (omega arith)) }

pub returns : goal.returns
returns c = pair_read _ (sym c.if-not-capital.ensures) (omega arith) c.number.ensures c.number-2.ensures c.number-3.ensures
