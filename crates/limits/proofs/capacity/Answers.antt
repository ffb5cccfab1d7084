-- The fifth link's levels by the rule, the others' buffers by `Link`.
use Rattle.std.proofs.Common.{arith}
use Rattle.limits.proofs.SizeLaws.{k_few, fifth, no_s}
use Rattle.limits.proofs.capacity.Goals as goal

pub returns-in-0-to-1 : goal.returns-in-0-to-1
returns-in-0-to-1 c = fifth 0 tt (omega arith) (omega arith) (omega arith)

pub returns-in-2-to-3 : goal.returns-in-2-to-3
returns-in-2-to-3 c = fifth 1 tt (omega arith) (omega arith) (omega arith)

pub returns-in-4-to-7 : goal.returns-in-4-to-7
returns-in-4-to-7 c = fifth 2 tt (omega arith) (omega arith) (omega arith)

pub returns-in-8-to-15 : goal.returns-in-8-to-15
returns-in-8-to-15 c = fifth 3 tt (omega arith) (omega arith) (omega arith)

pub returns-in_default : goal.returns-in_default
returns-in_default c = fifth 4 tt (omega arith) (omega arith) (omega (arith, k_few c.args.i (omega arith) (omega arith)))

pub capacity-requires : goal.capacity-requires
capacity-requires c = rw c.at.ensures (no_s c.args.i c.args.j (omega arith) (omega arith) (omega arith))
