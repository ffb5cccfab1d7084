-- The last digits are written; those of the rest come before them.
use Rattle.std.proofs.Common.{◌≡◌, ◌++◌, length, drop}
use Rattle.digits.specs.Written.{written}
use Rattle.digits.proofs.put.Given as goal

abbrev pub invariant-loop-i : goal.invariant-loop-i
invariant-loop-i g l = written g.row.BASE (length l.initial.field) l.n ≡ written g.row.BASE l.i l.rest ++ drop l.i l.field
