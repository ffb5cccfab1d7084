-- 15 before 10, 10 before 7, and the report only where none of them is told.
use Rattle.std.proofs.Common.{◌+◌, take, ap, arith, rules}
use lib.ListN.{length-take}
use Rattle.late.proofs.SaidLaws.{above_within, said_many, said_wrong, said_rows}
use Rattle.late.proofs.Day.say.Goals as goal

pub returns-then-lines-gt-MOST_PAIRS : goal.returns-then-lines-gt-MOST_PAIRS
returns-then-lines-gt-MOST_PAIRS c = said_many _ (omega arith)

pub returns-in-Some : goal.returns-in-Some
returns-in-Some c = said_wrong _ (omega arith) c.in-Some.is

pub overflow_add-line : goal.overflow_add-line
overflow_add-line c =
    let day = c.args.self.now in
    record { fits = omega (arith, c.first_above-line.ensures, above_within (take day.heard.lines day.doors), length-take day.heard.lines day.doors) }

pub returns : goal.returns
returns c = said_rows _ (omega arith) _ c.in_default.is (search rules) c.report_of.ensures (ap (λ n. n + 1) c.first_above-line.ensures) c.or.ensures
