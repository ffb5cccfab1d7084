-- "a report gives for each byte the count, earliest, latest and sum of lateness, the count of exact hits and the lower median": six numbers a door, in one lent list.
use Rattle.std.specs.Prelude.{cond, List, [], ◌∷◌, ◌++◌, ℕ, eqb, ltb, length, drop, ℤ, pos}
use Rattle.lateness.specs.Reports.{Answered, answer_of, report_of}
use Rattle.lateness.specs.declared.Row.{Row}

abbrev pub numbers_of : Row → List ℤ
numbers_of r = pos r.seen.count ∷ r.seen.earliest ∷ r.seen.latest ∷ r.seen.sum ∷ pos r.seen.exact ∷ r.median ∷ []

-- in the order of their bytes: both, left, right
abbrev pub report_numbers : Answered → List ℤ
report_numbers r = numbers_of r.both ++ (numbers_of r.left ++ numbers_of r.right)

-- 10 where fewer than eighteen numbers fit, and for lists of different lengths
unfoldable pub timed_answer : List ℕ → List ℕ → List ℕ → List ℤ → ℕ
timed_answer due acting doors report = cond (ltb (length report) 18) 10 (answer_of due acting doors)

-- 10 writes nothing; the other refusals give zeros
unfoldable pub timed_report : List ℕ → List ℕ → List ℕ → List ℤ → List ℤ
timed_report due acting doors report = cond (eqb (timed_answer due acting doors report) 10) report (report_numbers (report_of due acting doors) ++ drop 18 report)
