-- What `late` says of its lines: a report, or why there is none.
use Rattle.std.specs.Prelude.{ℕ, ◌+◌, Bool, true, false, cond, List, [], ◌∷◌, ◌++◌, map, ltb, length, Option, None, Some, Result, Ok, Err}
use Rattle.frames.specs.Answers.{Back}
use Rattle.lateness.specs.Pairs.{Pair, pairs_of, of_door}
use Rattle.lateness.specs.Reports.{first_above}
use Rattle.lateness.specs.Answers.{rows_of}
use Rattle.lateness.specs.declared.Report.{Report}
use Rattle.late.specs.declared.Trouble.{Trouble}
use Rattle.pairs.specs.Kept.{wrong_from, wrong_at, first_wrong, first_pairs}
use Rattle.pairs.specs.State.{State}
use Rattle.late.specs.Lines.{report_lines, too_many_lines, no_pair, door_above, trouble_line}

-- a refusal is one line on standard error, and then standard output has nothing; a report is all of standard output
pub record Says : Type 0 where
  pub refused : Bool
  pub text : List ℕ

abbrev pub refusal : List ℕ → Says
refusal text = record { refused = true; text = text }

abbrev pub report : List ℕ → Says
report text = record { refused = false; text = text }

-- the pairs that were read, joined
unfoldable pub pairs_read : List (Back Pair) → List Pair
pairs_read [] = []
pairs_read (read ∷ reads) = read.values ++ pairs_read reads

-- how many pairs stand before the first whose door is above 2
abbrev pub before_above : List Pair → ℕ
before_above pairs = first_above (map (λ p. p.door) pairs)

-- where all lines are pairs: the first line whose door is above 2, else one line a door
unfoldable pub pairs_said : List Pair → Says
unfolding report_lines door_above first_above of_door
pairs_said pairs = cond (ltb (before_above pairs) (length pairs)) (refusal (door_above (before_above pairs + 1))) (report (report_lines (rows_of pairs)))

-- the first line that is no pair, if there is one
unfoldable pub unless_wrong : Option ℕ → Says → Says
unfolding no_pair
unless_wrong None otherwise = otherwise
unless_wrong (Some n) otherwise = refusal (no_pair n)

-- refusals, in this order: more than 4,096 lines, the first line that is no pair, the first line whose door is above 2
unfoldable pub says : List (Back Pair) → Says
unfolding too_many_lines unless_wrong wrong_from wrong_at pairs_said pairs_read
says reads = cond (ltb 4096 (length reads)) (refusal too_many_lines) (unless_wrong (first_wrong reads) (pairs_said (pairs_read reads)))

-- ---- the same by what is kept of the lines: their number, the first that is no pair, and the pairs

unfoldable pub state_said : State → Says
unfolding too_many_lines unless_wrong pairs_said pairs_of
state_said s = cond (ltb 4096 s.lines) (refusal too_many_lines) (unless_wrong s.wrong (pairs_said (first_pairs s.lines s)))

abbrev pub kept_said : List ℕ → List ℕ → List ℕ → ℕ → Option ℕ → Says
kept_said due acting doors lines wrong = state_said (record { due = due; acting = acting; doors = doors; lines = lines; wrong = wrong })

-- what the code's answer stands for
unfoldable pub said : Result Report Trouble → Says
unfolding report_lines trouble_line
said (Ok r) = report (report_lines r)
said (Err e) = refusal (trouble_line e)
