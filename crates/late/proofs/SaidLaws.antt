-- What is said, case by case, and by what is kept of the lines as by the lines.
use Prim.Native.Nat.{ℕ, suc, ◌+◌, ◌≤◌, ◌<◌}
use mathlib.Core.Path.{◌≡◌, refl, sym, ap, ◌∙◌}
use mathlib.Core.Bool.{Bool, true, false, cond}
use mathlib.Core.Logic.{⊎_elim}
use mathlib.Core.List.{List, [], ◌∷◌, map}
use native.Mathlib.Decide.{dec_lt}
use native.Mathlib.Omega.{arith}
use lib.Dec.{ltb}
use lib.ListN.{length, take, length-take}
use lib.Seq.{take_all, length-take-le}
use borrow.Author.Tests.{lt-ltb, le-ltb}
use Rattle.frames.specs.Answers.{Back, done}
use Rattle.lateness.specs.Pairs.{Pair, pairs_of, Lent}
use Rattle.std.specs.Prelude.{Option, None, Some, Result, Ok, Err}
use Rattle.std.specs.Result.{result_or}
use Rattle.lateness.specs.Reports.{first_above, answer_of, report_from, report_of}
use Rattle.lateness.specs.Answers.{number_of, reported, rows_of}
use Rattle.lateness.specs.declared.Report.{Report}
use Rattle.lateness.specs.declared.Refusal.{Refusal}
use Rattle.lateness.specs.declared.Refusal.TheVariants.{DoorAbove as DoorAbove', NoPairs, TooMany}
use Rattle.lateness.proofs.CheckLaws.{accepted, above_here, above_later}
use Rattle.lateness.proofs.CheckLaws as CheckLaws
use Rattle.lateness.proofs.ClockLaws.{under_or_not}
use Rattle.lateness.proofs.ReportLaws.{answered}
use Rattle.pairs.specs.State.{State, Room}
use Rattle.pairs.specs.Kept.{first_wrong, first_pairs, Kept}
use Rattle.pairs.proofs.ToldLaws.{told_count, told_pairs}
use Rattle.late.specs.declared.Trouble.{Trouble}
use Rattle.late.specs.declared.Trouble.TheVariants.{TooManyLines, NoPair, DoorAbove}
use Rattle.late.specs.Lines.{report_lines, too_many_lines, door_above, trouble_line}
use Rattle.late.specs.Says.{Says, refusal, report, pairs_read, before_above, pairs_said, unless_wrong, says, state_said, said}

-- ---- of pairs

doors_of : (due acting doors : List ℕ) → length due ≡ length doors → length acting ≡ length doors → map (λ p. p.door) (pairs_of due acting doors) ≡ doors
unfolding pairs_of
doors_of [] acting [] e f = refl
doors_of [] acting (b ∷ doors) e f = absurd (omega arith)
doors_of (d ∷ due) [] [] e f = refl
doors_of (d ∷ due) [] (b ∷ doors) e f = absurd (omega arith)
doors_of (d ∷ due) (a ∷ acting) [] e f = refl
doors_of (d ∷ due) (a ∷ acting) (b ∷ doors) e f = ap (λ (bs : List ℕ). b ∷ bs) (doors_of due acting doors (omega arith) (omega arith))

pairs_many : (due acting doors : List ℕ) → length due ≡ length doors → length acting ≡ length doors → length (pairs_of due acting doors) ≡ length doors
unfolding pairs_of
pairs_many [] acting [] e f = refl
pairs_many [] acting (b ∷ doors) e f = absurd (omega arith)
pairs_many (d ∷ due) [] [] e f = refl
pairs_many (d ∷ due) [] (b ∷ doors) e f = absurd (omega arith)
pairs_many (d ∷ due) (a ∷ acting) [] e f = refl
pairs_many (d ∷ due) (a ∷ acting) (b ∷ doors) e f = ap suc (pairs_many due acting doors (omega arith) (omega arith))

module _ {due acting doors : List ℕ} (lent : Lent due acting doors) where
  before : before_above (pairs_of due acting doors) ≡ first_above doors
  before = ap first_above (doors_of due acting doors lent.dues lent.actings)

  many : length (pairs_of due acting doors) ≡ length doors
  many = pairs_many due acting doors lent.dues lent.actings

  -- by how the test of the doors comes out
  by_test : (n m : ℕ) (t : Bool) → before_above (pairs_of due acting doors) ≡ n → length (pairs_of due acting doors) ≡ m → ltb n m ≡ t
      → pairs_said (pairs_of due acting doors) ≡ cond t (refusal (door_above (n + 1))) (report (report_lines (rows_of (pairs_of due acting doors))))
  unfolding pairs_said
  by_test n m t e f g =
      let rows = report (report_lines (rows_of (pairs_of due acting doors))) in
      ap (λ (k : ℕ). cond (ltb k (length (pairs_of due acting doors))) (refusal (door_above (k + 1))) rows) e
      ∙ ap (λ (k : ℕ). cond (ltb n k) (refusal (door_above (n + 1))) rows) f ∙ ap (λ (t : Bool). cond t (refusal (door_above (n + 1))) rows) g

  said_above : first_above doors < length doors → pairs_said (pairs_of due acting doors) ≡ refusal (door_above (first_above doors + 1))
  said_above h = by_test (first_above doors) (length doors) true before many (lt-ltb (first_above doors) (length doors) h)

  said_report : length doors ≤ first_above doors → pairs_said (pairs_of due acting doors) ≡ report (report_lines (rows_of (pairs_of due acting doors)))
  said_report h = by_test (first_above doors) (length doors) false before many (le-ltb (first_above doors) (length doors) h)

  -- a report is given where no door is above 2, and with the rows of its pairs
  pub reported_said : (r : Result Report Refusal) (line : ℕ) → reported r ≡ report_of due acting doors → line ≡ first_above doors + 1 → said (result_or r (Err (DoorAbove line))) ≡ pairs_said (pairs_of due acting doors)
  unfolding said trouble_line
  reported_said (Ok r) line e f =
      let answer = ap (λ m. m.answer) e ∙ answered (answer_of due acting doors) (pairs_of due acting doors) in
      let rows = e ∙ ap (λ a. report_from a (pairs_of due acting doors)) (sym answer) in
      let none = ⊎_elim (λ h. absurd (omega (arith, answer, CheckLaws.door_above due acting doors lent.dues lent.actings lent.few h))) (λ h. h) (under_or_not (first_above doors) (length doors)) in
      ap (λ m. report (report_lines (record { both = m.both; left = m.left; right = m.right }))) rows ∙ sym (said_report none)
  reported_said (Err refused) line e f =
      let answer = ap (λ m. m.answer) e ∙ answered (answer_of due acting doors) (pairs_of due acting doors) in
      let some = ⊎_elim (λ h. h) (λ h. absurd (refuses refused (answer ∙ sym (accepted due acting doors lent.dues lent.actings lent.few h)))) (under_or_not (first_above doors) (length doors)) in
      ap (λ (n : ℕ). refusal (door_above n)) f ∙ sym (said_above some)
    where
      refuses : (refusal : Refusal) → number_of refusal ≡ 0 → ⊥
      refuses DoorAbove' e = omega arith
      refuses NoPairs e = omega arith
      refuses TooMany e = omega arith

pub above_within : (doors : List ℕ) → first_above doors ≤ length doors
unfolding first_above
above_within [] = omega arith
above_within (b ∷ doors) = ⊎_elim (λ l. omega (arith, above_here b doors l)) (λ g. omega (arith, above_later b doors g, above_within doors)) (under_or_not 2 b)

-- ---- of what is kept

-- the first so many of each array
first_lent : (n : ℕ) (due acting doors : List ℕ) → length due ≡ 4096 → length acting ≡ 4096 → length doors ≡ 4096 → n ≤ 4096 → Lent (take n due) (take n acting) (take n doors)
first_lent n due acting doors d a b few =
    let dues : length (take n due) ≡ n = length-take-le n due (omega arith) in
    let actings : length (take n acting) ≡ n = length-take-le n acting (omega arith) in
    let all : length (take n doors) ≡ n = length-take-le n doors (omega arith) in
    record { dues = omega arith; actings = omega arith; few = omega arith }

module _ (s : State) where
  many_said : 4096 < s.lines → state_said s ≡ refusal too_many_lines
  unfolding state_said
  many_said h = rw (lt-ltb 4096 s.lines h) refl

  pub said_many : 4096 < s.lines → said (Err TooManyLines) ≡ state_said s
  unfolding said trouble_line
  said_many h = sym (many_said h)

  module _ (few : s.lines ≤ 4096) where
    said_few : state_said s ≡ unless_wrong s.wrong (pairs_said (first_pairs s.lines s))
    unfolding state_said
    said_few = rw (le-ltb 4096 s.lines few) refl

    pub said_wrong : {line : ℕ} → s.wrong ≡ Some line → said (Err (NoPair line)) ≡ state_said s
    unfolding said trouble_line unless_wrong
    said_wrong e = sym (said_few ∙ ap (λ (w : Option ℕ). unless_wrong w (pairs_said (first_pairs s.lines s))) e)

    pub said_rows : (r : Result Report Refusal) {line : ℕ} {answer : Result Report Trouble} → s.wrong ≡ None → Room s.due s.acting s.doors → reported r ≡ report_of (take s.lines s.due) (take s.lines s.acting) (take s.lines s.doors)
        → line ≡ first_above (take s.lines s.doors) + 1 → answer ≡ result_or r (Err (DoorAbove line)) → said answer ≡ state_said s
    unfolding unless_wrong
    said_rows r {line} e room made is f =
        let lent = first_lent s.lines s.due s.acting s.doors room.due_long room.acting_long room.doors_long few in
        ap said f ∙ reported_said lent r line made is ∙ sym (said_few ∙ ap (λ (w : Option ℕ). unless_wrong w (pairs_said (first_pairs s.lines s))) e)

-- ---- of the lines

pairs_read_lem : (ps : List Pair) → pairs_read (map done ps) ≡ ps
unfolding pairs_read
pairs_read_lem [] = refl
pairs_read_lem (p ∷ ps) = ap (λ (qs : List Pair). p ∷ qs) (pairs_read_lem ps)

says_many : (reads : List (Back Pair)) → 4096 < length reads → says reads ≡ refusal too_many_lines
unfolding says
says_many reads h = rw (lt-ltb 4096 (length reads) h) refl

says_few : (reads : List (Back Pair)) → length reads ≤ 4096 → says reads ≡ unless_wrong (first_wrong reads) (pairs_said (pairs_read reads))
unfolding says
says_few reads h = rw (le-ltb 4096 (length reads) h) refl

alike : (w : Option ℕ) {one other : Says} → (w ≡ None → one ≡ other) → unless_wrong w one ≡ unless_wrong w other
unfolding unless_wrong
alike None same = same refl
alike (Some n) same = refl

module _ {reads : List (Back Pair)} {s : State} (kept : Kept reads s) where
  kept_many : 4096 < s.lines → state_said s ≡ says reads
  kept_many h = many_said s h ∙ sym (says_many reads (omega (arith, kept.counted, length-take 4097 reads)))

  kept_few : s.lines ≤ 4096 → state_said s ≡ says reads
  kept_few h =
      let count : s.lines ≡ length reads = told_count kept h in
      let first : s.wrong ≡ first_wrong reads = kept.first ∙ ap first_wrong (take_all 4096 reads (omega arith)) in
      let same : s.wrong ≡ None → pairs_said (first_pairs s.lines s) ≡ pairs_said (pairs_read reads) = λ w. ap pairs_said (sym (ap pairs_read (told_pairs kept h w) ∙ pairs_read_lem (first_pairs s.lines s))) in
      said_few s h ∙ alike s.wrong same ∙ ap (λ (w : Option ℕ). unless_wrong w (pairs_said (pairs_read reads))) first ∙ sym (says_few reads (omega arith))

  -- what is said by what is kept is said of the lines
  pub kept_said_lem : state_said s ≡ says reads
  kept_said_lem = elim (dec_lt 4096 s.lines) [ yes h ↦ kept_many h | no g ↦ kept_few (omega arith) ]
