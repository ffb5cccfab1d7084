-- Labels and numbers that are laid one behind another are a line.
use Prim.Native.Nat.{ℕ}
use Prim.Native.String.{String}
use mathlib.Core.Path.{◌≡◌, sym, ap, ◌∙◌}
use mathlib.Core.List.{List, [], ◌++◌, append_assoc}
use lib.IntN.{ℤ}
use mir.Syntax.{w64}
use mir.Val.{SFits, to_z, of_z}
use mir.ValLaws.{to_z-of_z}
use Rattle.lateness.specs.declared.Seen.{Seen}
use Rattle.lateness.specs.declared.Row.{Row}
use Rattle.lateness.specs.declared.Report.{Report}
use Rattle.text.specs.Bytes.{bytes}
use Rattle.text.specs.Decimal.{decimal, signed}
use Rattle.late.specs.declared.Trouble.{Trouble}
use Rattle.late.specs.declared.Trouble.TheVariants.{TooManyLines, NoPair, DoorAbove}
use Rattle.late.specs.Lines.{count, late, seen_text, mean_text, row_line, report_lines, too_many_lines, no_pair, door_above, trouble_line}

-- two texts, one behind the other, are one behind what was there
behind : (a one two : List ℕ) {b c : List ℕ} → b ≡ a ++ one → c ≡ b ++ two → c ≡ a ++ (one ++ two)
behind a one two x y = y ∙ ap (λ l. l ++ two) x ∙ append_assoc a one two

-- ---- a label and a number

pub as_count : (label : String) (before : List ℕ) (n : ℕ) {after : List ℕ} → after ≡ before ++ bytes label ++ decimal n → after ≡ before ++ count label n
unfolding count
as_count label before n laid = laid ∙ append_assoc before (bytes label) (decimal n)

pub as_late : (label : String) (before : List ℕ) {z : ℤ} {after : List ℕ} → SFits w64 z → after ≡ before ++ bytes label ++ signed (to_z w64 (of_z w64 z)) → after ≡ before ++ late label z
unfolding late
as_late label before {z} fits laid = laid ∙ append_assoc before (bytes label) (signed (to_z w64 (of_z w64 z))) ∙ ap (λ n. before ++ (bytes label ++ signed n)) (to_z-of_z w64 z fits)

-- ---- one behind another

module _ (seen : Seen) (a : List ℕ) {b c d e f : List ℕ} where
  pub seen_laid : b ≡ a ++ count "count " seen.count → c ≡ b ++ late "  earliest " seen.earliest → d ≡ c ++ late "  latest " seen.latest → e ≡ d ++ late "  sum " seen.sum
      → f ≡ e ++ count "  exact " seen.exact → f ≡ a ++ seen_text seen
  unfolding seen_text
  seen_laid v w x y z =
      let one = count "count " seen.count in
      let two = one ++ late "  earliest " seen.earliest in
      let three = two ++ late "  latest " seen.latest in
      let four = three ++ late "  sum " seen.sum in
      behind a four (count "  exact " seen.exact) (behind a three (late "  sum " seen.sum) (behind a two (late "  latest " seen.latest) (behind a one (late "  earliest " seen.earliest) v w) x) y) z

module _ (seen : Seen) (a : List ℕ) {b c : List ℕ} where
  pub mean_laid : b ≡ a ++ late "  mean " seen.sum → c ≡ b ++ count "/" seen.count → c ≡ a ++ mean_text seen
  unfolding mean_text
  mean_laid y z = behind a (late "  mean " seen.sum) (count "/" seen.count) y z

module _ (name : List ℕ) (row : Row) (a : List ℕ) {b c d e f : List ℕ} where
  pub row_laid : b ≡ a ++ name → c ≡ b ++ seen_text row.seen → d ≡ c ++ late "  median " row.median → e ≡ d ++ mean_text row.seen → f ≡ e ++ bytes "\n" → f ≡ a ++ row_line name row
  unfolding row_line
  row_laid v w x y z =
      let two = name ++ seen_text row.seen in
      let three = two ++ late "  median " row.median in
      let four = three ++ mean_text row.seen in
      behind a four (bytes "\n") (behind a three (mean_text row.seen) (behind a two (late "  median " row.median) (behind a name (seen_text row.seen) v w) x) y) z

module _ (report : Report) {a b c : List ℕ} where
  pub report_laid : a ≡ [] ++ row_line (bytes "both   ") report.both → b ≡ a ++ row_line (bytes "left   ") report.left → c ≡ b ++ row_line (bytes "right  ") report.right → c ≡ report_lines report
  unfolding report_lines
  report_laid x y z =
      let both = row_line (bytes "both   ") report.both in
      let left = row_line (bytes "left   ") report.left in
      behind [] (both ++ left) (row_line (bytes "right  ") report.right) (behind [] both left x y) z

-- ---- refusals

module _ {out b : List ℕ} {trouble : Trouble} (empty : out ≡ []) where
  pub many_laid : trouble ≡ TooManyLines → b ≡ out ++ bytes "refused 15: more than 4096 lines\n" → b ≡ trouble_line trouble
  unfolding trouble_line too_many_lines
  many_laid e x = x ∙ ap (λ l. l ++ bytes "refused 15: more than 4096 lines\n") empty ∙ ap trouble_line (sym e)

  pub no_pair_laid : (line : ℕ) {a : List ℕ} → trouble ≡ NoPair line → a ≡ out ++ bytes "refused 10: line " ++ decimal line → b ≡ a ++ bytes " is no pair\n" → b ≡ trouble_line trouble
  unfolding trouble_line no_pair count
  no_pair_laid line e x y = y ∙ ap (λ l. l ++ bytes " is no pair\n") (x ∙ ap (λ l. l ++ bytes "refused 10: line " ++ decimal line) empty) ∙ ap trouble_line (sym e)

  pub above_laid : (line : ℕ) {a : List ℕ} → trouble ≡ DoorAbove line → a ≡ out ++ bytes "refused 7: line " ++ decimal line → b ≡ a ++ bytes " has a door above 2\n" → b ≡ trouble_line trouble
  unfolding trouble_line door_above count
  above_laid line e x y = y ∙ ap (λ l. l ++ bytes " has a door above 2\n") (x ∙ ap (λ l. l ++ bytes "refused 7: line " ++ decimal line) empty) ∙ ap trouble_line (sym e)
