-- The numbers of a report, laid into a lent list.
use mathlib.Core.Path.{◌≡◌, refl, sym, ap, ◌∙◌, subst}
use mathlib.Core.Logic.{◌≢◌}
use mathlib.Core.Bool.{cond}
use mathlib.Core.List.{List, [], ◌∷◌, ◌++◌, append-nil}
use Prim.Native.Nat.{ℕ, zero, suc, ◌+◌, ◌-◌, ◌≤◌, ◌<◌}
use native.Mathlib.Omega.{arith}
use lib.ListN.{length, take, drop, set, replicate, length-append, length-drop, drop_of_length-le}
use lib.Seq.{length-take-le, take_all, drop_at, drop-drop}
use mir.Syntax.{w64}
use mir.Val.{to_z, of_z}
use mir.ValLaws.{to_z-of_z, to_z_pos}
use Rattle.lateness.proofs.ClockLaws.{small}
use Rattle.lateness.proofs.SignedLaws.{fits_half}
use lib.IntN.{ℤ, pos}
use borrow.Rule.Slice.PartMut.{put_mid}
use Rattle.rules.proofs.Sizes.{by_eqb, leb-false}
use Rattle.rules.proofs.Capacity.{leb-true}
use Rattle.lateness.specs.Ordered.{in_order, numbered}
use Rattle.lateness.specs.Reports.{sum_of, hits, Small, Answered, row_of, answer_of, report_from, report_of}
use Rattle.lateness.specs.Pairs.{pairs_of}
use Rattle.lateness.specs.declared.Row.{Row}
use Rattle.lateness.proofs.ReportLaws.{rows_small}
use Rattle.gorgalhut.specs.Timed.{numbers_of, report_numbers, timed_answer, timed_report}

-- ---- six numbers

six : (l : List ℤ) (a b c d e f : ℤ) → 6 ≤ length l → set (set (set (set (set (set l 0 a) 1 b) 2 c) 3 d) 4 e) 5 f ≡ a ∷ b ∷ c ∷ d ∷ e ∷ f ∷ drop 6 l
six [] a b c d e f h = absurd (omega arith)
six (_ ∷ []) a b c d e f h = absurd (omega arith)
six (_ ∷ _ ∷ []) a b c d e f h = absurd (omega arith)
six (_ ∷ _ ∷ _ ∷ []) a b c d e f h = absurd (omega arith)
six (_ ∷ _ ∷ _ ∷ _ ∷ []) a b c d e f h = absurd (omega arith)
six (_ ∷ _ ∷ _ ∷ _ ∷ _ ∷ []) a b c d e f h = absurd (omega arith)
six (_ ∷ _ ∷ _ ∷ _ ∷ _ ∷ _ ∷ l) a b c d e f h = refl

pub row_laid : (l : List ℤ) (row : Row) → 6 ≤ length l → Small row
    → set (set (set (set (set (set l 0 (to_z w64 row.seen.count)) 1 (to_z w64 (of_z w64 row.seen.earliest))) 2 (to_z w64 (of_z w64 row.seen.latest))) 3 (to_z w64 (of_z w64 row.seen.sum))) 4
    (to_z w64 row.seen.exact)) 5 (to_z w64 (of_z w64 row.median))
    ≡ numbers_of row ++ drop 6 l
row_laid l row h s =
    let few = s.seen in
    rw (
      to_z_pos w64 row.seen.count (omega (arith, few.counts)),
      to_z_pos w64 row.seen.exact (omega (arith, few.exacts)),
      to_z-of_z w64 (row.seen.earliest) (fits_half few.first),
      to_z-of_z w64 (row.seen.latest) (fits_half few.last),
      to_z-of_z w64 (row.seen.sum) (small (omega (arith, few.total))),
      to_z-of_z w64 (row.median) (fits_half s.middle),
    ) (six l (pos row.seen.count) row.seen.earliest row.seen.latest row.seen.sum (pos row.seen.exact) row.median h)

-- ---- a row from a place on

module _ (l : List ℤ) (at : ℕ) where
  rest : take (length l - at) (drop at l) ≡ drop at l
  rest = take_all (length l - at) (drop at l) (simp length-drop (omega arith))

  pub rest_long : at + 6 ≤ length l → 6 ≤ length (take (length l - at) (drop at l))
  rest_long h = rw (rest, length-drop) (omega arith)

  pub row_there : (row : Row) (laid : List ℤ) → laid ≡ numbers_of row ++ drop 6 (take (length l - at) (drop at l)) → put_mid at (length l - at) l laid ≡ take at l ++ (numbers_of row ++ drop (at + 6) l)
  row_there row laid e =
      let past : drop (length l - at) (drop at l) ≡ [] = drop_of_length-le (drop at l) {i = length l - at} (simp length-drop (omega arith)) in
      let behind : drop 6 (take (length l - at) (drop at l)) ≡ drop (at + 6) l = ap (drop 6) rest ∙ drop-drop 6 at l in
      ap (λ p. take at l ++ (laid ++ p)) past ∙ ap (λ p. take at l ++ p) (append-nil laid ∙ e ∙ ap (λ p. numbers_of row ++ p) behind)

  pub there_long : (row : Row) → at + 6 ≤ length l → length (take at l ++ (numbers_of row ++ drop (at + 6) l)) ≡ length l
  there_long row h = simp (length-append, length-drop, length-take-le at l (omega arith)) (omega arith)

  behind_front : (tail : List ℤ) → at ≤ length l → drop at (take at l ++ tail) ≡ tail
  behind_front tail h = drop_at (take at l) tail at (length-take-le at l h)

-- ---- three rows, the last first

module _ (l : List ℤ) (long : 18 ≤ length l) (right : Row) {last : List ℤ} (first_laid : last ≡ numbers_of right ++ drop 6 (take (length l - 12) (drop 12 l))) where
  one : List ℤ
  one = take 12 l ++ (numbers_of right ++ drop 18 l)

  is_one : put_mid 12 (length l - 12) l last ≡ one
  unfolding one
  is_one = row_there l 12 right last first_laid

  one_long : length one ≡ length l
  unfolding one
  one_long = there_long l 12 right long

  pub second_room : 6 ≤ length (take (length (put_mid 12 (length l - 12) l last) - 6) (drop 6 (put_mid 12 (length l - 12) l last)))
  second_room = rest_long (put_mid 12 (length l - 12) l last) 6 (omega (arith, ap length is_one, one_long))

  module _ (left : Row) {middle : List ℤ}
      (second_laid : middle ≡ numbers_of left ++ drop 6 (take (length (put_mid 12 (length l - 12) l last) - 6) (drop 6 (put_mid 12 (length l - 12) l last)))) where
    two : List ℤ
    unfolding one
    two = take 6 one ++ (numbers_of left ++ drop 12 one)

    is_two : put_mid 6 (length (put_mid 12 (length l - 12) l last) - 6) (put_mid 12 (length l - 12) l last) middle ≡ two
    unfolding one two
    is_two = row_there (put_mid 12 (length l - 12) l last) 6 left middle second_laid ∙ ap (λ o. take 6 o ++ (numbers_of left ++ drop 12 o)) is_one

    pub third_room : 6 ≤ length (put_mid 6 (length (put_mid 12 (length l - 12) l last) - 6) (put_mid 12 (length l - 12) l last) middle)
    unfolding one two
    third_room = omega (arith, ap length is_two, there_long one 6 left (omega (arith, one_long)), one_long)

    pub all_laid : (both : Row) {after : List ℤ} → after ≡ numbers_of both ++ drop 6 (put_mid 6 (length (put_mid 12 (length l - 12) l last) - 6) (put_mid 12 (length l - 12) l last) middle)
        → after ≡ numbers_of both ++ (numbers_of left ++ (numbers_of right ++ drop 18 l))
    unfolding one two
    all_laid both e =
        e ∙ ap (λ p. numbers_of both ++ drop 6 p) is_two
        ∙ ap (λ p. numbers_of both ++ p) (behind_front one 6 (numbers_of left ++ drop 12 one) (omega (arith, one_long)) ∙ ap (λ p. numbers_of left ++ p) (behind_front l 12 (numbers_of right ++ drop 18 l) (omega arith)))

-- ---- what the caller gets

module _ (due acting doors : List ℕ) (report : List ℤ) where
  module _ (short : length report < 18) where
    pub short_answer : 10 ≡ timed_answer due acting doors report
    unfolding timed_answer
    short_answer = sym (rw (leb-true (suc (length report)) 18 short, timed_answer) refl)

    pub short_report : report ≡ timed_report due acting doors report
    unfolding timed_report
    short_report = sym (rw (sym short_answer, timed_report) refl)

  from_answer : (a : ℕ) → (report_from a (pairs_of due acting doors)).answer ≡ a
  from_answer zero = refl
  from_answer (suc a) = refl

  module _ (long : 18 ≤ length report) (made : Answered) (told : made ≡ report_of due acting doors) where
    pub made_answer : made.answer ≡ timed_answer due acting doors report
    unfolding timed_answer
    made_answer = ap (λ m. m.answer) told ∙ from_answer (answer_of due acting doors) ∙ sym (rw (leb-false (suc (length report)) 18 (omega arith), timed_answer) refl)

    pub unequal_report : made.answer ≡ 10 → report ≡ timed_report due acting doors report
    unfolding timed_report
    unequal_report e = sym (rw (sym made_answer ∙ e, timed_report) refl)

    pub made_report : made.answer ≢ 10 → {after : List ℤ} → after ≡ numbers_of made.both ++ (numbers_of made.left ++ (numbers_of made.right ++ drop 18 report)) → after ≡ timed_report due acting doors report
    unfolding timed_report
    made_report n {after} e =
        let numbers : after ≡ report_numbers (report_of due acting doors) ++ drop 18 report = e ∙ ap (λ m. numbers_of m.both ++ (numbers_of m.left ++ (numbers_of m.right ++ drop 18 report))) told in
        by_eqb (timed_answer due acting doors report) 10 (λ t. after ≡ cond t report (report_numbers (report_of due acting doors) ++ drop 18 report)) (λ t. absurd (n (made_answer ∙ t))) (λ m. numbers)

  -- a refusal but 10 leaves zeros
  pub zeros_report : (long : 18 ≤ length report) (a : ℕ) → record { answer = a; both = row_of []; left = row_of []; right = row_of [] } ≡ report_of due acting doors → a ≢ 10 → {after : List ℤ} → after ≡ replicate 18 (pos 0) ++ drop 18 report
      → after ≡ timed_report due acting doors report
  unfolding numbered in_order sum_of hits
  zeros_report long a told n e = made_report long _ told n e

-- no number of a report needs more than 64 bits
module _ (due acting doors : List ℕ) (made : Answered) (told : made ≡ report_of due acting doors) where
  rows : Small made.both × Small made.left × Small made.right
  rows = subst (λ m. Small m.both × Small m.left × Small m.right) (sym told) (rows_small due acting doors)

  pub both_small : Small made.both
  both_small = rows.0

  pub left_small : Small made.left
  left_small = rows.1

  pub right_small : Small made.right
  right_small = rows.2
