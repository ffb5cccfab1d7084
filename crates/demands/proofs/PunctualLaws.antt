-- Each answer of a report is given exactly when its row says so, and its row says what the lent list becomes.
use mathlib.Core.Path.{◌≡◌, refl, sym, ap, subst}
use mathlib.Core.Logic.{inl, inr, ⊎_elim}
use mathlib.Core.List.{List, ◌++◌}
use Prim.Native.Nat.{ℕ, ◌≤◌}
use native.Mathlib.Omega.{arith}
use lib.ListN.{length, drop}
use lib.IntN.{ℤ}
use Rattle.rules.proofs.Sizes.{by_eqb}
use Rattle.lateness.specs.Ordered.{in_order, numbered}
use Rattle.lateness.specs.Pairs.{Lent, pairs_of}
use Rattle.lateness.specs.Reports.{sum_of, hits, first_above, answer_of, report_from, report_of}
use Rattle.lateness.proofs.ClockLaws.{under_or_not}
use Rattle.lateness.proofs.CheckLaws.{other_dues, other_actings, too_many, door_above, accepted, above_there, none_above, some_above, all_below}
use Rattle.gorgalhut.specs.Timed.{timed_answer, timed_report}
use Rattle.gorgalhut.proofs.TimedLaws.{short_answer, short_report, made_answer, unequal_report, made_report}
use Rattle.demands.specs.Punctual as punctual
use Rattle.demands.specs.Punctual.{zeros, Timed}

module _ (due acting doors : List ℕ) (report : List ℤ) where
  abbrev Told : ℕ → List ℤ → Type 0
  Told n after = (n ≡ timed_answer due acting doors report) × (after ≡ timed_report due acting doors report)

  made : (a : ℕ) → a ≡ answer_of due acting doors → report_from a (pairs_of due acting doors) ≡ report_of due acting doors
  made a e = ap (λ a. report_from a (pairs_of due acting doors)) e

  -- lists that are no pairs
  ten : 18 ≤ length report → 10 ≡ answer_of due acting doors → Told 10 report
  ten long e =
      let m = made 10 e in
      (made_answer due acting doors report long (report_from 10 (pairs_of due acting doors)) m, unequal_report due acting doors report long (report_from 10 (pairs_of due acting doors)) m refl)

  fifteen : 18 ≤ length report → 15 ≡ answer_of due acting doors → Told 15 (zeros ++ drop 18 report)
  unfolding numbered in_order sum_of hits
  fifteen long e =
      let m = made 15 e in
      (made_answer due acting doors report long (report_from 15 (pairs_of due acting doors)) m, made_report due acting doors report long (report_from 15 (pairs_of due acting doors)) m (omega arith) refl)

  seven : 18 ≤ length report → 7 ≡ answer_of due acting doors → Told 7 (zeros ++ drop 18 report)
  unfolding numbered in_order sum_of hits
  seven long e =
      let m = made 7 e in
      (made_answer due acting doors report long (report_from 7 (pairs_of due acting doors)) m, made_report due acting doors report long (report_from 7 (pairs_of due acting doors)) m (omega arith) refl)

  nought : 18 ≤ length report → 0 ≡ answer_of due acting doors
      → Told 0 (punctual.of_byte 0 due acting doors ++ (punctual.of_byte 1 due acting doors ++ punctual.of_byte 2 due acting doors) ++ drop 18 report)
  nought long e =
      let m = made 0 e in
      (made_answer due acting doors report long (report_from 0 (pairs_of due acting doors)) m, made_report due acting doors report long (report_from 0 (pairs_of due acting doors)) m (omega arith) refl)

  -- what a row says is so
  pub row_told : {n : ℕ} {after : List ℤ} → Timed due acting doors report n after → Told n after
  row_told (punctual.short s) = (short_answer due acting doors report s, short_report due acting doors report s)
  row_told (punctual.unequal long (inl n)) = ten long (other_dues due acting doors n)
  row_told (punctual.unequal long (inr n)) =
      ten long (by_eqb (length due) (length doors) (λ t. 10 ≡ answer_of due acting doors) (λ d. other_actings due acting doors d n) (λ m. other_dues due acting doors m))
  row_told (punctual.too_many long d a many) = fifteen long (too_many due acting doors d a many)
  row_told (punctual.door_above long lent i l b) = seven long (door_above due acting doors lent.dues lent.actings lent.few (some_above doors i l b))
  row_told (punctual.reported long lent f) = nought long (accepted due acting doors lent.dues lent.actings lent.few (all_below doors f))

  Row : Type 0
  Row = Timed due acting doors report (timed_answer due acting doors report) (timed_report due acting doors report)

  as_told : {n : ℕ} {after : List ℤ} → Timed due acting doors report n after → Row
  unfolding Row
  as_told {n} {after} r =
      let t = row_told r in
      subst (λ m. Timed due acting doors report m (timed_report due acting doors report)) t.0 (subst (λ l. Timed due acting doors report n l) t.1 r)

  -- and some row always is
  some_row : Row
  some_row = ⊎_elim (λ s. as_told (punctual.short s)) (λ long. equal_or_not long) (under_or_not (length report) 18)
    where
      lent_row : 18 ≤ length report → Lent due acting doors → Row
      lent_row long lent = ⊎_elim (λ h. as_told (punctual.door_above long lent (first_above doors) h (above_there doors h))) (λ h. as_told (punctual.reported long lent (none_above doors h))) (under_or_not (first_above doors) (length doors))

      equal_row : 18 ≤ length report → length due ≡ length doors → length acting ≡ length doors → Row
      equal_row long d a = ⊎_elim (λ h. as_told (punctual.too_many long d a h)) (λ h. lent_row long (record { dues = d; actings = a; few = h })) (under_or_not 4096 (length doors))

      equal_or_not : 18 ≤ length report → Row
      equal_or_not long =
          by_eqb (length due) (length doors) (λ t. Row)
          (λ d. by_eqb (length acting) (length doors) (λ t. Row) (λ a. equal_row long d a) (λ n. as_told (punctual.unequal long (inr n))))
          (λ n. as_told (punctual.unequal long (inl n)))

  pub told_row : {n : ℕ} {after : List ℤ} → Told n after → Timed due acting doors report n after
  unfolding Row
  told_row {n} {after} t =
      subst (λ m. Timed due acting doors report m after) (sym t.0) (subst (λ l. Timed due acting doors report (timed_answer due acting doors report) l) (sym t.1) some_row)
