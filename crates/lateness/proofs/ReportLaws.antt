-- Each row of a report, and that its numbers are small.
use Rattle.std.proofs.Common.{◌≡◌, ℕ, zero, suc, ◌+◌, ◌/◌, ◌≤◌, ◌≢◌, List, [], length, ℤ, pos, sym, refl, ap, ◌∙◌, ⊎_elim, arith}
use Rattle.rules.proofs.Sizes.{by_eqb}
use Rattle.lateness.specs.Ordered.{in_order, numbered}
use Rattle.lateness.specs.Pairs.{Pair, pairs_of, of_door, Lent}
use Rattle.lateness.specs.Reports.{sum_of, hits, Small, row_of, answer_of, report_from, report_of}
use Rattle.lateness.specs.declared.Row.{Row}
use Rattle.lateness.proofs.ClockLaws.{under_or_not}
use Rattle.lateness.proofs.PairLaws.{Within, door_few, door_within, number_within}
use Rattle.lateness.proofs.RowLaws.{none, few_seen}
use Rattle.lateness.proofs.CheckLaws.{other_dues, other_actings, too_many}

-- a door without pairs
pub no_pairs : (xs : List ℤ) {row : Row} → length xs ≡ 0 → row.seen.count ≡ 0 → row.seen.earliest ≡ pos 0 → row.seen.latest ≡ pos 0 → row.seen.sum ≡ pos 0 → row.seen.exact ≡ 0 → row.median ≡ pos 0 → row ≡ row_of xs
unfolding numbered in_order sum_of hits
no_pairs xs {row} z n e l s h m =
    let zeros : row ≡ row_of [] = λ i. record { seen = record { count = n i; earliest = e i; latest = l i; sum = s i; exact = h i }; median = m i } in
    zeros ∙ ap row_of (sym (none xs z))

-- a report is told by its number
pub answered : (a : ℕ) (pairs : List Pair) → (report_from a pairs).answer ≡ a
answered zero pairs = refl
answered (suc a) pairs = refl

-- ---- what is accepted is lent as it should be

module _ (due acting doors : List ℕ) where
  other : (P : Type 0) (n : ℕ) → n ≡ answer_of due acting doors → answer_of due acting doors ≡ 0 → n ≢ 0 → P
  other P n a e z = absurd (z (a ∙ e))

  pub done_lent : answer_of due acting doors ≡ 0 → Lent due acting doors
  done_lent e =
      let dues = by_eqb (length due) (length doors) (λ t. length due ≡ length doors) (λ p. p) (λ n. other (length due ≡ length doors) 10 (other_dues due acting doors n) e (omega arith)) in
      let actings = by_eqb (length acting) (length doors) (λ t. length acting ≡ length doors) (λ p. p) (λ n. other (length acting ≡ length doors) 10 (other_actings due acting doors dues n) e (omega arith)) in
      let few = ⊎_elim (λ h. other (length doors ≤ 4096) 15 (too_many due acting doors dues actings h) e (omega arith)) (λ h. h) (under_or_not 4096 (length doors)) in
      record { dues = dues; actings = actings; few = few }

-- ---- how large the numbers of a report can be

small_none : Small (row_of [])
unfolding numbered in_order Within
small_none = record { seen = few_seen [] tt (omega arith); middle = omega arith }

small_row : (door : ℕ) {due acting doors : List ℕ} → Lent due acting doors → Small (row_of (of_door door (pairs_of due acting doors)))
small_row door {due} {acting} {doors} lent =
    let lates = of_door door (pairs_of due acting doors) in
    let within = door_within door (pairs_of due acting doors) in
    record { seen = few_seen lates within (door_few door lent refl); middle = number_within ((length lates + 1) / 2) lates within }

-- each row of a report, refused or not
module _ (due acting doors : List ℕ) (P : Row → Type 0) (none : P (row_of [])) (some : (door : ℕ) → Lent due acting doors → P (row_of (of_door door (pairs_of due acting doors)))) where
  by_answer : (a : ℕ) → a ≡ answer_of due acting doors → P (report_from a (pairs_of due acting doors)).both × P (report_from a (pairs_of due acting doors)).left × P (report_from a (pairs_of due acting doors)).right
  by_answer zero e = let lent = done_lent due acting doors (sym e) in (some 0 lent, some 1 lent, some 2 lent)
  by_answer (suc a) e = (none, none, none)

  pub each_row : P (report_of due acting doors).both × P (report_of due acting doors).left × P (report_of due acting doors).right
  each_row = by_answer (answer_of due acting doors) refl

pub rows_small : (due acting doors : List ℕ) → Small (report_of due acting doors).both × Small (report_of due acting doors).left × Small (report_of due acting doors).right
rows_small due acting doors = each_row due acting doors Small small_none (λ door lent. small_row door lent)
