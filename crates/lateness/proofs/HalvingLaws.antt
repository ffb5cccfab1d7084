-- The one with a number in order, between two others that come nearer to each other.
use Rattle.std.proofs.Common.{◌≡◌, ℕ, ◌+◌, ◌<◌, ◌≤◌, leb, List, length, ℤ, sym, ap, ◌∙◌, arith, w64, SFits, to_z, of_z}
use lib.Signed.{mag}
use Rattle.rules.proofs.Sizes.{leb-false}
use Rattle.rules.proofs.Capacity.{leb-true}
use Rattle.lateness.specs.Clock.{turn, half, above_of, late_at}
use Rattle.lateness.specs.Ordered.{numbered, at_most, Numbered}
use Rattle.lateness.proofs.ClockLaws.{above_late, late_above, above_short, above_order, late_in_clock}
use Rattle.lateness.proofs.OrderLaws.{le_of, lt_of}
use Rattle.lateness.proofs.NumberLaws.{number_at, numbers_ascend}
use Rattle.lateness.proofs.PairLaws.{Within, number_within}
use Rattle.std.proofs.Math.Facts.{to_z-of_z}

pub record Halving (k : ℕ) (xs : List ℤ) (low high : ℕ) : Type 0 where
  pub behind : low ≤ above_of (numbered k xs)
  pub before : above_of (numbered k xs) ≤ high
  pub inside : high < turn

module _ {k : ℕ} {earliest latest : ℤ} {xs : List ℤ} (within : Within xs) (number : Numbered k earliest latest xs) where
  in_order : (i j : ℕ) → 1 ≤ i → i ≤ j → j ≤ length xs → above_of (numbered i xs) ≤ above_of (numbered j xs)
  in_order i j l m h =
      let y = numbered i xs in
      let z = numbered j xs in
      le_of (above_of y) (above_of z) (sym (above_order y z (number_within i xs within) (number_within j xs within)) ∙ numbers_ascend xs i j l m h)

  pub first_small : SFits w64 earliest → mag (to_z w64 (of_z w64 earliest)) < half
  first_small f = rw (to_z-of_z f, number.first) (number_within 1 xs within)

  pub last_small : SFits w64 latest → mag (to_z w64 (of_z w64 latest)) < half
  last_small f = rw (to_z-of_z f, number.last) (number_within (length xs) xs within)

  pub halving_starts : {low high : ℕ} → SFits w64 earliest → SFits w64 latest → low ≡ above_of (to_z w64 (of_z w64 earliest)) → high ≡ above_of (to_z w64 (of_z w64 latest)) → Halving k xs low high
  halving_starts fe fl l h =
      let lows = l ∙ ap above_of (to_z-of_z fe ∙ number.first) in
      let highs = h ∙ ap above_of (to_z-of_z fl ∙ number.last) in
      record {
        behind = omega (arith, lows, in_order 1 k (omega arith) number.low number.high);
        before = omega (arith, highs, in_order k (length xs) number.low number.high (omega arith));
        inside = omega (arith, highs, above_short (numbered (length xs) xs) (number_within (length xs) xs within));
      }

  module _ {low high middle n : ℕ} {r : ℤ} (so_far : Halving k xs low high) (late : r ≡ late_at middle) (fits : SFits w64 r) (count : n ≡ at_most (to_z w64 (of_z w64 r)) xs) (below : middle < high) where
    -- so many do not exceed the middle exactly if the one with that number does not
    tested : leb k n ≡ leb (above_of (numbered k xs)) middle
    tested =
        let z = numbered k xs in
        let short : middle < turn = omega (arith, so_far.inside) in
        ap (leb k) (count ∙ ap (λ v. at_most v xs) (to_z-of_z fits ∙ late)) ∙ sym (number_at (late_at middle) xs k number.low number.high)
        ∙ above_order z (late_at middle) (number_within k xs within) (late_in_clock middle short) ∙ ap (leb (above_of z)) (above_late middle)

    pub goes_up : n < k → {next : ℕ} → next ≡ middle + 1 → Halving k xs next high
    goes_up h e = record { behind = omega (arith, lt_of (above_of (numbered k xs)) middle (sym tested ∙ leb-false k n h)); before = so_far.before; inside = so_far.inside }

    pub goes_down : k ≤ n → Halving k xs low middle
    goes_down h = record { behind = so_far.behind; before = le_of (above_of (numbered k xs)) middle (sym tested ∙ leb-true k n h); inside = omega (arith, so_far.inside) }

  pub halving_ends : {low high : ℕ} {r : ℤ} → Halving k xs low high → high ≤ low → r ≡ late_at low → r ≡ numbered k xs
  halving_ends {low} so_far h e =
      let here : low ≡ above_of (numbered k xs) = omega (arith, so_far.behind, so_far.before) in
      e ∙ ap late_at here ∙ late_above (numbered k xs) (number_within k xs within)
