-- What a report's caller gets back, by the document's sentences: the answer's number and the lent list behind the call.
use Rattle.std.specs.Prelude.{◌≡◌, ◌≢◌, ◌⊎◌, List, [], ◌∷◌, ◌++◌, ℕ, ◌≤◌, ◌<◌, length, get_or, drop, ℤ, pos}
use Rattle.lateness.specs.Pairs.{Lent, pairs_of, of_door}
use Rattle.lateness.specs.Reports.{row_of}
use Rattle.gorgalhut.specs.Timed.{numbers_of}

-- "A door without pairs prints zeros", and so does a refusal
abbrev pub six_zeros : List ℤ
six_zeros = pos 0 ∷ pos 0 ∷ pos 0 ∷ pos 0 ∷ pos 0 ∷ pos 0 ∷ []

abbrev pub zeros : List ℤ
zeros = six_zeros ++ (six_zeros ++ six_zeros)

-- a door byte's six numbers
abbrev pub of_byte : ℕ → List ℕ → List ℕ → List ℕ → List ℤ
of_byte door due acting doors = numbers_of (row_of (of_door door (pairs_of due acting doors)))

pub data Timed (due acting doors : List ℕ) (report : List ℤ) : ℕ → List ℤ → Type 0 where
  short : length report < 18 → Timed due acting doors report 10 report
  unequal : 18 ≤ length report → (length due ≢ length doors) ⊎ (length acting ≢ length doors) → Timed due acting doors report 10 report
  too_many : 18 ≤ length report → length due ≡ length doors → length acting ≡ length doors → 4096 < length doors → Timed due acting doors report 15 (zeros ++ drop 18 report)
  door_above : 18 ≤ length report → Lent due acting doors → (i : ℕ) → i < length doors → 2 < get_or doors i 0 → Timed due acting doors report 7 (zeros ++ drop 18 report)
  reported : 18 ≤ length report → Lent due acting doors → ((i : ℕ) → i < length doors → get_or doors i 0 ≤ 2)
      → Timed due acting doors report 0 (of_byte 0 due acting doors ++ (of_byte 1 due acting doors ++ of_byte 2 due acting doors) ++ drop 18 report)
