-- A digit put before those that stand is one more of the number's digits.
use Rattle.std.proofs.Common.{ℕ, zero, suc, ◌-◌, ◌/◌, ◌%◌, ◌<◌, ◌≤◌, ◌≡◌, refl, List, ◌++◌, length, drop, set, arith}
use mathlib.Core.List.{append_assoc}
use native.Mathlib.Numerals.{add-one}
use Rattle.std.proofs.lemmas.List.{drop-set}
use Rattle.digits.specs.Written.{digit_of, written}

pub one_more : (base rest i digit : ℕ) (field : List ℕ) → 0 < i → i ≤ length field → digit ≡ digit_of (rest % base)
    → written base i rest ++ drop i field ≡ written base (i - 1) (rest / base) ++ drop (i - 1) (set field (i - 1) digit)
unfolding written
one_more base rest zero digit field some inside is = absurd (omega arith)
one_more base rest (suc i) digit field some inside is =
    let before : suc i - 1 ≡ i = omega arith in
    rw (before, drop-set field i digit (omega arith), add-one, is, append_assoc) refl
