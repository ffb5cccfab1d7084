-- "a report gives for each byte the count, earliest, latest and sum of lateness, the count of exact hits and the lower median"
use Rattle.std.specs.Prelude.{ℕ, zero, suc, ◌+◌, ◌*◌, ◌/◌, ◌<◌, ◌≤◌, cond, ◌&&◌, List, [], ◌∷◌, length, ℤ, pos, negsuc, ◌+ℤ◌, ◌==◌, nat_lt}
use Rattle.std.specs.Int.Signed.{mag}
use Rattle.lateness.specs.Clock.{half}
use Rattle.lateness.specs.Ordered.{numbered}
use Rattle.lateness.specs.Pairs.{Pair, pairs_of, of_door}
use Rattle.lateness.specs.declared.Row.{Row}
use Rattle.lateness.specs.declared.Seen.{Seen}

unfoldable pub sum_of : List ℤ → ℤ
sum_of [] = pos 0
sum_of (x ∷ xs) = x +ℤ sum_of xs

-- an exact hit is neither early nor late
unfoldable pub hits : List ℤ → ℕ
hits [] = 0
hits (pos zero ∷ xs) = suc (hits xs)
hits (pos (suc n) ∷ xs) = hits xs
hits (negsuc n ∷ xs) = hits xs

-- all of it but the median
abbrev pub seen_of : List ℤ → Seen
seen_of xs = record { count = length xs; earliest = numbered 1 xs; latest = numbered (length xs) xs; sum = sum_of xs; exact = hits xs }

-- numbers that so few pairs can come to
pub record Few (seen : Seen) : Type 0 where
  pub counts : seen.count ≤ 4096
  pub exacts : seen.exact ≤ 4096
  pub first : mag seen.earliest < half
  pub last : mag seen.latest < half
  pub total : mag seen.sum ≤ 4096 * half

-- the lower median of n in order is number (n + 1) / 2, rounded down; "a door without pairs prints zeros"
abbrev pub row_of : List ℤ → Row
row_of xs = record { seen = seen_of xs; median = numbered ((length xs + 1) / 2) xs }

-- and a row of so few
pub record Small (row : Row) : Type 0 where
  pub seen : Few row.seen
  pub middle : mag row.median < half

-- how many door bytes stand before the first that is above 2
unfoldable pub first_above : List ℕ → ℕ
first_above [] = 0
first_above (b ∷ doors) = cond (nat_lt 2 b) 0 (suc (first_above doors))

-- lists of different lengths are no pairs; "Refusals: 15 for more pairs, 7 for a door above 2, 15 first."
unfoldable pub answer_of : List ℕ → List ℕ → List ℕ → ℕ
answer_of due acting doors =
    cond (length due == length doors && length acting == length doors) (cond (nat_lt 4096 (length doors)) 15 (cond (nat_lt (first_above doors) (length doors)) 7 0)) 10

-- the answer's number and the rows of the door bytes
pub record Answered : Type 0 where
  pub answer : ℕ
  pub both : Row
  pub left : Row
  pub right : Row

-- a refusal gives zeros
abbrev pub report_from : ℕ → List Pair → Answered
report_from zero pairs = record { answer = 0; both = row_of (of_door 0 pairs); left = row_of (of_door 1 pairs); right = row_of (of_door 2 pairs) }
report_from (suc n) pairs = record { answer = suc n; both = row_of []; left = row_of []; right = row_of [] }

abbrev pub report_of : List ℕ → List ℕ → List ℕ → Answered
report_of due acting doors = report_from (answer_of due acting doors) (pairs_of due acting doors)
