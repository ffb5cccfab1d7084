-- The calls of a day, one after the other, and the sums of what they add.
use Rattle.std.specs.Prelude.{◌≡◌, ℕ, ◌+◌, ◌≤◌, List, [], ◌∷◌}
use Rattle.tally.specs.declared.Call.{Call}
use Rattle.tally.specs.declared.Tally.{Tally}
use Rattle.tally.specs.Day.{Outcome, tally_of, nothing, largest, added, up_to_date}

-- the tally after these calls
unfoldable pub after_all : Tally → List (Call × Outcome) → Tally
unfolding up_to_date
after_all tally [] = tally
after_all tally (c ∷ calls) = after_all (up_to_date tally c.0 c.1) calls

abbrev pub sum_each : Tally → Tally → Tally
sum_each one two = tally_of (one.inserts + two.inserts) (one.takes + two.takes) (one.steps + two.steps) (one.packings + two.packings)

-- what these calls add together, with no largest value
unfoldable pub total : List (Call × Outcome) → Tally
unfolding added
total [] = nothing
total (c ∷ calls) = sum_each (added c.0 c.1) (total calls)

-- every field has 64 bits
pub record Within (tally : Tally) : Type 0 where
  pub inserts : tally.inserts ≤ largest
  pub takes : tally.takes ≤ largest
  pub steps : tally.steps ≤ largest
  pub packings : tally.packings ≤ largest

-- what a field becomes: the plain sum as far as that goes, and then the largest value
pub record Counted (before more after : ℕ) : Type 0 where
  pub plain : before + more ≤ largest → after ≡ before + more
  pub full : largest ≤ before + more → after ≡ largest

pub record EachCounted (before more after : Tally) : Type 0 where
  pub inserts : Counted before.inserts more.inserts after.inserts
  pub takes : Counted before.takes more.takes after.takes
  pub steps : Counted before.steps more.steps after.steps
  pub packings : Counted before.packings more.packings after.packings

-- a field that has its largest value keeps it
pub record EachKept (before after : Tally) : Type 0 where
  pub inserts : before.inserts ≡ largest → after.inserts ≡ largest
  pub takes : before.takes ≡ largest → after.takes ≡ largest
  pub steps : before.steps ≡ largest → after.steps ≡ largest
  pub packings : before.packings ≡ largest → after.packings ≡ largest
