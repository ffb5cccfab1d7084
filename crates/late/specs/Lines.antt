-- The lines that `late` writes.
use Rattle.std.specs.Prelude.{ℕ, List, ◌++◌, ℤ}
use Prim.Native.String.{String}
use Rattle.lateness.specs.declared.Seen.{Seen}
use Rattle.lateness.specs.declared.Row.{Row}
use Rattle.lateness.specs.declared.Report.{Report}
use Rattle.late.specs.declared.Trouble.{Trouble}
use Rattle.late.specs.declared.Trouble.TheVariants.{TooManyLines, NoPair, DoorAbove}
use Rattle.text.specs.Bytes.{bytes}
use Rattle.text.specs.Decimal.{places, digits, decimal, signed}

-- a label, and a number in decimal
unfoldable pub count : String → ℕ → List ℕ
unfolding bytes places digits
count label n = bytes label ++ decimal n

-- the same for a number below zero, too, which has its sign in front
unfoldable pub late : String → ℤ → List ℕ
unfolding bytes signed places digits
late label n = bytes label ++ signed n

-- "for each byte the count, earliest, latest and sum of lateness, the count of exact hits"
unfoldable pub seen_text : Seen → List ℕ
unfolding count late
seen_text seen = count "count " seen.count ++ late "  earliest " seen.earliest ++ late "  latest " seen.latest ++ late "  sum " seen.sum ++ count "  exact " seen.exact

-- the mean is sum and count as they stand
unfoldable pub mean_text : Seen → List ℕ
unfolding count late
mean_text seen = late "  mean " seen.sum ++ count "/" seen.count

-- a door's line: its name, what one pass tells, the median and the mean
unfoldable pub row_line : List ℕ → Row → List ℕ
unfolding seen_text late mean_text bytes
row_line name row = name ++ seen_text row.seen ++ late "  median " row.median ++ mean_text row.seen ++ bytes "\n"

-- one line a door, each name and two spaces as wide as the widest
unfoldable pub report_lines : Report → List ℕ
unfolding row_line bytes
report_lines report = row_line (bytes "both   ") report.both ++ row_line (bytes "left   ") report.left ++ row_line (bytes "right  ") report.right

-- ---- refusals; lines are counted from 1

unfoldable pub too_many_lines : List ℕ
unfolding bytes
too_many_lines = bytes "refused 15: more than 4096 lines\n"

unfoldable pub no_pair : ℕ → List ℕ
unfolding count bytes
no_pair line = count "refused 10: line " line ++ bytes " is no pair\n"

unfoldable pub door_above : ℕ → List ℕ
unfolding count bytes
door_above line = count "refused 7: line " line ++ bytes " has a door above 2\n"

unfoldable pub trouble_line : Trouble → List ℕ
unfolding too_many_lines no_pair door_above
trouble_line TooManyLines = too_many_lines
trouble_line (NoPair line) = no_pair line
trouble_line (DoorAbove line) = door_above line
