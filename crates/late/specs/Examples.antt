-- What is said of short inputs, computed.
use Rattle.std.specs.Prelude.{◌≡◌, refl, [], ◌∷◌, ◌++◌, pos, negsuc, replicate}
use Rattle.frames.specs.Answers.{Back, done, refused}
use Rattle.frames.specs.Digits.{value_of, digit_of, capital, number_after}
use Rattle.lines.specs.Lines.{line_after, ended_by, ended_within, left_by, last_line}
use Rattle.lateness.specs.Clock.{distance, lateness_of}
use Rattle.lateness.specs.Ordered.{put_in, in_order, numbered}
use Rattle.lateness.specs.Pairs.{Pair}
use Rattle.lateness.specs.Reports.{sum_of, hits, row_of}
use Rattle.pairs.specs.Reads.{pair_of, reads_of}
use Rattle.text.specs.Bytes.{bytes}
use Rattle.late.specs.Lines.{row_line}
use Rattle.late.specs.Says.{refusal, report, says}

-- no input
none : says [] ≡
    report (
    bytes "both   count 0  earliest 0  latest 0  sum 0  exact 0  median 0  mean 0/0\n"
    ++ bytes "left   count 0  earliest 0  latest 0  sum 0  exact 0  median 0  mean 0/0\n"
    ++ bytes "right  count 0  earliest 0  latest 0  sum 0  exact 0  median 0  mean 0/0\n"
    )
unfolding says bytes numbered in_order sum_of hits
none = refl

-- late by 7, early by 12, late by 40
left : row_line (bytes "left   ") (row_of (pos 7 ∷ negsuc 11 ∷ pos 40 ∷ [])) ≡ bytes "left   count 3  earliest -12  latest 40  sum 35  exact 0  median 7  mean 35/3\n"
unfolding row_line bytes numbered in_order put_in sum_of hits
left = refl

-- the same from the input's bytes, the last line without its line end
three_lines : says (reads_of (bytes "000000640000006B01\n000000640000005801\n000000640000008C01")) ≡
    report (
    bytes "both   count 0  earliest 0  latest 0  sum 0  exact 0  median 0  mean 0/0\n"
    ++ bytes "left   count 3  earliest -12  latest 40  sum 35  exact 0  median 7  mean 35/3\n"
    ++ bytes "right  count 0  earliest 0  latest 0  sum 0  exact 0  median 0  mean 0/0\n"
    )
unfolding says bytes numbered in_order put_in sum_of hits lateness_of distance ended_within ended_by left_by line_after last_line pair_of digit_of number_after capital value_of
three_lines = refl

-- a sum below zero
right : row_line (bytes "right  ") (row_of (negsuc 34 ∷ pos 0 ∷ pos 0 ∷ [])) ≡ bytes "right  count 3  earliest -35  latest 0  sum -35  exact 2  median 0  mean -35/3\n"
unfolding row_line bytes numbered in_order put_in sum_of hits
right = refl

-- ---- refusals

one : Back Pair
one = done (record { due = 100; acting = 88; door = 1 })

above : Back Pair
above = done (record { due = 100; acting = 88; door = 3 })

-- the first of two, counted from 1
third_above : says (one ∷ one ∷ above ∷ above ∷ []) ≡ refusal (bytes "refused 7: line 3 has a door above 2\n")
unfolding says bytes one above
third_above = refl

-- a line that is no pair is told before a door above 2
no_pair_first : says (one ∷ above ∷ one ∷ one ∷ one ∷ one ∷ refused ∷ refused ∷ []) ≡ refusal (bytes "refused 10: line 7 is no pair\n")
unfolding says bytes one above
no_pair_first = refl

-- 4,097 lines are too many, whatever they are
too_many : says (replicate 4097 refused) ≡ refusal (bytes "refused 15: more than 4096 lines\n")
unfolding says bytes
too_many = refl
