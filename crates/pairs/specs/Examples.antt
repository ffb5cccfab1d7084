-- Short inputs, computed.
use Rattle.std.specs.Prelude.{◌≡◌, refl, List, [], ◌∷◌, ◌++◌, ℕ, None, Some}
use Rattle.frames.specs.Answers.{done, refused}
use Rattle.frames.specs.Digits.{value_of, digit_of, capital, number_after, digits}
use Rattle.lines.specs.Lines.{line_after, ended_by, ended_within, left_by, last_line}
use Rattle.pairs.specs.Reads.{pair_of, reads_of}
use Rattle.pairs.specs.State.{placed, one_more, lines_after}
use Rattle.pairs.specs.Kept.{wrong_at, wrong_from, first_wrong}

-- FFFFFFFF0000000A02: due 4,294,967,295, acting 10, door 2
unfoldable late : List ℕ
late = digits 8 4294967295 ++ digits 8 10 ++ digits 2 2

a_pair : pair_of late ≡ done (record { due = 4294967295; acting = 10; door = 2 })
unfolding late pair_of digits digit_of number_after capital value_of
a_pair = refl

-- a digit too few, one too many, a small letter, nothing
short : pair_of (digits 17 1) ≡ refused
unfolding pair_of digits digit_of capital value_of
short = refl

long : pair_of (48 ∷ late) ≡ refused
unfolding late pair_of digits digit_of capital value_of
long = refl

small : pair_of (digits 17 1 ++ (97 ∷ [])) ≡ refused
unfolding pair_of digits digit_of capital value_of
small = refl

empty : pair_of [] ≡ refused
unfolding pair_of capital
empty = refl

-- a pair, an empty line, a pair without its line end
three : reads_of (late ++ (10 ∷ 10 ∷ late)) ≡ pair_of late ∷ refused ∷ pair_of late ∷ []
unfolding late ended_within ended_by left_by line_after last_line pair_of digits digit_of number_after capital value_of
three = refl

-- the first wrong of two is told, counted from 1
second : first_wrong (done (record { due = 1; acting = 2; door = 0 }) ∷ refused ∷ refused ∷ []) ≡ Some 2
unfolding wrong_from wrong_at
second = refl

-- a pair, a line that is none, and another pair
kept : lines_after (record { due = 7 ∷ 7 ∷ 7 ∷ []; acting = 7 ∷ 7 ∷ 7 ∷ []; doors = 7 ∷ 7 ∷ 7 ∷ []; lines = 0; wrong = None })
    (done (record { due = 1; acting = 2; door = 0 }) ∷ refused ∷ done (record { due = 3; acting = 4; door = 1 }) ∷ [])
    ≡ record { due = 1 ∷ 7 ∷ 3 ∷ []; acting = 2 ∷ 7 ∷ 4 ∷ []; doors = 0 ∷ 7 ∷ 1 ∷ []; lines = 3; wrong = Some 2 }
unfolding lines_after one_more placed
kept = refl

-- behind 4,096 lines two more are counted as one
full : lines_after (record { due = []; acting = []; doors = []; lines = 4096; wrong = Some 9 }) (refused ∷ refused ∷ []) ≡ record { due = []; acting = []; doors = []; lines = 4097; wrong = Some 9 }
unfolding lines_after one_more
full = refl
