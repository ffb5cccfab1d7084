-- Short inputs, computed.
use Rattle.std.specs.Prelude.{◌≡◌, refl, [], ◌∷◌}
use Rattle.frames.specs.Answers.{done, refused}
use Rattle.frames.specs.Digits.{value_of, capital, number_after}
use Rattle.frames.specs.Frames.{read_of}
use Rattle.frames.specs.declared.Order.TheVariants.{Setup, Take, Look}
use Rattle.lines.specs.Lines.{line_after, ended_by, ended_within, left_by, last_line, lines_of, orders_of}

none : lines_of [] ≡ []
unfolding ended_within left_by last_line
none = refl

-- an empty line is a line, behind a line end no line begins
empty : lines_of (10 ∷ []) ≡ [] ∷ []
unfolding ended_within ended_by left_by line_after last_line
empty = refl

-- 02, an empty line, 03 without its line end
session : orders_of (48 ∷ 50 ∷ 10 ∷ 10 ∷ 48 ∷ 51 ∷ []) ≡ done Take ∷ refused ∷ done Look ∷ []
unfolding ended_within ended_by left_by line_after last_line read_of number_after capital value_of
session = refl

-- 0D is a byte of its line
carriage : orders_of (48 ∷ 50 ∷ 13 ∷ 10 ∷ 48 ∷ 48 ∷ 48 ∷ 49 ∷ 10 ∷ []) ≡ refused ∷ done (Setup 1) ∷ []
unfolding ended_within ended_by left_by line_after last_line read_of number_after capital value_of
carriage = refl
