-- Lines of the document's session, as bytes, computed.
use Rattle.std.specs.Prelude.{◌≡◌, refl, List, [], ◌∷◌, ℕ}
use Rattle.frames.specs.Answers.{done, refused}
use Rattle.frames.specs.Digits.{value_of, digit_of, capital, number_after, digits}
use Rattle.frames.specs.Entries.{word_of}
use Rattle.frames.specs.Orders.{frame_of}
use Rattle.frames.specs.Frames.{read_of}
use Rattle.frames.specs.AnswerLine.{answer_line}
use Rattle.frames.specs.declared.Door.TheVariants.{Left, Right, Other}
use Rattle.frames.specs.declared.Entry.{Entry}
use Rattle.frames.specs.declared.Order.TheVariants.{Setup, Insert, Take}

-- 0001
setup1 : List ℕ
setup1 = 48 ∷ 48 ∷ 48 ∷ 49 ∷ []

setup1_read : read_of setup1 ≡ done (Setup 1)
unfolding read_of number_after capital value_of setup1
setup1_read = refl

-- 010000000302000007
insert_right : List ℕ
insert_right = 48 ∷ 49 ∷ 48 ∷ 48 ∷ 48 ∷ 48 ∷ 48 ∷ 48 ∷ 48 ∷ 51 ∷ 48 ∷ 50 ∷ 48 ∷ 48 ∷ 48 ∷ 48 ∷ 48 ∷ 55 ∷ []

right : Entry
right = record { tick = 3; door = Right; command = 7 }

right_read : read_of insert_right ≡ done (Insert right)
unfolding read_of number_after capital value_of insert_right right
right_read = refl

right_written : frame_of (Insert right) ≡ insert_right
unfolding digits digit_of insert_right right
right_written = refl

-- 010000000303000000
insert_three : List ℕ
insert_three = 48 ∷ 49 ∷ 48 ∷ 48 ∷ 48 ∷ 48 ∷ 48 ∷ 48 ∷ 48 ∷ 51 ∷ 48 ∷ 51 ∷ 48 ∷ 48 ∷ 48 ∷ 48 ∷ 48 ∷ 48 ∷ []

-- for refusal 7
three_read : read_of insert_three ≡ done (Insert (record { tick = 3; door = Other 3; command = 0 }))
unfolding read_of number_after capital value_of insert_three
three_read = refl

-- 02
take : List ℕ
take = 48 ∷ 50 ∷ []

take_read : read_of take ≡ done Take
unfolding read_of number_after capital value_of take
take_read = refl

empty_read : read_of [] ≡ refused
unfolding read_of number_after capital
empty_read = refl

-- 000a
small : List ℕ
small = 48 ∷ 48 ∷ 48 ∷ 97 ∷ []

small_read : read_of small ≡ refused
unfolding read_of number_after capital value_of small
small_read = refl

-- 00000000030100000700000000, and its line end
looked : List ℕ
looked = 48 ∷ 48 ∷ 48 ∷ 48 ∷ 48 ∷ 48 ∷ 48 ∷ 48 ∷ 48 ∷ 51 ∷ 48 ∷ 49 ∷ 48 ∷ 48 ∷ 48 ∷ 48 ∷ 48 ∷ 55 ∷ 48 ∷ 48 ∷ 48 ∷ 48 ∷ 48 ∷ 48 ∷ 48 ∷ 48 ∷ 10 ∷ []

looked_line : answer_line 0 (word_of (record { tick = 3; door = Left; command = 7 })) 0 ≡ looked
unfolding digits digit_of looked
looked_line = refl

-- 0A000000000000000000000000, and its line end
not_frame : List ℕ
not_frame = 48 ∷ 65 ∷ 48 ∷ 48 ∷ 48 ∷ 48 ∷ 48 ∷ 48 ∷ 48 ∷ 48 ∷ 48 ∷ 48 ∷ 48 ∷ 48 ∷ 48 ∷ 48 ∷ 48 ∷ 48 ∷ 48 ∷ 48 ∷ 48 ∷ 48 ∷ 48 ∷ 48 ∷ 48 ∷ 48 ∷ 10 ∷ []

not_frame_line : answer_line 10 0 0 ≡ not_frame
unfolding digits digit_of not_frame
not_frame_line = refl
