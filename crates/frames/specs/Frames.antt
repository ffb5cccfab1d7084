-- "One frame a line, capital hexadecimal .. On reading, everything else, the empty line too, is 10."
use Rattle.std.specs.Prelude.{Bool, cond, ◌&&◌, List, ◌++◌, ℕ, ◌+◌, ◌^◌, ◌<◌, eqb, length, take, drop}
use Rattle.frames.specs.Answers.{Back, refused}
use Rattle.frames.specs.Digits.{capital, number, digits}
use Rattle.frames.specs.Orders.{width_of, order_of}
use Rattle.frames.specs.declared.Order.{Order}

-- digits, as many as the first two say
unfoldable pub whole : List ℕ → Bool
whole l = capital l && eqb (length l) (2 + width_of (number (take 2 l)))

-- what a line without its 0A is read as
unfoldable pub read_of : List ℕ → Back Order
unfolding whole order_of
read_of l = cond (whole l) (order_of (number (take 2 l)) (number (drop 2 l))) refused

-- the document's frames, said apart from reader and writer
pub data Frame : List ℕ → Type 0 where
  setup : (links : ℕ) → links < 2 ^ 8 → Frame (digits 2 0 ++ digits 2 links)
  insert : (word : ℕ) → word < 2 ^ 64 → Frame (digits 2 1 ++ digits 16 word)
  take_alone : Frame (digits 2 2)
  look_alone : Frame (digits 2 3)
  held_alone : Frame (digits 2 4)
  audit_alone : Frame (digits 2 5)
