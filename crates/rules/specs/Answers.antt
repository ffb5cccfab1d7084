-- The answers, the numbers that come back, and the answer that the code's results stand for.
use Rattle.std.specs.Prelude.{◌≡◌, ◌≢◌, ℕ, Bool, false, cond, eqb, Result, Ok, Err, MatchResult}
use Rattle.rules.specs.declared.Refusal.{Refusal}
use Rattle.rules.specs.declared.Refusal.TheVariants as refusal
use Rattle.rules.specs.declared.NoRefusal.{NoRefusal}
use Rattle.rules.specs.declared.Done as code

-- what a call answers: it is done, or one of nine refusals
pub data Answer : Type 0 where
  Done : Answer
  NoSuchLinks : Answer
  ArrayShort : Answer
  WorkShort : Answer
  BookBroken : Answer
  Full : Answer
  NoneHeld : Answer
  DoorAbove : Answer
  OrderBroken : Answer
  NotAFrame : Answer

-- "Every call answers with a number"
abbrev pub number_of : Answer → ℕ
number_of Done = 0
number_of NoSuchLinks = 1
number_of ArrayShort = 2
number_of WorkShort = 3
number_of BookBroken = 4
number_of Full = 5
number_of NoneHeld = 6
number_of DoorAbove = 7
number_of OrderBroken = 9
number_of NotAFrame = 10

-- "0 | done"
unfoldable pub is_done : Answer → Bool
is_done answer = eqb (number_of answer) 0

-- and the answer that has a number; one that no answer has reads as NotAFrame
unfoldable pub answer_of : ℕ → Answer
answer_of n =
    cond (eqb n 0) Done
    (cond (eqb n 1) NoSuchLinks
    (cond (eqb n 2) ArrayShort
    (cond (eqb n 3) WorkShort
    (cond (eqb n 4) BookBroken
    (cond (eqb n 5) Full
    (cond (eqb n 6) NoneHeld
    (cond (eqb n 7) DoorAbove
    (cond (eqb n 9) OrderBroken
    NotAFrame))))))))

-- ---- what the code's results stand for

abbrev pub answer_as : Refusal → Answer
answer_as refusal.NoSuchLinks = NoSuchLinks
answer_as refusal.ArrayShort = ArrayShort
answer_as refusal.WorkShort = WorkShort
answer_as refusal.BookBroken = BookBroken
answer_as refusal.Full = Full
answer_as refusal.NoneHeld = NoneHeld
answer_as refusal.DoorAbove = DoorAbove
answer_as refusal.OrderBroken = OrderBroken
answer_as refusal.NotAFrame = NotAFrame

-- a result's answer, whatever else it says where nothing refuses
abbrev pub answer_in : {A : Type 0} → Result A Refusal → Answer
answer_in (Ok _) = Done
answer_in (Err r) = answer_as r

-- "a zero word and zero steps" of a refusal
abbrev pub word_in : Result code.Done Refusal → ℕ
word_in (Ok done) = done.word
word_in (Err _) = 0

abbrev pub steps_in : Result code.Done Refusal → ℕ
steps_in (Ok done) = done.steps
steps_in (Err _) = 0

abbrev pub packed_in : Result code.Done Refusal → Bool
packed_in (Ok done) = done.packed
packed_in (Err _) = false

-- the refusal that has this number, or none has it
abbrev pub Numbered : ℕ → Result Refusal NoRefusal → Type 0
Numbered n r = MatchResult r (λ r. number_of (answer_as r) ≡ n) (λ e. (e.0 ≡ n) × ((r : Refusal) → number_of (answer_as r) ≢ n))
