-- What a session tells those at the gate: its lines, and the lines that answered them; beside them only the length of the work area is looked at.
use Rattle.std.specs.Prelude.{ℕ, ◌<◌, ◌≡◌, refl, false, List, [], ◌∷◌, ◌++◌, map, take, drop}
use Rattle.rules.specs.Answers.{Answer, Done, NoneHeld, DoorAbove, answer_of}
use Rattle.rules.specs.Examples as orders
use Rattle.frames.specs.Answers.{Back}
use Rattle.frames.specs.AnswerLine.{answer_line}
use Rattle.frames.specs.Digits.{number, number_after, value_of, capital, digits, digit_of}
use Rattle.frames.specs.Frames.{read_of}
use Rattle.frames.specs.Orders.{order_of}
use Rattle.frames.specs.declared.Order.{Order}
use Rattle.buffers.specs.Format.{lent_of}
use Rattle.lines.specs.Lines.{line_after, ended_by, ended_within, left_by, last_line, orders_of}
use Rattle.sessions.specs.Runs.{asked}
use Rattle.demands.specs.Histories.{Call, Sequence, since, links, packings}
use Rattle.demands.specs.Asked.{Bounded}

-- the call that a frame and its answer line tell: "answer, 2 digits (10 is 0A); word, 16; steps, 8"; of packings a line tells nothing
unfoldable pub told_by : ℕ → Order → List ℕ → Call
unfolding answer_of number_after
told_by n o line = record {
  order = asked o;
  work = n;
  answer = answer_of (number (take 2 line));
  word = number (take 16 (drop 2 line));
  steps = number (take 8 (drop 18 line));
  packed = false;
}

-- one line more: "everything else .. is 10" and tells no call
unfoldable pub one_more : ℕ → List Order → List ℕ → List Call → List Call
unfolding told_by
one_more n [] line cs = cs
one_more n (o ∷ os) line cs = told_by n o line ∷ cs

-- lines as they were read, and their answers of 27 bytes each, one after the other: the calls that they tell, the latest first, on top of those told before
unfoldable pub told_after : ℕ → List (Back Order) → List ℕ → List Call → List Call
unfolding one_more
told_after n [] out cs = cs
told_after n (read ∷ reads) out cs = told_after n reads (drop 27 out) (one_more n read.values (take 27 out) cs)

-- all that a session with n words of work area has told, by what came in and what went out
abbrev pub told : ℕ → List ℕ → List ℕ → List Call
told n input out = told_after n (orders_of input) out []

-- a call as its answer line tells it: sixteen digits of its word, its steps whole, and nothing of a packing
unfoldable pub seen : Call → Call
seen c = record { order = c.order; work = c.work; answer = c.answer; word = number (digits 16 c.word); steps = c.steps; packed = false }

-- the line that answers: "everything else .. is 10", with a zero word and zero steps; a frame's line has the document's digits and line end, and another number
abbrev pub AnswersLine : List Order → List ℕ → Type 0
AnswersLine [] line = line ≡ answer_line 10 0 0
AnswersLine (o ∷ os) line = (line ≡ answer_line (number (take 2 line)) (number (take 16 (drop 2 line))) (number (take 8 (drop 18 line)))) × (number (take 2 line) < 10)

-- one answer line for each line, in order, and nothing behind them
abbrev pub AnswersEach : List (Back Order) → List ℕ → Type 0
AnswersEach [] out = out ≡ []
AnswersEach (read ∷ reads) out = AnswersLine read.values (take 27 out) × AnswersEach reads (drop 27 out)

-- what came in and went out tells calls that were made one after the other
pub record Tells (n : ℕ) (ws ws' input out : List ℕ) : Type 0 where
  pub calls : List Call
  pub made : Sequence ws calls ws'
  pub tells : told n input out ≡ map seen calls
  pub answers : AnswersEach (orders_of input) out

-- calls that were made from ws on, of which these are told
pub record MadeSoFar (ws : List ℕ) (earlier : List Call) : Type 0 where
  pub calls : List Call
  pub left : List ℕ
  pub made : Sequence ws calls left
  pub tells : map seen calls ≡ earlier

-- demand 3's bound of those told, with the packings that the calls made
pub record Packed (ws : List ℕ) (earlier : List Call) : Type 0 where
  pub so_far : MadeSoFar ws earlier
  pub third : Bounded (since earlier) (links earlier) (packings (since so_far.calls))

-- and its first half: the steps that a line tells are those of the rules, on the words that the calls so far left
pub record Reported (ws : List ℕ) (c : Call) (earlier : List Call) : Type 0 where
  pub so_far : MadeSoFar ws earlier
  pub steps_are : c.steps ≡ (orders.call c.work c.order (lent_of so_far.left)).steps

-- "0001", "zz", "03" and "02", answered 0, 10, 0 with an entry and two steps, and 6
pub example : told 16 (48 ∷ 48 ∷ 48 ∷ 49 ∷ 10 ∷ 122 ∷ 122 ∷ 10 ∷ 48 ∷ 51 ∷ 10 ∷ 48 ∷ 50 ∷ 10 ∷ []) (answer_line 0 0 0 ++ answer_line 10 0 0 ++ answer_line 0 0x0000000701000001 2 ++ answer_line 6 0 0)
    ≡ record { order = orders.take_it; work = 16; answer = NoneHeld; word = 0; steps = 0; packed = false }
    ∷ record { order = orders.look_at; work = 16; answer = Done; word = 0x0000000701000001; steps = 2; packed = false }
    ∷ record { order = orders.setup_of 1; work = 16; answer = Done; word = 0; steps = 0; packed = false }
    ∷ []
unfolding told_after read_of order_of capital digits digit_of value_of ended_within ended_by line_after last_line left_by
example = refl

-- so many digits, and the line end
abbrev line : ℕ → ℕ → List ℕ
line k n = digits k n ++ (10 ∷ [])

-- the document's session "In whole", left and right, and what it tells with 960 words of work area
pub in_whole : let telling : orders.Order → Answer → ℕ → Call = λ order answer word. record { order = order; work = 960; answer = answer; word = word; steps = 0; packed = false } in
    told 960
    (line 4 0x0001 ++ line 18 0x010000000302000007 ++ line 18 0x010000000301000007 ++ line 2 0x03 ++ line 2 0x02 ++ line 2 0x04 ++ line 2 0x02 ++ line 2 0x02 ++ line 18 0x010000000303000000)
    (line 26 0x00000000000000000000000000 ++ line 26 0x00000000000000000000000000 ++ line 26 0x00000000000000000000000000 ++ line 26 0x00000000030100000700000000 ++ line 26 0x00000000030100000700000000
    ++ line 26 0x00000000000000000100000000 ++ line 26 0x00000000030200000700000000 ++ line 26 0x06000000000000000000000000 ++ line 26 0x07000000000000000000000000)
    ≡ telling (orders.insert_of 0x0000000303000000) DoorAbove 0
    ∷ telling orders.take_it NoneHeld 0
    ∷ telling orders.take_it Done 0x0000000302000007
    ∷ telling orders.held_now Done 1
    ∷ telling orders.take_it Done 0x0000000301000007
    ∷ telling orders.look_at Done 0x0000000301000007
    ∷ telling (orders.insert_of 0x0000000301000007) Done 0
    ∷ telling (orders.insert_of 0x0000000302000007) Done 0
    ∷ telling (orders.setup_of 1) Done 0
    ∷ []
unfolding told_after read_of order_of capital digits digit_of value_of ended_within ended_by line_after last_line left_by
in_whole = refl
