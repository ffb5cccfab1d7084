-- What the tally is told: by the code's results, by numbers, and by the rules' calls.
use Rattle.std.specs.Prelude.{◌≡◌, ◌<◌, ℕ, Bool, List, [], ◌∷◌, Result, Ok, Err, MatchResult}
use Rattle.rules.specs.Answers.{Answer, Done, NoSuchLinks, ArrayShort, WorkShort, BookBroken, Full, NoneHeld, DoorAbove, OrderBroken, NotAFrame, answer_in, steps_in, packed_in}
use Rattle.rules.specs.declared.Refusal.{Refusal}
use Rattle.rules.specs.declared.Refusal.TheVariants as refusal
use Rattle.rules.specs.declared.Done as code
use Rattle.rules.specs.Calls as rules
use Rattle.rules.specs.Examples as orders
use Rattle.rules.specs.Examples.{Order, setup_of, insert_of, take_it, look_at, held_now, audit_it}
use Rattle.tally.specs.declared.Call.{Call}
use Rattle.tally.specs.declared.Call.TheVariants.{Setup, Insert, Take, Look, Held, Audit}
use Rattle.tally.specs.declared.NoCall.{NoCall}
use Rattle.tally.specs.Day.{Outcome}

-- what a call's result says
abbrev pub told_in : Result code.Done Refusal → Outcome
told_in r = record { answer = answer_in r; steps = steps_in r; packed = packed_in r }

-- the result by which code tells of an answer
abbrev pub told_by : Answer → (steps : ℕ) → (packed : Bool) → Result code.Done Refusal
told_by Done steps packed = Ok (record { word = 0; steps = steps; packed = packed })
told_by NoSuchLinks steps packed = Err refusal.NoSuchLinks
told_by ArrayShort steps packed = Err refusal.ArrayShort
told_by WorkShort steps packed = Err refusal.WorkShort
told_by BookBroken steps packed = Err refusal.BookBroken
told_by Full steps packed = Err refusal.Full
told_by NoneHeld steps packed = Err refusal.NoneHeld
told_by DoorAbove steps packed = Err refusal.DoorAbove
told_by OrderBroken steps packed = Err refusal.OrderBroken
told_by NotAFrame steps packed = Err refusal.NotAFrame

-- "00 .. setup. 01 .. insert. 02 take, 03 look, 04 held, 05 audit"
abbrev pub call_number : Call → ℕ
call_number Setup = 0
call_number Insert = 1
call_number Take = 2
call_number Look = 3
call_number Held = 4
call_number Audit = 5

-- the call that has this number, or none has it
abbrev pub Coded : ℕ → Result Call NoCall → Type 0
Coded n r = MatchResult r (λ call. call_number call ≡ n) (λ e. (e.0 ≡ n) × (5 < n))

unfoldable pub call_of : Order → Call
call_of (setup_of links) = Setup
call_of (insert_of entry) = Insert
call_of take_it = Take
call_of look_at = Look
call_of held_now = Held
call_of audit_it = Audit

unfoldable pub told_of : rules.Outcome → Outcome
told_of o = record { answer = o.answer; steps = o.steps; packed = o.packed }

-- these orders on a lent array, with so many words of work area
unfoldable pub calls : ℕ → List Order → rules.Lent → List (Call × Outcome)
unfolding call_of told_of orders.call rules.afterwards
calls work [] a = []
calls work (order ∷ rest) a = let o = orders.call work order a in (call_of order, told_of o) ∷ calls work rest (rules.afterwards a o)
