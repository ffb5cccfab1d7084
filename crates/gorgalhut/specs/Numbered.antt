-- Calls and answers by their numbers, for the day tally.
use Rattle.std.specs.Prelude.{ℕ, zero, suc, ◌≡◌, ◌≢◌, refl, Bool, cond, List, [], ◌∷◌, ◌++◌, eqb, leb, Result, MatchResult}
use Rattle.rules.specs.Tests.{◌and◌}
use Rattle.rules.specs.Answers.{number_of, answer_of}
use Rattle.rules.specs.declared.Refusal.{Refusal}
use Rattle.rules.specs.declared.NoRefusal.{NoRefusal}
use Rattle.rules.specs.declared.Done.{Done}
use Rattle.tally.specs.Told.{told_by}
use Rattle.tally.specs.declared.Call.{Call}
use Rattle.tally.specs.declared.Call.TheVariants.{Setup, Insert, Take, Look, Held, Audit}
use Rattle.tally.specs.declared.Tally.{Tally}
use Rattle.tally.specs.Day.{up_to_date}

-- "00 .. setup. 01 .. insert. 02 take, 03 look, 04 held, 05 audit"
unfoldable pub call_of : ℕ → Call
call_of n =
    cond (eqb n 0) Setup
    (cond (eqb n 1) Insert
    (cond (eqb n 2) Take
    (cond (eqb n 3) Look
    (cond (eqb n 4) Held
    Audit))))

-- a call and an answer have these numbers: the answer that a number reads as has that very number
abbrev pub named : ℕ → ℕ → Bool
named call answer = leb call 5 and eqb (number_of (answer_of answer)) answer

-- the numbers below n that answers have
unfoldable pub answers_below : ℕ → List ℕ
unfolding answer_of
answers_below zero = []
answers_below (suc n) = answers_below n ++ cond (named 1 n) (n ∷ []) []

-- computed: of all bytes these
pub named_bytes : answers_below 256 ≡ 0 ∷ 1 ∷ 2 ∷ 3 ∷ 4 ∷ 5 ∷ 6 ∷ 7 ∷ 9 ∷ 10 ∷ []
unfolding answers_below
named_bytes = refl

-- the tally after a call; numbers that name none add nothing
unfoldable pub tallied : Tally → ℕ → ℕ → ℕ → Bool → Tally
unfolding call_of answer_of up_to_date
tallied tally call answer steps packed = cond (named call answer) (up_to_date tally (call_of call) (record { answer = answer_of answer; steps = steps; packed = packed })) tally

-- the result that tells of the answer with this number, or no answer has it
abbrev pub Meant : (answer steps : ℕ) → (packed : Bool) → Result (Result Done Refusal) NoRefusal → Type 0
Meant answer steps packed r =
    MatchResult r (λ o. (number_of (answer_of answer) ≡ answer) × (o ≡ told_by (answer_of answer) steps packed)) (λ e. number_of (answer_of answer) ≢ answer)
