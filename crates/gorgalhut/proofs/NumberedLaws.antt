-- Calls and answers by their numbers.
use mathlib.Core.Path.{◌≡◌, refl, sym, ap, ◌∙◌}
use mathlib.Core.Logic.{◌≢◌}
use mathlib.Core.Bool.{Bool, true, false}
use Prim.Native.Nat.{ℕ, ◌≤◌, ◌<◌}
use native.Mathlib.Omega.{arith}
use native.Mathlib.Decide.{dec_lt}
use borrow.Author.Tests.{le-leb, lt-leb, eq-eqb, ne_eqb}
use Rattle.std.specs.Prelude.{Result}
use Rattle.rules.specs.declared.Refusal.{Refusal}
use Rattle.rules.specs.declared.Refusal.TheVariants as refusal
use Rattle.rules.specs.declared.Done as code
use Rattle.rules.specs.Answers.{Answer, Done, NoSuchLinks, ArrayShort, WorkShort, BookBroken, Full, NoneHeld, DoorAbove, OrderBroken, NotAFrame, number_of, answer_of, answer_as}
use Rattle.rules.proofs.AnswerLaws.{answer_again}
use Rattle.tally.specs.declared.Call.{Call}
use Rattle.tally.specs.declared.Call.TheVariants.{Setup, Insert, Take, Look, Held, Audit}
use Rattle.tally.specs.declared.Tally.{Tally}
use Rattle.tally.specs.Day.{Outcome, up_to_date}
use Rattle.tally.specs.Told.{call_number, told_in, told_by}
use Rattle.tally.proofs.DayLaws.{all_told}
use Rattle.gorgalhut.specs.Numbered.{call_of, named, tallied}

pub call_again : (c : Call) → call_of (call_number c) ≡ c
unfolding call_of
call_again Setup = refl
call_again Insert = refl
call_again Take = refl
call_again Look = refl
call_again Held = refl
call_again Audit = refl

pub call_few : (c : Call) → call_number c ≤ 5
call_few Setup = omega arith
call_few Insert = omega arith
call_few Take = omega arith
call_few Look = omega arith
call_few Held = omega arith
call_few Audit = omega arith

module _ (call answer : ℕ) where
  pub both_named : call ≤ 5 → number_of (answer_of answer) ≡ answer → named call answer ≡ true
  both_named p q = rw (le-leb call 5 p, eq-eqb (number_of (answer_of answer)) answer q) refl

  pub no_call : 5 < call → named call answer ≡ false
  no_call p = rw (lt-leb call 5 p) refl

  pub no_answer : call ≤ 5 → number_of (answer_of answer) ≢ answer → named call answer ≡ false
  no_answer p q = rw (le-leb call 5 p, ne_eqb (number_of (answer_of answer)) answer q) refl

module _ (tally : Tally) (call answer steps : ℕ) (packed : Bool) where
  tallied_named : named call answer ≡ true → tallied tally call answer steps packed ≡ up_to_date tally (call_of call) (record { answer = answer_of answer; steps = steps; packed = packed })
  unfolding tallied
  tallied_named e = rw e refl

  pub tallied_none : named call answer ≡ false → tallied tally call answer steps packed ≡ tally
  unfolding tallied
  tallied_none e = rw e refl

  pub call_told : (c : Call) → call_number c ≡ call → number_of (answer_of answer) ≡ answer → named call answer ≡ true
  call_told c p q = both_named call answer (omega (arith, call_few c, p)) q

  -- the call c is told by the result o
  pub tallied_told : {after : Tally} {o : Result code.Done Refusal} (c : Call) → call_number c ≡ call → number_of (answer_of answer) ≡ answer → o ≡ told_by (answer_of answer) steps packed
      → after ≡ up_to_date tally c (told_in o) → after ≡ tallied tally call answer steps packed
  tallied_told {after} {o} c p q e f =
      let told : after ≡ up_to_date tally (call_of call) (record { answer = answer_of answer; steps = steps; packed = packed }) =
      f ∙ ap (λ o. up_to_date tally c (told_in o)) e ∙ all_told tally c (answer_of answer) steps packed
      ∙ ap (λ c. up_to_date tally c (record { answer = answer_of answer; steps = steps; packed = packed })) (sym (call_again c) ∙ ap call_of p) in
      told ∙ sym (tallied_named (call_told c p q))

-- a number that no answer has means nothing: it is told so, and nothing is added
pub means_nothing : (number : ℕ) → ((a : Answer) → number_of a ≢ number) → (tally : Tally) (call steps : ℕ) (packed : Bool)
    → (named call number ≡ false) × (tallied tally call number steps packed ≡ tally)
means_nothing number none tally call steps packed =
    let unnamed = go (dec_lt 5 call) in
    (unnamed, tallied_none tally call number steps packed unnamed)
  where
    go : Dec (5 < call) → named call number ≡ false
    go (yes above) = no_call call number above
    go (no few) = no_answer call number (omega arith) (none (answer_of number))

-- every call with its outcome, told by its numbers, is added as the document says
pub tallied_call : (tally : Tally) (c : Call) (o : Outcome) → tallied tally (call_number c) (number_of o.answer) o.steps o.packed ≡ up_to_date tally c o
unfolding tallied
tallied_call tally c o = rw (both_named (call_number c) (number_of o.answer) (call_few c) (ap number_of (answer_again o.answer)), call_again c, answer_again o.answer) refl

-- a number that is not 0 and that no refusal has, no answer has
pub none_has : (n : ℕ) → n ≢ 0 → ((r : Refusal) → number_of (answer_as r) ≢ n) → (a : Answer) → number_of a ≢ n
none_has n some none Done e = some (sym e)
none_has n some none NoSuchLinks e = none refusal.NoSuchLinks e
none_has n some none ArrayShort e = none refusal.ArrayShort e
none_has n some none WorkShort e = none refusal.WorkShort e
none_has n some none BookBroken e = none refusal.BookBroken e
none_has n some none Full e = none refusal.Full e
none_has n some none NoneHeld e = none refusal.NoneHeld e
none_has n some none DoorAbove e = none refusal.DoorAbove e
none_has n some none OrderBroken e = none refusal.OrderBroken e
none_has n some none NotAFrame e = none refusal.NotAFrame e
