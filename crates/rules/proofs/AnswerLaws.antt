-- An answer and its number say the same.
use Prim.Native.Nat.{◌≤◌}
use mathlib.Core.Logic.{◌≢◌}
use mathlib.Core.Path.{◌≡◌, refl, sym, ap, ◌∙◌}
use native.Mathlib.Omega.{arith}
use mathlib.Core.Bool.{false}
use Rattle.std.specs.Prelude.{Result, Ok, Err}
use Rattle.std.specs.Result.{ResultUnwrapsOrElse}
use Rattle.rules.specs.declared.Done as code
use Rattle.rules.specs.declared.Refusal.{Refusal}
use Rattle.rules.specs.Answers.{Answer, Done, NoSuchLinks, ArrayShort, WorkShort, BookBroken, Full, NoneHeld, DoorAbove, OrderBroken, NotAFrame, number_of, answer_of, word_in, steps_in, packed_in}

pub answer_again : (a : Answer) → answer_of (number_of a) ≡ a
unfolding answer_of
answer_again Done = refl
answer_again NoSuchLinks = refl
answer_again ArrayShort = refl
answer_again WorkShort = refl
answer_again BookBroken = refl
answer_again Full = refl
answer_again NoneHeld = refl
answer_again DoorAbove = refl
answer_again OrderBroken = refl
answer_again NotAFrame = refl

pub same_number : (a b : Answer) → number_of a ≡ number_of b → a ≡ b
same_number a b e = sym (answer_again a) ∙ ap answer_of e ∙ answer_again b

pub answer_few : (a : Answer) → number_of a ≤ 10
answer_few Done = omega arith
answer_few NoSuchLinks = omega arith
answer_few ArrayShort = omega arith
answer_few WorkShort = omega arith
answer_few BookBroken = omega arith
answer_few Full = omega arith
answer_few NoneHeld = omega arith
answer_few DoorAbove = omega arith
answer_few OrderBroken = omega arith
answer_few NotAFrame = omega arith

-- "Eight is not given to anything else.": it reads as an answer that has another number
pub eight_given_to_none : (a : Answer) → number_of a ≢ 8
unfolding answer_of
eight_given_to_none a same = omega (arith, same, ap number_of (answer_again a), ap (λ n. number_of (answer_of n)) same)

-- what a result's value or the zeros are: a call's word, steps and packing
pub done_in : (z : Result code.Done Refusal) (d : code.Done) → ResultUnwrapsOrElse z (λ (d : code.Done). (d.word ≡ 0) × ((d.steps ≡ 0) × (d.packed ≡ false))) d
    → (d.word ≡ word_in z) × (d.steps ≡ steps_in z) × (d.packed ≡ packed_in z)
done_in (Ok x) d h = (ap (λ (d : code.Done). d.word) h, ap (λ (d : code.Done). d.steps) h, ap (λ (d : code.Done). d.packed) h)
done_in (Err r) d h = (h.0, h.1.0, h.1.1)
