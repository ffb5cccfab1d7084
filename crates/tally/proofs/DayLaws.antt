-- What a call adds to the tally.
use mathlib.Core.Path.{◌≡◌, refl}
use mathlib.Core.Bool.{Bool, true, false}
use borrow.Author.Tests.{eq-eqb, ne_eqb}
use Rattle.rules.specs.Answers.{Answer, Done, NoSuchLinks, ArrayShort, WorkShort, BookBroken, Full, NoneHeld, DoorAbove, OrderBroken, NotAFrame, number_of, is_done, answer_as}
use Rattle.rules.specs.declared.Refusal.{Refusal}
use Rattle.rules.specs.declared.Refusal.TheVariants as refusal
use Rattle.std.specs.Prelude.{ℕ, Err}
use Rattle.tally.specs.declared.Call.{Call}
use Rattle.tally.specs.declared.Call.TheVariants.{Setup, Held, Audit}
use Rattle.tally.specs.declared.Tally.{Tally}
use Rattle.tally.specs.Day.{Outcome, nothing, added_if_done, added, up_to_date}
use Rattle.tally.specs.Told.{told_in, told_by}

module _ (call : Call) (outcome : Outcome) where
  pub added_done : number_of outcome.answer ≡ 0 → added call outcome ≡ added_if_done call outcome.steps outcome.packed
  unfolding added
  added_done accepted = rw (added, eq-eqb _ _ accepted)

  -- "setup and refused calls add nothing"
  pub added_refused : (number_of outcome.answer ≡ 0 → ⊥) → added call outcome ≡ nothing
  unfolding added
  added_refused refused = rw (added, ne_eqb _ _ refused)

either : (accepted : Bool) {more : Tally} → more ≡ nothing → elim accepted [ true ↦ more | false ↦ nothing ] ≡ nothing
either true none = none
either false none = refl

module _ (outcome : Outcome) where
  -- the same of setup
  pub setup_nothing : added Setup outcome ≡ nothing
  unfolding added
  setup_nothing = either (is_done outcome.answer) refl

  -- "held and audit change nothing and report 0 steps"
  pub held_nothing : outcome.steps ≡ 0 → added Held outcome ≡ nothing
  unfolding added
  held_nothing none = either (is_done outcome.answer) (rw none)

  pub audit_nothing : outcome.steps ≡ 0 → added Audit outcome ≡ nothing
  unfolding added
  audit_nothing none = either (is_done outcome.answer) (rw none)

-- every outcome can be told, a refusal's too that comes with steps or a packing: they add nothing
pub all_told : (tally : Tally) (call : Call) (answer : Answer) (steps : ℕ) (packed : Bool)
    → up_to_date tally call (told_in (told_by answer steps packed)) ≡ up_to_date tally call (record { answer = answer; steps = steps; packed = packed })
unfolding up_to_date added is_done
all_told tally call Done steps packed = refl
all_told tally call NoSuchLinks steps packed = refl
all_told tally call ArrayShort steps packed = refl
all_told tally call WorkShort steps packed = refl
all_told tally call BookBroken steps packed = refl
all_told tally call Full steps packed = refl
all_told tally call NoneHeld steps packed = refl
all_told tally call DoorAbove steps packed = refl
all_told tally call OrderBroken steps packed = refl
all_told tally call NotAFrame steps packed = refl

-- a refusal is told as itself
pub told_refusal : (r : Refusal) (steps : ℕ) (packed : Bool) → Err r ≡ told_by (answer_as r) steps packed
told_refusal refusal.NoSuchLinks steps packed = refl
told_refusal refusal.ArrayShort steps packed = refl
told_refusal refusal.WorkShort steps packed = refl
told_refusal refusal.BookBroken steps packed = refl
told_refusal refusal.Full steps packed = refl
told_refusal refusal.NoneHeld steps packed = refl
told_refusal refusal.DoorAbove steps packed = refl
told_refusal refusal.OrderBroken steps packed = refl
told_refusal refusal.NotAFrame steps packed = refl
