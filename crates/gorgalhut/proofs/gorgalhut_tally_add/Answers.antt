-- `gorgalhut_tally_add` adds the call of these numbers.
use mathlib.Core.Path.{sym}
use native.Mathlib.Omega.{arith}
use Rattle.gorgalhut.proofs.NumberedLaws.{call_few, no_call, no_answer, tallied_none, tallied_told}
use Rattle.gorgalhut.proofs.gorgalhut_tally_add.Goals as goal

pub returns-clause-packings_after : goal.returns-clause-packings_after
returns-clause-packings_after c = tallied_told _ _ _ _ _ c.in-Ok.call c.in-Ok.ensures c.in-Ok-outcome_of.ensures.0 c.in-Ok-outcome_of.ensures.1 c.update.ensures

pub returns-in_default-clause-packings_after : goal.returns-in_default-clause-packings_after
returns-in_default-clause-packings_after c = sym (tallied_none _ _ _ _ _ (no_call _ _ c.in_default.ensures.1))

pub returns-in_default-outcome_of-clause-packings_after : goal.returns-in_default-outcome_of-clause-packings_after
returns-in_default-outcome_of-clause-packings_after c = sym (tallied_none _ _ _ _ _ (no_answer _ _ (omega (arith, call_few c.in-Ok.call, c.in-Ok.ensures)) c.in_default-outcome_of.ensures))
