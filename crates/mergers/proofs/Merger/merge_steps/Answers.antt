-- An input that is empty leaves the other alone.
use Rattle.std.proofs.Common.{arith, sym, ◌∙◌}
use Rattle.std.proofs.lemmas.List.{nil_from_length}
use Rattle.mergers.proofs.TurnLaws.{run_second, run_first, run_both}
use Rattle.mergers.proofs.MoveLaws.{second_alone, first_alone}
use Rattle.mergers.proofs.Merger.merge_steps.Goals as goal

pub returns-then-count-eq0-clause-value : goal.returns-then-count-eq0-clause-value
returns-then-count-eq0-clause-value c = c.move_steps.ensures.value ∙ sym (run_second _ _ _ _ (nil_from_length _ (omega arith)))

pub returns-then-count-eq0-clause-ran : goal.returns-then-count-eq0-clause-ran
returns-then-count-eq0-clause-ran c = second_alone _ _ _ _ _ _ _ _ c.requires _ _ _ (nil_from_length _ (omega arith)) c.move_steps.ensures.ran

pub returns-then-count-eq0-2-clause-value : goal.returns-then-count-eq0-2-clause-value
returns-then-count-eq0-2-clause-value c = c.move_steps-then-count-eq0-2.ensures.value ∙ sym (run_first _ _ _ _ (omega arith) (nil_from_length _ (omega arith)))

pub returns-then-count-eq0-2-clause-ran : goal.returns-then-count-eq0-2-clause-ran
returns-then-count-eq0-2-clause-ran c = first_alone _ _ _ _ _ _ _ _ c.requires _ _ _ (nil_from_length _ (omega arith)) c.move_steps-then-count-eq0-2.ensures.ran

pub returns-clause-value : goal.returns-clause-value
returns-clause-value c = c.merge_both.ensures.value ∙ sym (run_both _ _ _ _ (omega arith) (omega arith))
