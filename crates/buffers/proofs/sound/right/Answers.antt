use Rattle.std.proofs.Common.{sym, ap, ◌∙◌, arith, not}
use borrow.Author.Tests.{eq-eqb, lt-leb}
use Rattle.buffers.proofs.SoundLaws.{word_over, word_none, word_some}
use Rattle.buffers.proofs.sound.right.Goals as goal

pub returns-then-held-eq0 : goal.returns-then-held-eq0
returns-then-held-eq0 c = eq-eqb c.args.held 0 c.if-held-eq0.true ∙ sym (word_none _ _ _ (omega arith) c.if-held-eq0.true)

pub returns-else-held-eq0 : goal.returns-else-held-eq0
returns-else-held-eq0 c = ap not c.exhausted.ensures ∙ sym (word_some _ _ _ (omega arith) c.if-held-eq0.false)

pub returns-else-start-count : goal.returns-else-start-count
returns-else-start-count c = lt-leb _ _ c.if-start-count.false ∙ sym (word_over _ _ _ (omega arith))
