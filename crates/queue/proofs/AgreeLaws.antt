-- A call's contract determines its outcome: two outcomes that meet it agree.
use Prim.Native.Nat.{ℕ}
use mathlib.Core.Path.{◌≡◌, refl, sym, ap, ◌∙◌}
use mathlib.Core.Bool.{Bool, true, false}
use mathlib.Core.List.{List}
use Rattle.rules.specs.Answers.{Answer, is_done}
use Rattle.rules.specs.Queue.{Queue}
use Rattle.rules.specs.Calls as rules
use Rattle.rules.proofs.AnswerLaws.{same_number}
use Rattle.buffers.specs.Format.{lent_of, buffers_of}
use Rattle.queue.specs.Calls.{Called}

-- the answer with that number
pub the_answer : {ws ws' : List ℕ} {o : rules.Outcome} {answer : Answer} {word steps : ℕ} {packed : Bool} → Called ws ws' o answer word steps packed → answer ≡ o.answer
the_answer {o = o} {answer = answer} called = same_number answer o.answer called.number_is

-- the same answer, word, steps and packing, and the same link number, counters and entries of every buffer
pub record Agree (ws₁ ws₂ : List ℕ) (answer₁ answer₂ : Answer) (word₁ word₂ steps₁ steps₂ : ℕ) (packed₁ packed₂ : Bool) : Type 0 where
  pub answers : answer₁ ≡ answer₂
  pub words : word₁ ≡ word₂
  pub steps : steps₁ ≡ steps₂
  pub packings : packed₁ ≡ packed₂
  pub queues : rules.queue_of (lent_of ws₁) ≡ rules.queue_of (lent_of ws₂)
  pub buffers : buffers_of ws₁ ≡ buffers_of ws₂

pub agree : (ws ws₁ ws₂ : List ℕ) (o : rules.Outcome) (answer₁ answer₂ : Answer) (word₁ word₂ steps₁ steps₂ : ℕ) (packed₁ packed₂ : Bool)
    → Called ws ws₁ o answer₁ word₁ steps₁ packed₁ → Called ws ws₂ o answer₂ word₂ steps₂ packed₂ → Agree ws₁ ws₂ answer₁ answer₂ word₁ word₂ steps₁ steps₂ packed₁ packed₂
unfolding rules.queue_of lent_of
agree ws ws₁ ws₂ o answer₁ answer₂ word₁ word₂ steps₁ steps₂ packed₁ packed₂ one two =
    let same : answer₁ ≡ answer₂ = the_answer one ∙ sym (the_answer two) in
    let queues : rules.queue_of (lent_of ws₁) ≡ rules.queue_of (lent_of ws₂) = both (is_done answer₁) refl same in
    record {
      answers = same;
      words = one.word_is ∙ sym two.word_is;
      steps = one.steps_are ∙ sym two.steps_are;
      packings = one.packed_is ∙ sym two.packed_is;
      queues = queues;
      buffers = ap (λ (q : Queue). q.buffers) queues;
    }
  where
    both : (b : Bool) → is_done answer₁ ≡ b → answer₁ ≡ answer₂ → rules.queue_of (lent_of ws₁) ≡ rules.queue_of (lent_of ws₂)
    both true e same = one.queue_is e ∙ sym (two.queue_is (ap is_done (sym same) ∙ e))
    both false e same = ap (λ ws. rules.queue_of (lent_of ws)) (one.refused e ∙ sym (two.refused (ap is_done (sym same) ∙ e)))
