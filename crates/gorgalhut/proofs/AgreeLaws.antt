-- What C gets back is determined: two outcomes that meet a function's contract agree.
use Prim.Native.Nat.{ℕ}
use mathlib.Core.Path.{◌≡◌, refl, sym, ap, ◌∙◌}
use mathlib.Core.Bool.{Bool, true, false}
use mathlib.Core.List.{List}
use lib.ListN.{length}
use Rattle.rules.specs.Answers.{is_done}
use Rattle.rules.specs.Queue.{Queue}
use Rattle.rules.specs.Calls as rules
use Rattle.buffers.specs.Format.{lent_of, buffers_of}
use Rattle.gorgalhut.specs.Answered.{Answered, PutIn}
use Rattle.gorgalhut.specs.Framed.{Lined}
use lib.IntN.{ℤ}
use Rattle.gorgalhut.specs.Timed.{timed_answer, timed_report}

-- the same number, word and steps, and the same link number, counters and entries of every buffer
pub record Agree (ws₁ ws₂ : List ℕ) (number₁ number₂ word₁ word₂ steps₁ steps₂ : ℕ) : Type 0 where
  pub numbers : number₁ ≡ number₂
  pub words : word₁ ≡ word₂
  pub steps : steps₁ ≡ steps₂
  pub queues : rules.queue_of (lent_of ws₁) ≡ rules.queue_of (lent_of ws₂)
  pub buffers : buffers_of ws₁ ≡ buffers_of ws₂

pub answered_agree : (ws ws₁ ws₂ : List ℕ) (o : rules.Outcome) (number₁ number₂ word₁ word₂ steps₁ steps₂ : ℕ)
    → Answered ws ws₁ o number₁ word₁ steps₁ → Answered ws ws₂ o number₂ word₂ steps₂ → Agree ws₁ ws₂ number₁ number₂ word₁ word₂ steps₁ steps₂
unfolding rules.queue_of lent_of
answered_agree ws ws₁ ws₂ o number₁ number₂ word₁ word₂ steps₁ steps₂ one two =
    let queues : rules.queue_of (lent_of ws₁) ≡ rules.queue_of (lent_of ws₂) = both (is_done o.answer) refl in
    record {
      numbers = one.number_is ∙ sym two.number_is;
      words = one.word_is ∙ sym two.word_is;
      steps = one.steps_are ∙ sym two.steps_are;
      queues = queues;
      buffers = ap (λ (q : Queue). q.buffers) queues;
    }
  where
    both : (b : Bool) → is_done o.answer ≡ b → rules.queue_of (lent_of ws₁) ≡ rules.queue_of (lent_of ws₂)
    both true e = one.queue_is e ∙ sym (two.queue_is e)
    both false e = ap (λ ws. rules.queue_of (lent_of ws)) (one.refused e ∙ sym (two.refused e))

-- and of an insert whether it packed
pub put_agree : (entry : ℕ) (ws ws₁ ws₂ work work₁ work₂ : List ℕ) (number₁ number₂ word₁ word₂ steps₁ steps₂ : ℕ) (packed₁ packed₂ : Bool)
    → PutIn entry ws ws₁ work work₁ number₁ word₁ steps₁ packed₁ → PutIn entry ws ws₂ work work₂ number₂ word₂ steps₂ packed₂
    → Agree ws₁ ws₂ number₁ number₂ word₁ word₂ steps₁ steps₂ × (packed₁ ≡ packed₂)
put_agree entry ws ws₁ ws₂ work work₁ work₂ number₁ number₂ word₁ word₂ steps₁ steps₂ packed₁ packed₂ one two = (
  answered_agree ws ws₁ ws₂ (rules.insert (length work) entry (lent_of ws)) number₁ number₂ word₁ word₂ steps₁ steps₂ one.0 two.0,
  one.1 ∙ sym two.1,
)

-- a frame or an answer line: the same number, the same count of bytes, the same buffer
pub lined_agree : (may : Bool) (line out out₁ out₂ : List ℕ) (number₁ number₂ written₁ written₂ : ℕ)
    → Lined may line out out₁ number₁ written₁ → Lined may line out out₂ number₂ written₂ → (number₁ ≡ number₂) × (written₁ ≡ written₂) × (out₁ ≡ out₂)
lined_agree may line out out₁ out₂ number₁ number₂ written₁ written₂ one two = (one.number_is ∙ sym two.number_is, one.written_is ∙ sym two.written_is, one.after ∙ sym two.after)

-- a report: the same number, and the same list behind the call
pub timed_agree : (due acting doors : List ℕ) (report report₁ report₂ : List ℤ) (number₁ number₂ : ℕ)
    → (number₁ ≡ timed_answer due acting doors report) × (report₁ ≡ timed_report due acting doors report) → (number₂ ≡ timed_answer due acting doors report) × (report₂ ≡ timed_report due acting doors report)
    → (number₁ ≡ number₂) × (report₁ ≡ report₂)
timed_agree due acting doors report report₁ report₂ number₁ number₂ one two = (one.0 ∙ sym two.0, one.1 ∙ sym two.1)
