-- A call's outcome, handed back by number.
use mathlib.Core.Path.{◌≡◌, ap, ◌∙◌}
use mathlib.Core.Logic.{◌≢◌}
use mathlib.Core.Bool.{Bool, false}
use mathlib.Core.List.{List}
use Prim.Native.Nat.{ℕ}
use Rattle.rules.specs.Answers.{Answer, is_done, number_of}
use Rattle.rules.specs.Calls as rules
use Rattle.queue.specs.Calls.{Called, WorkKept}
use borrow.Author.Tests.{ne_eqb}
use Rattle.queue.proofs.AgreeLaws.{the_answer}
use Rattle.gorgalhut.specs.Answered.{Answered, WorkLeft}

pub answered : (ws ws' : List ℕ) (o : rules.Outcome) (answer : Answer) (number word steps : ℕ) (packed : Bool)
    → Called ws ws' o answer word steps packed → number ≡ number_of answer → Answered ws ws' o number word steps
answered ws ws' o answer number word steps packed called number_of_lem = record {
  number_is = number_of_lem ∙ called.number_is;
  word_is = called.word_is;
  steps_are = called.steps_are;
  long = called.long;
  past = called.past;
  unused = called.unused;
  refused = λ no. called.refused (ap is_done (the_answer called) ∙ no);
  queue_is = λ yes. called.queue_is (ap is_done (the_answer called) ∙ yes);
  sound_is = λ yes. called.sound_is (ap is_done (the_answer called) ∙ yes);
}

not_done : (x : Answer) → number_of x ≢ 0 → is_done x ≡ false
unfolding is_done
not_done x differ = ne_eqb (number_of x) 0 differ

pub work_left : (links : ℕ) (answer : Answer) (number : ℕ) (work work' : List ℕ) → WorkKept links answer work work' → number ≡ number_of answer → WorkLeft links number work work'
work_left links answer number work work' z n = record { long = z.long; past = z.past; refused = λ differ. z.refused (not_done answer (λ e. differ (n ∙ e))) }
