-- A call by the library is a call that was made.
use Prim.Native.Nat.{ℕ}
use mathlib.Core.Path.{◌≡◌, refl, sym, ap, ◌∙◌}
use mathlib.Core.Bool.{Bool, true, false}
use mathlib.Core.List.{List, []}
use lib.ListN.{length}
use Rattle.rules.specs.Answers.{number_of, answer_of, is_done}
use Rattle.rules.specs.Calls as rules
use Rattle.rules.proofs.AnswerLaws.{answer_again}
use Rattle.buffers.specs.Format.{links_in, lent_of}
use Rattle.queue.specs.Calls as queue
use Rattle.queue.specs.Calls.{WorkKept}
use Rattle.queue.proofs.CheckLaws.{unlike}
use Rattle.gorgalhut.specs.Answered.{Answered, WorkLeft}
use Rattle.demands.specs.Histories.{Call, Made, Sequence}
use Rattle.demands.specs.Histories as histories
use Rattle.demands.specs.Library.{Called, setup, insert, take, look, held, audit, Calls, none, more, meanwhile}
use Rattle.demands.proofs.MadeLaws.{setup_made, insert_made, take_made, look_made, held_made, audit_made}
use Rattle.demands.proofs.CallLaws.{setup_unpacked, take_unpacked, look_unpacked, held_unpacked, audit_unpacked}

-- what came back by number is the rules' outcome
answered_called : (ws ws' : List ℕ) (o : rules.Outcome) (number word steps : ℕ) (packed : Bool) → Answered ws ws' o number word steps → packed ≡ o.packed
    → queue.Called ws ws' o (answer_of number) word steps packed
answered_called ws ws' o number word steps packed z p =
    let same : answer_of number ≡ o.answer = ap answer_of z.number_is ∙ answer_again o.answer in
    record {
      number_is = ap number_of same;
      word_is = z.word_is;
      steps_are = z.steps_are;
      packed_is = p;
      long = z.long;
      past = z.past;
      unused = z.unused;
      refused = λ no. z.refused (ap is_done (sym same) ∙ no);
      queue_is = λ yes. z.queue_is (ap is_done (sym same) ∙ yes);
      sound_is = λ yes. z.sound_is (ap is_done (sym same) ∙ yes);
    }

zero_done : is_done (answer_of 0) ≡ true
unfolding is_done answer_of
zero_done = refl

work_kept : (links number : ℕ) (work work' : List ℕ) → WorkLeft links number work work' → WorkKept links (answer_of number) work work'
work_kept links number work work' z =
    record { long = z.long; past = z.past; refused = λ no. z.refused (λ e. unlike (sym zero_done ∙ ap (λ n. is_done (answer_of n)) (sym e) ∙ no)) }

pub library_made : {ws ws' : List ℕ} {c : Call} → Called ws c ws' → Made ws c ws'
library_made {ws} (setup ws' links number word steps z) =
    setup_made ws ws' [] (answer_of number) word steps false links (answered_called ws ws' (rules.setup links (lent_of ws)) number word steps false z.0 (sym (setup_unpacked (lent_of ws) links))) z.1
library_made {ws} (insert ws' work work' entry number word steps packed z) =
    insert_made ws ws' work (answer_of number) word steps packed work' entry (answered_called ws ws' (rules.insert (length work) entry (lent_of ws)) number word steps packed z.0 z.1)
    (work_kept (links_in ws) number work work' z.2)
library_made {ws} (take ws' number word steps z) =
    take_made ws ws' [] (answer_of number) word steps false (answered_called ws ws' (rules.take (lent_of ws)) number word steps false z (sym (take_unpacked (lent_of ws))))
library_made {ws} (look ws' number word steps z) =
    look_made ws ws' [] (answer_of number) word steps false (answered_called ws ws' (rules.look (lent_of ws)) number word steps false z (sym (look_unpacked (lent_of ws))))
library_made {ws} (held number word steps z) =
    held_made ws [] (answer_of number) word steps false (answered_called ws ws (rules.held_call (lent_of ws)) number word steps false z (sym (held_unpacked (lent_of ws))))
library_made {ws} (audit number word steps z) =
    audit_made ws [] (answer_of number) word steps false (answered_called ws ws (rules.audit (lent_of ws)) number word steps false z (sym (audit_unpacked (lent_of ws))))

-- and calls by the library are a sequence of calls
pub library_calls : {ws ws' : List ℕ} {cs : List Call} → Calls ws cs ws' → Sequence ws cs ws'
library_calls none = histories.none
library_calls (more ws₁ ws₂ c cs before called) = histories.more ws₁ ws₂ c cs (library_calls before) (library_made called)
library_calls (meanwhile ws₁ vs cs before same) = histories.meanwhile ws₁ vs cs (library_calls before) same
