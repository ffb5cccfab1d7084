-- Lent arrays that are alike are answered alike, and stay alike.
use mathlib.Core.Path.{◌≡◌, refl, sym, ap, ◌∙◌, subst}
use mathlib.Core.Bool.{Bool, true, false}
use mathlib.Core.List.{List, [], ◌∷◌, ◌++◌}
use Prim.Native.Nat.{ℕ}
use Rattle.rules.specs.Answers.{number_of, is_done}
use Rattle.rules.specs.Queue.{Queue}
use Rattle.rules.specs.Calls.{Lent, Outcome, queue_of}
use Rattle.rules.specs.Calls as rules
use Rattle.frames.specs.Answers.{Back}
use Rattle.frames.specs.AnswerLine.{answer_line}
use Rattle.frames.specs.declared.Order as frame
use Rattle.buffers.specs.Format.{lent_of}
use Rattle.queue.proofs.DependLaws.{Same, Depends, call_same}
use Rattle.sessions.specs.Runs.{asked, order_call, values_call, line_call, answer_of, After, Runs, ends, goes}
use Rattle.sessions.specs.Pieces.{Alike}

-- ---- each line

module _ (a b : Lent) (e : Alike a b) where
  alike_depends : Depends a b
  unfolding queue_of
  alike_depends = record { lengths = e.lengths; numbers = ap (λ (q : Queue). q.links) e.queues; verdicts = λ long. e.sounds; queues = λ long holds. e.queues }

  pub values_alike : (work : ℕ) (os : List frame.Order) → Same (values_call work os a) (values_call work os b)
  unfolding values_call order_call rules.refused
  values_alike work [] = record { answers = refl; words = refl; steps = refl; packings = refl; queues = λ done. e.queues }
  values_alike work (o ∷ os) = call_same a b alike_depends work (asked o)

-- ---- and what comes after is alike

pub after_alike : (ws vs ws' vs' : List ℕ) (o p : Outcome) → Same o p → Alike (lent_of ws) (lent_of vs) → After ws ws' o → After vs vs' p → Alike (lent_of ws') (lent_of vs')
unfolding lent_of
after_alike ws vs ws' vs' o p same e one two = both (is_done o.answer) refl
  where
    both : (b : Bool) → is_done o.answer ≡ b → Alike (lent_of ws') (lent_of vs')
    both true y =
        let y' : is_done p.answer ≡ true = ap is_done (sym same.answers) ∙ y in
        record {
          lengths = one.long ∙ e.lengths ∙ sym two.long;
          queues = one.queue_is y ∙ same.queues y ∙ sym (two.queue_is y');
          sounds = one.sound_is y ∙ sym (two.sound_is y');
        }
    both false n =
        let n' : is_done p.answer ≡ false = ap is_done (sym same.answers) ∙ n in
        subst (λ (l : List ℕ). Alike (lent_of l) (lent_of vs')) (sym (one.refused n)) (subst (λ (l : List ℕ). Alike (lent_of ws) (lent_of l)) (sym (two.refused n')) e)

-- ---- runs

-- a run over one line more, taken apart
record Went (n : ℕ) (ws : List ℕ) (read : Back frame.Order) (reads : List (Back frame.Order)) (ws' work' bytes : List ℕ) : Type 0 where
  next : List ℕ
  left : List ℕ
  more : List ℕ
  after : After ws next (line_call n read (lent_of ws))
  run : Runs n next left reads ws' work' more
  whole : bytes ≡ answer_of (line_call n read (lent_of ws)) ++ more

abbrev Apart : ℕ → List ℕ → List (Back frame.Order) → List ℕ → List ℕ → List ℕ → Type 0
Apart n ws [] ws' work' bytes = (ws' ≡ ws) × (bytes ≡ [])
Apart n ws (read ∷ reads) ws' work' bytes = Went n ws read reads ws' work' bytes

apart : {n : ℕ} {ws ws' work work' : List ℕ} {reads : List (Back frame.Order)} {bytes : List ℕ} → Runs n ws work reads ws' work' bytes → Apart n ws reads ws' work' bytes
apart (ends ws work) = (refl, refl)
apart (goes ws work next left ws' work' read reads bytes after leaves run) = record { next = next; left = left; more = bytes; after = after; run = run; whole = refl }

-- the same bytes come out, and the arrays are alike
pub record SameRun (ws vs xs ys : List ℕ) : Type 0 where
  pub bytes : xs ≡ ys
  pub alike : Alike (lent_of ws) (lent_of vs)

-- whatever stands in the work areas
pub runs_alike : {n : ℕ} {ws ws' vs vs' work work' area area' : List ℕ} {reads : List (Back frame.Order)} {xs ys : List ℕ}
    → Runs n ws work reads ws' work' xs → Runs n vs area reads vs' area' ys → Alike (lent_of ws) (lent_of vs) → SameRun ws' vs' xs ys
runs_alike {vs = vs} {vs' = vs'} (ends ws work) two e =
    let z = apart two in
    record { bytes = sym z.1; alike = subst (λ (l : List ℕ). Alike (lent_of ws) (lent_of l)) (sym z.0) e }
runs_alike {n = n} {vs = vs} {vs' = vs'} (goes ws work next left ws' work' read reads bytes after leaves run) two e =
    let z = apart two in
    let same : Same (line_call n read (lent_of ws)) (line_call n read (lent_of vs)) = values_alike (lent_of ws) (lent_of vs) e n read.values in
    let rest = runs_alike run z.run (after_alike ws vs next z.next (line_call n read (lent_of ws)) (line_call n read (lent_of vs)) same e after z.after) in
    record {
      bytes = (λ i. answer_line (number_of (same.answers i)) (same.words i) (same.steps i) ++ bytes) ∙ ap (λ (l : List ℕ). answer_of (line_call n read (lent_of vs)) ++ l) rest.bytes ∙ sym z.whole;
      alike = rest.alike;
    }
