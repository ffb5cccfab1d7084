-- What is known of the array at any time in a history.
use Prim.Native.Nat.{ℕ, ◌+◌, ◌≤◌}
use mathlib.Core.Path.{◌≡◌, refl, sym, ap, ◌∙◌, subst}
use mathlib.Core.Bool.{Bool, true, false}
use mathlib.Core.List.{List, [], ◌∷◌, ◌++◌}
use native.Mathlib.Omega.{arith}
use lib.Dec.{T}
use lib.ListN.{length}
use Rattle.rules.specs.Answers.{Answer, is_done}
use Rattle.rules.specs.Links.{words}
use Rattle.rules.specs.Tests.{◌and◌}
use Rattle.rules.specs.Queue.{Queue}
use Rattle.rules.specs.Book.{is_link_number, sound}
use Rattle.rules.specs.Calls.{Lent, Outcome, queue_of}
use Rattle.rules.specs.Examples.{Order, setup_of, insert_of, take_it, look_at, held_now, audit_it, call}
use Rattle.rules.proofs.Weight.{sum_of, sum_of_append, one_if}
use Rattle.rules.proofs.History.{Since, since_fine}
use Rattle.rules.proofs.History as history
use Rattle.rules.proofs.SinceCalls.{is_insert, inserts_in, goes_on}
use Rattle.rules.proofs.SinceCalls as rules
use Rattle.buffers.specs.Format.{links_in, book_of, lent_of}
use Rattle.queue.specs.Calls.{Called}
use Rattle.queue.proofs.AgreeLaws.{the_answer}
use Rattle.demands.specs.Unread.{SameUpTo}
use Rattle.demands.specs.Histories.{Call, Made, accepted, is_setup, links_of, begins, History, first, next, since, links, brought, handed, if_done, put_in, taken_out, once, packings, steps, between}
use Rattle.demands.proofs.UnreadLaws.{same_lent}
use Rattle.demands.proofs.CallLaws.{once_is, weight_of, moves, refusal_plain, setup_begun, fresh_weight}

-- an array set up with so many links, in which these entries were put and from which these were taken, with so many packings and merge steps
pub record Stands (l : ℕ) (ins outs : List ℕ) (p t : ℕ) (ws : List ℕ) : Type 0 where
  pub number : T (is_link_number l)
  pub long : words l ≤ length ws
  pub holds : sound (book_of ws) ≡ true
  pub goes : Since l (length ins) p t (queue_of (lent_of ws))
  pub keeps : (g : ℕ → ℕ) → sum_of g outs + weight_of g (queue_of (lent_of ws)) ≡ sum_of g ins

-- ---- a setup

begun : (order : Order) (work : ℕ) (ws ws' : List ℕ) (answer : Answer) (word made_steps : ℕ) (packed : Bool) → (is_setup order and is_done answer) ≡ true
    → Called ws ws' (call work order (lent_of ws)) answer word made_steps packed → Stands (links_of order) [] [] 0 0 ws'
unfolding call lent_of
begun (setup_of l) work ws ws' answer word made_steps packed e made =
    let b = setup_begun (lent_of ws) l (subst T (sym e ∙ ap is_done (the_answer made)) tt) in
    let q = made.queue_is e ∙ b.queue in
    record {
      number = b.number;
      long = rw made.long b.long;
      holds = made.sound_is e;
      goes = rw q history.setup;
      keeps = λ g. omega (arith, ap (weight_of g) q, fresh_weight g l);
    }
begun (insert_of entry) work ws ws' answer word made_steps packed e made = absurd (subst T (sym e) tt)
begun take_it work ws ws' answer word made_steps packed e made = absurd (subst T (sym e) tt)
begun look_at work ws ws' answer word made_steps packed e made = absurd (subst T (sym e) tt)
begun held_now work ws ws' answer word made_steps packed e made = absurd (subst T (sym e) tt)
begun audit_it work ws ws' answer word made_steps packed e made = absurd (subst T (sym e) tt)

-- ---- any call but an accepted setup

same_setup : (order : Order) → is_setup order ≡ false → rules.is_setup order ≡ false
same_setup (setup_of l) e = e
same_setup (insert_of entry) e = refl
same_setup take_it e = refl
same_setup look_at e = refl
same_setup held_now e = refl
same_setup audit_it e = refl

-- the accepted insert is counted
counted : (order : Order) (o : Outcome) (ins : List ℕ) → length ins + inserts_in (is_insert order) o ≡ length (if_done (is_done o.answer) (brought order) ++ ins)
counted order o ins = go order (is_done o.answer) refl
  where
    go : (order : Order) (b : Bool) → is_done o.answer ≡ b → length ins + inserts_in (is_insert order) o ≡ length (if_done b (brought order) ++ ins)
    go (setup_of l) true e = omega arith
    go (setup_of l) false e = omega arith
    go (insert_of entry) true e = rw e (omega arith)
    go (insert_of entry) false e = rw e (omega arith)
    go take_it true e = omega arith
    go take_it false e = omega arith
    go look_at true e = omega arith
    go look_at false e = omega arith
    go held_now true e = omega arith
    go held_now false e = omega arith
    go audit_it true e = omega arith
    go audit_it false e = omega arith

carried : {l n n' p p' t t' : ℕ} {q q' : Queue} → n ≡ n' → p ≡ p' → t ≡ t' → q ≡ q' → Since l n p t q → Since l n' p' t' q'
carried {l} {n} {n'} {p} {p'} {t} {t'} {q} {q'} en ep et eq h =
    subst (λ n. Since l n p' t' q') en (subst (λ p. Since l n p t' q') ep (subst (λ t. Since l n p t q') et (subst (λ q. Since l n p t q) eq h)))

module _ {l p t : ℕ} {ins outs : List ℕ} (ws ws' : List ℕ) (c : Call) (h : Stands l ins outs p t ws) (made : Made ws c ws') where
  abbrev a : Lent
  a = lent_of ws

  abbrev o : Outcome
  o = call c.work c.order a

  -- what stands after a call
  abbrev After : Bool → Type 0
  After b = Stands l (if_done b (brought c.order) ++ ins) (if_done b (handed c.order c.word) ++ outs) (once c.packed + p) (c.steps + t) ws'

  done_too : (b : Bool) → accepted c ≡ b → is_done o.answer ≡ b
  done_too b e = ap is_done (sym (the_answer made.called)) ∙ e

  refused_after : accepted c ≡ false → After false
  refused_after e =
      let plain = refusal_plain a c.work c.order (done_too false e) in
      let no_packing : once c.packed ≡ 0 = ap once (made.called.packed_is ∙ plain.packed) in
      let no_steps : c.steps ≡ 0 = made.called.steps_are ∙ plain.steps in
      let same : ws' ≡ ws = made.called.refused e in
      subst (λ ws. Stands l ins outs (once c.packed + p) (c.steps + t) ws) (sym same)
      (record { number = h.number; long = h.long; holds = h.holds; goes = carried refl (omega arith) (omega arith) refl h.goes; keeps = h.keeps })

  done_after : is_setup c.order ≡ false → accepted c ≡ true → After true
  done_after other e =
      let q = made.called.queue_is e in
      let fine = since_fine l h.number h.goes in
      let d = done_too true e in
      record {
        number = h.number;
        long = rw made.called.long h.long;
        holds = made.called.sound_is e;
        goes =
            carried (counted c.order o ins ∙ ap (λ b. length (if_done b (brought c.order) ++ ins)) d)
            (omega (arith, ap one_if (sym made.called.packed_is), once_is c.packed))
            (omega (arith, made.called.steps_are)) (sym q) (goes_on a h.goes c.work c.order (same_setup c.order other));
        keeps = λ g.
            omega (
              arith,
              ap (weight_of g) q,
              ap (λ w. sum_of g (handed c.order w)) made.called.word_is,
              moves a fine c.work c.order other (subst T (sym d) tt) g,
              sum_of_append g (handed c.order c.word) outs,
              sum_of_append g (brought c.order) ins,
              h.keeps g,
            );
      }

  pub goes_after : begins c ≡ false → After (accepted c)
  goes_after e = go (is_setup c.order) (accepted c) refl refl e
    where
      go : (s b : Bool) → is_setup c.order ≡ s → accepted c ≡ b → (s and b) ≡ false → After b
      go true true es eb n = absurd (subst T n tt)
      go true false es eb n = refused_after eb
      go false true es eb n = done_after es eb
      go false false es eb n = refused_after eb

-- ---- the box between two calls

stands_still : {l p t : ℕ} {ins outs : List ℕ} (ws vs : List ℕ) → SameUpTo ws vs → Stands l ins outs p t ws → Stands l ins outs p t vs
unfolding lent_of book_of queue_of
stands_still {l} {p} {t} ws vs same h =
    let links_are : links_in ws ≡ l = (since_fine l h.number h.goes).same in
    let long : words (links_in ws) ≤ length ws = rw links_are h.long in
    let e : lent_of ws ≡ lent_of vs = same_lent ws vs same long h.holds in
    let q : queue_of (lent_of ws) ≡ queue_of (lent_of vs) = ap queue_of e in
    record {
      number = h.number;
      long = rw same.long h.long;
      holds = sym (ap (λ (a : Lent). sound a.book) e) ∙ h.holds;
      goes = carried refl refl refl q h.goes;
      keeps = λ g. omega (arith, ap (weight_of g) q, h.keeps g);
    }

-- ---- histories

-- after one more call, which may begin anew
abbrev Now : Call → List Call → List ℕ → Bool → Type 0
Now c cs ws b =
    let now : List Call = elim b [ true ↦ [] | false ↦ c ∷ since cs ] in
    Stands (elim b [ true ↦ links_of c.order | false ↦ links cs ]) (put_in now) (taken_out now) (packings now) (steps now) ws

-- at any time in a history
pub stands : {cs : List Call} {ws : List ℕ} → History cs ws → Stands (links cs) (put_in (since cs)) (taken_out (since cs)) (packings (since cs)) (steps (since cs)) ws
stands (first ws ws' c b made) = subst (Now c [] ws') (sym b) (begun c.order c.work ws ws' c.answer c.word c.steps c.packed b made.called)
stands (between ws vs cs h same) = stands_still ws vs same (stands h)
stands (next ws ws' c cs h made) = go (begins c) refl (stands h)
  where
    go : (b : Bool) → begins c ≡ b → Stands (links cs) (put_in (since cs)) (taken_out (since cs)) (packings (since cs)) (steps (since cs)) ws → Now c cs ws' b
    go true e s = begun c.order c.work ws ws' c.answer c.word c.steps c.packed e made.called
    go false e s = goes_after ws ws' c s made e
