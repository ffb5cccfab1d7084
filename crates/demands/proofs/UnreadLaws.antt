-- Words past the stated length are never read: arrays that differ in such words alone are answered alike.
use Prim.Native.Nat.{ℕ, suc, ◌+◌, ◌≤◌, ◌<◌}
use mathlib.Core.Path.{◌≡◌, refl, sym, ap, ◌∙◌, subst}
use mathlib.Core.Bool.{Bool, true, false}
use mathlib.Core.Logic.{inl, inr}
use mathlib.Core.List.{List, map}
use native.Mathlib.Omega.{arith}
use lib.Dec.{T, leb, eqb, leb→le}
use lib.ListN.{length}
use Rattle.rules.specs.Answers.{is_done}
use Rattle.rules.specs.Links.{from, book_words, buffer_count, words, LinkNumber}
use Rattle.rules.specs.Book.{is_link_number, sound}
use Rattle.rules.specs.Calls.{Outcome, queue_of}
use Rattle.rules.specs.Examples.{Order, call}
use Rattle.rules.specs.Tests.{every}
use Rattle.rules.proofs.Tests.{truth}
use Rattle.rules.proofs.Table.{each_link_lem, at_least}
use Rattle.rules.proofs.Accepted.{Long}
use Rattle.buffers.specs.Format.{links_in, counter_in, word_of, count_in, start_in, mark_in, count_of, many, head_of, book_of, buffer_of, buffers_of, lent_of}
use Rattle.buffers.specs.Post.{Inside, Unused}
use Rattle.buffers.proofs.SlotLaws.{few, behind_book, in_words}
use Rattle.buffers.proofs.ArrayLaws.{unused_behind, unused_within, has, buffer_length, entry_at, buffer_is}
use Rattle.buffers.proofs.RuleLaws.{link_number_lem, is_link_number_lem}
use Rattle.buffers.proofs.Exact.{sound_inside}
use Rattle.queue.proofs.CallLaws.{each_same}
use Rattle.queue.proofs.DependLaws.{Same, Depends, call_same}
use Rattle.queue.proofs.AgreeLaws.{the_answer}
use Rattle.demands.specs.Unread.{SameUpTo}
use Rattle.demands.specs.Histories.{Call, Made, accepted, MadeSame}

-- ---- what arrays with the same words up to the stated length say

-- the book stands before the stated length, with slots behind it
book_within : {l : ℕ} → LinkNumber l → book_words < words l
unfolding every words
book_within = at_least words (suc book_words) tt

-- a buffer's word means something
buffer_used : (l n : ℕ) → n < buffer_count l → Unused l (8 + n) → ⊥
buffer_used l n lt (inl u) = omega (arith, u.1)
buffer_used l n lt (inr u) = omega (arith, u.0)

-- and so does every slot
slot_used : (l p : ℕ) → book_words ≤ p → Unused l p → ⊥
slot_used l p behind u = omega (arith, unused_within u)

module _ (ws vs : List ℕ) (same : SameUpTo ws vs) where
  many_same : many vs ≡ many ws
  many_same = ap buffer_count same.links

  -- where the link number is one, the book is the same: it stands before the stated length
  module _ (link : LinkNumber (links_in ws)) where
    word_same : (n : ℕ) → n < many ws → word_of vs n ≡ word_of ws n
    word_same n lt = same.words_are link (8 + n) (omega (arith, few link, book_within link)) (buffer_used (links_in ws) n lt)

    -- one value for each buffer, by its word
    by_word : {A : Type 0} (f : ℕ → A) → map (λ n. f (word_of vs n)) (from 0 (many vs)) ≡ map (λ n. f (word_of ws n)) (from 0 (many ws))
    by_word f =
        ap (λ m. map (λ n. f (word_of vs n)) (from 0 m)) many_same
        ∙ each_same (λ n. f (word_of vs n)) (λ n. f (word_of ws n)) 0 (many ws) (λ n lt. ap f (word_same n (omega arith)))

    counters_same : map (counter_in vs) (from 1 (links_in vs)) ≡ map (counter_in ws) (from 1 (links_in ws))
    counters_same =
        ap (λ l. map (counter_in vs) (from 1 l)) same.links
        ∙ each_same (counter_in vs) (counter_in ws) 1 (links_in ws) (λ m lt.
        same.words_are link m (omega (arith, link.high, book_within link)) (λ u. omega (arith, unused_behind m (omega arith) (omega (arith, link.high)) u)))

    book_same : book_of vs ≡ book_of ws
    unfolding book_of
    book_same = λ i. record {
      links = same.links i;
      counters = counters_same i;
      counts = by_word count_in i;
      starts = by_word start_in i;
      marks = by_word (λ w. eqb (mark_in w) 1) i;
    }

  -- where every stretch lies inside its buffer, and so before the stated length, the buffers are the same
  module _ (inside : Inside ws) (inside' : Inside vs) where
    buffer_same : (n : ℕ) → n < many ws → buffer_of vs n ≡ buffer_of ws n
    buffer_same n lt =
        let lt' : n < many vs = rw same.links lt in
        let e = word_same inside.link n lt in
        let h = has ws n inside lt in
        buffer_is vs n (has vs n inside' lt') (buffer_of ws n) (buffer_length ws n h ∙ sym (ap count_in e))
        (λ m under.
        let under' : m < count_of ws n = rw e at under in
        rw e (same.words_are inside.link (head_of ws n + m) (omega (arith, in_words inside.link n lt, h.fits)) (slot_used (links_in ws) (head_of ws n + m) (omega (arith, behind_book n)))) ∙ sym (entry_at ws n h m under'))

    buffers_same : buffers_of vs ≡ buffers_of ws
    unfolding buffers_of
    buffers_same =
        ap (λ m. map (buffer_of vs) (from 0 m)) many_same
        ∙ each_same (buffer_of vs) (buffer_of ws) 0 (many ws) (λ n lt. buffer_same n (omega arith))

-- ---- any order

module _ (ws vs : List ℕ) (same : SameUpTo ws vs) where
  books : Long (lent_of ws) → book_of vs ≡ book_of ws
  unfolding lent_of book_of
  books long = book_same ws vs same (link_number_lem (links_in ws) (truth (is_link_number (links_in ws)) long.number))

  lents : Long (lent_of ws) → sound (book_of ws) ≡ true → lent_of ws ≡ lent_of vs
  unfolding lent_of
  lents long holds =
      let inside = sound_inside ws holds long.enough in
      let inside' = sound_inside vs (ap sound (books long) ∙ holds) (rw (same.links, same.long) long.enough) in
      λ i. record { length = sym same.long i; book = sym (books long) i; buffers = sym (buffers_same ws vs same inside inside') i }

  unread_depends : Depends (lent_of ws) (lent_of vs)
  unfolding lent_of book_of
  unread_depends = record {
    lengths = sym same.long;
    numbers = sym same.links;
    verdicts = λ long. sym (ap sound (books long));
    queues = λ long holds. ap queue_of (lents long holds);
  }

-- answer, word, steps and queue do not depend on words past the stated length
pub call_unread : (ws vs : List ℕ) → SameUpTo ws vs → (work : ℕ) (order : Order) → Same (call work order (lent_of ws)) (call work order (lent_of vs))
call_unread ws vs same work order = call_same (lent_of ws) (lent_of vs) (unread_depends ws vs same) work order

-- ---- calls that were made

-- the answer is the rules' own
answers_are : (ws ws' : List ℕ) (c : Call) → Made ws c ws' → c.answer ≡ (call c.work c.order (lent_of ws)).answer
answers_are ws ws' c made = the_answer made.called

-- an array that is long enough for its links is long enough for one
one_link_least : {l : ℕ} → LinkNumber l → words 1 ≤ words l
unfolding every words
one_link_least {l} h = leb→le (words 1) (words l) (each_link_lem (λ l. leb (words 1) (words l)) tt h)

long_of : (ws : List ℕ) → words (links_in ws) ≤ length ws → sound (book_of ws) ≡ true → Long (lent_of ws)
unfolding lent_of book_of
long_of ws enough holds =
    let link : LinkNumber (links_in ws) = (sound_inside ws holds enough).link in
    record { shortest = omega (arith, enough, one_link_least link); number = subst T (sym (is_link_number_lem (links_in ws) link)) tt; enough = enough }

pub same_lent : (ws vs : List ℕ) → SameUpTo ws vs → words (links_in ws) ≤ length ws → sound (book_of ws) ≡ true → lent_of ws ≡ lent_of vs
unfolding lent_of
same_lent ws vs same enough holds = lents ws vs same (long_of ws enough holds) holds

pub made_unread : (ws vs ws' vs' : List ℕ) (c d : Call) → SameUpTo ws vs → c.order ≡ d.order → c.work ≡ d.work → Made ws c ws' → Made vs d vs' → MadeSame ws c d ws' vs'
made_unread ws vs ws' vs' c d same order work one two =
    let o = call c.work c.order (lent_of ws) in
    let p = call d.work d.order (lent_of vs) in
    let s : Same o p = subst (λ (z : Outcome). Same o z) (λ i. call (work i) (order i) (lent_of vs)) (call_unread ws vs same c.work c.order) in
    let answers = answers_are ws ws' c one ∙ s.answers ∙ sym (answers_are vs vs' d two) in
    let done : accepted c ≡ true → queue_of (lent_of ws') ≡ queue_of (lent_of vs') = λ e.
    one.called.queue_is e ∙ s.queues (ap is_done (sym (answers_are ws ws' c one)) ∙ e) ∙ sym (two.called.queue_is (ap is_done (sym answers) ∙ e)) in
    record {
      answers = answers;
      words_are = one.called.word_is ∙ s.words ∙ sym two.called.word_is;
      steps_are = one.called.steps_are ∙ s.steps ∙ sym two.called.steps_are;
      packings_are = one.called.packed_is ∙ s.packings ∙ sym two.called.packed_is;
      accepted_alike = done;
      sound_alike = λ enough holds. either enough holds (accepted c) refl answers done;
    }
  where
    either : words (links_in ws) ≤ length ws → sound (book_of ws) ≡ true → (b : Bool) → accepted c ≡ b → c.answer ≡ d.answer → (accepted c ≡ true → queue_of (lent_of ws') ≡ queue_of (lent_of vs'))
        → queue_of (lent_of ws') ≡ queue_of (lent_of vs')
    either enough holds true e answers done = done e
    either enough holds false e answers done =
        ap (λ (ws : List ℕ). queue_of (lent_of ws)) (one.called.refused e) ∙ ap queue_of (same_lent ws vs same enough holds)
        ∙ sym (ap (λ (ws : List ℕ). queue_of (lent_of ws)) (two.called.refused (ap is_done (sym answers) ∙ e)))
