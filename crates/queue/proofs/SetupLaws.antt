-- Setup: what its checks say, and the fresh book.
use Prim.Native.Nat.{ℕ, zero, suc, ◌+◌, ◌≤◌, ◌<◌}
use mathlib.Core.Path.{◌≡◌, refl, sym, ap, ◌∙◌, subst}
use mathlib.Core.Logic.{inl, inr}
use mathlib.Core.Bool.{Bool, true, false}
use mathlib.Core.List.{List, [], ◌∷◌, map}
use native.Mathlib.Omega.{arith}
use borrow.Author.Tests.{le-leb, lt-leb}
use lib.Dec.{T, leb}
use lib.ListN.{length, take, drop, replicate, get_or}
use Rattle.rules.specs.Answers.{Answer, Done, NoSuchLinks, ArrayShort, is_done}
use Rattle.rules.specs.Links.{from, buffer_count, words, most_links, LinkNumber}
use Rattle.rules.specs.Tree.{tree_of}
use Rattle.rules.specs.Queue.{fresh}
use Rattle.rules.specs.Book.{is_link_number, sound}
use Rattle.rules.specs.Calls.{Outcome, Check, ◌else◌, first_failing, queue_of, setup}
use Rattle.rules.proofs.Numbering.{tree_range}
use Rattle.rules.proofs.BookLaws as rules
use Rattle.rules.proofs.BookKept.{fresh_kept}
use Rattle.buffers.specs.Format.{links_in, count_in, mark_in, word_of, counter_in, many, book_of, lent_of, buffer_of, buffers_of, head_of}
use Rattle.buffers.specs.Post.{Inside, Unused}
use Rattle.buffers.proofs.SlotLaws.{words_end, behind_book, few, some}
use Rattle.buffers.specs.Fresh.{CanBegin, Begun}
use Rattle.queue.specs.Calls.{Called, SlotsKept}
use Rattle.sweeps.proofs.MarkLaws.{unmarked}
use Rattle.queue.proofs.BookLaws.{sound_after}
use Rattle.queue.proofs.CallLaws.{refusal_called, accepted_called, accepted_is, done_is}

each_one : {A : Type 0} (f : ℕ → A) (x : A) (i n : ℕ) → ((m : ℕ) → i ≤ m → m < i + n → f m ≡ x) → map f (from i n) ≡ replicate n x
unfolding from
each_one f x i zero same = refl
each_one f x i (suc n) same = λ p. same i (omega arith) (omega arith) p ∷ each_one f x (suc i) n (λ m low high. same m (omega arith) (omega arith)) p

fresh_unused : (ws ws' : List ℕ) (links : ℕ) → Begun ws ws' links → (p : ℕ) → Unused links p → get_or ws' p 0 ≡ get_or ws p 0
fresh_unused ws ws' links b p (inl u) = b.between p u.0 u.1
fresh_unused ws ws' links b p (inr u) = b.behind p u.0

module _ (ws ws' : List ℕ) (links : ℕ) (can : CanBegin ws links) (b : Begun ws ws' links) where
  word_zero : (n : ℕ) → n < many ws' → word_of ws' n ≡ 0
  word_zero n lt = b.buffers n (rw b.number at lt)

  fresh_inside : Inside ws'
  fresh_inside =
      record {
        link = rw b.number can.link;
        long = rw (b.number, b.long) can.enough;
        fits = λ n lt. rw (word_zero n lt) (omega arith);
      }

  no_entries : (n : ℕ) → n < buffer_count links → buffer_of ws' n ≡ []
  unfolding buffer_of
  no_entries n lt = ap (λ w. take (count_in w) (drop (head_of ws' n) ws')) (b.buffers n lt)

  fresh_queue : queue_of (lent_of ws') ≡ fresh links
  unfolding queue_of lent_of book_of buffers_of fresh
  fresh_queue =
      let counters : map (counter_in ws') (from 1 (links_in ws')) ≡ replicate links 1 = rw b.number (each_one (counter_in ws') 1 1 links (λ m low high. b.counters m low (omega arith))) in
      let buffers : map (buffer_of ws') (from 0 (many ws')) ≡ replicate (buffer_count links) [] =
      rw b.number (each_one (buffer_of ws') [] 0 (buffer_count links) (λ m low high. no_entries m (omega arith))) in
      λ p. record { links = b.number p; counters = counters p; buffers = buffers p }

  fresh_sound : sound (book_of ws') ≡ true
  fresh_sound =
      sound_after ws' fresh_inside
      (subst (rules.Kept 7) (sym fresh_queue) (fresh_kept links (subst T (sym (rules.number_is can.link)) tt)))
      (unmarked ws' (tree_of (links_in ws')) (λ m s. ap mark_in (word_zero m (tree_range (links_in ws') s).1)))
      (λ e. ap count_in (word_zero 0 (omega (arith, some fresh_inside.link))))

-- ---- its checks

module _ (ws : List ℕ) (links : ℕ) where
  abbrev checks : List Check
  checks = (is_link_number links else NoSuchLinks) ∷ (leb (words links) (length ws) else ArrayShort) ∷ []

  abbrev accepted : Outcome
  accepted = record { answer = Done; word = 0; steps = 0; packed = false; queue = fresh links }

  answer_now : (t u : Bool) → is_link_number links ≡ t → leb (words links) (length ws) ≡ u → first_failing checks ≡ elim t [ true ↦ elim u [ true ↦ Done | false ↦ ArrayShort ] | false ↦ NoSuchLinks ]
  unfolding first_failing
  answer_now t u e f = λ i. first_failing ((e i else NoSuchLinks) ∷ (f i else ArrayShort) ∷ [])

  setup_refusal : (x : Answer) → x ≡ first_failing checks → is_done x ≡ false → Called ws ws (setup links (lent_of ws)) x 0 0 false
  unfolding setup lent_of
  setup_refusal x e f = refusal_called ws (first_failing checks) accepted x e f

  -- "1 | no such number of links"
  not_a_number : is_link_number links ≡ false → Called ws ws (setup links (lent_of ws)) NoSuchLinks 0 0 false
  unfolding is_done
  not_a_number e = setup_refusal NoSuchLinks (sym (answer_now false (leb (words links) (length ws)) e refl)) refl

  pub too_few : links < 1 → Called ws ws (setup links (lent_of ws)) NoSuchLinks 0 0 false
  unfolding is_link_number
  too_few h = not_a_number (rw (lt-leb 1 links h))

  pub too_many : most_links < links → Called ws ws (setup links (lent_of ws)) NoSuchLinks 0 0 false
  unfolding is_link_number
  too_many h = not_a_number (let low : 1 ≤ links = omega arith in rw (le-leb 1 links low, lt-leb links most_links h))

  module _ (link : LinkNumber links) where
    -- "2 | array too short"
    pub too_short : length ws < words links → Called ws ws (setup links (lent_of ws)) ArrayShort 0 0 false
    unfolding is_done
    too_short h = setup_refusal ArrayShort (sym (answer_now true false (rules.number_is link) (lt-leb (words links) (length ws) h))) refl

  pub setup_called : (ws' : List ℕ) → CanBegin ws links → Begun ws ws' links → Called ws ws' (setup links (lent_of ws)) Done 0 0 false
  unfolding setup lent_of
  setup_called ws' can b =
      let all : first_failing checks ≡ Done = answer_now true true (rules.number_is can.link) (le-leb (words links) (length ws) can.enough) in
      let o : setup links (lent_of ws) ≡ accepted = accepted_is (first_failing checks) (queue_of (lent_of ws)) accepted (ap is_done all ∙ done_is ws) in
      accepted_called ws ws' (setup links (lent_of ws)) accepted 0 0 false o
      refl refl refl refl
      (fresh_queue ws ws' links can b)
      (fresh_sound ws ws' links can b)
      b.long
      (λ p h. b.behind p (omega (arith, words_end (fresh_inside ws ws' links can b).link, behind_book (buffer_count (links_in ws')), few can.link)))
      (λ p u. fresh_unused ws ws' links b p (rw b.number at u))

-- "slots keep their words"
pub slots_kept : (ws ws' : List ℕ) (links : ℕ) → LinkNumber links → Begun ws ws' links → SlotsKept ws ws'
slots_kept ws ws' links link b p h = b.behind p (omega (arith, few link))
