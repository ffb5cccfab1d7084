-- There is a history, computed, and in it sweeps, a packing, a refusal, and a take and an insert that run as long as they can: what is proved of every history is not about nothing.
use Prim.Native.Nat.{ℕ, ◌+◌, ◌-◌, ◌≤◌, ◌<◌}
use mathlib.Core.Path.{◌≡◌, refl, sym, ap, ◌∙◌, subst}
use mathlib.Core.Logic.{inl, inr}
use mathlib.Core.Bool.{Bool, true, false}
use mathlib.Core.List.{List, [], ◌∷◌, ◌++◌}
use native.Mathlib.Omega.{arith}
use lib.Dec.{T, eqb, eqb→eq}
use lib.ListN.{length, get_or, take, replicate, length-append, length-take, length-replicate, get_or-eq_default, get_or-append, get_or-replicate}
use lib.Seq.{get_or-append-add}
use Rattle.rules.specs.Answers.{Answer, is_done}
use Rattle.rules.specs.Links.{book_words, buffer_count, words}
use Rattle.rules.specs.Tests.{◌and◌, ◌implies◌}
use Rattle.rules.specs.Queue.{Queue, counter}
use Rattle.rules.specs.Book.{sound}
use Rattle.rules.specs.Calls.{Outcome, queue_of}
use Rattle.rules.specs.Longest.{longest_take, longest_insert}
use Rattle.rules.specs.Examples as examples
use Rattle.rules.specs.Examples.{Order, setup_of, insert_of, take_it, look_at, held_now, audit_it, call, takes}
use Rattle.rules.proofs.Tests.{truth}
use Rattle.rules.proofs.Table.{and_one, and_two}
use Rattle.buffers.specs.Slots.{base}
use Rattle.buffers.specs.Format.{book_of, lent_of}
use Rattle.buffers.specs.Post.{Unused}
use Rattle.queue.specs.Calls.{Called, SlotsKept, Besides}
use Rattle.queue.proofs.CheckLaws.{unlike}
use Rattle.demands.specs.Histories.{Call, Made, History, first, next}
use Rattle.demands.specs.Existence.{Exists}
use Rattle.demands.proofs.MadeLaws.{called}

-- ---- the words of a queue of one link: where the rules leave them open, start places, marks and free slots, they are 0

buffer : Queue → ℕ → List ℕ
buffer q n = get_or q.buffers n []

-- at one link every buffer has eight slots
eight : List ℕ → List ℕ
eight es = take 8 (es ++ replicate 8 0)

-- what one link uses of the book, and the six words between
front : Queue → List ℕ
unfolding counter buffer
front q =
    q.links ∷ counter q 1 ∷ 0 ∷ 0 ∷ 0 ∷ 0 ∷ 0 ∷ 0
    ∷ length (buffer q 0) ∷ length (buffer q 1) ∷ length (buffer q 2) ∷ length (buffer q 3) ∷ length (buffer q 4) ∷ []

-- the book's words behind them
abbrev spare : ℕ
spare = book_words - 13

slots : Queue → List ℕ
unfolding buffer eight
slots q = eight (buffer q 0) ++ eight (buffer q 1) ++ eight (buffer q 2) ++ eight (buffer q 3) ++ eight (buffer q 4)

words_of : Queue → List ℕ
unfolding front slots
words_of q = front q ++ replicate spare 0 ++ slots q

long_eight : (es : List ℕ) → length (eight es) ≡ 8
unfolding eight
long_eight es = simp (length-take, length-append, length-replicate) (omega arith)

long : (q : Queue) → length (words_of q) ≡ words 1
unfolding words_of words
long q = simp (length-append, long_eight) (omega arith)

past_all : (q : Queue) (p : ℕ) → words 1 ≤ p → get_or (words_of q) p 0 ≡ 0
past_all q p far = get_or-eq_default (words_of q) 0 (omega (arith, long q))

past_book : (q : Queue) (p : ℕ) → book_words ≤ p → get_or (words_of q) p 0 ≡ get_or (slots q) (p - book_words) 0
unfolding words_of
past_book q p far =
    let e : p ≡ book_words + (p - book_words) = omega arith in
    ap (λ (p : ℕ). get_or (words_of q) p 0) e ∙ get_or-append-add (front q ++ replicate spare 0) (slots q) (p - book_words) 0

zeros_between : (before : List ℕ) (n : ℕ) (rest : List ℕ) (p : ℕ) → length before ≤ p → p < length before + n → get_or (before ++ replicate n 0 ++ rest) p 0 ≡ 0
zeros_between before n rest p low high =
    let m = p - length before in
    let e : p ≡ length before + m = omega arith in
    get_or-append (before ++ replicate n 0) rest 0 p (omega (arith, length-append before (replicate n 0), length-replicate {A = ℕ} n 0))
    ∙ ap (λ (p : ℕ). get_or (before ++ replicate n 0) p 0) e
    ∙ get_or-append-add before (replicate n 0) m 0
    ∙ get_or-replicate n m 0 0 (omega arith)

unused_zero : (q : Queue) (p : ℕ) → Unused 1 p → get_or (words_of q) p 0 ≡ 0
unfolding words_of buffer_count
unused_zero q p (inl u) =
    let low : 2 ≤ p = u.0 in
    let high : p < 8 = u.1 in
    zeros_between (q.links ∷ counter q 1 ∷ []) 6
    (length (buffer q 0) ∷ length (buffer q 1) ∷ length (buffer q 2) ∷ length (buffer q 3) ∷ length (buffer q 4) ∷ replicate spare 0 ++ slots q) p low high
unused_zero q p (inr u) =
    let low : 13 ≤ p = u.0 in
    let high : p < book_words = u.1 in
    zeros_between (front q) spare (slots q) p low high

-- ---- tests of equality

same : {A : Type 0} → (A → A → Bool) → List A → List A → Bool
same test [] [] = true
same test [] (y ∷ ys) = false
same test (x ∷ xs) [] = false
same test (x ∷ xs) (y ∷ ys) = test x y and same test xs ys

same_is : {A : Type 0} (test : A → A → Bool) → ((x y : A) → T (test x y) → x ≡ y) → (xs ys : List A) → T (same test xs ys) → xs ≡ ys
unfolding same
same_is test is [] [] t = refl
same_is test is [] (y ∷ ys) t = absurd t
same_is test is (x ∷ xs) [] t = absurd t
same_is test is (x ∷ xs) (y ∷ ys) t =
    let one = is x y (and_one (test x y) (same test xs ys) t) in
    let others = same_is test is xs ys (and_two (test x y) (same test xs ys) t) in
    λ i. one i ∷ others i

same_queue : Queue → Queue → Bool
unfolding same
same_queue q r = eqb q.links r.links and same eqb q.counters r.counters and same (same eqb) q.buffers r.buffers

three : (a b c : Bool) → T (a and b and c) → T a × T b × T c
three a b c t = let later = and_two a (b and c) t in (and_one a (b and c) t, and_one b c later, and_two b c later)

same_queue_lem : (q r : Queue) → T (same_queue q r) → q ≡ r
unfolding same_queue
same_queue_lem q r t =
    let each = three (eqb q.links r.links) (same eqb q.counters r.counters) (same (same eqb) q.buffers r.buffers) t in
    let links = eqb→eq q.links r.links each.0 in
    let counters = same_is eqb eqb→eq q.counters r.counters each.1 in
    let buffers = same_is (same eqb) (same_is eqb eqb→eq) q.buffers r.buffers each.2 in
    λ i. record { links = links i; counters = counters i; buffers = buffers i }

-- ---- one call

-- the words hold the queue, and keep the book rules
right : Queue → Bool
unfolding queue_of lent_of book_of sound words_of same_queue
right q = let ws = words_of q in eqb q.links 1 and same_queue (queue_of (lent_of ws)) q and sound (book_of ws)

-- what an order leaves alone besides
keeps : Order → Queue → Queue → Bool
unfolding words_of slots same
keeps (setup_of links) q r = same eqb (slots r) (slots q)
keeps (insert_of entry) q r = true
keeps take_it q r = true
keeps look_at q r = true
keeps held_now q r = same eqb (words_of r) (words_of q)
keeps audit_it q r = same eqb (words_of r) (words_of q)

module _ (q : Queue) (order : Order) where
  outcome : Outcome
  unfolding call lent_of words_of
  outcome = call 16 order (lent_of (words_of q))

  call_of : Call
  unfolding outcome
  call_of = let o = outcome in called 16 order o.answer o.word o.steps o.packed

  afterwards : Queue
  unfolding is_done outcome
  afterwards = let o = outcome in elim (is_done o.answer) [ true ↦ o.queue | false ↦ q ]

  fits : Bool
  unfolding is_done outcome right keeps
  fits = let o = outcome in is_done o.answer implies (right o.queue and keeps order q o.queue)

module _ (q : Queue) (o : Outcome) where
  abbrev CalledTo : Queue → Type 0
  CalledTo r = Called (words_of q) (words_of r) o o.answer o.word o.steps o.packed

  refused_called : is_done o.answer ≡ false → CalledTo q
  refused_called e = record {
    number_is = refl;
    word_is = refl;
    steps_are = refl;
    packed_is = refl;
    long = refl;
    past = λ p far. refl;
    unused = λ p u. refl;
    refused = λ no. refl;
    queue_is = λ done. absurd (unlike (sym done ∙ e));
    sound_is = λ done. absurd (unlike (sym done ∙ e));
  }

  accepted_called : is_done o.answer ≡ true → T (right o.queue) → CalledTo o.queue
  unfolding right words_of words
  accepted_called e t =
      let r = o.queue in
      let ws = words_of r in
      let each = three (eqb r.links 1) (same_queue (queue_of (lent_of ws)) r) (sound (book_of ws)) t in
      let one : r.links ≡ 1 = eqb→eq r.links 1 each.0 in
      record {
        number_is = refl;
        word_is = refl;
        steps_are = refl;
        packed_is = refl;
        long = long r ∙ sym (long q);
        past = λ p far. let far' : words 1 ≤ p = subst (λ (l : ℕ). words l ≤ p) one far in past_all r p far' ∙ sym (past_all q p far');
        unused = λ p u. let u' = subst (λ (l : ℕ). Unused l p) one u in unused_zero r p u' ∙ sym (unused_zero q p u');
        refused = λ no. absurd (unlike (sym e ∙ no));
        queue_is = λ done. same_queue_lem (queue_of (lent_of ws)) r each.1;
        sound_is = λ done. truth (sound (book_of ws)) each.2;
      }

refused_besides : (order : Order) (ws area : List ℕ) (answer : Answer) → Besides order ws ws area area answer
refused_besides (setup_of links) ws area answer = (λ p far. refl, refl)
refused_besides (insert_of entry) ws area answer = record { long = refl; past = λ p far. refl; refused = λ no. refl }
refused_besides take_it ws area answer = refl
refused_besides look_at ws area answer = refl
refused_besides held_now ws area answer = (refl, refl)
refused_besides audit_it ws area answer = (refl, refl)

slots_kept : (q r : Queue) → slots r ≡ slots q → SlotsKept (words_of q) (words_of r)
slots_kept q r e p far = past_book r p far ∙ ap (λ (es : List ℕ). get_or es (p - book_words) 0) e ∙ sym (past_book q p far)

accepted_besides : (order : Order) (q r : Queue) (area : List ℕ) (answer : Answer) → T (keeps order q r) → Besides order (words_of q) (words_of r) area area answer
unfolding keeps
accepted_besides (setup_of links) q r area answer t = (slots_kept q r (same_is eqb eqb→eq (slots r) (slots q) t), refl)
accepted_besides (insert_of entry) q r area answer t = record { long = refl; past = λ p far. refl; refused = λ no. refl }
accepted_besides take_it q r area answer t = refl
accepted_besides look_at q r area answer t = refl
accepted_besides held_now q r area answer t = (same_is eqb eqb→eq (words_of r) (words_of q) t, refl)
accepted_besides audit_it q r area answer t = (same_is eqb eqb→eq (words_of r) (words_of q) t, refl)

-- the work area is never written to
abbrev area : List ℕ
area = replicate 16 0

both_ways : (q : Queue) (order : Order) (o : Outcome) (b : Bool) → is_done o.answer ≡ b → T (b implies (right o.queue and keeps order q o.queue))
    → let r = elim b as (λ b. Queue) [ true ↦ o.queue | false ↦ q ] in CalledTo q o r × Besides order (words_of q) (words_of r) area area o.answer
both_ways q order o true e t = (
  accepted_called q o e (and_one (right o.queue) (keeps order q o.queue) t),
  accepted_besides order q o.queue area o.answer (and_two (right o.queue) (keeps order q o.queue) t),
)
both_ways q order o false e t = (refused_called q o e, refused_besides order (words_of q) area o.answer)

call_made : (q : Queue) (order : Order) → T (fits q order) → Made (words_of q) (call_of q order) (words_of (afterwards q order))
unfolding outcome call_of afterwards fits
call_made q order t =
    let o = outcome q order in
    let both = both_ways q order o (is_done o.answer) refl t in
    record { called = both.0; area = area; left = area; lent = refl; besides = both.1 }

-- ---- calls one after the other

-- the `let` makes the rest wait for this call's test
all_fit : Queue → List Order → Bool
unfolding fits afterwards
all_fit q [] = true
all_fit q (order ∷ orders) = let later = all_fit (afterwards q order) orders in fits q order and later

calls_from : Queue → List Call → List Order → List Call
unfolding call_of afterwards
calls_from q cs [] = cs
calls_from q cs (order ∷ orders) = calls_from (afterwards q order) (call_of q order ∷ cs) orders

queue_from : Queue → List Order → Queue
unfolding afterwards
queue_from q [] = q
queue_from q (order ∷ orders) = queue_from (afterwards q order) orders

goes_on : (q : Queue) (cs : List Call) (orders : List Order) → T (all_fit q orders) → History cs (words_of q) → History (calls_from q cs orders) (words_of (queue_from q orders))
unfolding all_fit calls_from queue_from
goes_on q cs [] t h = h
goes_on q cs (order ∷ orders) t h =
    let r = afterwards q order in
    let now = call_made q order (and_one (fits q order) (all_fit r orders) t) in
    goes_on r (call_of q order ∷ cs) orders (and_two (fits q order) (all_fit r orders) t) (next (words_of q) (words_of r) (call_of q order) cs h now)

-- ---- the history

-- before it, an array of zeros
nothing : Queue
nothing = record { links = 0; counters = []; buffers = [] }

begun : Queue
unfolding nothing afterwards
begun = afterwards nothing (setup_of 1)

the_setup : List Call
unfolding nothing call_of
the_setup = call_of nothing (setup_of 1) ∷ []

setup_begins : History the_setup (words_of begun)
unfolding begun the_setup fits base
setup_begins = first (words_of nothing) (words_of begun) (call_of nothing (setup_of 1)) refl (call_made nothing (setup_of 1) tt)

-- "L=1, 16 inserts are accepted, the 17th answers 5."; "8 takes, 8 inserts: the 24th insert packs"; and one of each other call
orders : List Order
unfolding examples.inserts
orders = examples.inserts 1 17 ++ takes 8 ++ examples.inserts 17 8 ++ (look_at ∷ held_now ∷ audit_it ∷ [])

all_fit_lem : T (all_fit begun orders)
unfolding all_fit begun orders base
all_fit_lem = tt

pub computed : Exists
unfolding begun orders calls_from goes_on setup_begins base longest_take longest_insert
computed = record {
  calls = calls_from begun the_setup orders;
  left = words_of (queue_from begun orders);
  history = goes_on begun the_setup orders all_fit_lem setup_begins;
  swept = refl;
  packed = refl;
  refused = refl;
  longest_take = refl;
  longest_insert = refl;
}
