-- Lines answered one after the other, and answers laid in a buffer.
use mathlib.Core.Path.{◌≡◌, refl, sym, ap, ◌∙◌, subst}
use mathlib.Core.Bool.{Bool, true, false}
use mathlib.Core.List.{List, [], ◌∷◌, ◌++◌, append_assoc, append-nil}
use Prim.Native.Nat.{ℕ, zero, suc, ◌+◌, ◌-◌, ◌*◌, ◌/◌, ◌%◌, ◌^◌, ◌≤◌, ◌<◌}
use native.Mathlib.Omega.{arith}
use native.Mathlib.Nat.{pow-suc, mul_assoc}
use lib.ListN.{length, take, drop, length-append, take-append-drop}
use lib.Seq.{drop-drop}
use borrow.Author.Tests.{le-leb}
use Rattle.std.proofs.lemmas.List.{drop-take}
use borrow.Rule.Slice.PartMut.{mid_of, post_of, put_mid, Post-is, mid_len}
use Rattle.rules.specs.Answers.{Answer, NotAFrame, number_of, is_done, answer_in, word_in, steps_in, packed_in}
use Rattle.rules.specs.declared.Done as code
use Rattle.rules.specs.declared.Refusal.{Refusal}
use Rattle.rules.specs.Calls as rules
use Rattle.frames.specs.Answers.{Back, done, not_a_frame, read_back, back}
use Rattle.frames.specs.AnswerLine.{answer_line}
use Rattle.frames.specs.Digits.{digits}
use Rattle.frames.specs.Lines.{Laid}
use Rattle.frames.specs.declared.Order.{Order}
use Rattle.frames.specs.declared.NotAFrame.{NotAFrame as NoFrame}
use Rattle.std.specs.Prelude.{Result, Ok, Err, IsOk}
use Rattle.frames.proofs.AnswerLaws.{done_same, back_same}
use Rattle.frames.proofs.Laying.{answer_long}
use Rattle.lines.specs.Answers.{ended_back}
use Rattle.std.specs.Prelude.{Option, Some, None}
use Rattle.buffers.specs.Format.{lent_of}
use Rattle.queue.specs.Calls.{Called}
use Rattle.queue.proofs.CallLaws.{refused_called}
use Rattle.queue.proofs.AgreeLaws.{the_answer}
use Rattle.queue.proofs.BesidesLaws.{besides_inside}
use Rattle.sessions.specs.Runs.{asked, values_call, line_call, answer_of, After, Left, Runs, ends, goes, Filled, Served, ServedAt}

-- ---- one call

-- a line that is no frame
pub line_refused : (ws : List ℕ) (work : ℕ) (read : Result Order NoFrame) (e : NoFrame) → read ≡ Err e → Called ws ws (line_call work (read_back read) (lent_of ws)) NotAFrame 0 0 false
unfolding values_call is_done
line_refused ws work read e same = rw same (refused_called ws (rules.refused NotAFrame (rules.queue_of (lent_of ws))) NotAFrame refl refl)

pub after_called : (ws ws' : List ℕ) (o : rules.Outcome) (answer : Answer) (word steps : ℕ) (packed : Bool) → Called ws ws' o answer word steps packed → After ws ws' o
after_called ws ws' o answer word steps packed called = record {
  number_is = refl;
  word_is = refl;
  steps_are = refl;
  packed_is = refl;
  long = called.long;
  past = called.past;
  unused = called.unused;
  refused = λ no. called.refused (ap is_done (the_answer called) ∙ no);
  queue_is = λ yes. called.queue_is (ap is_done (the_answer called) ∙ yes);
  sound_is = λ yes. called.sound_is (ap is_done (the_answer called) ∙ yes);
}

-- ---- the last digits of a number are those of its rest

digits_beside : (k n m q : ℕ) → n ≡ m + q * 16 ^ k → digits k n ≡ digits k m
unfolding digits
digits_beside zero n m q e = refl
digits_beside (suc k) n m q e =
    let p : q * 16 ^ suc k ≡ q * 16 ^ k * 16 = rw (pow-suc 16 k) (sym (mul_assoc q (16 ^ k) 16)) in
    let up : n / 16 ≡ m / 16 + q * 16 ^ k = omega (arith, p) in
    let low : n % 16 ≡ m % 16 = omega (arith, p) in
    rw (low, digits_beside k (n / 16) (m / 16) q up) refl

pub digits_rest : (n : ℕ) → digits 8 (n % 4294967296) ≡ digits 8 n
digits_rest n = sym (digits_beside 8 n (n % 4294967296) (n / 4294967296) (omega arith))

-- ---- runs

pub runs_one : (n : ℕ) (ws ws' work work' : List ℕ) (read : Back Order) → After ws ws' (line_call n read (lent_of ws)) → Left read.values ws ws' work work' (line_call n read (lent_of ws)).answer
    → Runs n ws work (read ∷ []) ws' work' (answer_of (line_call n read (lent_of ws)))
runs_one n ws ws' work work' read after left = subst (Runs n ws work (read ∷ []) ws' work') (append-nil _) (goes ws work ws' work' ws' work' read [] [] after left (ends ws' work'))

module _ {n : ℕ} where
  pub runs_append : {ws ws₁ ws₂ work work₁ work₂ : List ℕ} {rs ss : List (Back Order)} {xs ys : List ℕ}
      → Runs n ws work rs ws₁ work₁ xs → Runs n ws₁ work₁ ss ws₂ work₂ ys → Runs n ws work (rs ++ ss) ws₂ work₂ (xs ++ ys)
  runs_append (ends ws work) two = two
  runs_append {ws₂ = ws₂} {work₂ = work₂} {ss = ss} {ys = ys} (goes ws work next left ws₁ work₁ read reads bytes after leaves one) two =
      subst (Runs n ws work (read ∷ (reads ++ ss)) ws₂ work₂) (sym (append_assoc (answer_of (line_call n read (lent_of ws))) bytes ys))
      (goes ws work next left ws₂ work₂ read (reads ++ ss) (bytes ++ ys) after leaves (runs_append one two))

  -- each line is answered by one line
  pub runs_long : {ws ws' work work' : List ℕ} {rs : List (Back Order)} {bytes : List ℕ} → Runs n ws work rs ws' work' bytes → length bytes ≡ 27 * length rs
  runs_long (ends ws work) = refl
  runs_long (goes ws work next left ws' work' read reads bytes after leaves run) =
      let o : rules.Outcome = line_call n read (lent_of ws) in
      let more : length bytes ≡ 27 * length reads = runs_long run in
      length-append (answer_of o) bytes ∙ omega (arith, answer_long (number_of o.answer) o.word o.steps, more)

-- the work area keeps its length
pub left_long : (values : List Order) (ws next work left : List ℕ) (answer : Answer) → Left values ws next work left answer → length left ≡ length work
left_long [] ws next work left answer leaves = ap length leaves.1
left_long (o ∷ os) ws next work left answer leaves = (besides_inside (asked o) ws next work left answer leaves).0

pub runs_keep_long : {n : ℕ} {ws ws' work work' bytes : List ℕ} {reads : List (Back Order)} → Runs n ws work reads ws' work' bytes → length work' ≡ length work
runs_keep_long (ends ws work) = refl
runs_keep_long {n} (goes ws work next left ws' work' read reads bytes after leaves run) = runs_keep_long run ∙ left_long read.values ws next work left (line_call n read (lent_of ws)).answer leaves

-- ---- answers laid

pub served_short : (n : ℕ) (ws work : List ℕ) (read : Back Order) (out : List ℕ) → length out < 27 → Served n ws ws work work (read ∷ []) out out (Err not_a_frame)
served_short n ws work read out h = record { room = λ g. absurd (omega arith); short = λ g. (refl, refl, refl, refl) }

pub served_nothing : (n : ℕ) (ws work out : List ℕ) → Served n ws ws work work [] out out (Ok 0)
served_nothing n ws work out = record { room = λ g. record { bytes = []; run = ends ws work; count = refl; after = refl }; short = λ g. absurd (omega arith) }

pub served_one : (n : ℕ) (ws ws' work work' : List ℕ) (read : Back Order) (out out' : List ℕ) (r : Result ℕ NoFrame) (z : Result code.Done Refusal) (number word steps : ℕ) → 27 ≤ length out
    → Called ws ws' (line_call n read (lent_of ws)) (answer_in z) (word_in z) (steps_in z) (packed_in z) → Left read.values ws ws' work work' (answer_in z)
    → number ≡ number_of (answer_in z) → word ≡ word_in z → steps ≡ steps_in z
    → Laid true (answer_line number word (steps % 4294967296)) out out' r → Served n ws ws' work work' (read ∷ []) out out' r
served_one n ws ws' work work' read out out' r z number word steps h called left number_is word_is steps_are laid =
    let o : rules.Outcome = line_call n read (lent_of ws) in
    let line : answer_line number word (steps % 4294967296) ≡ answer_of o =
    rw (number_is, the_answer called, word_is, called.word_is, steps_are, called.steps_are, digits_rest o.steps) refl in
    let laid : Laid true (answer_of o) out out' r = subst (λ l. Laid true l out out' r) line laid in
    let long : length (answer_of o) ≡ 27 = answer_long (number_of o.answer) o.word o.steps in
    let fits = le-leb (length (answer_of o)) (length out) (omega arith) in
    record {
      room = λ g. record {
        bytes = answer_of o;
        run = runs_one n ws ws' work work' read (after_called ws ws' o (answer_in z) (word_in z) (steps_in z) (packed_in z) called) (subst (Left read.values ws ws' work work') (the_answer called) left);
        count = back_same r (Ok (length (answer_of o))) (laid.answer ∙ rw fits refl);
        after = laid.after ∙ rw fits refl;
      };
      short = λ g. absurd (omega arith);
    }

-- a line that may have ended

pub served_none : (n : ℕ) (ws work : List ℕ) (ended : Option (Result Order NoFrame)) (out : List ℕ) → ended ≡ None → Served n ws ws work work (ended_back ended) out out (Ok 0)
served_none n ws work ended out e = rw e (served_nothing n ws work out)

ended_few : (e : Option (Result Order NoFrame)) → 27 * length (ended_back e) ≤ 27
ended_few (Some read) = omega arith
ended_few None = omega arith

-- the part of a buffer that has just room for one answer
module _ (n : ℕ) (ws ws' work work' : List ℕ) (ended : Option (Result Order NoFrame)) (out part : List ℕ) (at : ℕ) (r : Result ℕ NoFrame) (room : at + 27 ≤ length out)
    (served : Served n ws ws' work work' (ended_back ended) (mid_of at (at + 27 - at) out) part r) where
  part_long : length (mid_of at (at + 27 - at) out) ≡ 27
  part_long = mid_len at (at + 27) out room ∙ omega arith

  part_filled : Filled n ws ws' work work' (ended_back ended) (mid_of at (at + 27 - at) out) part r
  part_filled = served.room (omega (arith, ended_few ended, part_long))

  pub part_done : IsOk r
  part_done = rw part_filled.count refl

  pub part_count : (many : ℕ) → r ≡ Ok many → many ≤ 27
  part_count many e =
      let same : done many ≡ done (length part_filled.bytes) = ap back (sym e ∙ part_filled.count) in
      omega (arith, done_same same, runs_long part_filled.run, ended_few ended)

  pub part_served : (many : ℕ) → r ≡ Ok many → ServedAt n ws ws' work work' (ended_back ended) out (put_mid at (at + 27 - at) out part) at (at + many)
  part_served many e =
      let f = part_filled in
      let same : many ≡ length f.bytes = done_same (ap back (sym e ∙ f.count)) in
      let few : length f.bytes ≤ 27 = omega (arith, runs_long f.run, ended_few ended) in
      record {
        bytes = f.bytes;
        run = f.run;
        count = ap (λ (m : ℕ). at + m) same;
        inside = omega arith;
        after = ap (λ (z : List ℕ). take at out ++ z) (laid f.bytes f.after few ∙ ap (λ (m : ℕ). f.bytes ++ drop (at + m) out) (sym same));
      }
    where
      -- what lies behind the answer is what lay there
      tail_same : (bytes : List ℕ) → length bytes ≤ 27 → (bytes ++ drop (length bytes) (mid_of at (at + 27 - at) out)) ++ drop (at + 27) out ≡ bytes ++ drop (at + length bytes) out
      tail_same bytes few =
          let m = length bytes in
          let k : at + 27 - at ≡ m + (27 - m) = omega arith in
          let back : at + m + (27 - m) ≡ at + 27 = omega arith in
          let cut : drop m (take (m + (27 - m)) (drop at out)) ≡ take (27 - m) (drop (at + m) out) = drop-take m (27 - m) (drop at out) ∙ ap (take (27 - m)) (drop-drop m at out) in
          append_assoc bytes (drop m (mid_of at (at + 27 - at) out)) (drop (at + 27) out)
          ∙ ap (λ (z : List ℕ). bytes ++ z)
          (ap (λ (n : ℕ). drop m (take n (drop at out)) ++ drop (at + 27) out) k ∙ ap (λ (z : List ℕ). z ++ drop (at + 27) out) cut
          ∙ ap (λ (z : List ℕ). take (27 - m) (drop (at + m) out) ++ z) (ap (λ (n : ℕ). drop n out) (sym back) ∙ sym (drop-drop (27 - m) (at + m) out))
          ∙ take-append-drop (27 - m) (drop (at + m) out))

      laid : (bytes : List ℕ) → part ≡ bytes ++ drop (length bytes) (mid_of at (at + 27 - at) out) → length bytes ≤ 27 → part ++ post_of at (at + 27 - at) out ≡ bytes ++ drop (at + length bytes) out
      laid bytes e few =
          let up : at ≤ at + 27 = omega arith in
          ap (λ (z : List ℕ). z ++ post_of at (at + 27 - at) out) e
          ∙ ap (λ (z : List ℕ). (bytes ++ drop (length bytes) (mid_of at (at + 27 - at) out)) ++ z) (Post-is at (at + 27) out up)
          ∙ tail_same bytes few
