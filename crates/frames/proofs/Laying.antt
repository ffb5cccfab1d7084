-- A line is laid at the start of a buffer field by field.
use mathlib.Core.Path.{◌≡◌, refl, ap, sym, ◌∙◌}
use mathlib.Core.Bool.{Bool, true, false, and-false}
use mathlib.Core.List.{List, [], ◌∷◌, ◌++◌, append_assoc}
use Prim.Native.Nat.{ℕ, suc, ◌+◌, ◌-◌, ◌<◌, ◌≤◌}
use native.Mathlib.Omega.{arith}
use lib.Dec.{leb}
use lib.ListN.{length, drop, set, length-append, length-drop}
use lib.Seq.{take_at, drop-append-add, drop-drop, set_split}
use borrow.Author.Tests.{le-leb, lt-leb, leb-true}
use borrow.Rule.Slice.PartMut.{mid_of, put_mid, Post-is, mid_len}
use Rattle.frames.specs.Answers.{written_back}
use Rattle.frames.specs.Digits.{digits}
use Rattle.frames.specs.Orders.{code_of, width_of, body_of, frame_of, writable}
use Rattle.frames.specs.Lines.{lays, Laid}
use Rattle.frames.specs.AnswerLine.{answer_line}
use Rattle.frames.specs.declared.Order.{Order}
use Rattle.frames.specs.declared.NotAFrame.{NotAFrame}
use Rattle.std.specs.Prelude.{Result, Ok, Err}
use Rattle.frames.proofs.AnswerLaws.{done_same, not_done, by_test}
use Rattle.frames.proofs.DigitLaws.{both_left, both_right, length_digits}

-- the buffer begins with the line so far, and nothing after it has changed
record Begun (line out out' : List ℕ) : Type 0 where
  inside : length line ≤ length out
  stands : out' ≡ line ++ drop (length line) out

begun_none : (out : List ℕ) → Begun [] out out
begun_none out = record { inside = omega arith; stands = refl }

module _ (line out out' : List ℕ) (b : Begun line out out') where
  same_length : length out' ≡ length out
  same_length = ap length b.stands ∙ simp (length-append, length-drop) (omega (arith, b.inside))

  drop_past : (k : ℕ) → drop (length line + k) out' ≡ drop (length line + k) out
  drop_past k = rw (b.stands, drop-append-add, drop-drop) refl

  -- one field more
  begun_field : (a e k n : ℕ) (field : List ℕ) → length line ≡ a → e ≡ a + k → e ≤ length out → field ≡ digits (length (mid_of a (e - a) out')) n
      → Begun (line ++ digits k n) out (put_mid a (e - a) out' field)
  begun_field a e k n field s w h f =
      let up : a ≤ e = omega arith in
      let many : length (mid_of a (e - a) out') ≡ k = mid_len a e out' (omega (arith, same_length)) ∙ omega arith in
      let all : length (line ++ digits k n) ≡ e = simp (length-append, length_digits k n) (omega arith) in
      let back : drop e out' ≡ drop e out = rw (w, ← s) (drop_past k) in
      record {
        inside = omega arith;
        stands = rw (f, many, Post-is a e out' up, back, all, append_assoc) (rw (b.stands, take_at line (drop (length line) out) a s) refl);
      }

  -- one byte more
  begun_byte : (a byte : ℕ) → length line ≡ a → a < length out → Begun (line ++ (byte ∷ [])) out (set out' a byte)
  begun_byte a byte s h =
      let all : length (line ++ (byte ∷ [])) ≡ suc a = simp length-append (omega arith) in
      let next : suc a ≡ length line + 1 = omega arith in
      let back : drop (suc a) out' ≡ drop (suc a) out = rw next (drop_past 1) in
      record {
        inside = omega arith;
        stands = rw (set_split out' a byte (omega (arith, same_length)), back, all, append_assoc) (rw (b.stands, take_at line (drop (length line) out) a s) refl);
      }

  laid_all : (n : ℕ) → length line ≡ n → Laid true line out out' (Ok n)
  laid_all n e = record {
    answer = rw (le-leb (length line) (length out) b.inside, e) refl;
    after = rw (le-leb (length line) (length out) b.inside) b.stands;
  }

laid_short : (may : Bool) (line out : List ℕ) → (e : NotAFrame) → length out < length line → Laid may line out out (Err e)
laid_short may line out e h =
    let no_room : lays may line out ≡ false = rw (lt-leb (length line) (length out) h) (and-false may) in
    record { answer = rw no_room refl; after = rw no_room refl }

-- what a count that comes back says
pub record Came (may : Bool) (line out out' : List ℕ) (n : ℕ) : Type 0 where
  pub could : may ≡ true
  pub inside : length line ≤ length out
  pub count : length line ≡ n
  pub after : out' ≡ line ++ drop (length line) out

pub laid_came : (may : Bool) (line out out' : List ℕ) (r : Result ℕ NotAFrame) (n : ℕ) → Laid may line out out' r → r ≡ Ok n → Came may line out out' n
laid_came may line out out' r n laid e =
    by_test (lays may line out) (sym laid.answer ∙ ap written_back e)
    (λ t e. record {
      could = both_left may (leb (length line) (length out)) t;
      inside = leb-true (length line) (length out) (both_right may (leb (length line) (length out)) t);
      count = done_same e;
      after = laid.after ∙ rw t refl;
    })
    (λ _ e. not_done e)

two_long : (c n b : ℕ) → length (digits 2 c ++ digits n b) ≡ 2 + n
two_long c n b = simp (length-append, length_digits 2 c, length_digits n b)

-- two digits, then n
module _ (c n b : ℕ) (out f g : List ℕ) (room : 2 + n ≤ length out) (p : f ≡ digits (length (mid_of 0 2 out)) c)
    (q : g ≡ digits (length (mid_of 2 (2 + n - 2) (put_mid 0 2 out f))) b) where
  two_begun : Begun (digits 2 c ++ digits n b) out (put_mid 2 (2 + n - 2) (put_mid 0 2 out f) g)
  two_begun =
      let one : Begun (digits 2 c) out (put_mid 0 2 out f) = begun_field [] out out (begun_none out) 0 2 2 c f refl refl (omega arith) p in
      begun_field _ _ _ one 2 (2 + n) n b g (length_digits 2 c) refl room q

  pub two_laid : Laid true (digits 2 c ++ digits n b) out (put_mid 2 (2 + n - 2) (put_mid 0 2 out f) g) (Ok (2 + n))
  two_laid = laid_all _ _ _ two_begun (2 + n) (two_long c n b)

-- an order's frame
module _ (o : Order) where
  frame_long : length (frame_of o) ≡ 2 + width_of (code_of o)
  frame_long = two_long (code_of o) (width_of (code_of o)) (body_of o)

  pub frame_short : (out : List ℕ) → (e : NotAFrame) → length out < 2 + width_of (code_of o) → Laid (writable o) (frame_of o) out out (Err e)
  frame_short out e h = laid_short (writable o) (frame_of o) out e (omega (arith, frame_long))

  pub frame_barred : (out : List ℕ) → (e : NotAFrame) → writable o ≡ false → Laid (writable o) (frame_of o) out out (Err e)
  frame_barred out e w = record { answer = rw w refl; after = rw w refl }

  pub frame_laid : {c n b : ℕ} {out out' : List ℕ} {r : Result ℕ NotAFrame} → writable o ≡ true → c ≡ code_of o → n ≡ width_of c → b ≡ body_of o
      → Laid true (digits 2 c ++ digits n b) out out' r → Laid (writable o) (frame_of o) out out' r
  frame_laid {c} {n} w e k f laid = let m : n ≡ width_of (code_of o) = k ∙ ap width_of e in rw (w, ← m, ← e, ← f) laid

pub answer_long : (a w s : ℕ) → length (answer_line a w s) ≡ 27
answer_long a w s = simp (length-append, length_digits 2 a, length_digits 16 w, length_digits 8 s)

pub answer_short : (a w s : ℕ) (out : List ℕ) → (e : NotAFrame) → length out < 27 → Laid true (answer_line a w s) out out (Err e)
answer_short a w s out e h = laid_short true (answer_line a w s) out e (omega (arith, answer_long a w s))

-- the answer, the word, the steps, the line end
module _ (a w s : ℕ) (out f g h : List ℕ) (room : 27 ≤ length out) (p : f ≡ digits (length (mid_of 0 2 out)) a)
    (q : g ≡ digits (length (mid_of 2 16 (put_mid 0 2 out f))) w) (r : h ≡ digits (length (mid_of 18 8 (put_mid 2 16 (put_mid 0 2 out f) g))) s) where
  answer_begun : Begun (answer_line a w s) out (set (put_mid 18 8 (put_mid 2 16 (put_mid 0 2 out f) g) h) 26 10)
  answer_begun =
      let two : Begun (digits 2 a ++ digits 16 w) out (put_mid 2 16 (put_mid 0 2 out f) g) = two_begun a 16 w out f g (omega arith) p q in
      let three : Begun (digits 2 a ++ digits 16 w ++ digits 8 s) out (put_mid 18 8 (put_mid 2 16 (put_mid 0 2 out f) g) h) =
      begun_field _ _ _ two 18 26 8 s h (two_long a 16 w) refl (omega arith) r in
      begun_byte _ _ _ three 26 10 (simp (length-append, length_digits 2 a, length_digits 16 w, length_digits 8 s)) (omega arith)

  pub answer_laid : Laid true (answer_line a w s) out (set (put_mid 18 8 (put_mid 2 16 (put_mid 0 2 out f) g) h) 26 10) (Ok 27)
  answer_laid = laid_all _ _ _ answer_begun 27 (answer_long a w s)
