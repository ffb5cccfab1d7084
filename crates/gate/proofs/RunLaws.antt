-- A piece, by calls of `run_piece`: the lines among its first bytes have been answered, and their answers written.
use mathlib.Core.Path.{◌≡◌, refl, sym, ap, ◌∙◌, subst}
use mathlib.Core.List.{List, [], ◌∷◌, ◌++◌}
use mathlib.Core.Bool.{true}
use Rattle.std.proofs.lemmas.Bool.{true≢false}
use Prim.Native.Nat.{ℕ, zero, suc, ◌+◌, ◌-◌, ◌≤◌, ◌<◌}
use native.Mathlib.Omega.{arith}
use lib.ListN.{length, take, drop}
use lib.Seq.{take-add, take_at, take-append-add}
use Rattle.std.proofs.lemmas.List.{take_all}
use Rattle.std.specs.Prelude.{Option}
use Rattle.std.specs.Io.KnownBytes.{Appends, Consumes, IsAtEnd, Keeps}
use Rattle.std.proofs.KnownBytes.{Appends-nil, Appends-trans, Consumes-nil, Consumes-kept}
use Rattle.streams.specs.Fronts.{AppendsFront}
use Rattle.frames.specs.Answers.{Back, back}
use Rattle.frames.specs.declared.NotAFrame.{NotAFrame}
use Rattle.std.specs.Prelude.{Result, Ok, IsOk}
use Rattle.frames.proofs.AnswerLaws.{done_same}
use Rattle.frames.specs.declared.Order.{Order}
use Rattle.lines.specs.Lines.{between, last_line}
use Rattle.lines.specs.Cutter.{kept_after, orders_from, last_of}
use Rattle.lines.proofs.Pieces.{orders_append, kept_append}
use Rattle.sessions.specs.Runs.{Runs, ends, PieceRan, Filled, Served}
use Rattle.sessions.proofs.RunLaws.{runs_append}
use Rattle.gate.specs.Runs.{Answered, AnsweredFront, AnswersPiece, StopsIn, ReadsPiece, Stops}

-- the first bytes of a piece have been answered
pub record SoFar (n : ℕ) (ws now work left k k' piece : List ℕ) (at : ℕ) (out out' : Option (List ℕ)) : Type 0 where
  pub within : at ≤ length piece
  pub answers : AnswersPiece n ws now work left k k' (take at piece) out out'

pub none_yet : (n : ℕ) (ws work k piece : List ℕ) (out : Option (List ℕ)) → SoFar n ws ws work work k k piece 0 out out
unfolding orders_from kept_after
none_yet n ws work k piece out = record {
  within = omega arith;
  answers = record {
    answered = record { bytes = []; run = ends ws work; written = Appends-nil out };
    keeps = refl;
  };
}

-- what a writer had, and a front of what came behind
front_behind : (a b c : Option (List ℕ)) (bs cs : List ℕ) → Appends a b bs → AppendsFront b c cs → AppendsFront a c (bs ++ cs)
front_behind a b c bs cs first front = (length bs + front.0, subst (Appends a c) (sym (take-append-add bs cs front.0)) (Appends-trans a b c _ _ first front.1))

module _ {n size : ℕ} {ws now later work left left' k k₁ k' piece : List ℕ} {at at' written : ℕ} {o o' : List ℕ} {out out₁ : Option (List ℕ)}
    (so : SoFar n ws now work left k k₁ piece at out out₁) (ran : PieceRan size now later left left' k₁ piece at o o' k' at' written) (same : size ≡ n) where
  here : take at' piece ≡ take at piece ++ between at at' piece
  here = ap (λ (m : ℕ). take m piece) (omega (arith, ran.forth)) ∙ take-add at (at' - at) piece

  wrote : take written o' ≡ ran.bytes
  wrote = ap (take written) ran.after ∙ take_at ran.bytes (drop written o) written (sym ran.count)

  lines : orders_from k (take at piece) ++ orders_from k₁ (between at at' piece) ≡ orders_from k (take at' piece)
  lines = ap (λ (l : List ℕ). orders_from k (take at piece) ++ orders_from l (between at at' piece)) so.answers.keeps
      ∙ sym (ap (orders_from k) here ∙ orders_append k (take at piece) (between at at' piece))

  ran_both : Runs n ws work (orders_from k (take at' piece)) later left' (so.answers.answered.bytes ++ ran.bytes)
  ran_both = subst (λ (reads : List (Back Order)). Runs n ws work reads later left' (so.answers.answered.bytes ++ ran.bytes)) lines
      (runs_append so.answers.answered.run (subst (λ (m : ℕ). Runs m now left (orders_from k₁ (between at at' piece)) later left' ran.bytes) same ran.run))

  pub some_more : {out₂ : Option (List ℕ)} → Appends out₁ out₂ (take written o') → SoFar n ws later work left' k k' piece at' out out₂
  some_more {out₂} more = record {
    within = ran.within so.within;
    answers = record {
      answered = record {
        bytes = so.answers.answered.bytes ++ ran.bytes;
        run = ran_both;
        written = Appends-trans _ _ _ _ _ so.answers.answered.written (subst (Appends out₁ out₂) wrote more);
      };
      keeps =
          ran.keeps ∙ ap (λ (l : List ℕ). kept_after l (between at at' piece)) so.answers.keeps
          ∙ sym (ap (kept_after k) here ∙ kept_append k (take at piece) (between at at' piece));
    };
  }

  pub stopped : {out₂ : Option (List ℕ)} → AppendsFront out₁ out₂ (take written o') → StopsIn n ws later work left' k piece out out₂
  stopped {out₂} front = (
    at',
    record {
      bytes = so.answers.answered.bytes ++ ran.bytes;
      run = ran_both;
      written = front_behind _ _ _ _ _ so.answers.answered.written (subst (AppendsFront out₁ out₂) wrote front);
    },
  )

pub whole : {n : ℕ} {ws now work left k k' piece : List ℕ} {at : ℕ} {out out' : Option (List ℕ)} → SoFar n ws now work left k k' piece at out out' → length piece ≤ at
    → AnswersPiece n ws now work left k k' piece out out'
whole {n} {ws} {now} {work} {left} {k} {k'} {piece} {at} {out} {out'} so over =
    subst (λ (l : List ℕ). AnswersPiece n ws now work left k k' l out out') (take_all at piece over) so.answers

-- ---- one read

pub none_read : {n : ℕ} {ws work k : List ℕ} {left left' out : Option (List ℕ)} (m : ℕ) (piece : List ℕ) → m ≡ 0 → 0 < length piece
    → Consumes left left' (take m piece) × (m ≡ 0 → 0 < length piece → IsAtEnd left') → ReadsPiece n ws ws work work k k left left' out out true
unfolding orders_from kept_after
none_read {n} {ws} {work} {k} {out = out} zero piece e room read = record {
  piece = [];
  consumed = read.0;
  answers = (none_yet n ws work k [] out).answers;
  at_end = λ _. read.1 refl room;
  some = λ b. absurd (true≢false b);
}
none_read (suc m) piece e room read = absurd (omega arith)

pub failed_read : (n : ℕ) (ws work k : List ℕ) (left left' out : Option (List ℕ)) → Keeps left left' → Stops n ws ws work work k left left' out out
unfolding orders_from
failed_read n ws work k left left' out kept = record {
  piece = [];
  consumed = Consumes-kept _ _ _ _ (Consumes-nil left) kept;
  stops = (0, record { bytes = []; run = ends ws work; written = (0, Appends-nil out) });
}

-- ---- the last line

last_few : (k : List ℕ) → length (last_of k) ≤ 1
unfolding last_line
last_few [] = omega arith
last_few (b ∷ bs) = omega arith

module _ {n : ℕ} {ws ws' work work' o o' : List ℕ} {r : Result ℕ NotAFrame} (k : List ℕ) (served : Served n ws ws' work work' (last_of k) o o' r) (room : 27 ≤ length o) where
  filled : Filled n ws ws' work work' (last_of k) o o' r
  filled = served.room (omega (arith, last_few k))

  stands : (m : ℕ) → r ≡ Ok m → take m o' ≡ filled.bytes
  stands m e = ap (take m) filled.after ∙ take_at filled.bytes (drop (length filled.bytes) o) m (sym (done_same (ap back (sym e ∙ filled.count))))

  pub last_answered : {out out' : Option (List ℕ)} (m : ℕ) → r ≡ Ok m → Appends out out' (take m o') → Answered n ws ws' work work' (last_of k) out out'
  last_answered {out} {out'} m e all = record { bytes = filled.bytes; run = filled.run; written = subst (Appends out out') (stands m e) all }

  pub last_stopped : {out out' : Option (List ℕ)} (m : ℕ) → r ≡ Ok m → AppendsFront out out' (take m o') → AnsweredFront n ws ws' work work' (last_of k) out out'
  last_stopped {out} {out'} m e front = record { bytes = filled.bytes; run = filled.run; written = subst (AppendsFront out out') (stands m e) front }

  -- there is room
  pub last_done : IsOk r
  last_done = rw filled.count refl
