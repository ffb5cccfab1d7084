-- What the functions promise, call after call, is a session.
use mathlib.Core.Path.{◌≡◌, refl, sym, ap, ◌∙◌, subst}
use mathlib.Core.List.{List, [], ◌++◌}
use Prim.Native.Nat.{ℕ, ◌+◌, ◌-◌, ◌*◌, ◌≤◌}
use native.Mathlib.Omega.{arith}
use native.Mathlib.Decide.{dec_lt}
use lib.ListN.{length, take, drop, take-append-drop, drop_of_length-le}
use lib.Seq.{drop-drop, take_at}
use Rattle.frames.specs.Answers.{Back, back}
use Rattle.frames.specs.declared.Order.{Order}
use Rattle.std.specs.Prelude.{Ok}
use Rattle.frames.proofs.AnswerLaws.{done_same, not_done}
use Rattle.lines.specs.Lines.{between}
use Rattle.lines.specs.Cutter.{kept_after, orders_from, last_of}
use Rattle.lines.proofs.Pieces.{orders_append, kept_append}
use Rattle.sessions.specs.Runs.{Runs, ends, Served, PieceRan}
use Rattle.sessions.specs.Pieces.{Session, finished, then_piece, PieceFed, all_read, call, Fed, finish, feed}
use Rattle.sessions.proofs.RunLaws.{runs_append, runs_keep_long}

-- what is left of a piece: the part that a call has read, and the rest
rest_of : (piece : List ℕ) (at i : ℕ) → at ≤ i → drop at piece ≡ between at i piece ++ drop i piece
rest_of piece at i h =
    let e : at + (i - at) ≡ i = omega arith in
    sym (take-append-drop (i - at) (drop at piece)) ∙ ap (λ rest. between at i piece ++ rest) (drop-drop (i - at) at piece ∙ ap (λ n. drop n piece) e)

-- the piece from a place on has been answered, and the work area is as long as before
record Answered (piece ws work k : List ℕ) (at : ℕ) (ws' work' k' bytes : List ℕ) : Type 0 where
  run : Runs (length work) ws work (orders_from k (drop at piece)) ws' work' bytes
  keeps : k' ≡ kept_after k (drop at piece)
  long : length work' ≡ length work

module _ {piece : List ℕ} where
  none_left : (ws work k : List ℕ) (at : ℕ) → length piece ≤ at → Answered piece ws work k at ws work k []
  unfolding orders_from kept_after
  none_left ws work k at over =
      let e : drop at piece ≡ [] = drop_of_length-le piece over in
      record { run = subst (λ rest. Runs (length work) ws work (orders_from k rest) ws work []) (sym e) (ends ws work); keeps = sym (ap (kept_after k) e); long = refl }

  one_more : (ws work k ws₁ work₁ k₁ ws' work' k' out out₁ bytes : List ℕ) (at at₁ written : ℕ) → PieceRan (length work) ws ws₁ work work₁ k piece at out out₁ k₁ at₁ written
      → Answered piece ws₁ work₁ k₁ at₁ ws' work' k' bytes → Answered piece ws work k at ws' work' k' (take written out₁ ++ bytes)
  one_more ws work k ws₁ work₁ k₁ ws' work' k' out out₁ bytes at at₁ written ran rest =
      let here = between at at₁ piece in
      let same : length work₁ ≡ length work = runs_keep_long ran.run in
      let next : Runs (length work) ws₁ work₁ (orders_from (kept_after k here) (drop at₁ piece)) ws' work' bytes =
      subst (λ l. Runs (length work) ws₁ work₁ (orders_from l (drop at₁ piece)) ws' work' bytes) ran.keeps
      (subst (λ n. Runs n ws₁ work₁ (orders_from k₁ (drop at₁ piece)) ws' work' bytes) same rest.run) in
      let all : orders_from k here ++ orders_from (kept_after k here) (drop at₁ piece) ≡ orders_from k (drop at piece) =
      sym (ap (orders_from k) (rest_of piece at at₁ ran.forth) ∙ orders_append k here (drop at₁ piece)) in
      let wrote : ran.bytes ≡ take written out₁ = sym (ap (take written) ran.after ∙ take_at ran.bytes (drop written out) written (sym ran.count)) in
      record {
        run =
            subst (λ xs. Runs (length work) ws work (orders_from k (drop at piece)) ws' work' (xs ++ bytes)) wrote
            (subst (λ reads. Runs (length work) ws work reads ws' work' (ran.bytes ++ bytes)) all (runs_append ran.run next));
        keeps =
            rest.keeps ∙ ap (λ l. kept_after l (drop at₁ piece)) ran.keeps
            ∙ sym (ap (kept_after k) (rest_of piece at at₁ ran.forth) ∙ kept_append k here (drop at₁ piece));
        long = rest.long ∙ same;
      }

  piece_answered : {ws work k ws' work' k' bytes : List ℕ} {at : ℕ} → PieceFed piece ws work k at ws' work' k' bytes → Answered piece ws work k at ws' work' k' bytes
  piece_answered (all_read ws work k at over) = none_left ws work k at over
  piece_answered (call ws work k ws₁ work₁ k₁ ws' work' k' out out₁ bytes at at₁ written ran rest) =
      one_more ws work k ws₁ work₁ k₁ ws' work' k' out out₁ bytes at at₁ written ran (piece_answered rest)

last_run : (n : ℕ) (ws work ws' work' out out' : List ℕ) (reads : List (Back Order)) (written : ℕ) → Served n ws ws' work work' reads out out' (Ok written)
    → Runs n ws work reads ws' work' (take written out')
last_run n ws work ws' work' out out' reads written served =
    elim (dec_lt (length out) (27 * length reads)) [
      | yes short ↦ not_done (ap back (sym (served.short short).0))
      | no room ↦
          let f = served.room (omega arith) in
          let many : length f.bytes ≡ written = sym (done_same (ap back f.count)) in
          subst (Runs n ws work reads ws' work') (sym (ap (take written) f.after ∙ take_at f.bytes (drop (length f.bytes) out) written many)) f.run
    ]

pub fed_session : {ws work k ws' work' bytes : List ℕ} {pieces : List (List ℕ)} → Fed ws work k pieces ws' work' bytes → Session (length work) ws work k pieces ws' work' bytes
fed_session (finish ws work k ws' work' out out' written served) =
    finished ws work k ws' work' (take written out') (last_run (length work) ws work ws' work' out out' (last_of k) written served)
fed_session (feed ws work k piece ws₁ work₁ k₁ ws' work' bytes more pieces here rest) =
    let z = piece_answered here in
    let others : Session (length work) ws₁ work₁ (kept_after k piece) pieces ws' work' more =
    subst (λ l. Session (length work) ws₁ work₁ l pieces ws' work' more) z.keeps (subst (λ n. Session n ws₁ work₁ k₁ pieces ws' work' more) z.long (fed_session rest)) in
    then_piece ws work k piece ws₁ work₁ ws' work' bytes more pieces z.run others
