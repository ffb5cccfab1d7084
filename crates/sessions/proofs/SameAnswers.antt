-- The answers depend on the bytes alone, and not on how they came in pieces.
use mathlib.Core.Path.{◌≡◌, refl, sym, ap, ◌∙◌, subst}
use mathlib.Core.List.{List, [], ◌++◌, flatten}
use mathlib.Core.Logic.{inl, inr}
use Prim.Native.Nat.{ℕ, ◌*◌, ◌<◌}
use native.Mathlib.Omega.{arith}
use native.Mathlib.Decide.{dec_lt}
use lib.ListN.{length, drop}
use Rattle.frames.specs.Answers.{Back}
use Rattle.frames.specs.declared.Order.{Order}
use Rattle.frames.specs.declared.NotAFrame.{NotAFrame}
use Rattle.std.specs.Prelude.{Result, Ok}
use Rattle.lines.specs.Lines.{between, orders_of}
use Rattle.lines.specs.Cutter.{kept_after, orders_from, orders_of_pieces}
use Rattle.lines.proofs.Pieces.{any_pieces}
use Rattle.buffers.specs.Format.{lent_of}
use Rattle.sessions.specs.Runs.{Runs, Served, PieceRan, NoMore}
use Rattle.sessions.specs.Pieces.{Session, finished, then_piece, Alike}
use Rattle.sessions.proofs.RunLaws.{runs_append, runs_long}
use Rattle.sessions.proofs.AlikeLaws.{SameRun, runs_alike}

self : (ws : List ℕ) → Alike (lent_of ws) (lent_of ws)
self ws = record { lengths = refl; queues = refl; sounds = refl }

-- ---- a session

pub session_runs : {n : ℕ} {ws work k ws' work' bytes : List ℕ} {pieces : List (List ℕ)} → Session n ws work k pieces ws' work' bytes → Runs n ws work (orders_of_pieces k pieces) ws' work' bytes
unfolding orders_of_pieces
session_runs (finished ws work k ws' work' bytes run) = run
session_runs (then_piece ws work k piece next left ws' work' bytes more pieces run session) = runs_append run (session_runs session)

-- a session answers the lines of all its bytes together, in order
pub session_answers : {n : ℕ} {ws ws' work work' bytes : List ℕ} (pieces : List (List ℕ)) → Session n ws work [] pieces ws' work' bytes → Runs n ws work (orders_of (flatten pieces)) ws' work' bytes
session_answers {n} {ws} {ws'} {work} {work'} {bytes} pieces session = subst (λ (reads : List (Back Order)). Runs n ws work reads ws' work' bytes) (any_pieces pieces) (session_runs session)

-- the same bytes, in whatever pieces and with whatever in the work areas: the same answers
pub same_answers : {n : ℕ} {ws ws₁ ws₂ work work₁ area area₁ xs ys : List ℕ} (ps qs : List (List ℕ)) → flatten ps ≡ flatten qs
    → Session n ws work [] ps ws₁ work₁ xs → Session n ws area [] qs ws₂ area₁ ys → SameRun ws₁ ws₂ xs ys
same_answers {n} {ws} {ws₂ = ws₂} {area = area} {area₁ = area₁} {ys = ys} ps qs same one two =
    runs_alike (session_answers ps one) (subst (λ (bytes : List ℕ). Runs n ws area (orders_of bytes) ws₂ area₁ ys) (sym same) (session_answers qs two))
    (self ws)

-- ---- the contracts determine what comes back, the bytes and the queue

-- the same answer, the same bytes of the whole buffer, and arrays that no call can tell apart
pub record Agree (ws vs out out' : List ℕ) (r s : Result ℕ NotAFrame) : Type 0 where
  pub answers : r ≡ s
  pub buffers : out ≡ out'
  pub alike : Alike (lent_of ws) (lent_of vs)

pub served_agrees : {n : ℕ} {ws ws₁ ws₂ work work₁ area area₁ : List ℕ} {reads : List (Back Order)} {out out₁ out₂ : List ℕ} {r s : Result ℕ NotAFrame}
    → Served n ws ws₁ work work₁ reads out out₁ r → Served n ws ws₂ area area₁ reads out out₂ s → Agree ws₁ ws₂ out₁ out₂ r s
served_agrees {ws = ws} {ws₂ = ws₂} {reads = reads} {out = out} one two =
    elim (dec_lt (length out) (27 * length reads)) [
      | yes h ↦
          let x = one.short h in
          let y = two.short h in
          record {
            answers = x.0 ∙ sym y.0;
            buffers = x.3 ∙ sym y.3;
            alike = subst (λ (l : List ℕ). Alike (lent_of l) (lent_of ws₂)) (sym x.1) (subst (λ (l : List ℕ). Alike (lent_of ws) (lent_of l)) (sym y.1) (self ws));
          }
      | no g ↦
          let x = one.room (omega arith) in
          let y = two.room (omega arith) in
          let z = runs_alike x.run y.run (self ws) in
          record {
            answers = x.count ∙ ap (λ (l : List ℕ). Ok (length l)) z.bytes ∙ sym y.count;
            buffers = x.after ∙ ap (λ (l : List ℕ). l ++ drop (length l) out) z.bytes ∙ sym y.after;
            alike = z.alike;
          }
    ]

-- a piece

-- the same places, the same that is kept of the line so far, the same bytes of the whole buffer, and arrays that no call can tell apart
pub record RanAlike (ws₁ ws₂ out₁ out₂ k₁ k₂ : List ℕ) (i j n m : ℕ) : Type 0 where
  pub places : i ≡ j
  pub keeps : k₁ ≡ k₂
  pub written : n ≡ m
  pub buffers : out₁ ≡ out₂
  pub alike : Alike (lent_of ws₁) (lent_of ws₂)

module _ {size : ℕ} {ws k piece : List ℕ} {at : ℕ} {out : List ℕ} where
  not_before : {ws₁ ws₂ work work₁ area area₁ out₁ out₂ k₁ k₂ : List ℕ} {i j n m : ℕ} → PieceRan size ws ws₁ work work₁ k piece at out out₁ k₁ i n → NoMore piece i out n → PieceRan size ws ws₂ area area₁ k piece at out out₂ k₂ j m → i < j → ⊥
  not_before {i = i} one (inl over) two h =
      elim (dec_lt at (length piece)) [
        | yes g ↦ omega (arith, two.within (omega arith))
        | no g ↦ omega (arith, one.forth, two.over (omega arith))
      ]
  not_before {i = i} one (inr full) two h = omega (arith, two.room i one.forth h, one.count, runs_long one.run)

  same_place : {ws₁ ws₂ work work₁ area area₁ out₁ out₂ k₁ k₂ : List ℕ} {i j n m : ℕ} → PieceRan size ws ws₁ work work₁ k piece at out out₁ k₁ i n → NoMore piece i out n → PieceRan size ws ws₂ area area₁ k piece at out out₂ k₂ j m → NoMore piece j out m → i ≡ j
  same_place {i = i} {j = j} one p two q =
      elim (dec_lt i j) [
        | yes h ↦ absurd (not_before one p two h)
        | no g ↦
            elim (dec_lt j i) [
              | yes h ↦ absurd (not_before two q one h)
              | no f ↦ omega arith
            ]
      ]

  pub ran_agrees : {ws₁ ws₂ work work₁ area area₁ out₁ out₂ k₁ k₂ : List ℕ} {i j n m : ℕ} → PieceRan size ws ws₁ work work₁ k piece at out out₁ k₁ i n → NoMore piece i out n → PieceRan size ws ws₂ area area₁ k piece at out out₂ k₂ j m → NoMore piece j out m
      → RanAlike ws₁ ws₂ out₁ out₂ k₁ k₂ i j n m
  ran_agrees {ws₂ = ws₂} {area = area} {area₁ = area₁} {i = i} {j = j} {n = n} {m = m} one p two q =
      let places : i ≡ j = same_place one p two q in
      let run : Runs size ws area (orders_from k (between at i piece)) ws₂ area₁ two.bytes = subst (λ (l : ℕ). Runs size ws area (orders_from k (between at l piece)) ws₂ area₁ two.bytes) (sym places) two.run in
      let z = runs_alike one.run run (self ws) in
      let written : n ≡ m = one.count ∙ ap length z.bytes ∙ sym two.count in
      record {
        places = places;
        keeps = one.keeps ∙ ap (λ (l : ℕ). kept_after k (between at l piece)) places ∙ sym two.keeps;
        written = written;
        buffers = one.after ∙ ap (λ (l : List ℕ). l ++ drop n out) z.bytes ∙ ap (λ (l : ℕ). two.bytes ++ drop l out) written ∙ sym two.after;
        alike = z.alike;
      }
