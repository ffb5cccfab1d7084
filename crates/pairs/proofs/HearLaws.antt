-- A byte, the last line, and the loop over a piece.
use mathlib.Core.Path.{◌≡◌, refl, ap, sym, ◌∙◌}
use mathlib.Core.List.{List, [], ◌∷◌, ◌++◌}
use Prim.Native.Nat.{ℕ, ◌+◌, ◌<◌, ◌≤◌}
use native.Mathlib.Omega.{arith}
use native.Mathlib.Numerals.{add-one}
use lib.ListN.{length, drop, get_or, drop_of_length-le}
use lib.Seq.{drop-cons}
use borrow.Author.Tests.{eq-eqb, ne_eqb}
use Rattle.lines.specs.Lines.{ended_by, last_line}
use Rattle.lines.specs.Cutter.{decisive, Cut, feed_of, kept_after}
use Rattle.lines.proofs.CutterLaws.{feed_end, feed_onward}
use Rattle.pairs.specs.Reads.{pair_of, reads_by, reads_from, last_reads}
use Rattle.pairs.specs.State.{State, one_more, lines_after}
use Rattle.pairs.proofs.StateLaws.{lines_append}

module _ (s : State) (k : List ℕ) (b : ℕ) where
  pub byte_ends : {s' : State} → b ≡ 10 → s' ≡ one_more s (pair_of k) → s' ≡ lines_after s (reads_by k b)
  unfolding lines_after ended_by
  byte_ends h e = rw (eq-eqb b 10 h) e

  pub byte_on : {s' : State} → (b ≡ 10 → ⊥) → s' ≡ s → s' ≡ lines_after s (reads_by k b)
  unfolding lines_after ended_by
  byte_on h e = rw (ne_eqb b 10 h) e

pub kept_none : (k : List ℕ) (b : ℕ) {k' : List ℕ} → b ≡ 10 → k' ≡ [] → k' ≡ (feed_of k b).keeps
kept_none k b h e = e ∙ ap (λ (c : Cut). c.keeps) (feed_end k b h)

pub kept_on : (k : List ℕ) (b : ℕ) {k' : List ℕ} → (b ≡ 10 → ⊥) → k' ≡ decisive (k ++ (b ∷ [])) → k' ≡ (feed_of k b).keeps
kept_on k b h e = e ∙ ap (λ (c : Cut). c.keeps) (feed_onward k b h)

-- what `hear_byte` is proved by
pub ruleset byte_laws = (byte_ends, byte_on, kept_none, kept_on)

-- the last line

pub last_none : (s : State) (k : List ℕ) → k ≡ [] → s ≡ lines_after s (last_reads k)
unfolding lines_after last_line
last_none s k e = rw e refl

pub last_some : (s : State) (k : List ℕ) {s' : State} → 0 < length k → s' ≡ one_more s (pair_of k) → s' ≡ lines_after s (last_reads k)
unfolding lines_after last_line
last_some s [] h e = absurd (omega arith)
last_some s (b ∷ k) h e = e

-- from a place of a piece on there is left to do what there was from its beginning

pub record Hearing (piece : List ℕ) (s₀ : State) (k₀ : List ℕ) (s : State) (k : List ℕ) (i : ℕ) : Type 0 where
  pub inside : i ≤ length piece
  pub state : lines_after s (reads_from k (drop i piece)) ≡ lines_after s₀ (reads_from k₀ piece)
  pub keeps : kept_after k (drop i piece) ≡ kept_after k₀ piece

module _ (piece : List ℕ) where
  module _ {s₀ : State} {k₀ : List ℕ} (s : State) (k : List ℕ) (i : ℕ) (h : Hearing piece s₀ k₀ s k i) where
    pub hears_on : {s' : State} {k' : List ℕ} (b : ℕ) → i < length piece → b ≡ get_or piece i 0 → s' ≡ lines_after s (reads_by k b) → k' ≡ (feed_of k b).keeps → Hearing piece s₀ k₀ s' k' (i + 1)
    unfolding reads_from kept_after
    hears_on {s'} {k'} b l at e f =
        let rest : drop i piece ≡ b ∷ drop (i + 1) piece = drop-cons piece i 0 l ∙ rw (at, add-one) refl in
        record {
          inside = omega arith;
          state =
              rw (e, f) (sym (lines_append s (reads_by k b) (reads_from (feed_of k b).keeps (drop (i + 1) piece))))
              ∙ ap (λ (bs : List ℕ). lines_after s (reads_from k bs)) (sym rest) ∙ h.state;
          keeps = ap (λ (j : List ℕ). kept_after j (drop (i + 1) piece)) f ∙ ap (kept_after k) (sym rest) ∙ h.keeps;
        }

    pub heard_state : length piece ≤ i → s ≡ lines_after s₀ (reads_from k₀ piece)
    unfolding lines_after reads_from
    heard_state l = ap (λ (bs : List ℕ). lines_after s (reads_from k bs)) (sym (drop_of_length-le piece l)) ∙ h.state

    pub heard_keeps : length piece ≤ i → k ≡ kept_after k₀ piece
    unfolding kept_after
    heard_keeps l = ap (kept_after k) (sym (drop_of_length-le piece l)) ∙ h.keeps
