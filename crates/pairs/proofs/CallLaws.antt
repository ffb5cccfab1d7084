-- Calls one after the other keep the reads of all bytes joined.
use mathlib.Core.Path.{◌≡◌, refl, ap, sym, ◌∙◌, subst}
use mathlib.Core.List.{List, [], ◌++◌, append_assoc, append-nil, flatten}
use Prim.Native.Nat.{ℕ}
use Rattle.frames.specs.Answers.{Back}
use Rattle.lines.specs.Lines.{lines_of}
use Rattle.lines.specs.Cutter.{kept_after}
use Rattle.lines.proofs.Pieces.{kept_append}
use Rattle.lateness.specs.Pairs.{Pair}
use Rattle.pairs.specs.Reads.{reads_of, reads_from, last_reads}
use Rattle.pairs.specs.State.{State, lines_after}
use Rattle.pairs.specs.Kept.{Kept}
use Rattle.pairs.specs.Calls.{HeardSoFar, Fed, finished, heard}
use Rattle.pairs.proofs.StateLaws.{lines_append}
use Rattle.pairs.proofs.PieceLaws.{reads_append, whole}
use Rattle.pairs.proofs.KeptLaws.{kept_lines}

pub so_begins : (s : State) → HeardSoFar s [] s []
unfolding lines_after reads_from kept_after
so_begins s = record { state = refl; keeps = refl }

module _ {begun s : State} {bytes k : List ℕ} (so : HeardSoFar begun bytes s k) where
  from_begun : (more : List ℕ → List (Back Pair)) → lines_after s (more k) ≡ lines_after begun (reads_from [] bytes ++ more (kept_after [] bytes))
  from_begun more =
      ap (λ (t : State). lines_after t (more k)) so.state ∙ ap (λ (j : List ℕ). lines_after (lines_after begun (reads_from [] bytes)) (more j)) so.keeps
      ∙ sym (lines_append begun (reads_from [] bytes) (more (kept_after [] bytes)))

  pub so_on : {s₁ : State} {k₁ : List ℕ} (piece : List ℕ) → s₁ ≡ lines_after s (reads_from k piece) → k₁ ≡ kept_after k piece → HeardSoFar begun (bytes ++ piece) s₁ k₁
  so_on piece e f = record {
    state = e ∙ from_begun (λ (j : List ℕ). reads_from j piece) ∙ ap (lines_after begun) (sym (reads_append [] bytes piece));
    keeps = f ∙ ap (λ (j : List ℕ). kept_after j piece) so.keeps ∙ sym (kept_append [] bytes piece);
  }

  pub so_ends : {s' : State} → Kept [] begun → s' ≡ lines_after s (last_reads k) → Kept (reads_of bytes) s'
  so_ends kept e =
      subst (Kept (reads_of bytes)) (sym (e ∙ from_begun last_reads ∙ ap (lines_after begun) (whole bytes))) (kept_lines [] begun kept (lines_of bytes))

fed_from : {begun s s' : State} {k : List ℕ} {pieces : List (List ℕ)} (bytes : List ℕ) → Kept [] begun → HeardSoFar begun bytes s k → Fed s k pieces s' → Kept (reads_of (bytes ++ flatten pieces)) s'
unfolding flatten
fed_from {s' = s'} bytes kept so (finished s _ k e) = subst (λ (bs : List ℕ). Kept (reads_of bs) s') (sym (append-nil bytes)) (so_ends so kept e)
fed_from {s' = s'} bytes kept so (heard s s₁ _ k k₁ piece pieces e f rest) =
    subst (λ (bs : List ℕ). Kept (reads_of bs) s') (append_assoc bytes piece (flatten pieces)) (fed_from (bytes ++ piece) kept (so_on so piece e f) rest)

-- any pieces, one after the other, and the end
pub fed_kept : {s s' : State} {pieces : List (List ℕ)} → Kept [] s → Fed s [] pieces s' → Kept (reads_of (flatten pieces)) s'
fed_kept {s} kept fed = fed_from [] kept (so_begins s) fed
