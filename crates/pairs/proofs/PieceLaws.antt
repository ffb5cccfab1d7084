-- What is read depends on the bytes alone, however they come in pieces.
use mathlib.Core.Path.{◌≡◌, refl, ap, sym, ◌∙◌}
use mathlib.Core.Bool.{Bool, cond}
use mathlib.Core.List.{List, [], ◌∷◌, ◌++◌, map, append_assoc, map-append}
use Prim.Native.Nat.{ℕ}
use Rattle.frames.specs.Answers.{Back}
use Rattle.lines.specs.Lines.{line_after, ended_by, ended_within, left_by, last_line}
use Rattle.lines.specs.Cutter.{decisive, feed_of, kept_after}
use Rattle.lines.proofs.LineLaws.{by_end}
use Rattle.lines.proofs.CutterLaws.{decisive_onward}
use Rattle.lateness.specs.Pairs.{Pair}
use Rattle.pairs.specs.Reads.{pair_of, reads_of, reads_by, reads_from, last_reads}
use Rattle.pairs.proofs.ReadLaws.{pair_decisive}

pub reads_append : (k xs ys : List ℕ) → reads_from k (xs ++ ys) ≡ reads_from k xs ++ reads_from (kept_after k xs) ys
unfolding reads_from kept_after
reads_append k [] ys = refl
reads_append k (x ∷ xs) ys = rw (reads_append (feed_of k x).keeps xs ys) (sym (append_assoc (reads_by k x) (reads_from (feed_of k x).keeps xs) _))

-- the bytes that are kept of a line so far serve as well as the line

module _ (line : List ℕ) (b : ℕ) where
  seen_keeps : (feed_of (decisive line) b).keeps ≡ decisive (line_after line b)
  unfolding line_after
  seen_keeps =
      by_end (λ (t : Bool). decisive (cond t [] (decisive line ++ (b ∷ []))) ≡ decisive (cond t [] (line ++ (b ∷ [])))) b
      (λ e. refl) (λ e. decisive_onward line b)

  seen_reads : reads_by (decisive line) b ≡ reads_by line b
  unfolding ended_by
  seen_reads =
      by_end (λ (t : Bool). map pair_of (cond t (decisive line ∷ []) []) ≡ map pair_of (cond t (line ∷ []) [])) b
      (λ e. ap (λ (r : Back Pair). r ∷ []) (pair_decisive line)) (λ e. refl)

seen_after : (line bs : List ℕ) → kept_after (decisive line) bs ≡ decisive (left_by line bs)
unfolding kept_after left_by
seen_after line [] = refl
seen_after line (b ∷ bs) = ap (λ (k : List ℕ). kept_after k bs) (seen_keeps line b) ∙ seen_after (line_after line b) bs

seen_from : (line bs : List ℕ) → reads_from (decisive line) bs ≡ map pair_of (ended_within line bs)
unfolding reads_from ended_within
seen_from line [] = refl
seen_from line (b ∷ bs) =
    let rest : reads_from (feed_of (decisive line) b).keeps bs ≡ map pair_of (ended_within (line_after line b) bs) =
    ap (λ (k : List ℕ). reads_from k bs) (seen_keeps line b) ∙ seen_from (line_after line b) bs in
    rw (seen_reads line b, rest) (sym (map-append pair_of (ended_by line b) (ended_within (line_after line b) bs)))

seen_last : (line : List ℕ) → last_reads (decisive line) ≡ last_reads line
unfolding last_line
seen_last [] = refl
seen_last (b ∷ bs) = ap (λ (r : Back Pair). r ∷ []) (pair_decisive (b ∷ bs))

-- all bytes, then the last line
pub whole : (bytes : List ℕ) → reads_from [] bytes ++ last_reads (kept_after [] bytes) ≡ reads_of bytes
whole bytes =
    rw (seen_from [] bytes, seen_after [] bytes) (ap (λ (r : List (Back Pair)). map pair_of (ended_within [] bytes) ++ r) (seen_last (left_by [] bytes)))
    ∙ sym (map-append pair_of (ended_within [] bytes) (last_line (left_by [] bytes)))
