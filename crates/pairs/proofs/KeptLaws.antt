-- What is kept stays true with every line more.
use mathlib.Core.Path.{◌≡◌, refl, ap, sym, ◌∙◌, subst}
use mathlib.Core.List.{List, [], ◌∷◌, ◌++◌, map, append_assoc, append-nil, map-append}
use Prim.Native.Nat.{ℕ, suc, ◌+◌, ◌<◌, ◌≤◌}
use native.Mathlib.Decide.{dec_lt}
use native.Mathlib.Omega.{arith}
use native.Mathlib.Nat.{add-zero}
use native.Mathlib.Numerals.{add-one}
use lib.ListN.{length, take, length-set, length-take, length-append}
use lib.Seq.{take_all, take-append-le, take-suc-set, length-take-le}
use Rattle.std.specs.Option.{option_or}
use Rattle.std.specs.Prelude.{Option, None, Some}
use Rattle.frames.specs.Answers.{Back, done, refused}
use Rattle.lateness.specs.Pairs.{Pair, pairs_of}
use Rattle.pairs.specs.Reads.{pair_of}
use Rattle.pairs.specs.State.{State, Room, one_more, lines_after}
use Rattle.pairs.specs.Kept.{wrong_at, wrong_from, first_wrong, first_pairs, Kept}
use Rattle.pairs.proofs.ReadLaws.{by_pair}
use Rattle.pairs.proofs.StateLaws.{more_over, more_pair, more_none}

-- the first wrong line

wrong_done : (n : ℕ) (reads : List (Back Pair)) (p : Pair) → wrong_from n (reads ++ (done p ∷ [])) ≡ wrong_from n reads
unfolding wrong_from wrong_at
wrong_done n [] p = refl
wrong_done n (r ∷ reads) p = ap (wrong_at n r.values) (wrong_done (n + 1) reads p)

first_at : (n m : ℕ) (vs : List Pair) (rest more : Option ℕ) → more ≡ option_or rest (Some m) → wrong_at n vs more ≡ option_or (wrong_at n vs rest) (Some m)
unfolding wrong_at
first_at n m [] rest more e = refl
first_at n m (p ∷ ps) rest more e = e

wrong_none : (n : ℕ) (reads : List (Back Pair)) → wrong_from n (reads ++ (refused ∷ [])) ≡ option_or (wrong_from n reads) (Some (n + length reads))
unfolding wrong_from wrong_at
wrong_none n [] = ap Some (sym (add-zero n))
wrong_none n (r ∷ reads) =
    let further : n + 1 + length reads ≡ n + suc (length reads) = omega arith in
    first_at n (n + suc (length reads)) r.values (wrong_from (n + 1) reads) (wrong_from (n + 1) (reads ++ (refused ∷ [])))
    (wrong_none (n + 1) reads ∙ ap (λ (m : ℕ). option_or (wrong_from (n + 1) reads) (Some m)) further)

first_told : (so_far : Option ℕ) (line : ℕ) → option_or so_far (Some line) ≡ None → ⊥
first_told None line e = cc
first_told (Some n) line e = cc

-- the pairs

pairs_append : (xs ys zs : List ℕ) (d a b : ℕ) → length ys ≡ length xs → length zs ≡ length xs
    → pairs_of (xs ++ (d ∷ [])) (ys ++ (a ∷ [])) (zs ++ (b ∷ [])) ≡ pairs_of xs ys zs ++ (record { due = d; acting = a; door = b } ∷ [])
unfolding pairs_of
pairs_append [] [] [] d a b e f = refl
pairs_append [] [] (z ∷ zs) d a b e f = absurd (omega arith)
pairs_append [] (y ∷ ys) zs d a b e f = absurd (omega arith)
pairs_append (x ∷ xs) [] zs d a b e f = absurd (omega arith)
pairs_append (x ∷ xs) (y ∷ ys) [] d a b e f = absurd (omega arith)
pairs_append (x ∷ xs) (y ∷ ys) (z ∷ zs) d a b e f = ap (λ (ps : List Pair). record { due = x; acting = y; door = z } ∷ ps) (pairs_append xs ys zs d a b (omega arith) (omega arith))

-- the beginning
pub begins : (s : State) → s.lines ≡ 0 → s.wrong ≡ None → Room s.due s.acting s.doors → Kept [] s
unfolding wrong_from pairs_of
begins s e f room = record { counted = e; first = f; pairs = λ w. refl; room = room }

module _ (reads : List (Back Pair)) (s : State) (kept : Kept reads s) where
  many : s.lines < 4096 → s.lines ≡ length reads
  many h = omega (arith, kept.counted, length-take 4097 reads)

  -- behind 4,096 lines
  over : (r : Back Pair) → 4096 ≤ s.lines → Kept (reads ++ (r ∷ [])) (one_more s r)
  over r h =
      let long : 4096 ≤ length reads = omega (arith, kept.counted, length-take 4097 reads) in
      let same : take 4096 (reads ++ (r ∷ [])) ≡ take 4096 reads = take-append-le 4096 reads (r ∷ []) long in
      let more : length (reads ++ (r ∷ [])) ≡ length reads + 1 = length-append reads (r ∷ []) in
      subst (Kept (reads ++ (r ∷ []))) (more_over s r h refl refl) record {
        counted = sym (length-take-le 4097 (reads ++ (r ∷ [])) (omega arith));
        first = rw same kept.first;
        pairs = λ w. rw same (kept.pairs w);
        room = kept.room;
      }

  module _ (h : s.lines < 4096) where
    all : take 4096 reads ≡ reads
    all = take_all 4096 reads (omega (arith, many h))

    more : (r : Back Pair) → length (reads ++ (r ∷ [])) ≡ s.lines + 1
    more r = length-append reads (r ∷ []) ∙ omega (arith, many h)

    all_more : (r : Back Pair) → take 4096 (reads ++ (r ∷ [])) ≡ reads ++ (r ∷ [])
    all_more r = take_all 4096 (reads ++ (r ∷ [])) (omega (arith, more r))

    counts : (r : Back Pair) → s.lines + 1 ≡ length (take 4097 (reads ++ (r ∷ [])))
    counts r = sym (ap length (take_all 4097 (reads ++ (r ∷ [])) (omega (arith, more r))) ∙ more r)

    -- a pair
    keeps : (p : Pair) → Kept (reads ++ (done p ∷ [])) (one_more s (done p))
    keeps p =
        let n = s.lines in
        let r = done p in
        let read : length (take 4096 reads) ≡ n = ap length all ∙ sym (many h) in
        let suc_many : length (take 4096 (reads ++ (r ∷ []))) ≡ suc n = ap length (all_more r) ∙ more r ∙ add-one n in
        let due_here : n < length s.due = omega (arith, kept.room.due_long) in
        let acting_here : n < length s.acting = omega (arith, kept.room.acting_long) in
        let doors_here : n < length s.doors = omega (arith, kept.room.doors_long) in
        subst (Kept (reads ++ (r ∷ []))) (more_pair s r refl refl h refl refl) record {
          counted = counts r;
          first = kept.first ∙ ap first_wrong all ∙ sym (ap first_wrong (all_more r) ∙ wrong_done 1 reads p);
          pairs =
              λ w.
              rw (suc_many, all_more r, take-suc-set s.due n p.due due_here, take-suc-set s.acting n p.acting acting_here, take-suc-set s.doors n p.door doors_here)
              (ap (map done)
              (pairs_append (take n s.due) (take n s.acting) (take n s.doors) p.due p.acting p.door
              (omega (arith, length-take-le n s.due (omega arith), length-take-le n s.acting (omega arith)))
              (omega (arith, length-take-le n s.due (omega arith), length-take-le n s.doors (omega arith))))
              ∙ map-append done (first_pairs n s) (p ∷ [])
              ∙ ap (λ (rs : List (Back Pair)). rs ++ (r ∷ [])) (rw (read, all) at (kept.pairs w)));
          room = record {
            due_long = simp length-set kept.room.due_long;
            acting_long = simp length-set kept.room.acting_long;
            doors_long = simp length-set kept.room.doors_long;
          };
        }

    -- a line that is none
    tells : Kept (reads ++ (refused ∷ [])) (one_more s refused)
    tells =
        let n = s.lines in
        let number : 1 + length reads ≡ n + 1 = omega (arith, many h) in
        subst (Kept (reads ++ (refused ∷ []))) (more_none s refused refl h refl refl) record {
          counted = counts refused;
          first =
              ap (λ (w : Option ℕ). option_or w (Some (n + 1))) (kept.first ∙ ap first_wrong all) ∙ ap (λ (m : ℕ). option_or (first_wrong reads) (Some m)) (sym number)
              ∙ sym (ap first_wrong (all_more refused) ∙ wrong_none 1 reads);
          pairs = λ w. absurd (first_told s.wrong (n + 1) w);
          room = kept.room;
        }

  -- one line more
  pub kept_line : (line : List ℕ) → Kept (reads ++ (pair_of line ∷ [])) (one_more s (pair_of line))
  kept_line line =
      elim (dec_lt s.lines 4096) [
        | yes h ↦ by_pair (λ (r : Back Pair). Kept (reads ++ (r ∷ [])) (one_more s r)) line (keeps h) (tells h)
        | no g ↦ over (pair_of line) (omega arith)
      ]

pub kept_lines : (reads : List (Back Pair)) (s : State) → Kept reads s → (lines : List (List ℕ)) → Kept (reads ++ map pair_of lines) (lines_after s (map pair_of lines))
unfolding lines_after
kept_lines reads s kept [] = subst (λ (rs : List (Back Pair)). Kept rs s) (sym (append-nil reads)) kept
kept_lines reads s kept (line ∷ lines) =
    subst (λ (rs : List (Back Pair)). Kept rs (lines_after (one_more s (pair_of line)) (map pair_of lines))) (append_assoc reads (pair_of line ∷ []) (map pair_of lines))
    (kept_lines (reads ++ (pair_of line ∷ [])) (one_more s (pair_of line)) (kept_line reads s kept line) lines)
