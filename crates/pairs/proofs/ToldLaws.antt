-- What the numbers that are kept tell of the lines.
use mathlib.Core.Path.{◌≡◌, refl, ap, sym, ◌∙◌, subst}
use mathlib.Core.List.{List, [], ◌∷◌, map, flatten, nil≢cons, head-eq_of_cons-eq, tail-eq_of_cons-eq}
use Prim.Native.Nat.{ℕ, suc, ◌+◌, ◌<◌, ◌≤◌}
use native.Mathlib.Omega.{arith}
use lib.ListN.{length, take, length-take, length-map}
use lib.Seq.{take_all}
use Rattle.std.specs.Prelude.{None, Some}
use Rattle.frames.specs.Answers.{Back, done, refused}
use Rattle.frames.proofs.AnswerLaws.{done_same}
use Rattle.lines.specs.Lines.{lines_of}
use Rattle.lateness.specs.Pairs.{Pair}
use Rattle.pairs.specs.Reads.{pair_of, reads_of}
use Rattle.pairs.specs.State.{State}
use Rattle.pairs.specs.Kept.{wrong_at, wrong_from, first_wrong, first_pairs, Kept, WrongBehind, Alike}
use Rattle.pairs.specs.Calls.{Fed}
use Rattle.pairs.proofs.ReadLaws.{by_pair}
use Rattle.pairs.proofs.CallLaws.{fed_kept}

-- too many lines

module _ (bytes : List ℕ) {s : State} (kept : Kept (reads_of bytes) s) where
  lines_counted : length (reads_of bytes) ≡ length (lines_of bytes)
  lines_counted = length-map (lines_of bytes) pair_of

  pub told_many : 4096 < s.lines → 4096 < length (lines_of bytes)
  told_many h = omega (arith, kept.counted, length-take 4097 (reads_of bytes), lines_counted)

  pub many_told : 4096 < length (lines_of bytes) → 4096 < s.lines
  many_told h = omega (arith, kept.counted, length-take 4097 (reads_of bytes), lines_counted)

-- or not

module _ {reads : List (Back Pair)} {s : State} (kept : Kept reads s) where
  module _ (few : s.lines ≤ 4096) where
    pub told_count : s.lines ≡ length reads
    told_count = omega (arith, kept.counted, length-take 4097 reads)

    all : take 4096 reads ≡ reads
    all = take_all 4096 reads (omega (arith, told_count))

    pub told_pairs : s.wrong ≡ None → reads ≡ map done (first_pairs s.lines s)
    told_pairs w =
        let n : length (take 4096 reads) ≡ s.lines = ap length all ∙ sym told_count in
        sym (ap (λ (m : ℕ). map done (first_pairs m s)) (sym n) ∙ kept.pairs w ∙ all)

    first_of_all : s.wrong ≡ first_wrong reads
    first_of_all = kept.first ∙ ap first_wrong all

-- the first wrong line

record Found (n m : ℕ) (reads : List (Back Pair)) : Type 0 where
  before : ℕ
  number : m ≡ n + before
  there : WrongBehind reads before

found_here : {n m : ℕ} {reads : List (Back Pair)} → n ≡ m → Found n m (refused ∷ reads)
found_here {n} {m} {reads} e = record { before = 0; number = omega arith; there = record { pairs = []; rest = reads; count = refl; split = refl } }

found_later : {n m : ℕ} {reads : List (Back Pair)} (p : Pair) → Found (n + 1) m reads → Found n m (done p ∷ reads)
found_later {n} {m} {reads} p f = record {
  before = suc f.before;
  number = omega (arith, f.number);
  there = record {
    pairs = p ∷ f.there.pairs;
    rest = f.there.rest;
    count = ap suc f.there.count;
    split = ap (λ (rs : List (Back Pair)). done p ∷ rs) f.there.split;
  };
}

found : (n m : ℕ) (lines : List (List ℕ)) → wrong_from n (map pair_of lines) ≡ Some m → Found n m (map pair_of lines)
unfolding wrong_from wrong_at
found n m [] e = cc
found n m (line ∷ lines) e =
    by_pair (λ (r : Back Pair). wrong_from n (r ∷ map pair_of lines) ≡ Some m → Found n m (r ∷ map pair_of lines)) line
    (λ p g. found_later p (found (n + 1) m lines g)) (λ g. found_here (number g)) e
  where
    number : Some n ≡ Some m → n ≡ m
    number g = cc

pub told_wrong : (bytes : List ℕ) {s : State} → Kept (reads_of bytes) s → s.lines ≤ 4096 → (before : ℕ) → s.wrong ≡ Some (suc before) → WrongBehind (reads_of bytes) before
told_wrong bytes {s} kept few before w =
    let f = found 1 (suc before) (lines_of bytes) (sym (first_of_all kept few) ∙ w) in
    let same : f.before ≡ before = omega (arith, f.number) in
    subst (WrongBehind (reads_of bytes)) same f.there

-- what is told is decided by the bytes alone

pairs_same : (ps qs : List Pair) → map done ps ≡ map done qs → ps ≡ qs
pairs_same [] [] e = refl
pairs_same [] (q ∷ qs) e = absurd (nil≢cons e)
pairs_same (p ∷ ps) [] e = absurd (nil≢cons (sym e))
pairs_same (p ∷ ps) (q ∷ qs) e =
    let first : p ≡ q = done_same (head-eq_of_cons-eq e) in
    let rest : ps ≡ qs = pairs_same ps qs (tail-eq_of_cons-eq e) in
    λ i. first i ∷ rest i

pub told_alike : {reads : List (Back Pair)} {s t : State} → Kept reads s → Kept reads t → Alike s t
told_alike {reads} {s} {t} one two =
    let many : s.lines ≡ t.lines = one.counted ∙ sym two.counted in
    let first : s.wrong ≡ t.wrong = one.first ∙ sym two.first in
    record {
      lines = many;
      wrong = first;
      pairs = λ w few. pairs_same (first_pairs s.lines s) (first_pairs t.lines t) (sym (told_pairs one few w) ∙ told_pairs two (omega arith) (sym first ∙ w));
    }

pub fed_alike : {s t s' t' : State} {some others : List (List ℕ)} → Kept [] s → Kept [] t → flatten some ≡ flatten others → Fed s [] some s' → Fed t [] others t' → Alike s' t'
fed_alike {s' = s'} one two e fed again = told_alike (subst (λ (bytes : List ℕ). Kept (reads_of bytes) s') e (fed_kept one fed)) (fed_kept two again)
