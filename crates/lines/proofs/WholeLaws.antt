-- A line that stands whole in a piece is read where it stands.
use mathlib.Core.Path.{◌≡◌, refl, ap, sym, ◌∙◌, subst}
use mathlib.Core.Bool.{Bool, true, false, cond, not}
use native.Mathlib.Numerals.{add-one}
use Rattle.std.specs.Prelude.{position}
use Rattle.std.specs.List.{position_or_len}
use Rattle.std.proofs.lemmas.List.Sums.{split_at_first, passes_at_first}
use mathlib.Core.List.{List, [], ◌∷◌, ◌++◌, append_assoc, append-nil}
use Prim.Native.Nat.{ℕ, suc, min, ◌+◌, ◌<◌, ◌≤◌}
use native.Mathlib.Omega.{arith}
use native.Mathlib.Decide.{dec_lt}
use lib.Dec.{eqb}
use lib.ListN.{length, take, drop, get_or, length-append, length-drop, take-append-drop, drop_of_length-le}
use lib.Seq.{take-suc, take_all, take-append-le, length-take-le}
use borrow.Author.Tests.{lt-ltb, le-ltb, eqb-true}
use Rattle.frames.specs.Answers.{Back, read_back}
use Rattle.frames.specs.Frames.{read_of}
use Rattle.frames.specs.declared.Order.{Order}
use Rattle.frames.specs.declared.NotAFrame.{NotAFrame}
use Rattle.lines.specs.Lines.{line_after, ended_by, plain}
use Rattle.lines.specs.Cutter.{decisive, kept, Step, next_of}
use Rattle.lines.specs.Answers.{next_back}
use Rattle.lines.specs.declared.Cutter.{Cutter}
use Rattle.std.specs.Prelude.{Some, None, Result}
use Rattle.lines.proofs.LineLaws.{by_end, other, rest_plain}
use Rattle.lines.proofs.CutterLaws.{read_decisive, decisive_onward}

-- ---- the search for a line end

-- the first line end, and nothing before it
record FirstEnd (bytes : List ℕ) (end : ℕ) : Type 0 where
  inside : end < length bytes
  before : plain (take end bytes) ≡ true
  there : bytes ≡ take end bytes ++ (10 ∷ drop (end + 1) bytes)

abbrev ends : ℕ → Bool
ends b = eqb b 10

plain_front : (bytes : List ℕ) → plain (take (position_or_len ends bytes) bytes) ≡ true
unfolding plain
plain_front [] = refl
plain_front (b ∷ bs) =
    let next : 1 + position_or_len ends bs ≡ suc (position_or_len ends bs) = omega arith in
    by_end (λ (t : Bool). plain (take (cond (not t) (1 + position_or_len ends bs) 0) (b ∷ bs)) ≡ true) b
    (λ e. refl) (λ e. rw (next, e) (plain_front bs))

first_end : (bytes : List ℕ) (end : ℕ) → position ends bytes ≡ Some end → FirstEnd bytes end
first_end bytes end e =
    let n = position_or_len ends bytes in
    elim (dec_lt n (length bytes)) [
      | yes h ↦
          let found = rw (lt-ltb n (length bytes) h) at e in
          let same : n ≡ end = cc in
          let byte : get_or bytes n 0 ≡ 10 = eqb-true (get_or bytes n 0) 10 (passes_at_first ends bytes 0 h) in
          subst (FirstEnd bytes) same record { inside = h; before = plain_front bytes; there = rw byte at (split_at_first ends bytes 0 h) }
      | no g ↦ let none = rw (le-ltb n (length bytes) (omega arith)) at e in absurd (cc)
    ]

no_end : (bytes : List ℕ) → position ends bytes ≡ None → plain bytes ≡ true
no_end bytes e =
    let n = position_or_len ends bytes in
    elim (dec_lt n (length bytes)) [
      | yes h ↦ let found = rw (lt-ltb n (length bytes) h) at e in absurd (cc)
      | no g ↦ rw (take_all n bytes (omega arith)) at (plain_front bytes)
    ]

-- ---- the line that it ends

abbrev ended : List ℕ → ℕ → Step
ended line at = record { at = at; cut = record { keeps = []; orders = read_of line ∷ [] } }

abbrev open_line : List ℕ → ℕ → Step
open_line line at = record { at = at; cut = record { keeps = decisive line; orders = [] } }

next_past : (line : List ℕ) (at b : ℕ) (bs : List ℕ) → eqb b 10 ≡ false → next_of (decisive line) at (b ∷ bs) ≡ next_of (decisive (line ++ (b ∷ []))) (at + 1) bs
unfolding next_of line_after
next_past line at b bs e = rw e (ap (λ (k : List ℕ). next_of k (at + 1) bs) (decisive_onward line b))

module _ (rest : List ℕ) where
  next_end : (line : List ℕ) (at : ℕ) → next_of (decisive line) at (10 ∷ rest) ≡ ended line (at + 1)
  unfolding next_of line_after ended_by
  next_end line at = ap (λ (r : Back Order). record { at = at + 1; cut = record { keeps = []; orders = r ∷ [] } }) (read_decisive line)

  next_plain : (line l : List ℕ) (at : ℕ) → plain l ≡ true → next_of (decisive line) at (l ++ (10 ∷ rest)) ≡ ended (line ++ l) (at + length l + 1)
  next_plain line [] at p = next_end line at ∙ rw append-nil (ap (λ (n : ℕ). ended line n) (omega arith))
  next_plain line (b ∷ l) at p =
      let far : at + 1 + length l + 1 ≡ at + length (b ∷ l) + 1 = omega arith in
      next_past line at b (l ++ (10 ∷ rest)) (other b l p) ∙ next_plain (line ++ (b ∷ [])) l (at + 1) (rest_plain b l p)
      ∙ ap (λ (z : List ℕ). ended z (at + 1 + length l + 1)) (append_assoc line (b ∷ []) l) ∙ ap (λ (n : ℕ). ended (line ++ (b ∷ l)) n) far

-- bytes without a line end
next_none : (line l : List ℕ) (at : ℕ) → plain l ≡ true → next_of (decisive line) at l ≡ record { at = at + length l; cut = record { keeps = decisive (line ++ l); orders = [] } }
unfolding next_of
next_none line [] at p = rw append-nil (ap (λ (n : ℕ). open_line line n) (omega arith))
next_none line (b ∷ l) at p =
    let far : at + 1 + length l ≡ at + length (b ∷ l) = omega arith in
    next_past line at b l (other b l p) ∙ next_none (line ++ (b ∷ [])) l (at + 1) (rest_plain b l p)
    ∙ ap (λ (z : List ℕ). open_line z (at + 1 + length l)) (append_assoc line (b ∷ []) l) ∙ ap (λ (n : ℕ). open_line (line ++ (b ∷ l)) n) far

module _ (at : ℕ) (bytes k : List ℕ) (short : decisive k ≡ k) where
  -- the line ends within the bytes
  ends_within : (end : ℕ) (c : Cutter) (f : Result Order NotAFrame) → position ends bytes ≡ Some end → kept c ≡ [] → read_back f ≡ read_of (k ++ take end bytes)
      → next_back (record { cutter = c; at = at + end + 1; ended = Some f }) ≡ next_of k at bytes
  ends_within end c f e none r =
      let first : FirstEnd bytes end = first_end bytes end e in
      let long : length (take end bytes) ≡ end = length-take-le end bytes (omega (arith, first.inside)) in
      let found : next_of k at bytes ≡ ended (k ++ take end bytes) (at + end + 1) =
      ap (λ (z : List ℕ). next_of z at bytes) (sym short) ∙ ap (next_of (decisive k) at) first.there
      ∙ next_plain (drop (end + 1) bytes) k (take end bytes) at first.before ∙ ap (λ (n : ℕ). ended (k ++ take end bytes) (at + n + 1)) long in
      rw (none, r) (sym found)

  -- or goes on behind them
  goes_on : (behind : ℕ) (c : Cutter) → behind ≡ at + length bytes → position ends bytes ≡ None → kept c ≡ decisive (k ++ bytes)
      → next_back (record { cutter = c; at = behind; ended = None }) ≡ next_of k at bytes
  goes_on behind c b e r =
      let found : next_of k at bytes ≡ open_line (k ++ bytes) behind =
      ap (λ (z : List ℕ). next_of z at bytes) (sym short) ∙ next_none k bytes at (no_end bytes e) ∙ ap (open_line (k ++ bytes)) (sym b) in
      rw r (sym found)

-- the same of what is left of a piece
module _ (piece rest : List ℕ) (at : ℕ) (k : List ℕ) (short : decisive k ≡ k) (left : rest ≡ drop at piece) where
  pub line_ends : (end : ℕ) (c : Cutter) (f : Result Order NotAFrame) → position ends rest ≡ Some end → kept c ≡ [] → read_back f ≡ read_of (k ++ take end rest)
      → next_back (record { cutter = c; at = at + end + 1; ended = Some f }) ≡ next_of k at (drop at piece)
  line_ends end c f e none r = ends_within at rest k short end c f e none r ∙ ap (next_of k at) left

  pub line_open : at ≤ length piece → (c : Cutter) → position ends rest ≡ None → kept c ≡ decisive (k ++ rest)
      → next_back (record { cutter = c; at = length piece; ended = None }) ≡ next_of k at (drop at piece)
  line_open h c e r =
      let behind : length piece ≡ at + length rest = omega (arith, ap length left, length-drop at piece) in
      goes_on at rest k short (length piece) c behind e r ∙ ap (next_of k at) left

-- nothing is left of the piece
pub line_over : (piece : List ℕ) (at : ℕ) (c : Cutter) → length piece ≤ at → next_back (record { cutter = c; at = at; ended = None }) ≡ next_of (kept c) at (drop at piece)
unfolding next_of
line_over piece at c h = rw (drop_of_length-le piece h) refl

-- ---- what is kept

pub keep_starts : (k bytes : List ℕ) → decisive k ≡ k → k ≡ decisive (k ++ take 0 bytes)
keep_starts k bytes short = sym (ap decisive (append-nil k) ∙ short)

-- one byte more
pub keep_on : (k bytes now later : List ℕ) (i : ℕ) → i < length bytes → now ≡ decisive (k ++ take i bytes) → later ≡ decisive (now ++ (get_or bytes i 0 ∷ []))
    → later ≡ decisive (k ++ take (i + 1) bytes)
keep_on k bytes now later i h n l =
    let more : take (i + 1) bytes ≡ take i bytes ++ (get_or bytes i 0 ∷ []) = rw add-one (take-suc bytes i 0 h) in
    l ∙ ap (λ (z : List ℕ). decisive (z ++ (get_or bytes i 0 ∷ []))) n ∙ decisive_onward (k ++ take i bytes) (get_or bytes i 0)
    ∙ ap decisive (append_assoc k (take i bytes) (get_or bytes i 0 ∷ []) ∙ ap (λ (z : List ℕ). k ++ z) (sym more))

-- behind the bytes that decide it makes no difference where reading stops
keep_all : (k bytes : List ℕ) (n : ℕ) → n ≡ min (length bytes) 19 → decisive (k ++ take n bytes) ≡ decisive (k ++ bytes)
keep_all k bytes n e =
    elim (dec_lt (length bytes) 19) [
      | yes h ↦ let m : n ≡ length bytes = omega arith in ap (λ (z : List ℕ). decisive (k ++ z)) (take_all n bytes (omega arith))
      | no g ↦
          let m : n ≡ 19 = omega arith in
          let long : length (take n bytes) ≡ 19 = length-take-le n bytes (omega arith) ∙ m in
          sym (ap (λ (z : List ℕ). decisive (k ++ z)) (sym (take-append-drop n bytes)) ∙ ap decisive (sym (append_assoc k (take n bytes) (drop n bytes)))
          ∙ take-append-le 19 (k ++ take n bytes) (drop n bytes) (simp length-append (omega arith)))
    ]

pub keep_ends : (k bytes now : List ℕ) (n i : ℕ) → n ≡ min (length bytes) 19 → length (take n bytes) ≤ i → now ≡ decisive (k ++ take i (take n bytes)) → now ≡ decisive (k ++ bytes)
keep_ends k bytes now n i e h r = r ∙ ap (λ (z : List ℕ). decisive (k ++ z)) (take_all i (take n bytes) h) ∙ keep_all k bytes n e

-- the line that has begun
pub read_begun : (k more l : List ℕ) (r : Back Order) → l ≡ decisive (k ++ more) → r ≡ read_of l → r ≡ read_of (k ++ more)
read_begun k more l r e f = f ∙ ap read_of e ∙ read_decisive (k ++ more)
