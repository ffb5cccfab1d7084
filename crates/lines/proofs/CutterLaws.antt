-- What a cutter keeps decides what its line is read as.
use mathlib.Core.Path.{◌≡◌, refl, ap, sym, ◌∙◌}
use mathlib.Core.Bool.{Bool, true, false, cond}
use mathlib.Core.List.{List, [], ◌∷◌, ◌++◌}
use Prim.Native.Nat.{ℕ, ◌<◌, ◌≤◌}
use native.Mathlib.Decide.{dec_lt}
use native.Mathlib.Omega.{arith}
use lib.Dec.{eqb}
use lib.ListN.{length, take, length-take}
use lib.Seq.{take_all, take-append-le, take-take, length-take-le}
use Rattle.std.proofs.lemmas.List.{nil_from_length}
use borrow.Author.Tests.{eq-eqb, ne_eqb}
use Rattle.frames.specs.Answers.{Back, refused, read_back}
use Rattle.frames.specs.Digits.{number}
use Rattle.frames.specs.Orders.{width_of}
use Rattle.frames.specs.Frames.{read_of}
use Rattle.frames.specs.declared.Order.{Order}
use Rattle.frames.specs.declared.NotAFrame.{NotAFrame}
use Rattle.frames.proofs.FrameLaws.{read_other}
use Rattle.lines.specs.Lines.{line_after, ended_by, last_line}
use Rattle.lines.specs.Cutter.{decisive, kept, feed_of, last_of}
use Rattle.lines.specs.Answers.{fed_back}
use Rattle.lines.specs.declared.Cutter.{Cutter}
use Rattle.std.specs.Prelude.{Some, None, Result}

width_short : (c : ℕ) → width_of c ≤ 16
width_short c = go (eqb c 0) (eqb c 1)
  where
    go : (x y : Bool) → cond x 2 (cond y 16 0) ≤ 16
    go true y = omega arith
    go false true = omega arith
    go false false = omega arith

-- a line that is longer than the longest frame is no frame
pub long_refused : (l : List ℕ) → 18 < length l → refused ≡ read_of l
long_refused l h = read_other l (λ e. omega (arith, width_short (number (take 2 l))))

pub read_decisive : (l : List ℕ) → read_of (decisive l) ≡ read_of l
read_decisive l =
    elim (dec_lt (length l) 19) [
      | yes h ↦ ap read_of (take_all 19 l (omega arith))
      | no g ↦ sym (long_refused (take 19 l) (omega (arith, length-take-le 19 l (omega arith)))) ∙ long_refused l (omega arith)
    ]

pub decisive_onward : (l : List ℕ) (b : ℕ) → decisive (decisive l ++ (b ∷ [])) ≡ decisive (l ++ (b ∷ []))
decisive_onward l b =
    elim (dec_lt (length l) 19) [
      | yes h ↦ ap (λ (k : List ℕ). decisive (k ++ (b ∷ []))) (take_all 19 l (omega arith))
      | no g ↦
          take-append-le 19 (take 19 l) (b ∷ []) (omega (arith, length-take-le 19 l (omega arith)))
          ∙ take-take 19 19 l (omega arith) ∙ sym (take-append-le 19 l (b ∷ []) (omega arith))
    ]

-- the code's cutters: their bytes are as many as the array has

module _ (c : Cutter) (long : length c.bytes ≡ 19) where
  pub kept_decisive : decisive (kept c) ≡ kept c
  kept_decisive = take_all 19 (kept c) (simp length-take (omega arith))

  pub kept_all : 19 ≤ c.len → kept c ≡ c.bytes
  kept_all h = take_all c.len c.bytes (omega arith)

  pub kept_full : (b : ℕ) → 19 ≤ c.len → kept c ≡ decisive (kept c ++ (b ∷ []))
  kept_full b h =
      let e : kept c ≡ c.bytes = kept_all h in
      rw e (sym (take-append-le 19 c.bytes (b ∷ []) (omega arith) ∙ take_all 19 c.bytes (omega arith)))

-- one byte

module _ (k : List ℕ) (b : ℕ) where
  pub feed_end : b ≡ 10 → record { keeps = []; orders = read_of k ∷ [] } ≡ feed_of k b
  unfolding line_after ended_by
  feed_end e = rw (eq-eqb b 10 e) refl

  pub feed_onward : (b ≡ 10 → ⊥) → record { keeps = decisive (k ++ (b ∷ [])); orders = [] } ≡ feed_of k b
  unfolding line_after ended_by
  feed_onward h = rw (ne_eqb b 10 h) refl

module _ (k : List ℕ) (b : ℕ) (c : Cutter) where
  pub fed_end : (f : Result Order NotAFrame) → b ≡ 10 → kept c ≡ [] → read_back f ≡ read_of k → fed_back (record { cutter = c; ended = Some f }) ≡ feed_of k b
  fed_end f h e r = rw (e, r) (feed_end k b h)

  pub fed_onward : (b ≡ 10 → ⊥) → kept c ≡ decisive (k ++ (b ∷ [])) → fed_back (record { cutter = c; ended = None }) ≡ feed_of k b
  fed_onward h e = rw e (feed_onward k b h)

-- the last line

some : (l : List ℕ) → 0 < length l → read_of l ∷ [] ≡ last_of l
unfolding last_line
some [] h = absurd (omega arith)
some (b ∷ l) h = refl

module _ {k line : List ℕ} (same : line ≡ k) where
  pub last_none : length line ≡ 0 → [] ≡ last_of k
  unfolding last_line
  last_none h = ap last_of (sym (nil_from_length line h) ∙ same)

  pub last_some : {r : Back Order} → 0 < length line → r ≡ read_of line → r ∷ [] ≡ last_of k
  last_some h e = ap (λ (r : Back Order). r ∷ []) e ∙ some line h ∙ ap last_of same
