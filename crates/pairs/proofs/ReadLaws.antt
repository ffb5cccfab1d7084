-- What a line is read as, case by case.
use mathlib.Core.Path.{◌≡◌, refl, ap, sym, ◌∙◌}
use mathlib.Core.Bool.{Bool, true, false, cond, ◌&&◌, and-false}
use mathlib.Core.List.{List}
use Prim.Native.Nat.{ℕ, ◌+◌, ◌<◌, ◌≤◌, ◌^◌}
use native.Mathlib.Decide.{dec_lt}
use native.Mathlib.Omega.{arith}
use lib.Dec.{eqb}
use lib.ListN.{length, take, drop, length-drop, take-append-drop}
use lib.Seq.{take_all, length-take-le}
use borrow.Author.Tests.{eq-eqb, ne_eqb}
use Rattle.frames.specs.Answers.{Back, done, refused}
use Rattle.frames.specs.Digits.{capital, number, Field}
use Rattle.frames.proofs.DigitLaws.{both_left, both_right, capital_append, number_below}
use Rattle.lines.specs.Cutter.{decisive}
use Rattle.lateness.specs.Pairs.{Pair}
use Rattle.pairs.specs.Reads.{written, pair_of}

-- a part of a line of digits

parts : (k : ℕ) (l : List ℕ) → capital l ≡ true → (capital (take k l) && capital (drop k l)) ≡ true
parts k l h = sym (capital_append (take k l) (drop k l)) ∙ rw take-append-drop h

capital_part : (at n : ℕ) (l : List ℕ) → capital l ≡ true → capital (take n (drop at l)) ≡ true
capital_part at n l h =
    both_left (capital (take n (drop at l))) (capital (drop n (drop at l)))
    (parts n (drop at l) (both_right (capital (take at l)) (capital (drop at l)) (parts at l h)))

part_long : (at n : ℕ) (l : List ℕ) → at + n ≤ length l → length (take n (drop at l)) ≡ n
part_long at n l h = length-take-le n (drop at l) (omega (arith, length-drop at l))

pub part_field : (at n : ℕ) (l : List ℕ) → capital l ≡ true → at + n ≤ length l → n ≤ 16 → Field (take n (drop at l))
part_field at n l h i m = record { hex = capital_part at n l h; short = omega (arith, part_long at n l i) }

pub part_below : (at n : ℕ) (l : List ℕ) → capital l ≡ true → at + n ≤ length l → number (take n (drop at l)) < 16 ^ n
part_below at n l h i = rw (part_long at n l i) at (number_below (take n (drop at l)) (capital_part at n l h))

-- a line

module _ (l : List ℕ) where
  pub pair_rough : capital l ≡ false → refused ≡ pair_of l
  unfolding pair_of
  pair_rough e = rw e refl

  pub pair_other : (length l ≡ 18 → ⊥) → refused ≡ pair_of l
  unfolding pair_of
  pair_other h = rw (ne_eqb (length l) 18 h, and-false) refl

  pub pair_read : {d a b : ℕ} → capital l ≡ true → length l ≡ 18 → d ≡ number (take 8 l) → a ≡ number (take 8 (drop 8 l)) → b ≡ number (take 2 (drop 16 l))
      → done (record { due = d; acting = a; door = b }) ≡ pair_of l
  unfolding pair_of
  pair_read h n e f g = rw (e, f, g, h, eq-eqb (length l) 18 n) refl

-- every line is a pair or refused
pub by_pair : (P : Back Pair → Type 0) (l : List ℕ) → ((p : Pair) → P (done p)) → P refused → P (pair_of l)
unfolding pair_of
by_pair P l pair none = go (capital l && eqb (length l) 18)
  where
    go : (t : Bool) → P (cond t (done (written l)) refused)
    go true = pair (written l)
    go false = none

-- the bytes that are kept of a line decide
pub pair_decisive : (l : List ℕ) → pair_of (decisive l) ≡ pair_of l
pair_decisive l =
    elim (dec_lt (length l) 19) [
      | yes h ↦ ap pair_of (take_all 19 l (omega arith))
      | no g ↦ sym (pair_other (take 19 l) (λ e. omega (arith, length-take-le 19 l (omega arith)))) ∙ pair_other l (λ e. omega arith)
    ]
