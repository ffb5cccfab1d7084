-- What `next_line` has fed and what is left of its piece: for a loop over one piece.
use mathlib.Core.Path.{◌≡◌, refl, ap, sym, ◌∙◌, subst}
use mathlib.Core.Bool.{Bool, true, false, cond}
use mathlib.Core.List.{List, [], ◌∷◌, ◌++◌}
use Prim.Native.Nat.{ℕ, ◌+◌, ◌-◌, ◌<◌, ◌≤◌}
use native.Mathlib.Omega.{arith}
use lib.Dec.{eqb}
use lib.ListN.{length, drop, length-drop}
use lib.Seq.{drop-drop}
use Rattle.frames.specs.Frames.{read_of}
use Rattle.lines.specs.Lines.{ended_by}
use Rattle.lines.specs.Cutter.{feed_of, kept_after, orders_from, Step, next_of}
use Rattle.lines.specs.Answers.{next_back}
use Rattle.lines.specs.declared.Next.{Next}
use Rattle.lines.proofs.LineLaws.{by_end}

-- from a place of a piece, where bs are left, to the next
pub record GoesOn (piece k : List ℕ) (at : ℕ) (bs : List ℕ) (s : Step) : Type 0 where
  pub orders : orders_from k bs ≡ s.cut.orders ++ orders_from s.cut.keeps (drop s.at piece)
  pub keeps : kept_after k bs ≡ kept_after s.cut.keeps (drop s.at piece)
  pub behind : at ≤ s.at
  pub further : at < length piece → at < s.at
  pub inside : at ≤ length piece → s.at ≤ length piece
  pub whole : s.cut.orders ≡ [] → length piece ≤ s.at

module _ (piece : List ℕ) where
  rest_long : (at : ℕ) (bs : List ℕ) → drop at piece ≡ bs → length piece - at ≡ length bs
  rest_long at bs e = sym (length-drop at piece) ∙ ap length e

  module _ (k : List ℕ) (at b : ℕ) (bs : List ℕ) (e : drop at piece ≡ b ∷ bs) where
    rest_next : drop (at + 1) piece ≡ bs
    rest_next = sym (drop-drop 1 at piece) ∙ ap (drop 1) e

    goes_to_end : eqb b 10 ≡ true → GoesOn piece k at (b ∷ bs) (record { at = at + 1; cut = feed_of k b })
    unfolding orders_from kept_after ended_by
    goes_to_end t = record {
      orders = rw rest_next refl;
      keeps = rw rest_next refl;
      behind = omega arith;
      further = λ h. omega arith;
      inside = λ h. omega (arith, rest_long at (b ∷ bs) e);
      whole = λ q. let r : read_of k ∷ [] ≡ [] = rw t at q in let z : ◌≡◌ {A = ℕ} 0 1 = cc in absurd (omega arith);
    }

    goes_past : eqb b 10 ≡ false → (s : Step) → GoesOn piece (feed_of k b).keeps (at + 1) bs s → GoesOn piece k at (b ∷ bs) s
    unfolding orders_from kept_after ended_by
    goes_past t s r = record {
      orders = rw t r.orders;
      keeps = r.keeps;
      behind = omega (arith, r.behind);
      further = λ h. omega (arith, r.behind);
      inside = λ h. r.inside (omega (arith, rest_long at (b ∷ bs) e));
      whole = r.whole;
    }

  pub goes_on : (k : List ℕ) (at : ℕ) (bs : List ℕ) → drop at piece ≡ bs → GoesOn piece k at bs (next_of k at bs)
  unfolding next_of orders_from kept_after
  goes_on k at [] e = record {
    orders = rw e refl;
    keeps = rw e refl;
    behind = omega arith;
    further = λ h. absurd (omega (arith, rest_long at [] e));
    inside = λ h. h;
    whole = λ _. omega (arith, rest_long at [] e);
  }
  goes_on k at (b ∷ bs) e =
      let next = next_of (feed_of k b).keeps (at + 1) bs in
      by_end (λ (t : Bool). GoesOn piece k at (b ∷ bs) (cond t (record { at = at + 1; cut = feed_of k b }) next)) b
      (goes_to_end k at b bs e) (λ t. goes_past k at b bs e t next (goes_on (feed_of k b).keeps (at + 1) bs (rest_next k at b bs e)))

  -- the same of an answer that meets the contract
  pub next_goes_on : (k : List ℕ) (at : ℕ) (r : Next) → next_back r ≡ next_of k at (drop at piece) → GoesOn piece k at (drop at piece) (next_back r)
  next_goes_on k at r e = subst (GoesOn piece k at (drop at piece)) (sym e) (goes_on k at (drop at piece) refl)
