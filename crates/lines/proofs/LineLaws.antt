-- The lines of bytes: cut in pieces, put together again, and the only ones.
use mathlib.Core.Path.{◌≡◌, refl, ap, sym, ◌∙◌}
use mathlib.Core.Bool.{Bool, true, false, cond, not, false≢true}
use mathlib.Core.List.{List, [], ◌∷◌, ◌++◌, append_assoc, append-nil}
use Prim.Native.Nat.{ℕ}
use lib.Dec.{eqb}
use borrow.Author.Tests.{eqb-true}
use Rattle.frames.proofs.DigitLaws.{both_left, both_right}
use Rattle.lines.specs.Lines.{line_after, ended_by, ended_within, left_by, last_line, lines_of, plain, all_plain, together}

-- a byte is a line end or not
pub by_end : (P : Bool → Type 0) (b : ℕ) → (eqb b 10 ≡ true → P true) → (eqb b 10 ≡ false → P false) → P (eqb b 10)
by_end P b ends other = go (eqb b 10) refl
  where
    go : (t : Bool) → eqb b 10 ≡ t → P t
    go true e = ends e
    go false e = other e

-- pieces

pub ended_append : (line xs ys : List ℕ) → ended_within line (xs ++ ys) ≡ ended_within line xs ++ ended_within (left_by line xs) ys
unfolding ended_within left_by
ended_append line [] ys = refl
ended_append line (x ∷ xs) ys = rw (ended_append (line_after line x) xs ys) (sym (append_assoc (ended_by line x) (ended_within (line_after line x) xs) _))

pub left_append : (line xs ys : List ℕ) → left_by line (xs ++ ys) ≡ left_by (left_by line xs) ys
unfolding left_by
left_append line [] ys = refl
left_append line (x ∷ xs) ys = left_append (line_after line x) xs ys

-- together again

together_append : (ks ls : List (List ℕ)) → together (ks ++ ls) ≡ together ks ++ together ls
unfolding together
together_append [] ls = refl
together_append (k ∷ ks) ls = rw (together_append ks ls) (sym (append_assoc k (10 ∷ together ks) (together ls)))

together_byte : (line : List ℕ) (b : ℕ) → together (ended_by line b) ++ line_after line b ≡ line ++ (b ∷ [])
unfolding together ended_by line_after
together_byte line b =
    by_end (λ (t : Bool). together (cond t (line ∷ []) []) ++ cond t [] (line ++ (b ∷ [])) ≡ line ++ (b ∷ [])) b
    (λ e. append-nil _ ∙ ap (λ (x : ℕ). line ++ (x ∷ [])) (sym (eqb-true b 10 e)))
    (λ e. refl)

pub ended_together : (line bs : List ℕ) → together (ended_within line bs) ++ left_by line bs ≡ line ++ bs
unfolding ended_within left_by together
ended_together line [] = sym (append-nil line)
ended_together line (b ∷ bs) =
    rw (together_append, append_assoc, ended_together (line_after line b) bs)
    (sym (append_assoc (together (ended_by line b)) (line_after line b) bs) ∙ rw (together_byte line b) (append_assoc line (b ∷ []) bs))

-- no line holds a line end

pub plain_append : (xs ys : List ℕ) → plain xs ≡ true → plain ys ≡ true → plain (xs ++ ys) ≡ true
unfolding plain
plain_append [] ys p q = q
plain_append (x ∷ xs) ys p q =
    rw (both_left (not (eqb x 10)) (plain xs) p, plain_append xs ys (both_right (not (eqb x 10)) (plain xs) p) q) refl

module _ (line : List ℕ) (b : ℕ) (p : plain line ≡ true) where
  after_plain : plain (line_after line b) ≡ true
  unfolding line_after plain
  after_plain = by_end (λ (t : Bool). plain (cond t [] (line ++ (b ∷ []))) ≡ true) b (λ e. refl) (λ e. plain_append line (b ∷ []) p (rw e refl))

  by_plain : (ls : List (List ℕ)) → all_plain ls ≡ true → all_plain (ended_by line b ++ ls) ≡ true
  unfolding ended_by all_plain
  by_plain ls q = by_end (λ (t : Bool). all_plain (cond t (line ∷ []) [] ++ ls) ≡ true) b (λ e. rw (p, q) refl) (λ e. q)

pub ended_plain : (line bs : List ℕ) → plain line ≡ true → all_plain (ended_within line bs) ≡ true
unfolding ended_within all_plain
ended_plain line [] p = refl
ended_plain line (b ∷ bs) p = by_plain line b p (ended_within (line_after line b) bs) (ended_plain (line_after line b) bs (after_plain line b p))

pub left_plain : (line bs : List ℕ) → plain line ≡ true → plain (left_by line bs) ≡ true
unfolding left_by
left_plain line [] p = p
left_plain line (b ∷ bs) p = left_plain (line_after line b) bs (after_plain line b p)

-- the only cut

not_end : (t : Bool) → not t ≡ true → t ≡ false
not_end true e = absurd (false≢true e)
not_end false e = refl

-- a byte of a plain line goes on with its line
module _ (b : ℕ) (l : List ℕ) (p : plain (b ∷ l) ≡ true) where
  pub other : eqb b 10 ≡ false
  unfolding plain
  other = not_end (eqb b 10) (both_left (not (eqb b 10)) (plain l) p)

  pub rest_plain : plain l ≡ true
  unfolding plain
  rest_plain = both_right (not (eqb b 10)) (plain l) p

  goes_on : (line : List ℕ) → line_after line b ≡ line ++ (b ∷ [])
  unfolding line_after
  goes_on line = rw other refl

  ends_none : (line : List ℕ) → ended_by line b ≡ []
  unfolding ended_by
  ends_none line = rw other refl

  ended_on : (line bs : List ℕ) → ended_within line (b ∷ bs) ≡ ended_within (line ++ (b ∷ [])) bs
  unfolding ended_within
  ended_on line bs = rw (ends_none line, goes_on line) refl

  left_on : (line bs : List ℕ) → left_by line (b ∷ bs) ≡ left_by (line ++ (b ∷ [])) bs
  unfolding left_by
  left_on line bs = rw (goes_on line) refl

module _ (rest : List ℕ) where
  ended_line : (line l : List ℕ) → plain l ≡ true → ended_within line (l ++ (10 ∷ rest)) ≡ (line ++ l) ∷ ended_within [] rest
  unfolding ended_within ended_by line_after
  ended_line line [] p = rw append-nil refl
  ended_line line (b ∷ l) p = ended_on b l p line (l ++ (10 ∷ rest)) ∙ ended_line (line ++ (b ∷ [])) l (rest_plain b l p) ∙ rw append_assoc refl

  left_line : (line l : List ℕ) → plain l ≡ true → left_by line (l ++ (10 ∷ rest)) ≡ left_by [] rest
  unfolding left_by line_after
  left_line line [] p = refl
  left_line line (b ∷ l) p = left_on b l p line (l ++ (10 ∷ rest)) ∙ left_line (line ++ (b ∷ [])) l (rest_plain b l p)

ended_none : (line l : List ℕ) → plain l ≡ true → ended_within line l ≡ []
unfolding ended_within
ended_none line [] p = refl
ended_none line (b ∷ l) p = ended_on b l p line l ∙ ended_none (line ++ (b ∷ [])) l (rest_plain b l p)

left_all : (line l : List ℕ) → plain l ≡ true → left_by line l ≡ line ++ l
unfolding left_by
left_all line [] p = sym (append-nil line)
left_all line (b ∷ l) p = left_on b l p line l ∙ left_all (line ++ (b ∷ [])) l (rest_plain b l p) ∙ append_assoc line (b ∷ []) l

only_ended : (ls : List (List ℕ)) (l : List ℕ) → all_plain ls ≡ true → plain l ≡ true → ended_within [] (together ls ++ l) ≡ ls
unfolding together all_plain
only_ended [] l p q = ended_none [] l q
only_ended (k ∷ ls) l p q =
    rw (append_assoc, ended_line (together ls ++ l) [] k (both_left (plain k) (all_plain ls) p), only_ended ls l (both_right (plain k) (all_plain ls) p) q) refl

only_left : (ls : List (List ℕ)) (l : List ℕ) → all_plain ls ≡ true → plain l ≡ true → left_by [] (together ls ++ l) ≡ l
unfolding together all_plain
only_left [] l p q = left_all [] l q
only_left (k ∷ ls) l p q =
    rw append_assoc (left_line (together ls ++ l) [] k (both_left (plain k) (all_plain ls) p) ∙ only_left ls l (both_right (plain k) (all_plain ls) p) q)

-- lines without a line end in them, with their line ends behind them and a last one without, are the lines of those bytes
pub lines_only : (ls : List (List ℕ)) (l : List ℕ) → all_plain ls ≡ true → plain l ≡ true → lines_of (together ls ++ l) ≡ ls ++ last_line l
lines_only ls l p q = rw (only_ended ls l p q, only_left ls l p q) refl
