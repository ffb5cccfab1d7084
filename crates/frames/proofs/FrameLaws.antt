-- What a line is read as, case by case.
use mathlib.Core.Path.{◌≡◌, refl, ap, sym, ◌∙◌}
use mathlib.Core.Bool.{true, false, cond, ◌&&◌, and-false}
use mathlib.Core.List.{List, ◌++◌}
use Prim.Native.Nat.{ℕ, ◌+◌, ◌-◌, ◌<◌, ◌≤◌, ◌^◌}
use native.Mathlib.Omega.{arith}
use lib.Dec.{eqb, ltb}
use lib.ListN.{length, take, drop, length-append, length-drop, take-append-drop}
use lib.Seq.{take_all, take_at, drop_at, length-take-le}
use borrow.Author.Tests.{lt-ltb, eq-eqb, ne_eqb, eqb-true}
use Rattle.frames.specs.Answers.{Back, done, refused}
use Rattle.frames.specs.Digits.{capital, number, digits, Field}
use Rattle.frames.specs.Orders.{width_of, order_of, Body}
use Rattle.frames.specs.Frames.{whole, read_of}
use Rattle.frames.specs.declared.Order.{Order}
use Rattle.frames.proofs.DigitLaws.{both_left, both_right, capital_append, length_digits, capital_digits, number_digits, digits_number, number_below}
use Rattle.frames.proofs.AnswerLaws.{by_test, not_done}
use Rattle.frames.proofs.OrderLaws.{Settled, none, either, order_settled}

-- both parts of a line of digits are digits
split : (k : ℕ) (l : List ℕ) → capital l ≡ true → (capital (take k l) && capital (drop k l)) ≡ true
split k l h = sym (capital_append (take k l) (drop k l)) ∙ rw take-append-drop h

capital_take : (k : ℕ) (l : List ℕ) → capital l ≡ true → capital (take k l) ≡ true
capital_take k l h = both_left (capital (take k l)) (capital (drop k l)) (split k l h)

capital_drop : (k : ℕ) (l : List ℕ) → capital l ≡ true → capital (drop k l) ≡ true
capital_drop k l h = both_right (capital (take k l)) (capital (drop k l)) (split k l h)

-- the part from k on
pub to_the_end : (k : ℕ) (l : List ℕ) → take (length l - k) (drop k l) ≡ drop k l
to_the_end k l = take_all (length l - k) (drop k l) (simp length-drop (omega arith))

pub code_field : (l : List ℕ) → capital l ≡ true → 2 ≤ length l → Field (take 2 l)
code_field l h n = record { hex = capital_take 2 l h; short = omega (arith, length-take-le 2 l n) }

pub body_of : (c : ℕ) (l : List ℕ) → capital l ≡ true → length l ≡ 2 + width_of c → Body c (take (length l - 2) (drop 2 l))
body_of c l h n = rw to_the_end record { hex = capital_drop 2 l h; long = simp length-drop (omega arith) }

-- a body has room for the number that it writes
pub body_has_room : (c n : ℕ) (ds : List ℕ) → Body c ds → n ≡ number ds → cond (ltb n (16 ^ width_of c)) (order_of c n) refused ≡ order_of c (number ds)
body_has_room c n ds b e = rw (e, lt-ltb (number ds) (16 ^ width_of c) (rw b.long at (number_below ds b.hex))) refl

module _ (l : List ℕ) where
  pub read_rough : capital l ≡ false → refused ≡ read_of l
  unfolding read_of
  read_rough e = rw e refl

  pub read_other : (length l ≡ 2 + width_of (number (take 2 l)) → ⊥) → refused ≡ read_of l
  unfolding read_of
  read_other h = rw (ne_eqb (length l) (2 + width_of (number (take 2 l))) h, and-false) refl

  read_body : (c : ℕ) → capital l ≡ true → c ≡ number (take 2 l) → length l ≡ 2 + width_of c → order_of c (number (drop 2 l)) ≡ read_of l
  unfolding read_of
  read_body c h e n = rw (← e, h, eq-eqb (length l) (2 + width_of c) n) refl

  pub read_whole : (c : ℕ) (r : Back Order) → capital l ≡ true → c ≡ number (take 2 l) → length l ≡ 2 + width_of c
      → r ≡ order_of c (number (take (length l - 2) (drop 2 l))) → r ≡ read_of l
  read_whole c r h e n f = f ∙ rw to_the_end (read_body c h e n)

-- written digits are read as their code and body
pub digits_read : (c n : ℕ) → c < 16 ^ 2 → n < 16 ^ width_of c → read_of (digits 2 c ++ digits (width_of c) n) ≡ order_of c n
digits_read c n h m =
    let l = digits 2 c ++ digits (width_of c) n in
    let hex : capital l ≡ true = simp (capital_append, capital_digits 2 c, capital_digits (width_of c) n) in
    let front : take 2 l ≡ digits 2 c = take_at (digits 2 c) (digits (width_of c) n) 2 (length_digits 2 c) in
    let back : drop 2 l ≡ digits (width_of c) n = drop_at (digits 2 c) (digits (width_of c) n) 2 (length_digits 2 c) in
    let code : c ≡ number (take 2 l) = sym (rw front (number_digits 2 c h)) in
    let body : number (drop 2 l) ≡ n = rw back (number_digits (width_of c) n m) in
    let long : length l ≡ 2 + width_of c = simp (length-append, length_digits 2 c, length_digits (width_of c) n) in
    sym (read_body l c hex code long) ∙ ap (order_of c) body

-- a line that is read as an order is the digits of a code and a body, which make the order
pub record Parts (l : List ℕ) (o : Order) : Type 0 where
  pub code : ℕ
  pub body : ℕ
  pub below : body < 16 ^ width_of code
  pub line : digits 2 code ++ digits (width_of code) body ≡ l
  pub order : order_of code body ≡ done o

whole_parts : (l : List ℕ) (o : Order) → whole l ≡ true → order_of (number (take 2 l)) (number (drop 2 l)) ≡ done o → Parts l o
unfolding whole
whole_parts l o t e =
    let c = number (take 2 l) in
    let n = number (drop 2 l) in
    let hex : capital l ≡ true = both_left (capital l) (eqb (length l) (2 + width_of c)) t in
    let long : length l ≡ 2 + width_of c = eqb-true (length l) (2 + width_of c) (both_right (capital l) (eqb (length l) (2 + width_of c)) t) in
    let front : length (take 2 l) ≡ 2 = length-take-le 2 l (omega arith) in
    let back : length (drop 2 l) ≡ width_of c = simp length-drop (omega arith) in
    let first : digits 2 c ≡ take 2 l = rw front at (digits_number (take 2 l) (capital_take 2 l hex)) in
    let last : digits (width_of c) n ≡ drop 2 l = rw back at (digits_number (drop 2 l) (capital_drop 2 l hex)) in
    record { code = c; body = n; below = rw back at (number_below (drop 2 l) (capital_drop 2 l hex)); line = rw (first, last) (take-append-drop 2 l); order = e }

pub read_parts : (l : List ℕ) (o : Order) → read_of l ≡ done o → Parts l o
unfolding read_of
read_parts l o e = by_test (whole l) e (whole_parts l o) (λ _ e. not_done e)

pub read_settled : (l : List ℕ) → Settled (read_of l)
unfolding read_of
read_settled l = either (whole l) (order_settled (number (take 2 l)) (number (drop 2 l))) none
