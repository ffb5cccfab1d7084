-- An order, its code and its body: a new frame costs a case of each law here, and no word on digits.
use mathlib.Core.Path.{◌≡◌, refl, ap, sym, ◌∙◌, subst}
use mathlib.Core.Bool.{Bool, true, false, cond}
use Prim.Native.Nat.{ℕ, ◌<◌, ◌^◌}
use native.Mathlib.Omega.{arith}
use lib.Dec.{eqb}
use borrow.Author.Tests.{eqb-true}
use Rattle.frames.specs.Answers.{Back, done, refused}
use Rattle.frames.specs.Digits.{digits}
use Rattle.frames.specs.Entries.{entry_of, word_of}
use Rattle.frames.specs.Orders.{code_of, width_of, body_of, frame_of, order_of, writable, Fits}
use Rattle.frames.specs.Frames.{Frame, setup, insert, take_alone, look_alone, held_alone, audit_alone}
use Rattle.frames.specs.declared.Order.{Order}
use Rattle.frames.specs.declared.Order.TheVariants.{Setup, Insert, Take, Look, Held, Audit}
use Rattle.frames.proofs.AnswerLaws.{done_same, not_done, by_test}
use Rattle.frames.proofs.EntryLaws.{word_below, entry_word, word_entry, entry_again_writable, entry_fits}

pub code_below : (o : Order) → code_of o < 16 ^ 2
code_below (Setup links) = omega arith
code_below (Insert e) = omega arith
code_below Take = omega arith
code_below Look = omega arith
code_below Held = omega arith
code_below Audit = omega arith

pub body_below : (o : Order) → Fits o → body_of o < 16 ^ width_of (code_of o)
body_below (Setup links) f = f
body_below (Insert e) f = word_below e f
body_below Take f = omega arith
body_below Look f = omega arith
body_below Held f = omega arith
body_below Audit f = omega arith

pub order_again : (o : Order) → Fits o → writable o ≡ true → order_of (code_of o) (body_of o) ≡ done o
unfolding order_of
order_again (Setup links) f w = refl
order_again (Insert e) f w = ap (λ (x : _). done (Insert x)) (entry_word e f w)
order_again Take f w = refl
order_again Look f w = refl
order_again Held f w = refl
order_again Audit f w = refl

-- the order that a code and a body make
pub record Says (c n : ℕ) (o : Order) : Type 0 where
  pub code : code_of o ≡ c
  pub body : body_of o ≡ n
  pub can : writable o ≡ true
  pub fits : Fits o

module _ (c n : ℕ) (o : Order) (h : n < 16 ^ width_of c) where
  says_setup : eqb c 0 ≡ true → done (Setup n) ≡ done o → Says c n o
  says_setup t e =
      let k : c ≡ 0 = eqb-true c 0 t in
      subst (Says c n) (done_same e) record { code = sym k; body = refl; can = refl; fits = rw k at h }

  says_insert : eqb c 1 ≡ true → done (Insert (entry_of n)) ≡ done o → Says c n o
  says_insert t e =
      let k : c ≡ 1 = eqb-true c 1 t in
      subst (Says c n) (done_same e) record { code = sym k; body = word_entry n; can = entry_again_writable n; fits = entry_fits n (rw k at h) }

  says_alone : (p : Order) → body_of p ≡ 0 → width_of (code_of p) ≡ 0 → writable p ≡ true → Fits p → eqb c (code_of p) ≡ true → done p ≡ done o → Says c n o
  says_alone p b w m f t e =
      let k : c ≡ code_of p = eqb-true c (code_of p) t in
      let z : n < 16 ^ 0 = rw (k, w) at h in
      subst (Says c n) (done_same e) record { code = sym k; body = b ∙ omega arith; can = m; fits = f }

  pub order_says : order_of c n ≡ done o → Says c n o
  unfolding order_of
  order_says e =
      by_test (eqb c 0) e says_setup λ _ e.
      by_test (eqb c 1) e says_insert λ _ e.
      by_test (eqb c 2) e (says_alone Take refl refl refl tt) λ _ e.
      by_test (eqb c 3) e (says_alone Look refl refl refl tt) λ _ e.
      by_test (eqb c 4) e (says_alone Held refl refl refl tt) λ _ e.
      by_test (eqb c 5) e (says_alone Audit refl refl refl tt) λ _ e. not_done e

-- what comes back is an order or a refusal
pub data Settled : Back Order → Type 0 where
  order : (o : Order) → Settled (done o)
  none : Settled refused

pub either : (t : Bool) {x y : Back Order} → Settled x → Settled y → Settled (cond t x y)
either true s r = s
either false s r = r

pub order_settled : (c n : ℕ) → Settled (order_of c n)
unfolding order_of
order_settled c n =
    either (eqb c 0) (order (Setup n))
    (either (eqb c 1) (order (Insert (entry_of n)))
    (either (eqb c 2) (order Take)
    (either (eqb c 3) (order Look)
    (either (eqb c 4) (order Held)
    (either (eqb c 5) (order Audit)
    none)))))

-- an order's line is one of the document's frames
pub order_frame : (o : Order) → Fits o → Frame (frame_of o)
unfolding digits
order_frame (Setup links) f = setup links f
order_frame (Insert e) f = insert (word_of e) (word_below e f)
order_frame Take f = take_alone
order_frame Look f = look_alone
order_frame Held f = held_alone
order_frame Audit f = audit_alone
