-- Orders by code and body, read and written.
use mathlib.Core.Path.{◌≡◌, refl, ap, ◌∙◌}
use mathlib.Core.Bool.{Bool, true, false, cond}
use mathlib.Core.List.{List}
use Prim.Native.Nat.{ℕ, ◌^◌}
use lib.Dec.{ltb}
use lib.ListN.{length}
use borrow.Author.Tests.{lt-ltb, ltb-true}
use Rattle.frames.specs.Answers.{Back, done, refused, written_back}
use Rattle.frames.specs.Orders.{code_of, width_of, body_of}
use Rattle.frames.specs.Frames.{read_of}
use Rattle.frames.specs.Lines.{lays, Laid}
use Rattle.frames.specs.declared.Order.{Order}
use Rattle.frames.specs.declared.NotAFrame.{NotAFrame}
use Rattle.std.specs.Prelude.{Result, Ok, Err}
use Rattle.frames.proofs.AnswerLaws.{not_done, by_test}
use Rattle.frames.proofs.OrderLaws.{body_below, order_again, Says, order_says}
use Rattle.frames.proofs.RoundTrip.{read_fits, read_writable}
use Rattle.gorgalhut.specs.Framed.{asked, bytes_in, Lined}

-- an order that is asked for can be written, and its frame is read as that code and number
pub asked_says : (code n : ℕ) (o : Order) → asked code n ≡ done o → Says code n o
unfolding asked
asked_says code n o e =
    by_test (ltb n (16 ^ width_of code)) e
    (λ t f. order_says code n o (ltb-true n (16 ^ width_of code) t) f)
    (λ _ f. not_done f)

-- what a line is read as can be asked for again
pub read_asked : (l : List ℕ) (o : Order) → read_of l ≡ done o → asked (code_of o) (body_of o) ≡ done o
unfolding asked
read_asked l o e =
    rw (lt-ltb (body_of o) (16 ^ width_of (code_of o)) (body_below o (read_fits l o e)))
    (order_again o (read_fits l o e) (read_writable l o e))

-- ---- writing

-- what a line that was laid, or was not, comes back as
pub lined : (may : Bool) (line out out' : List ℕ) (r : Result ℕ NotAFrame) (number written : ℕ) → Laid may line out out' r
    → number ≡ (written_back r).number → written ≡ bytes_in (written_back r).values → Lined may line out out' number written
lined may line out out' r number written laid p q =
    record {
      number_is = p ∙ ap (λ (b : Back ℕ). b.number) laid.answer ∙ by (lays may line out) (λ (b : Back ℕ). b.number);
      written_is = q ∙ ap (λ (b : Back ℕ). bytes_in b.values) laid.answer ∙ by (lays may line out) (λ (b : Back ℕ). bytes_in b.values);
      after = laid.after;
    }
  where
    by : (t : Bool) (f : Back ℕ → ℕ) → f (cond t (done (length line)) refused) ≡ cond t (f (done (length line))) (f refused)
    by true f = refl
    by false f = refl

module _ (may : Bool) (line out out' : List ℕ) (r : Result ℕ NotAFrame) (laid : Laid may line out out' r) where
  pub lined_bytes : (n : ℕ) → r ≡ Ok n → Lined may line out out' 0 n
  lined_bytes n e = lined may line out out' r 0 n laid (rw e refl) (rw e refl)

  pub lined_refused : {e : NotAFrame} → r ≡ Err e → Lined may line out out' 10 0
  lined_refused e = lined may line out out' r 10 0 laid (rw e refl) (rw e refl)
