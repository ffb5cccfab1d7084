-- Frames by the library, from the contracts of its exported reader and writer.
use Prim.Native.Nat.{ℕ, ◌≤◌, ◌^◌}
use native.Mathlib.Omega.{arith}
use mathlib.Core.Path.{◌≡◌, refl, ap, ◌∙◌}
use mathlib.Core.Bool.{Bool, true, false}
use mathlib.Core.List.{List, ◌++◌}
use lib.Dec.{ltb}
use lib.ListN.{length, take, drop}
use borrow.Author.Tests.{le-leb}
use Rattle.frames.specs.Answers.{Back, done}
use Rattle.frames.specs.Orders.{code_of, width_of, body_of, frame_of, writable}
use Rattle.frames.specs.Frames.{read_of}
use Rattle.frames.specs.Lines.{lays, Laid}
use Rattle.frames.specs.declared.Order.{Order}
use Rattle.std.specs.Prelude.{Ok}
use Rattle.frames.proofs.OrderLaws.{Says, Settled, order, none, either, order_settled}
use Rattle.frames.proofs.FrameLaws.{read_settled}
use Rattle.frames.proofs.RoundTrip.{write_after_read, read_writable, written_is_read}
use Rattle.gorgalhut.specs.Framed.{asked, Lined, FrameRead, FrameWritten}
use Rattle.gorgalhut.proofs.FramedLaws.{asked_says, read_asked}

-- a code and a number make an order or none
asked_settled : (kind value : ℕ) → Settled (asked kind value)
unfolding asked
asked_settled kind value = either (ltb value (16 ^ width_of kind)) (order_settled kind value) none

-- the number 0 says that the line was laid
zero_laid : (may : Bool) (line out out' : List ℕ) (n : ℕ) → Lined may line out out' 0 n → Laid may line out out' (Ok n)
zero_laid may line out out' n wrote = go (lays may line out) refl
  where
    go : (t : Bool) → lays may line out ≡ t → Laid may line out out' (Ok n)
    go true e = record { answer = rw e (ap done (wrote.written_is ∙ rw e refl)); after = wrote.after }
    go false e = let z : ◌≡◌ {A = ℕ} 0 10 = wrote.number_is ∙ rw e refl in absurd (omega arith)

-- what was written is read again: the same code and the same number in its body
pub library_read_back : (kind value : ℕ) (out out' : List ℕ) (n number kind' value' : ℕ) → FrameWritten kind value out out' 0 n → FrameRead (take n out') number kind' value'
    → (number ≡ 0) × (kind' ≡ kind) × (value' ≡ value)
library_read_back kind value out out' n number kind' value' wrote reads = go (asked kind value) (asked_settled kind value) refl
  where
    go : (b : Back Order) → Settled b → asked kind value ≡ b → (number ≡ 0) × (kind' ≡ kind) × (value' ≡ value)
    go b (order o) e =
        let says : Says kind value o = asked_says kind value o e in
        let laid : Laid (writable o) (frame_of o) out out' (Ok n) = zero_laid (writable o) (frame_of o) out out' n (rw e at wrote) in
        let read : read_of (take n out') ≡ done o = written_is_read o out out' n says.fits laid in
        (reads.number_is ∙ rw read refl, reads.kind_is ∙ rw read says.code, reads.value_is ∙ rw read says.body)
    go b none e = let z : ◌≡◌ {A = ℕ} 0 10 = wrote.number_is ∙ rw e refl in absurd (omega arith)

-- what was read is written again: the same bytes, and none behind them has changed
pub library_write_back : (line out out' : List ℕ) (kind value number n : ℕ) → FrameRead line 0 kind value → length line ≤ length out → FrameWritten kind value out out' number n
    → (number ≡ 0) × (n ≡ length line) × (out' ≡ line ++ drop (length line) out)
library_write_back line out out' kind value number n reads room wrote = go (read_of line) (read_settled line) refl
  where
    go : (b : Back Order) → Settled b → read_of line ≡ b → (number ≡ 0) × (n ≡ length line) × (out' ≡ line ++ drop (length line) out)
    go b (order o) e =
        let code : kind ≡ code_of o = reads.kind_is ∙ rw e refl in
        let body : value ≡ body_of o = reads.value_is ∙ rw e refl in
        let again : asked kind value ≡ done o = rw (code, body) (read_asked line o e) in
        let same : frame_of o ≡ line = write_after_read line o e in
        let laid : Lined (writable o) (frame_of o) out out' number n = rw again at wrote in
        let lays_it : lays (writable o) (frame_of o) out ≡ true = rw (read_writable line o e, same) (le-leb (length line) (length out) (omega arith)) in
        (laid.number_is ∙ rw lays_it refl, laid.written_is ∙ rw (lays_it, same) refl, laid.after ∙ rw (lays_it, same) refl)
    go b none e = let z : ◌≡◌ {A = ℕ} 0 10 = reads.number_is ∙ rw e refl in absurd (omega arith)
