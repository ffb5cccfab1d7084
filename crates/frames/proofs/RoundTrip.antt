-- What reader and writer are to each other: theorems about the definitions that the contracts are equalities with.
use mathlib.Core.Path.{◌≡◌, refl, ap, sym, ◌∙◌, subst}
use mathlib.Core.Bool.{Bool, true}
use mathlib.Core.List.{List, ◌++◌}
use Prim.Native.Nat.{ℕ, ◌≤◌}
use lib.ListN.{length, take, drop}
use lib.Seq.{take_at, drop_at}
use borrow.Author.Tests.{le-leb}
use Rattle.frames.specs.Answers.{done, refused, read_back, written_back}
use Rattle.frames.specs.Digits.{number, digits}
use Rattle.frames.specs.Entries.{entry_of, word_of}
use Rattle.frames.specs.Orders.{code_of, body_of, frame_of, writable, Fits}
use Rattle.frames.specs.Frames.{read_of, Frame, setup, insert, take_alone, look_alone, held_alone, audit_alone}
use Rattle.frames.specs.Lines.{lays, Laid}
use Rattle.frames.specs.declared.Entry.{Entry}
use Rattle.frames.specs.declared.Order.{Order}
use Rattle.frames.specs.declared.Order.TheVariants.{Setup, Insert, Take, Look, Held, Audit}
use Rattle.frames.specs.declared.NotAFrame.{NotAFrame}
use Rattle.std.specs.Prelude.{Result, Ok}
use Rattle.frames.proofs.AnswerLaws.{back_same}
use Rattle.frames.proofs.DigitLaws.{length_digits, number_digits}
use Rattle.frames.proofs.Laying.{Came, laid_came}
use Rattle.frames.proofs.EntryLaws.{word_below, word_entry, entry_again_writable, entry_fits}
use Rattle.frames.proofs.OrderLaws.{code_below, body_below, order_again, order_says, Says, order_frame, Settled, order, none}
use Rattle.frames.proofs.FrameLaws.{digits_read, read_parts, Parts, read_settled}

-- reading after writing gives the same order
pub read_after_write : (o : Order) → Fits o → writable o ≡ true → read_of (frame_of o) ≡ done o
read_after_write o f w = digits_read (code_of o) (body_of o) (code_below o) (body_below o f) ∙ order_again o f w

module _ (l : List ℕ) (o : Order) (e : read_of l ≡ done o) where
  parts : Parts l o
  parts = read_parts l o e

  says : Says parts.code parts.body o
  says = order_says parts.code parts.body o parts.below parts.order

  -- writing after reading gives the same digits
  pub write_after_read : frame_of o ≡ l
  write_after_read = rw (says.code, says.body) parts.line

  -- an order that was read can be written, and fits its enum
  pub read_writable : writable o ≡ true
  read_writable = says.can

  pub read_fits : Fits o
  read_fits = says.fits

  -- the reader accepts the document's frames alone ..
  pub read_is_frame : Frame l
  read_is_frame = subst Frame write_after_read (order_frame o read_fits)

-- an insert's word is the number of the eight bytes after 01
pub read_word : (l : List ℕ) (e : Entry) → read_of l ≡ done (Insert e) → word_of e ≡ number (drop 2 l)
read_word l e r =
    let body : drop 2 l ≡ digits 16 (word_of e) = ap (drop 2) (sym (write_after_read l (Insert e) r)) ∙ drop_at (digits 2 1) (digits 16 (word_of e)) 2 (length_digits 2 1) in
    sym (rw body (number_digits 16 (word_of e) (word_below e (read_fits l (Insert e) r))))

alone : (c : ℕ) → digits 2 c ++ digits 0 0 ≡ digits 2 c
unfolding digits
alone c = refl

-- .. and every one of them
pub frame_is_read : {l : List ℕ} → Frame l → (o : Order) × (read_of l ≡ done o)
frame_is_read (setup links h) = (Setup links, read_after_write (Setup links) h refl)
frame_is_read (insert w h) = (Insert (entry_of w), rw word_entry at (read_after_write (Insert (entry_of w)) (entry_fits w h) (entry_again_writable w)))
frame_is_read take_alone = (Take, rw alone at (read_after_write Take tt refl))
frame_is_read look_alone = (Look, rw alone at (read_after_write Look tt refl))
frame_is_read held_alone = (Held, rw alone at (read_after_write Held tt refl))
frame_is_read audit_alone = (Audit, rw alone at (read_after_write Audit tt refl))

-- "everything else, the empty line too, is 10"
pub other_is_refused : (l : List ℕ) → (Frame l → ⊥) → read_of l ≡ refused
other_is_refused l h = go (read_of l) (read_settled l) refl
  where
    go : (b : _) → Settled b → read_of l ≡ b → b ≡ refused
    go b (order o) e = absurd (h (read_is_frame l o e))
    go b none e = refl

-- what the writer leaves is read as the order that it wrote
pub written_is_read : (o : Order) (out out' : List ℕ) (n : ℕ) → Fits o → Laid (writable o) (frame_of o) out out' (Ok n) → read_of (take n out') ≡ done o
written_is_read o out out' n f laid =
    let came : Came (writable o) (frame_of o) out out' n = laid_came (writable o) (frame_of o) out out' (Ok n) n laid refl in
    let line : take n out' ≡ frame_of o = rw came.after (take_at (frame_of o) (drop (length (frame_of o)) out) n came.count) in
    rw line (read_after_write o f came.could)

-- what the reader took for an order is written again, where there is room for it
pub read_is_written : (l : List ℕ) (o : Order) (out out' : List ℕ) (r : Result ℕ NotAFrame) → read_of l ≡ done o → length l ≤ length out → Laid (writable o) (frame_of o) out out' r
    → (written_back r ≡ done (length l)) × (out' ≡ l ++ drop (length l) out)
read_is_written l o out out' r e h laid =
    let same : frame_of o ≡ l = write_after_read l o e in
    let t : lays (writable o) (frame_of o) out ≡ true = rw (read_writable l o e, same) (le-leb (length l) (length out) h) in
    (laid.answer ∙ rw (t, same) refl, laid.after ∙ rw (t, same) refl)

-- two outcomes that meet one contract agree
pub read_agrees : (l : List ℕ) (r s : Result Order NotAFrame) → read_back r ≡ read_of l → read_back s ≡ read_of l → r ≡ s
read_agrees l r s a b = back_same r s (a ∙ sym b)

pub laid_agrees : (may : Bool) (line out out' out'' : List ℕ) (r s : Result ℕ NotAFrame) → Laid may line out out' r → Laid may line out out'' s → (r ≡ s) × (out' ≡ out'')
laid_agrees may line out out' out'' r s a b = (back_same r s (a.answer ∙ sym b.answer), a.after ∙ sym b.after)
