-- Counters written anew: no buffer's word and no slot changes.
use mathlib.Core.Path.{◌≡◌, sym, ap, ◌∙◌}
use mathlib.Core.List.{List, []}
use Prim.Native.Nat.{ℕ, ◌+◌, ◌≤◌, ◌<◌}
use native.Mathlib.Omega.{arith}
use lib.Seq.{ext_get_or}
use Rattle.rules.specs.Links.{buffer_count}
use Rattle.buffers.specs.Format.{links_in, count_in, word_of, head_of, many, buffer_of, buffers_of}
use Rattle.buffers.specs.Post.{Inside}
use Rattle.buffers.specs.Counters.{HasCounter, CounterPut}
use Rattle.buffers.proofs.SlotLaws.{some}
use Rattle.buffers.proofs.ArrayLaws.{has, buffer_length, buffer_is, entry_at, buffers_at, buffers_length}

-- a link of an array has its counter in the book
pub has_counter : (ws : List ℕ) (i : ℕ) → Inside ws → 1 ≤ i → i ≤ links_in ws → HasCounter ws i
has_counter ws i array low high =
    record {
      array = array;
      low = low;
      high = high;
      small = omega (arith, array.link.high);
      long = let first = has ws 0 array (omega (arith, some array.link)) in omega (arith, first.behind, first.slots);
    }

module _ {ws ws' : List ℕ} {i c : ℕ} (h : HasCounter ws i) (z : CounterPut ws ws' i c) where
  pub put_word : (n : ℕ) → word_of ws' n ≡ word_of ws n
  put_word n = z.behind (8 + n) (omega (arith, h.small))

  pub put_inside : Inside ws'
  put_inside = record { link = rw z.zeroth h.array.link; long = rw z.zeroth (omega (arith, z.long, h.array.long)); fits = λ n lt. rw (put_word n) (h.array.fits n (rw z.zeroth at lt)) }

  put_buffer : (n : ℕ) → n < many ws → buffer_of ws' n ≡ buffer_of ws n
  put_buffer n lt =
      let e = put_word n in
      let of = has ws n h.array lt in
      buffer_is ws' n (has ws' n put_inside (rw z.zeroth lt)) (buffer_of ws n) (buffer_length ws n of ∙ sym (ap count_in e))
      (λ m under. let under' : m < count_in (word_of ws n) = rw e at under in rw e (z.behind (head_of ws n + m) (omega (arith, h.small, of.behind))) ∙ sym (entry_at ws n of m under'))

  -- no buffer has changed
  pub put_buffers : buffers_of ws' ≡ buffers_of ws
  put_buffers =
      ext_get_or [] (buffers_of ws') (buffers_of ws) (buffers_length ws' ∙ ap buffer_count z.zeroth ∙ sym (buffers_length ws))
      (λ n under.
      let lt : n < many ws = rw z.zeroth at (rw (buffers_length ws') at under) in
      buffers_at ws' n (rw z.zeroth lt) ∙ put_buffer n lt ∙ sym (buffers_at ws n lt))
