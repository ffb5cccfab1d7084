-- Entries laid behind a buffer's last one, and then counted in.
use Prim.Native.Nat.{ℕ, ◌+◌, ◌≤◌, ◌<◌}
use mathlib.Core.Path.{◌≡◌, sym, ap, ◌∙◌}
use mathlib.Core.Logic.{◌⊎◌, inl, inr}
use mathlib.Core.List.{List, [], ◌++◌}
use native.Mathlib.Omega.{arith}
use native.Mathlib.Decide.{dec_lt}
use lib.ListN.{length, take, drop, set}
use lib.Seq.{length-take-le, drop_at, take-add, drop-drop, take-append_seam, set-get_or}
use Rattle.rules.specs.Links.{book_words}
use Rattle.buffers.specs.Slots.{base, capacity_of}
use Rattle.buffers.specs.Format.{word_of, count_of, start_of, head_of, buffer_of, buffers_of}
use Rattle.buffers.specs.Post.{Inside, Has, Only}
use Rattle.buffers.proofs.ArrayLaws.{has, buffer_length, entry_at, buffer_is, buffers_at, only_links, only_inside, only_now}
use Rattle.runs.specs.Promises.{laid_at}
use Rattle.runs.proofs.LayingLaws.{length_laid, laid_outside}

-- ---- a run laid in an array

-- the run itself
pub laid_here : (a : List ℕ) (at : ℕ) (run : List ℕ) → at ≤ length a → take (length run) (drop at (laid_at a at run)) ≡ run
laid_here a at run inside =
    rw (drop_at (take at a) (run ++ drop (at + length run) a) at (length-take-le at a inside)) (take-append_seam run (drop (at + length run) a))

module _ (ws : List ℕ) (n : ℕ) (es : List ℕ) (h : Has ws n) (room : start_of ws n + count_of ws n + length es ≤ capacity_of n) where
  abbrev pub end : ℕ
  end = head_of ws n + count_of ws n

  abbrev pub laid : List ℕ
  laid = laid_at ws end es

  free : end + length es ≤ length ws
  free = omega (arith, h.slots, room)

  -- laying changes free slots of buffer n alone
  pub laid_only : Only ws laid n
  laid_only = record {
    long = length_laid ws end es free;
    outside = λ p differ out. laid_outside ws end es p free (go p out (dec_lt p end));
  }
    where
      go : (p : ℕ) → (base n ≤ p → p < base n + capacity_of n → ⊥) → Dec (p < end) → (p < end) ⊎ (end + length es ≤ p)
      go p out (yes low) = inl low
      go p out (no high) = inr (past (dec_lt p (end + length es)))
        where
          past : Dec (p < end + length es) → end + length es ≤ p
          past (yes low) = absurd (out (omega arith) (omega (arith, room)))
          past (no more) = omega arith

  pub laid_word : (m : ℕ) → 8 + m < book_words → word_of laid m ≡ word_of ws m
  laid_word m few = laid_outside ws end es (8 + m) free (inl (omega (arith, h.behind)))

  laid_inside : Inside laid
  laid_inside = only_inside ws laid n h laid_only (rw (laid_word n h.small) h.fits)

  pub laid_has : Has laid n
  laid_has = has laid n laid_inside (rw (only_links ws laid n h laid_only) h.below)

  laid_buffer : buffer_of laid n ≡ buffer_of ws n
  laid_buffer =
      let w = laid_word n h.small in
      buffer_is laid n laid_has (buffer_of ws n) (rw w (buffer_length ws n h))
      (λ m under. let under' : m < count_of ws n = rw w at under in
      rw w (laid_outside ws end es (head_of ws n + m) free (inl (omega arith)) ∙ sym (entry_at ws n h m under')))

  -- every buffer has what it had
  pub laid_state : buffers_of laid ≡ buffers_of ws
  laid_state =
      (only_now ws laid n h laid_only (rw (laid_word n h.small) h.fits) (buffer_of ws n) laid_buffer).state
      ∙ ap (set (buffers_of ws) n) (sym (buffers_at ws n h.below)) ∙ set-get_or (buffers_of ws) n []

  -- and counted in, the run is buffer n's end
  pub laid_counted : take (count_of laid n + length es) (drop (head_of laid n) laid) ≡ buffer_of ws n ++ es
  unfolding buffer_of
  laid_counted =
      let w = laid_word n h.small in
      let here = laid_buffer in
      let front : take (count_of ws n) (drop (head_of ws n) laid) ≡ take (count_of ws n) (drop (head_of ws n) ws) = rw w at here in
      rw w (take-add (count_of ws n) (length es) (drop (head_of ws n) laid)
      ∙ rw (front, drop-drop (count_of ws n) (head_of ws n) laid, laid_here ws end es (omega (arith, free))))
