-- Entries laid from a buffer's first slot on, and then counted: the buffer has them, and nothing else has changed.
use mathlib.Core.Path.{◌≡◌, refl, sym, ap, ◌∙◌}
use mathlib.Core.Logic.{◌⊎◌, inl, inr}
use mathlib.Core.List.{List, ◌++◌, append_assoc}
use Prim.Native.Nat.{ℕ, ◌+◌, ◌-◌, ◌≤◌, ◌<◌}
use native.Mathlib.Omega.{arith}
use native.Mathlib.Decide.{dec_lt}
use native.Mathlib.Nat.{zero-add}
use lib.ListN.{length, take, drop, set, length-take, length-drop, take-append-drop}
use lib.Seq.{drop_at, length-take-le, take-append_seam, drop-append-le, drop-drop, set-set}
use Rattle.rules.specs.Links.{book_words}
use Rattle.buffers.specs.Slots.{base, capacity_of, capacities}
use Rattle.buffers.specs.Format.{word_of, count_of, start_of, buffer_of, buffers_of}
use Rattle.buffers.specs.Post.{Inside, Has, Only, Now, Laying}
use Rattle.rules.specs.Insert.{placed}
use Rattle.buffers.proofs.SlotLaws.{base_zero, some}
use Rattle.buffers.proofs.ArrayLaws.{has, buffer_length, only_links, only_inside, only_now}
use Rattle.runs.specs.Promises.{laid_at, stretch}
use Rattle.runs.proofs.LayingLaws.{length_laid, laid_outside, stretch_take, stretch_drop}
use Rattle.paths.specs.Placing.{Holds, Placing}
use Rattle.paths.proofs.PlacingLaws.{placed_long}

-- ---- what a lent part leaves in the array

-- the part has become these words
pub part_now : (a : List ℕ) (at size : ℕ) (part : List ℕ) → length part ≡ size → take at a ++ (part ++ drop size (drop at a)) ≡ laid_at a at part
part_now a at size part e = rw (← e, drop-drop)

-- a run was laid at the beginning of the part
pub part_laid : (a : List ℕ) (at size : ℕ) (run : List ℕ) → at + size ≤ length a → length run ≤ size
    → take at a ++ (laid_at (take size (drop at a)) 0 run ++ drop size (drop at a)) ≡ laid_at a at run
part_laid a at size run inside fits =
    let part = take size (drop at a) in
    let long : length run ≤ length part = simp (length-take, length-drop) (omega arith) in
    let behind : drop (0 + length run) part ++ drop size (drop at a) ≡ drop (at + length run) a =
    rw zero-add (sym (drop-append-le (length run) part (drop size (drop at a)) long) ∙ rw (take-append-drop, drop-drop)) in
    ap (λ l. take at a ++ l) (append_assoc run (drop (0 + length run) part) (drop size (drop at a)) ∙ ap (λ l. run ++ l) behind)

-- ---- buffer n's slots from the first on

pub laid_here : (a : List ℕ) (at : ℕ) (run : List ℕ) → at ≤ length a → take (length run) (drop at (laid_at a at run)) ≡ run
laid_here a at run inside =
    rw (drop_at (take at a) (run ++ drop (at + length run) a) at (length-take-le at a inside)) (take-append_seam run (drop (at + length run) a))

module _ (ws : List ℕ) (n : ℕ) (es : List ℕ) (h : Has ws n) (room : length es ≤ capacity_of n) where
  free : base n + length es ≤ length ws
  free = omega (arith, h.slots)

  laid_only : Only ws (laid_at ws (base n) es) n
  laid_only = record {
    long = length_laid ws (base n) es free;
    outside = λ p differ out. laid_outside ws (base n) es p free (go p out (dec_lt p (base n)));
  }
    where
      go : (p : ℕ) → (base n ≤ p → p < base n + capacity_of n → ⊥) → Dec (p < base n) → (p < base n) ⊎ (base n + length es ≤ p)
      go p out (yes low) = inl low
      go p out (no high) = inr (past (dec_lt p (base n + length es)))
        where
          past : Dec (p < base n + length es) → base n + length es ≤ p
          past (yes low) = absurd (out (omega arith) (omega arith))
          past (no more) = omega arith

  same_word : word_of (laid_at ws (base n) es) n ≡ word_of ws n
  same_word = laid_outside ws (base n) es (8 + n) free (inl (omega (arith, h.behind, h.small)))

  fits : start_of (laid_at ws (base n) es) n + count_of (laid_at ws (base n) es) n ≤ capacity_of n
  fits = rw same_word h.fits

  pub laid_laying : Laying (laid_at ws (base n) es) n (length es)
  laid_laying = record {
    of = has (laid_at ws (base n) es) n (only_inside ws (laid_at ws (base n) es) n h laid_only fits) (rw (only_links ws (laid_at ws (base n) es) n h laid_only) h.below);
    room = room;
  }

  -- as many are counted
  pub laid_now : (ws' : List ℕ) → Now (laid_at ws (base n) es) ws' n (take (length es) (drop (base n) (laid_at ws (base n) es))) → Now ws ws' n es
  laid_now ws' z = record {
    array = z.array;
    only = record {
      long = z.only.long ∙ laid_only.long;
      outside = λ p differ out. z.only.outside p differ out ∙ laid_only.outside p differ out;
    };
    state = z.state
        ∙ ap (λ bs. set bs n (take (length es) (drop (base n) (laid_at ws (base n) es)))) (only_now ws (laid_at ws (base n) es) n h laid_only fits (buffer_of (laid_at ws (base n) es) n) refl).state
        ∙ set-set (buffers_of ws) n (buffer_of (laid_at ws (base n) es) n) (take (length es) (drop (base n) (laid_at ws (base n) es)))
        ∙ ap (set (buffers_of ws) n) (laid_here ws (base n) es (omega (arith, free)));
  }

-- ---- the insertion buffer

pub room_insertion : capacity_of 0 ≡ 8
unfolding capacity_of capacities
room_insertion = refl

pub placing : (ws : List ℕ) → Inside ws → count_of ws 0 ≤ 7 → Placing ws
placing ws array few =
    let h = has ws 0 array (omega (arith, some array.link)) in
    record { of = h; few = few; inside = omega (arith, h.fits, room_insertion); long = omega (arith, h.slots, base_zero, room_insertion) }

-- its entries, as its slots alone hold them
pub insertion_is : (ws : List ℕ) → Placing ws → (start count : ℕ) → start ≡ start_of ws 0 → count ≡ count_of ws 0 → stretch start (start + count) (take 8 (drop book_words ws)) ≡ buffer_of ws 0
unfolding buffer_of
insertion_is ws h start count es ec =
    let many : start + count - start ≡ count = omega arith in
    let all : stretch book_words (book_words + 8) ws ≡ take 8 (drop book_words ws) = refl in
    let last : book_words + start + count - (book_words + start) ≡ count = omega arith in
    rw (many, ← all, stretch_drop ws book_words (book_words + 8) start, stretch_take ws (book_words + start) (book_words + 8) count (omega (arith, h.inside)), last, base_zero, ← es, ← ec)

module _ (ws : List ℕ) (h : Placing ws) (start count entry : ℕ) (es : start ≡ start_of ws 0) (ec : count ≡ length (buffer_of ws 0)) where
  pub counted : count ≡ count_of ws 0
  counted = ec ∙ buffer_length ws 0 h.of

  pub place_holds : Holds (take 8 (drop book_words ws)) start count
  place_holds = record { inside = simp (length-take, length-drop) (omega (arith, h.inside, h.long, counted)); free = simp (length-take, length-drop) (omega (arith, h.few, h.long, counted)) }

  module _ (key : ℕ → ℕ) (slots : List ℕ) (e : slots ≡ laid_at (take 8 (drop book_words ws)) 0 (placed key entry (stretch start (start + count) (take 8 (drop book_words ws))))) where
    long : length (placed key entry (buffer_of ws 0)) ≡ count + 1
    long = omega (arith, placed_long key entry (buffer_of ws 0))

    room : length (placed key entry (buffer_of ws 0)) ≤ capacity_of 0
    room = omega (arith, long, counted, h.few, room_insertion)

    whole : take book_words ws ++ (slots ++ drop 8 (drop book_words ws)) ≡ laid_at ws (base 0) (placed key entry (buffer_of ws 0))
    whole = rw (e, insertion_is ws h start count es counted, base_zero) (part_laid ws book_words 8 (placed key entry (buffer_of ws 0)) h.long (omega (arith, room, room_insertion)))

    pub place_laying : Laying (take book_words ws ++ (slots ++ drop 8 (drop book_words ws))) 0 (count + 1)
    place_laying = rw (whole, ← long) (laid_laying ws 0 (placed key entry (buffer_of ws 0)) h.of room)

    pub place_now : (ws' : List ℕ) → Now (take book_words ws ++ (slots ++ drop 8 (drop book_words ws))) ws' 0 (take (count + 1) (drop (base 0) (take book_words ws ++ (slots ++ drop 8 (drop book_words ws))))) → Now ws ws' 0 (placed key entry (buffer_of ws 0))
    place_now ws' z = laid_now ws 0 (placed key entry (buffer_of ws 0)) h.of room ws' (rw (whole, ← long) at z)
