-- A buffer's word and its three parts; what each writer makes of them.
use mathlib.Core.Path.{◌≡◌, ap, ◌∙◌}
use Prim.Native.Nat.{ℕ, zero, suc, ◌+◌, ◌*◌, ◌-◌, ◌/◌, ◌≤◌, ◌<◌}
use native.Mathlib.Nat.{zero-add, suc-add, add_assoc}
use native.Mathlib.Omega.{arith}
use mathlib.Core.List.{List, [], ◌∷◌}
use lib.ListN.{take, drop, set}
use lib.Seq.{drop-drop, take-nil}
use Rattle.buffers.specs.Slots.{capacity_of, base}
use Rattle.buffers.specs.Format.{count_in, start_in, mark_in, word_of, count_of, start_of, mark_of, head_of, buffer_of}
use Rattle.buffers.specs.Post.{Has, Now, Dropping, Growing, Laying, Emptied, Word}
use Rattle.buffers.proofs.ArrayLaws.{reworded, reworded_word, reworded_now}

-- ---- one word, three parts

pub record Parts (w c b s : ℕ) : Type 0 where
  pub count : count_in w ≡ c
  pub mark : mark_in w ≡ b
  pub start : start_in w ≡ s

pub parts : (w c b s : ℕ) → w ≡ c + 65536 * b + 131072 * s → c < 65536 → b < 2 → Parts w c b s
parts w c b s e small bit =
    let q : w / 65536 ≡ b + 2 * s = omega arith in
    record { count = omega arith; mark = rw q (omega arith); start = omega arith }

pub whole : (w : ℕ) → w ≡ count_in w + 65536 * mark_in w + 131072 * start_in w
whole w = omega arith

-- ---- what a new word makes of buffer n

module _ (ws : List ℕ) (n w c b s : ℕ) (h : Has ws n) (p : Parts w c b s) (fits : s + c ≤ capacity_of n) where
  pub word_now : Now ws (reworded ws n w h) n (take c (drop (base n + s) ws))
  word_now =
      let z = reworded_now ws n w h (omega (arith, p.count, p.start)) in
      rw (p.count, p.start) at z

  pub word_is : Word (reworded ws n w h) n b s
  word_is = record { mark = rw (reworded_word ws n w h) p.mark; start = rw (reworded_word ws n w h) p.start }

-- dropping the first of so many
drop_take : {A : Type 0} (m c : ℕ) (l : List A) → drop m (take (m + c) l) ≡ take c (drop m l)
drop_take zero c l = rw zero-add
drop_take (suc m) c [] = rw (suc-add m c, take-nil c)
drop_take (suc m) c (x ∷ l) = rw (suc-add m c) (drop_take m c l)

module _ (ws : List ℕ) (n m : ℕ) (p : Dropping ws n m) where
  drop_parts : Parts (word_of ws n + m * 131071) (count_of ws n - m) (mark_of ws n) (start_of ws n + m)
  drop_parts = parts (word_of ws n + m * 131071) (count_of ws n - m) (mark_of ws n) (start_of ws n + m) (omega (arith, whole (word_of ws n), p.enough)) (omega arith) (omega arith)

  drop_fits : (start_of ws n + m) + (count_of ws n - m) ≤ capacity_of n
  drop_fits = omega (arith, p.enough, p.of.fits)

  pub drop_now : Now ws (set ws (8 + n) (word_of ws n + m * 131071)) n (drop m (buffer_of ws n))
  unfolding buffer_of
  drop_now =
      let e : count_of ws n ≡ m + (count_of ws n - m) = omega (arith, p.enough) in
      let entries : drop m (take (count_of ws n) (drop (head_of ws n) ws)) ≡ take (count_of ws n - m) (drop (base n + (start_of ws n + m)) ws) =
      ap (λ c. drop m (take c (drop (head_of ws n) ws))) e ∙ drop_take m (count_of ws n - m) (drop (head_of ws n) ws)
      ∙ ap (take (count_of ws n - m)) (drop-drop m (head_of ws n) ws ∙ ap (λ j. drop j ws) (add_assoc (base n) (start_of ws n) m)) in
      rw entries (word_now ws n (word_of ws n + m * 131071) (count_of ws n - m) (mark_of ws n) (start_of ws n + m) p.of drop_parts drop_fits)

module _ (ws : List ℕ) (n m : ℕ) (p : Growing ws n m) where
  grow_parts : Parts (word_of ws n + m) (count_of ws n + m) (mark_of ws n) (start_of ws n)
  grow_parts = parts (word_of ws n + m) (count_of ws n + m) (mark_of ws n) (start_of ws n) (omega (arith, whole (word_of ws n))) (omega (arith, p.room, p.of.room)) (omega arith)

  grow_fits : start_of ws n + (count_of ws n + m) ≤ capacity_of n
  grow_fits = omega (arith, p.room)

  pub grow_now : Now ws (set ws (8 + n) (word_of ws n + m)) n (take (count_of ws n + m) (drop (head_of ws n) ws))
  grow_now = word_now ws n (word_of ws n + m) (count_of ws n + m) (mark_of ws n) (start_of ws n) p.of grow_parts grow_fits

module _ (ws : List ℕ) (n m : ℕ) (p : Laying ws n m) where
  settle_parts : Parts m m 0 0
  settle_parts = parts m m 0 0 (omega arith) (omega (arith, p.room, p.of.room)) (omega arith)

  pub settle_now : Now ws (set ws (8 + n) m) n (take m (drop (base n) ws))
  settle_now =
      let e : base n + 0 ≡ base n = omega arith in
      let z = word_now ws n m m 0 0 p.of settle_parts (omega (arith, p.room)) in
      rw e at z

module _ (ws : List ℕ) (n : ℕ) (p : Emptied ws n) where
  pub exhaust_now : Now ws (set ws (8 + n) 65536) n []
  exhaust_now = word_now ws n 65536 0 1 0 p.of (parts 65536 0 1 0 (omega arith) (omega arith) (omega arith)) (omega arith)
