-- A fill changes the buffers of its tree, and no other.
use Prim.Native.Nat.{ℕ, zero, suc, ◌+◌, ◌-◌}
use mathlib.Core.Path.{◌≡◌, refl, ◌∙◌}
use mathlib.Core.List.{List, [], ◌∷◌, ◌++◌}
use lib.ListN.{length, get_or, set, length-set}
use lib.Seq.{get_or-set_other}
use Rattle.rules.specs.Tree.{Buffers, Tree, exhausted, buffer, merger, entries, put}
use Rattle.rules.specs.Merge.{Step, stop, move, merge_step}
use Rattle.rules.specs.Fill.{Filled, if_empty, move_up, step_and, fill_room, fill}
use Rattle.rules.proofs.Numbers.{Stands, itself, output, in_first, in_second, Outside, Apart}
use Rattle.rules.proofs.Contents.{below, view}

-- as many buffers as before, and each outside the tree as before
pub record Frame (t : Tree) (before after : Buffers) : Type 0 where
  pub as_many : length after ≡ length before
  pub same : (m : ℕ) → Outside m t → get_or after m [] ≡ get_or before m []

-- nothing done
pub frame_none : {t : Tree} (bs : Buffers) → Frame t bs bs
frame_none bs = record { as_many = refl; same = λ m out. refl }

-- one after the other
pub frame_then : {t : Tree} {a b c : Buffers} → Frame t a b → Frame t b c → Frame t a c
frame_then p q = record { as_many = q.as_many ∙ p.as_many; same = λ m out. q.same m out ∙ p.same m out }

-- what changes a part changes the whole
pub frame_wider : {t u : Tree} {a b : Buffers} → ((m : ℕ) → Stands m t → Stands m u) → Frame t a b → Frame u a b
frame_wider part p = record { as_many = p.as_many; same = λ m out. p.same m (λ s. out (part m s)) }

-- other entries in one buffer of the tree
pub frame_set : {t : Tree} (n : ℕ) → Stands n t → (es : List ℕ) (bs : Buffers) → Frame t bs (set bs n es)
frame_set n s es bs = record { as_many = length-set bs n es; same = λ m out. get_or-set_other bs n m es [] (λ e. out (rw e s)) }

-- other entries at the top
pub frame_put : (t : Tree) (es : List ℕ) (bs : Buffers) → Frame t bs (put t es bs)
unfolding put
frame_put exhausted es bs = frame_none bs
frame_put (buffer n c) es bs = frame_set n itself es bs
frame_put (merger n c one two) es bs = frame_set n output es bs

-- a filling that changes the buffers of the tree alone
abbrev pub Framed : Tree → (Buffers → Filled) → Type 0
Framed t f = (bs : Buffers) → Frame t bs (f bs).buffers

-- so does one that is made only where an input is empty
pub if_empty_frame : {t : Tree} (f : Buffers → Filled) → Framed t f → (es : List ℕ) → Framed t (if_empty f es)
unfolding if_empty
if_empty_frame f h [] bs = h bs
if_empty_frame f h (e ∷ es) bs = frame_none bs

module _ (n c : ℕ) (one two : Tree) where
  abbrev whole : Tree
  whole = merger n c one two

  move_up_frame : (e : ℕ) (xs ys : List ℕ) (bs : Buffers) → Frame whole bs (move_up n one two e xs ys bs)
  unfolding move_up
  move_up_frame e xs ys bs =
      let up = set bs n (get_or bs n [] ++ e ∷ []) in
      frame_then (frame_set n output (get_or bs n [] ++ e ∷ []) bs)
      (frame_then (frame_wider (λ m. in_first) (frame_put one xs up)) (frame_wider (λ m. in_second) (frame_put two ys (put one xs up))))

  step_frame : (rest : Buffers → Filled) → Framed whole rest → (steps : ℕ) (s : Step) → Framed whole (step_and rest n one two steps s)
  unfolding step_and
  step_frame rest h steps stop bs = frame_none bs
  step_frame rest h steps (move e xs ys) bs = frame_then (move_up_frame e xs ys bs) (h (move_up n one two e xs ys bs))

  room_frame : (key : ℕ → ℕ) (f g : Buffers → Filled) → Framed one f → Framed two g → (room : ℕ) → Framed whole (fill_room key f g n one two room)
  unfolding fill_room
  room_frame key f g hf hg zero bs = frame_none bs
  room_frame key f g hf hg (suc room) bs =
      let first = if_empty f (entries one bs) bs in
      let second = if_empty g (entries two first.buffers) first.buffers in
      frame_then (frame_wider (λ m. in_first) (if_empty_frame f hf (entries one bs) bs))
      (frame_then (frame_wider (λ m. in_second) (if_empty_frame g hg (entries two first.buffers) first.buffers))
      (step_frame (fill_room key f g n one two room) (room_frame key f g hf hg room) (first.steps + second.steps)
      (merge_step key (entries one second.buffers) (entries two second.buffers)) second.buffers))

-- a fill leaves every buffer outside its tree alone
pub fill_frame : (key : ℕ → ℕ) (t : Tree) → Framed t (fill key t)
unfolding fill
fill_frame key exhausted bs = frame_none bs
fill_frame key (buffer n c) bs = frame_none bs
fill_frame key (merger n c one two) bs = room_frame n c one two key (fill key one) (fill key two) (fill_frame key one) (fill_frame key two) (c - length (get_or bs n [])) bs

-- ---- what a tree shows depends on its own buffers alone

entries_local : (t : Tree) (a b : Buffers) → ((m : ℕ) → Stands m t → get_or b m [] ≡ get_or a m []) → entries t b ≡ entries t a
unfolding entries
entries_local exhausted a b h = refl
entries_local (buffer n c) a b h = h n itself
entries_local (merger n c one two) a b h = h n output

below_local : (t : Tree) (a b : Buffers) → ((m : ℕ) → Stands m t → get_or b m [] ≡ get_or a m []) → below t b ≡ below t a
unfolding below
below_local exhausted a b h = refl
below_local (buffer n c) a b h = refl
below_local (merger n c one two) a b h =
    let f : (m : ℕ) → Stands m one → get_or b m [] ≡ get_or a m [] = λ m s. h m (in_first s) in
    let g : (m : ℕ) → Stands m two → get_or b m [] ≡ get_or a m [] = λ m s. h m (in_second s) in
    rw (entries_local one a b f, entries_local two a b g, below_local one a b f, below_local two a b g)

-- buffers that agree on the tree show the same
pub view_local : (t : Tree) (a b : Buffers) → ((m : ℕ) → Stands m t → get_or b m [] ≡ get_or a m []) → view t b ≡ view t a
view_local t a b h = rw (entries_local t a b h, below_local t a b h)

-- what happens in a tree is not seen from one apart from it
pub view_apart : {t u : Tree} → Apart t u → {a b : Buffers} → Frame u a b → view t b ≡ view t a
view_apart {t} {u} apart {a} {b} p = view_local t a b (λ m s. p.same m (apart m s))

-- a buffer outside the tree is not seen
pub view_set : (t : Tree) (n : ℕ) → Outside n t → (es : List ℕ) (bs : Buffers) → view t (set bs n es) ≡ view t bs
view_set t n out es bs = view_local t bs (set bs n es) (λ m s. get_or-set_other bs n m es [] (λ e. out (rw (← e) s)))
