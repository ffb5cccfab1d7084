-- The joining theorem: a fill of the buffers, seen through the tree, is the fill of what stands in the tree.
use Prim.Native.Nat.{ℕ, zero, suc, ◌+◌, ◌-◌}
use mathlib.Core.Path.{◌≡◌, refl, sym, ap, ◌∙◌}
use mathlib.Core.List.{List, [], ◌∷◌, ◌++◌}
use native.Mathlib.Omega.{arith}
use lib.ListN.{length, get_or, set, length-set}
use lib.Seq.{get_or-set_same}
use Rattle.rules.specs.Tree.{Buffers, Tree, exhausted, buffer, merger, entries, put}
use Rattle.rules.specs.Merge.{Step, move, merge_step}
use Rattle.rules.specs.Fill.{Filled, if_empty, move_up, step_and, fill_room, fill}
use Rattle.rules.proofs.Steps.{Stepped, stops, from_first, from_second, stepped}
use Rattle.rules.proofs.Numbers.{itself, output, apart_back, Among, joint, among_first, among_second}
use Rattle.rules.proofs.Contents.{Below, Contents, below, view, Refilled, Run, more_steps, refill, step_then, merge_into, fill_contents}
use Rattle.rules.proofs.Frame.{frame_put, Framed, if_empty_frame, fill_frame, view_apart, view_set}

-- ---- putting other entries at the top

-- nothing can be put where nothing comes from
abbrev pub CanHold : Tree → List ℕ → Type 0
CanHold exhausted es = es ≡ []
CanHold (buffer n c) es = Unit {0}
CanHold (merger n c one two) es = Unit {0}

-- what stands at the top can stand there
pub can_hold : (t : Tree) (bs : Buffers) {es : List ℕ} → entries t bs ≡ es → CanHold t es
unfolding entries
can_hold exhausted bs e = sym e
can_hold (buffer n c) bs e = tt
can_hold (merger n c one two) bs e = tt

-- and what is left of it when its head leaves
pub can_hold_rest : (t : Tree) (bs : Buffers) {e : ℕ} {es : List ℕ} → entries t bs ≡ e ∷ es → CanHold t es
unfolding entries
can_hold_rest exhausted bs q = let z : ◌≡◌ {A = ℕ} 0 1 = cc in absurd (omega arith)
can_hold_rest (buffer n c) bs q = tt
can_hold_rest (merger n c one two) bs q = tt

-- other entries at the top, and all below as before
pub view_put : (t : Tree) (bs : Buffers) → Among t (length bs) → (es : List ℕ) → CanHold t es → view t (put t es bs) ≡ (es, below t bs)
unfolding put entries below
view_put exhausted bs a es h = rw h
view_put (buffer n c) bs a es h = ap (λ l. (l, tt)) (get_or-set_same bs n es [] (a.less n itself))
view_put (merger n c one two) bs a es h =
    rw (get_or-set_same bs n es [] (a.less n output), view_set one n (joint a).out_one es bs, view_set two n (joint a).out_two es bs)

-- ---- one merger

module _ (key : ℕ → ℕ) (n c : ℕ) (one two : Tree) (count : ℕ) (among : Among (merger n c one two) count) where
  -- what the buffers show of the merger
  abbrev seen : Filled → Run (Below one) (Below two)
  seen z = record { out = get_or z.buffers n []; one = view one z.buffers; two = view two z.buffers; steps = z.steps }

  abbrev Shows : (Buffers → Filled) → (List ℕ → Contents one → Contents two → Run (Below one) (Below two)) → Type 0
  Shows f g = (bs : Buffers) → length bs ≡ count → seen (f bs) ≡ g (get_or bs n []) (view one bs) (view two bs)

  module _ (e : ℕ) (xs ys : List ℕ) (bs : Buffers) (many : length bs ≡ count) (hold_one : CanHold one xs) (hold_two : CanHold two ys) where
    abbrev up : Buffers
    up = set bs n (get_or bs n [] ++ e ∷ [])

    moved_out : get_or (move_up n one two e xs ys bs) n [] ≡ get_or bs n [] ++ e ∷ []
    unfolding move_up
    moved_out =
        (frame_put two ys (put one xs up)).same n (joint among).out_two ∙ (frame_put one xs up).same n (joint among).out_one ∙ get_or-set_same bs n (get_or bs n [] ++ e ∷ []) [] (rw many (among.less n output))

    moved_one : view one (move_up n one two e xs ys bs) ≡ (xs, below one bs)
    unfolding move_up
    moved_one =
        view_apart (joint among).apart (frame_put two ys (put one xs up)) ∙ view_put one up (rw (length-set bs n (get_or bs n [] ++ e ∷ []), many) (among_first among)) xs hold_one
        ∙ ap (λ (v : Contents one). (xs, v.1)) (view_set one n (joint among).out_one (get_or bs n [] ++ e ∷ []) bs)

    moved_two : view two (move_up n one two e xs ys bs) ≡ (ys, below two bs)
    unfolding move_up
    moved_two =
        let m : length (put one xs up) ≡ count = (frame_put one xs up).as_many ∙ length-set bs n (get_or bs n [] ++ e ∷ []) ∙ many in
        view_put two (put one xs up) (rw m (among_second among)) ys hold_two
        ∙ ap (λ (v : Contents two). (ys, v.1)) (view_apart (apart_back (joint among).apart) (frame_put one xs up) ∙ view_set two n (joint among).out_two (get_or bs n [] ++ e ∷ []) bs)

    moved_many : length (move_up n one two e xs ys bs) ≡ count
    unfolding move_up
    moved_many = (frame_put two ys (put one xs up)).as_many ∙ (frame_put one xs up).as_many ∙ length-set bs n (get_or bs n [] ++ e ∷ []) ∙ many

  module _ (rest : Buffers → Filled) (rest' : List ℕ → Contents one → Contents two → Run (Below one) (Below two)) (h : Shows rest rest') where
    move_seen : (steps : ℕ) (bs : Buffers) → length bs ≡ count → (e : ℕ) (xs ys : List ℕ) → CanHold one xs → CanHold two ys
        → seen (step_and rest n one two steps (move e xs ys) bs) ≡ step_then rest' (get_or bs n []) steps (below one bs) (below two bs) (move e xs ys)
    unfolding step_and step_then
    move_seen steps bs many e xs ys p q =
        ap (more_steps (suc steps)) (h (move_up n one two e xs ys bs) (moved_many e xs ys bs many p q)
        ∙ rw (moved_out e xs ys bs many p q, moved_one e xs ys bs many p q, moved_two e xs ys bs many p q))

    step_seen : (steps : ℕ) (bs : Buffers) → length bs ≡ count → {xs ys : List ℕ} → entries one bs ≡ xs → entries two bs ≡ ys → {s : Step} → Stepped key xs ys s
        → seen (step_and rest n one two steps s bs) ≡ step_then rest' (get_or bs n []) steps (below one bs) (below two bs) s
    unfolding step_and step_then
    step_seen steps bs many p q stops = rw (p, q)
    step_seen steps bs many p q (from_first {e} {xs} {ys} low) = move_seen steps bs many e xs ys (can_hold_rest one bs p) (can_hold two bs q)
    step_seen steps bs many p q (from_second {e} {xs} {ys} low) = move_seen steps bs many e xs ys (can_hold one bs p) (can_hold_rest two bs q)

-- a fill of an input, seen from the input
abbrev pub ShowsFill : (t : Tree) → ℕ → (Buffers → Filled) → (Contents t → Refilled (Below t)) → Type 0
ShowsFill t count f g = (bs : Buffers) → length bs ≡ count → ◌≡◌ {A = Refilled (Below t)} (record { contents = view t (f bs).buffers; steps = (f bs).steps }) (g (view t bs))

-- a fill that is made only where the input is empty, seen from the input
pub refill_seen : (t : Tree) (count : ℕ) (f : Buffers → Filled) (g : Contents t → Refilled (Below t)) → ShowsFill t count f g
    → (bs : Buffers) → length bs ≡ count → (es : List ℕ) → entries t bs ≡ es
    → ◌≡◌ {A = Refilled (Below t)} (record { contents = view t (if_empty f es bs).buffers; steps = (if_empty f es bs).steps }) (refill g es (below t bs))
unfolding if_empty refill
refill_seen t count f g h bs many [] e = h bs many ∙ rw e
refill_seen t count f g h bs many (x ∷ es) e = rw e

module _ (key : ℕ → ℕ) (n c : ℕ) (one two : Tree) (count : ℕ) (among : Among (merger n c one two) count) where
  room_seen : (f : Buffers → Filled) → Framed one f → (f' : Contents one → Refilled (Below one)) → ShowsFill one count f f'
      → (g : Buffers → Filled) → Framed two g → (g' : Contents two → Refilled (Below two)) → ShowsFill two count g g'
      → (room : ℕ) → Shows key n c one two count among (fill_room key f g n one two room) (merge_into key f' g' room)
  unfolding fill_room merge_into
  room_seen f ff f' hf g fg g' hg zero bs many = refl
  room_seen f ff f' hf g fg g' hg (suc room) bs many =
      let a = if_empty f (entries one bs) bs in
      let b = if_empty g (entries two a.buffers) a.buffers in
      let now = b.buffers in
      let fa = if_empty_frame f ff (entries one bs) bs in
      let fb = if_empty_frame g fg (entries two a.buffers) a.buffers in
      let ma : length a.buffers ≡ count = fa.as_many ∙ many in
      let mb : length now ≡ count = fb.as_many ∙ ma in
      let a' = refill f' (entries one bs) (below one bs) in
      let b' = refill g' (entries two bs) (below two bs) in
      let eo : get_or now n [] ≡ get_or bs n [] = fb.same n (joint among).out_two ∙ fa.same n (joint among).out_one in
      let ea : ◌≡◌ {A = Refilled (Below one)} (record { contents = view one now; steps = a.steps }) a' =
      ap (λ v. record { contents = v; steps = a.steps }) (view_apart (joint among).apart fb) ∙ refill_seen one count f f' hf bs many (entries one bs) refl in
      let eb : ◌≡◌ {A = Refilled (Below two)} (record { contents = view two now; steps = b.steps }) b' =
      refill_seen two count g g' hg a.buffers ma (entries two a.buffers) refl ∙ ap (λ (v : Contents two). refill g' v.0 v.1) (view_apart (apart_back (joint among).apart) fa) in
      step_seen key n c one two count among
      (fill_room key f g n one two room) (merge_into key f' g' room) (room_seen f ff f' hf g fg g' hg room)
      (a.steps + b.steps) now mb refl refl (stepped key (entries one now) (entries two now))
      ∙ (λ i. step_then (merge_into key f' g' room) (eo i) ((ea i).steps + (eb i).steps) (ea i).contents.1 (eb i).contents.1 (merge_step key (ea i).contents.0 (eb i).contents.0))

-- a fill of the buffers, seen through the tree, is the fill of what stands in it
pub fill_seen : (key : ℕ → ℕ) (t : Tree) (count : ℕ) → Among t count → ShowsFill t count (fill key t) (fill_contents key t)
unfolding fill fill_contents below
fill_seen key exhausted count a bs many = refl
fill_seen key (buffer n c) count a bs many = refl
fill_seen key (merger n c one two) count among bs many =
    let z = room_seen key n c one two count among
    (fill key one) (fill_frame key one) (fill_contents key one) (fill_seen key one count (among_first among))
    (fill key two) (fill_frame key two) (fill_contents key two) (fill_seen key two count (among_second among))
    (c - length (get_or bs n [])) bs many in
    λ i. record { contents = ((z i).out, ((z i).one, (z i).two)); steps = (z i).steps }
