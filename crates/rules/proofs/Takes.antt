-- Takes seen through the tree: what stands in I and in the tree before and after, and what they leave alone.
use Prim.Native.Nat.{ℕ, zero, suc, ◌+◌, ◌<◌}
use mathlib.Core.Path.{◌≡◌, refl, ◌∙◌}
use mathlib.Core.Logic.{◌≢◌}
use mathlib.Core.List.{List, [], ◌∷◌, ◌++◌}
use lib.ListN.{length, get_or, set, length-set}
use lib.Seq.{get_or-set_same, get_or-set_other}
use Rattle.rules.specs.Tree.{Buffers, Tree, entries, put}
use Rattle.rules.specs.Merge.{Step, stop, move, merge_step}
use Rattle.rules.specs.Fill.{Filled, untouched, if_empty, fill}
use Rattle.rules.specs.Take.{Taken, insertion, hand_out, held_in, ready, take_one, takes, take_all}
use Rattle.rules.proofs.Steps.{Stepped, stops, from_first, from_second, stepped}
use Rattle.rules.proofs.Numbers.{Outside, Among}
use Rattle.rules.proofs.Contents.{Below, Contents, below, view, Refilled, refill, fill_contents}
use Rattle.rules.proofs.Frame.{Frame, frame_put, if_empty_frame, fill_frame, view_set}
use Rattle.rules.proofs.Lens.{CanHold, can_hold, can_hold_rest, view_put, refill_seen, fill_seen}

-- ---- takes of contents

-- what a take hands out; what it leaves of I and of the tree; the steps
pub record Took (A : Type 0) : Type 0 where
  pub out : List ℕ
  pub insertion : List ℕ
  pub tree : List ℕ × A
  pub steps : ℕ

-- the entry leaves A(1) or I
unfoldable pub hand_contents : {A : Type 0} → Step → A → ℕ → Took A
hand_contents stop a steps = record { out = []; insertion = []; tree = ([], a); steps = steps }
hand_contents (move e xs ys) a steps = record { out = e ∷ []; insertion = ys; tree = (xs, a); steps = steps }

module _ (key : ℕ → ℕ) (t : Tree) where
  -- "Hand out the smaller of the heads of A(1) and I"
  unfoldable pub take_contents : List ℕ → Contents t → Took (Below t)
  unfolding refill fill_contents hand_contents merge_step
  take_contents i z =
      let now = refill (fill_contents key t) z.0 z.1 in
      hand_contents (merge_step key now.contents.0 i) now.contents.1 now.steps

  -- so many takes
  unfoldable pub takes_contents : ℕ → List ℕ → Contents t → Took (Below t)
  unfolding take_contents
  takes_contents zero i z = record { out = []; insertion = i; tree = z; steps = 0 }
  takes_contents (suc n) i z =
      let one = take_contents i z in
      let rest = takes_contents n one.insertion one.tree in
      record { out = one.out ++ rest.out; insertion = rest.insertion; tree = rest.tree; steps = one.steps + rest.steps }

-- ---- what takes leave alone

-- as many buffers as before, and each but I outside the tree as before
pub record TakeFrame (t : Tree) (before after : Buffers) : Type 0 where
  pub as_many : length after ≡ length before
  pub same : (m : ℕ) → m ≢ 0 → Outside m t → get_or after m [] ≡ get_or before m []

tframe_none : {t : Tree} (bs : Buffers) → TakeFrame t bs bs
tframe_none bs = record { as_many = refl; same = λ m some out. refl }

tframe_then : {t : Tree} {a b c : Buffers} → TakeFrame t a b → TakeFrame t b c → TakeFrame t a c
tframe_then p q = record { as_many = q.as_many ∙ p.as_many; same = λ m some out. q.same m some out ∙ p.same m some out }

tframe_in : {t : Tree} {a b : Buffers} → Frame t a b → TakeFrame t a b
tframe_in p = record { as_many = p.as_many; same = λ m some out. p.same m out }

-- other entries in I
pub tframe_insertion : {t : Tree} (es : List ℕ) (bs : Buffers) → TakeFrame t bs (set bs 0 es)
tframe_insertion es bs = record { as_many = length-set bs 0 es; same = λ m some out. get_or-set_other bs 0 m es [] some }

-- handing out makes no merge step
pub hand_steps : (t : Tree) (s : Step) (now : Filled) → (hand_out t s now).steps ≡ now.steps
unfolding hand_out
hand_steps t stop now = refl
hand_steps t (move e xs ys) now = refl

hand_frame : (t : Tree) (s : Step) (now : Filled) → TakeFrame t now.buffers (hand_out t s now).buffers
unfolding hand_out
hand_frame t stop now = tframe_none now.buffers
hand_frame t (move e xs ys) now = tframe_then (tframe_in (frame_put t xs now.buffers)) (tframe_insertion ys (put t xs now.buffers))

module _ (key : ℕ → ℕ) (t : Tree) where
  -- a fill before the take changes the tree alone
  pub ready_frame : (bs : Buffers) → Frame t bs (ready key t bs).buffers
  unfolding ready
  ready_frame bs = if_empty_frame (fill key t) (fill_frame key t) (entries t bs) bs

  -- "if A(1) is empty, fill v(1)": what holds of the buffers as they are and of a fill holds of both
  pub ready_cases : (bs : Buffers) (P : Filled → Type 0) → P (untouched bs) → P (fill key t bs) → P (ready key t bs)
  unfolding ready if_empty
  ready_cases bs P kept filled = go (entries t bs)
    where
      go : (es : List ℕ) → P (if_empty (fill key t) es bs)
      go [] = filled
      go (e ∷ es) = kept

  -- a take changes I and the tree alone
  pub take_frame : (bs : Buffers) → TakeFrame t bs (take_one key t bs).buffers
  unfolding take_one
  take_frame bs =
      let now = ready key t bs in
      tframe_then (tframe_in (ready_frame bs)) (hand_frame t (merge_step key (entries t now.buffers) (insertion now.buffers)) now)

  -- and so do many
  pub takes_frame : (n : ℕ) (bs : Buffers) → TakeFrame t bs (takes key t n bs).buffers
  unfolding takes
  takes_frame zero bs = tframe_none bs
  takes_frame (suc n) bs = let one = take_one key t bs in tframe_then (take_frame bs) (takes_frame n one.buffers)

  -- or all
  pub take_all_frame : (bs : Buffers) → TakeFrame t bs (take_all key t bs).buffers
  unfolding take_all
  take_all_frame bs = takes_frame (length (insertion bs) + held_in t bs) bs

-- ---- the joining theorem for takes

-- a tree beside I, over so many buffers
pub record Beside (t : Tree) (count : ℕ) : Type 0 where
  pub among : Among t count
  pub outside : Outside 0 t
  pub some : 0 < count

-- what the buffers show of a take
abbrev pub seen : (t : Tree) → Taken → Took (Below t)
seen t z = record { out = z.out; insertion = insertion z.buffers; tree = view t z.buffers; steps = z.steps }

module _ (key : ℕ → ℕ) (t : Tree) (count : ℕ) (b : Beside t count) where
  module _ (bs : Buffers) (many : length bs ≡ count) where
    -- a fill before the take leaves I alone
    pub ready_insertion : insertion (ready key t bs).buffers ≡ insertion bs
    unfolding insertion
    ready_insertion = (ready_frame key t bs).same 0 b.outside

    -- it is the fill of what stands in the tree
    pub ready_seen : ◌≡◌ {A = Refilled (Below t)} (record { contents = view t (ready key t bs).buffers; steps = (ready key t bs).steps }) (refill (fill_contents key t) (entries t bs) (below t bs))
    unfolding ready
    ready_seen = refill_seen t count (fill key t) (fill_contents key t) (fill_seen key t count b.among) bs many (entries t bs) refl

  module _ (now : Filled) (many : length now.buffers ≡ count) where
    move_seen : (e : ℕ) (xs ys : List ℕ) → CanHold t xs → seen t (hand_out t (move e xs ys) now) ≡ hand_contents (move e xs ys) (below t now.buffers) now.steps
    unfolding hand_out hand_contents insertion
    move_seen e xs ys h =
        let m : length (put t xs now.buffers) ≡ count = (frame_put t xs now.buffers).as_many ∙ many in
        let i = get_or-set_same (put t xs now.buffers) 0 ys [] (rw m b.some) in
        let v = view_set t 0 b.outside ys (put t xs now.buffers) ∙ view_put t now.buffers (rw many b.among) xs h in
        λ j. record { out = e ∷ []; insertion = i j; tree = v j; steps = now.steps }

    hand_seen : {xs ys : List ℕ} → entries t now.buffers ≡ xs → insertion now.buffers ≡ ys → {s : Step} → Stepped key xs ys s
        → seen t (hand_out t s now) ≡ hand_contents s (below t now.buffers) now.steps
    unfolding hand_out hand_contents
    hand_seen p q stops = rw (p, q)
    hand_seen p q (from_first {e = e} {xs = xs} {ys = ys} l) = move_seen e xs ys (can_hold_rest t now.buffers p)
    hand_seen p q (from_second {e = e} {xs = xs} {ys = ys} l) = move_seen e xs ys (can_hold t now.buffers p)

  -- a take, seen through the tree, is the take of what stands in I and in the tree
  pub take_seen : (bs : Buffers) → length bs ≡ count → seen t (take_one key t bs) ≡ take_contents key t (insertion bs) (view t bs)
  unfolding take_one take_contents
  take_seen bs many =
      let now = ready key t bs in
      let r = ready_seen bs many in
      let i = ready_insertion bs many in
      hand_seen now ((ready_frame key t bs).as_many ∙ many) refl refl (stepped key (entries t now.buffers) (insertion now.buffers))
      ∙ (λ j. hand_contents (merge_step key (r j).contents.0 (i j)) (r j).contents.1 (r j).steps)

  -- and so for many takes
  pub takes_seen : (n : ℕ) (bs : Buffers) → length bs ≡ count → seen t (takes key t n bs) ≡ takes_contents key t n (insertion bs) (view t bs)
  unfolding takes takes_contents
  takes_seen zero bs many = refl
  takes_seen (suc n) bs many =
      let one = take_one key t bs in
      let a = take_seen bs many in
      let h = takes_seen n one.buffers ((take_frame key t bs).as_many ∙ many) ∙ (λ j. takes_contents key t n (a j).insertion (a j).tree) in
      λ j. record { out = (a j).out ++ (h j).out; insertion = (h j).insertion; tree = (h j).tree; steps = (a j).steps + (h j).steps }
