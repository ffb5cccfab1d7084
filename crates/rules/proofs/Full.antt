-- After a fill the output is full or nothing stands below it; capacities are kept; and where nothing stands in a tree, a fill does nothing.
use Prim.Native.Nat.{ℕ, zero, suc, ◌+◌, ◌-◌, ◌≤◌, ◌<◌}
use mathlib.Core.Path.{◌≡◌, refl, sym, ap, subst}
use mathlib.Core.List.{List, [], ◌∷◌, ◌++◌}
use native.Mathlib.Omega.{arith}
use lib.ListN.{length, get_or, length-append}
use Rattle.rules.specs.Tree.{Buffers, Tree, exhausted, buffer, merger, entries}
use Rattle.rules.specs.Merge.{Step, merge_step}
use Rattle.rules.specs.Fill.{Filled, untouched, if_empty, step_and, fill_room, fill}
use Rattle.rules.specs.Take.{held_in}
use Rattle.rules.proofs.Steps.{Stepped, stops, from_first, from_second, stepped}
use Rattle.rules.proofs.Numbers.{Among}
use Rattle.rules.proofs.Contents.{Below, Contents, below, view, Refilled, Run, more_steps, refill, step_then, merge_into, fill_contents}
use Rattle.rules.proofs.Lens.{fill_seen}
use Rattle.rules.proofs.Weight.{sum_of_ones, weight_below, weight_seen, held_weight, fill_held}

-- every merger's output has room for an entry
pub data Roomy : Tree → Type 0 where
  nothing : Roomy exhausted
  alone : {n c : ℕ} → Roomy (buffer n c)
  over : {n c : ℕ} {one two : Tree} → 0 < c → Roomy one → Roomy two → Roomy (merger n c one two)

-- the capacity of the top buffer
abbrev pub top_capacity : Tree → ℕ
top_capacity exhausted = 0
top_capacity (buffer n c) = c
top_capacity (merger n c one two) = c

-- how many entries stand below the top
abbrev pub held_below : (t : Tree) → ℕ → Below t → ℕ
held_below t d b = weight_below (λ d e. 1) t d b

-- what a tree has stands at its top or below
pub held_seen : (t : Tree) (d : ℕ) (bs : Buffers) → held_in t bs ≡ length (entries t bs) + held_below t d (below t bs)
held_seen t d bs = omega (arith, held_weight t d bs, weight_seen (λ d e. 1) t d bs, sum_of_ones (entries t bs))

-- ---- full or nothing below

-- an input that is empty after its fill has nothing below it
abbrev pub Drains : {A : Type 0} → (A → ℕ) → (List ℕ × A → Refilled A) → Type 0
Drains {A} held f = (z : List ℕ × A) → length (f z).contents.0 ≡ 0 → held (f z).contents.1 ≡ 0

-- so after a fill that is made only where the input is empty
pub refill_drains : {A : Type 0} (held : A → ℕ) (f : List ℕ × A → Refilled A) → Drains held f
    → (es : List ℕ) (a : A) → length (refill f es a).contents.0 ≡ 0 → held (refill f es a).contents.1 ≡ 0
unfolding refill
refill_drains held f h [] a = h ([], a)
refill_drains held f h (e ∷ es) a = λ q. absurd (omega arith)

module _ (key : ℕ → ℕ) {A B : Type 0} (ha : A → ℕ) (hb : B → ℕ) where
  -- the output has at most so many entries, and where it has fewer, nothing is left below it
  pub record FullOrDone (most : ℕ) (z : Run A B) : Type 0 where
    pub at_most : length z.out ≤ most
    pub done : length z.out < most → (length z.one.0 + ha z.one.1) + (length z.two.0 + hb z.two.1) ≡ 0

  abbrev RunFills : ℕ → (List ℕ → List ℕ × A → List ℕ × B → Run A B) → Type 0
  RunFills room run = (out : List ℕ) (one : List ℕ × A) (two : List ℕ × B) → FullOrDone (length out + room) (run out one two)

  module _ (room : ℕ) (rest : List ℕ → List ℕ × A → List ℕ × B → Run A B) (h : RunFills room rest) where
    move_fills : (out : List ℕ) (steps e : ℕ) (one : List ℕ × A) (two : List ℕ × B) → FullOrDone (length out + suc room) (more_steps (suc steps) (rest (out ++ e ∷ []) one two))
    move_fills out steps e one two =
        let z = h (out ++ e ∷ []) one two in
        let l : length (out ++ e ∷ []) ≡ length out + 1 = length-append out (e ∷ []) in
        record { at_most = omega (arith, z.at_most); done = λ q. z.done (omega arith) }

    step_fills : (out : List ℕ) (steps : ℕ) (a : A) (b : B) {xs ys : List ℕ} {s : Step} → Stepped key xs ys s → (length xs ≡ 0 → ha a ≡ 0) → (length ys ≡ 0 → hb b ≡ 0)
        → FullOrDone (length out + suc room) (step_then rest out steps a b s)
    unfolding step_then
    step_fills out steps a b stops da db = record { at_most = omega arith; done = λ q. omega (arith, da refl, db refl) }
    step_fills out steps a b (from_first {e = e} {xs = xs} {ys = ys} l) da db = move_fills out steps e (xs, a) (ys, b)
    step_fills out steps a b (from_second {e = e} {xs = xs} {ys = ys} l) da db = move_fills out steps e (xs, a) (ys, b)

  run_fills : (f : List ℕ × A → Refilled A) → Drains ha f → (g : List ℕ × B → Refilled B) → Drains hb g → (room : ℕ) → RunFills room (merge_into key f g room)
  unfolding merge_into
  run_fills f hf g hg zero out one two = record { at_most = omega arith; done = λ q. absurd (omega arith) }
  run_fills f hf g hg (suc room) out one two =
      let a = refill f one.0 one.1 in
      let b = refill g two.0 two.1 in
      step_fills room (merge_into key f g room) (run_fills f hf g hg room) out (a.steps + b.steps) a.contents.1 b.contents.1
      (stepped key a.contents.0 b.contents.0) (refill_drains ha f hf one.0 one.1) (refill_drains hb g hg two.0 two.1)

module _ (key : ℕ → ℕ) where
  -- the same of a whole tree, at depth d
  pub record TopFull (t : Tree) (d : ℕ) (z : Contents t) : Type 0 where
    pub at_most : length z.0 ≤ top_capacity t → length (fill_contents key t z).contents.0 ≤ top_capacity t
    pub done : length (fill_contents key t z).contents.0 < top_capacity t → held_below t d (fill_contents key t z).contents.1 ≡ 0

  drains : {t : Tree} → Roomy t → (d : ℕ) → ((z : Contents t) → TopFull t d z) → Drains (held_below t d) (fill_contents key t)
  unfolding fill_contents weight_below
  drains nothing d h z e = refl
  drains alone d h z e = refl
  drains (over some one two) d h z e = (h z).done (omega arith)

  -- every tree with room is filled to the top, or to its end
  pub contents_full : {t : Tree} → Roomy t → (d : ℕ) (z : Contents t) → TopFull t d z
  unfolding fill_contents weight_below
  contents_full nothing d z = record { at_most = λ h. h; done = λ h. refl }
  contents_full alone d z = record { at_most = λ h. h; done = λ h. refl }
  contents_full (over {n = n} {c = c} {one = one} {two = two} some p q) d z =
      let r = run_fills key (held_below one (suc d)) (held_below two (suc d)) (fill_contents key one) (drains p (suc d) (contents_full p (suc d)))
      (fill_contents key two) (drains q (suc d) (contents_full q (suc d))) (c - length z.0) z.0 z.1.0 z.1.1 in
      let most = r.at_most in
      let after = merge_into key (fill_contents key one) (fill_contents key two) (c - length z.0) z.0 z.1.0 z.1.1 in
      record { at_most = λ h. omega arith; done = λ h. omega (arith, r.done (omega arith), sum_of_ones after.one.0, sum_of_ones after.two.0) }

  -- what is empty at the top after a fill is empty below
  pub contents_drain : {t : Tree} → Roomy t → (d : ℕ) → Drains (held_below t d) (fill_contents key t)
  contents_drain p d = drains p d (contents_full p d)

module _ (key : ℕ → ℕ) {t : Tree} (roomy : Roomy t) (bs : Buffers) (a : Among t (length bs)) where
  abbrev after : Buffers
  after = (fill key t bs).buffers

  -- a fill never makes the output longer than its capacity
  pub fill_at_most : length (entries t bs) ≤ top_capacity t → length (entries t after) ≤ top_capacity t
  fill_at_most h = rw (ap (λ (r : Refilled (Below t)). length r.contents.0) (fill_seen key t (length bs) a bs refl)) ((contents_full key roomy 0 (view t bs)).at_most h)

  -- after a fill the output is full, or nothing stands below it
  pub fill_full : length (entries t after) < top_capacity t → held_in t after ≡ length (entries t after)
  fill_full h =
      let e = fill_seen key t (length bs) a bs refl in
      let top : length (entries t after) ≡ length (fill_contents key t (view t bs)).contents.0 = ap (λ (r : Refilled (Below t)). length r.contents.0) e in
      let low : held_below t 0 (below t after) ≡ held_below t 0 (fill_contents key t (view t bs)).contents.1 = ap (λ (r : Refilled (Below t)). held_below t 0 r.contents.1) e in
      omega (arith, (contents_full key roomy 0 (view t bs)).done (omega arith), held_seen t 0 after)

  -- a fill that leaves the output empty found nothing in the tree
  pub fill_found_none : length (entries t after) ≡ 0 → held_in t bs ≡ 0
  fill_found_none h =
      let e = fill_seen key t (length bs) a bs refl in
      let top : length (entries t after) ≡ length (fill_contents key t (view t bs)).contents.0 = ap (λ (r : Refilled (Below t)). length r.contents.0) e in
      let low : held_below t 0 (below t after) ≡ held_below t 0 (fill_contents key t (view t bs)).contents.1 = ap (λ (r : Refilled (Below t)). held_below t 0 r.contents.1) e in
      omega (arith, contents_drain key roomy 0 (view t bs) (omega arith), held_seen t 0 after, fill_held key t bs a)

-- ---- nothing in the tree

-- a run of no length is empty
pub no_entries : (es : List ℕ) → length es ≡ 0 → es ≡ []
no_entries [] e = refl
no_entries (x ∷ es) e = absurd (omega arith)

-- nothing at the top where nothing stands in the tree
pub none_entries : (t : Tree) (bs : Buffers) → held_in t bs ≡ 0 → entries t bs ≡ []
unfolding held_in entries
none_entries exhausted bs h = refl
none_entries (buffer n c) bs h = no_entries (get_or bs n []) h
none_entries (merger n c one two) bs h = no_entries (get_or bs n []) (omega arith)

room_none : (key : ℕ → ℕ) (f g : Buffers → Filled) (n : ℕ) (one two : Tree) (room : ℕ) (bs : Buffers) → entries one bs ≡ [] → entries two bs ≡ []
    → f bs ≡ untouched bs → g bs ≡ untouched bs → fill_room key f g n one two room bs ≡ untouched bs
unfolding fill_room untouched if_empty step_and merge_step
room_none key f g n one two zero bs p q hf hg = refl
room_none key f g n one two (suc room) bs p q hf hg = rw (p, hf, q, hg, p, q)

-- with nothing in the tree a fill makes no step and no move
pub fill_none : (key : ℕ → ℕ) (t : Tree) (bs : Buffers) → held_in t bs ≡ 0 → fill key t bs ≡ untouched bs
unfolding fill held_in
fill_none key exhausted bs h = refl
fill_none key (buffer n c) bs h = refl
fill_none key (merger n c one two) bs h =
    room_none key (fill key one) (fill key two) n one two (c - length (get_or bs n [])) bs (none_entries one bs (omega arith)) (none_entries two bs (omega arith))
    (fill_none key one bs (omega arith)) (fill_none key two bs (omega arith))

-- ---- what pops and fills of the inputs keep, a run keeps

-- what holds on when a head leaves
abbrev pub Pops : {A : Type 0} → (List ℕ × A → Type 0) → Type 0
Pops {A} G = (e : ℕ) (es : List ℕ) (a : A) → G (e ∷ es, a) → G (es, a)

-- what holds on when an input is filled
abbrev pub Fills : {A : Type 0} → (List ℕ × A → Type 0) → (List ℕ × A → Refilled A) → Type 0
Fills {A} G f = (z : List ℕ × A) → G z → G (f z).contents

-- so when it is filled only where it is empty
pub refill_keeps : {A : Type 0} (G : List ℕ × A → Type 0) (f : List ℕ × A → Refilled A) → Fills G f → (es : List ℕ) (a : A) → G (es, a) → G (refill f es a).contents
unfolding refill
refill_keeps G f h [] a g = h ([], a) g
refill_keeps G f h (e ∷ es) a g = g

module _ (key : ℕ → ℕ) {A B : Type 0} (G : List ℕ × A → Type 0) (H : List ℕ × B → Type 0) (pg : Pops G) (ph : Pops H) where
  -- of both inputs
  pub record Keeps (z : Run A B) : Type 0 where
    pub one : G z.one
    pub two : H z.two

  abbrev RunKeeps : (List ℕ → List ℕ × A → List ℕ × B → Run A B) → Type 0
  RunKeeps run = (out : List ℕ) (one : List ℕ × A) (two : List ℕ × B) → G one → H two → Keeps (run out one two)

  more_keeps : (n : ℕ) {z : Run A B} → Keeps z → Keeps (more_steps n z)
  more_keeps n k = record { one = k.one; two = k.two }

  step_keeps : (rest : List ℕ → List ℕ × A → List ℕ × B → Run A B) → RunKeeps rest → (out : List ℕ) (steps : ℕ) (a : A) (b : B) {xs ys : List ℕ} {s : Step} → Stepped key xs ys s
      → G (xs, a) → H (ys, b) → Keeps (step_then rest out steps a b s)
  unfolding step_then
  step_keeps rest h out steps a b stops g i = record { one = g; two = i }
  step_keeps rest h out steps a b (from_first {e = e} {xs = xs} {ys = ys} l) g i = more_keeps (suc steps) (h (out ++ e ∷ []) (xs, a) (ys, b) (pg e xs a g) i)
  step_keeps rest h out steps a b (from_second {e = e} {xs = xs} {ys = ys} l) g i = more_keeps (suc steps) (h (out ++ e ∷ []) (xs, a) (ys, b) g (ph e ys b i))

  -- a run of merge steps keeps what pops and fills keep
  pub run_keeps : (f : List ℕ × A → Refilled A) → Fills G f → (g : List ℕ × B → Refilled B) → Fills H g → (room : ℕ) → RunKeeps (merge_into key f g room)
  unfolding merge_into
  run_keeps f hf g hg zero out one two p q = record { one = p; two = q }
  run_keeps f hf g hg (suc room) out one two p q =
      let a = refill f one.0 one.1 in
      let b = refill g two.0 two.1 in
      step_keeps (merge_into key f g room) (run_keeps f hf g hg room) out (a.steps + b.steps) a.contents.1 b.contents.1
      (stepped key a.contents.0 b.contents.0) (refill_keeps G f hf one.0 one.1 p) (refill_keeps H g hg two.0 two.1 q)

-- ---- capacities

-- no buffer of the tree has more entries than its capacity
abbrev pub Fits : Tree → Buffers → Type 0
Fits exhausted bs = Unit {0}
Fits (buffer n c) bs = length (get_or bs n []) ≤ c
Fits (merger n c one two) bs = (length (get_or bs n []) ≤ c) × Fits one bs × Fits two bs

-- the same of contents, below the top
abbrev pub FitsBelow : (t : Tree) → Below t → Type 0
FitsBelow exhausted b = Unit {0}
FitsBelow (buffer n c) b = Unit {0}
FitsBelow (merger n c one two) b =
    ((length b.0.0 ≤ top_capacity one) × FitsBelow one b.0.1) × ((length b.1.0 ≤ top_capacity two) × FitsBelow two b.1.1)

-- and of all
abbrev pub FitsIn : (t : Tree) → Contents t → Type 0
FitsIn t z = (length z.0 ≤ top_capacity t) × FitsBelow t z.1

-- capacities, seen through the tree
pub fits_seen : (t : Tree) (bs : Buffers) → Fits t bs → FitsIn t (view t bs)
unfolding entries below
fits_seen exhausted bs h = (omega arith, tt)
fits_seen (buffer n c) bs h = (h, tt)
fits_seen (merger n c one two) bs h = (h.0, (fits_seen one bs h.1, fits_seen two bs h.2))

-- and back
pub seen_fits : (t : Tree) (bs : Buffers) → FitsIn t (view t bs) → Fits t bs
unfolding entries below
seen_fits exhausted bs h = tt
seen_fits (buffer n c) bs h = h.0
seen_fits (merger n c one two) bs h = (h.0, seen_fits one bs h.1.0, seen_fits two bs h.1.1)

fits_pop : (t : Tree) → Pops (FitsIn t)
fits_pop t e es b g = (omega (arith, g.0), g.1)

-- a fill of contents keeps capacities
pub fits_fill : (key : ℕ → ℕ) {t : Tree} → Roomy t → Fills (FitsIn t) (fill_contents key t)
unfolding fill_contents
fits_fill key nothing z g = g
fits_fill key alone z g = g
fits_fill key (over {n = n} {c = c} {one = one} {two = two} some p q) z g =
    let r = run_keeps key (FitsIn one) (FitsIn two) (fits_pop one) (fits_pop two) (fill_contents key one) (fits_fill key p) (fill_contents key two) (fits_fill key q)
    (c - length z.0) z.0 z.1.0 z.1.1 g.1.0 g.1.1 in
    ((contents_full key (over {n = n} {c = c} some p q) 0 z).at_most g.0, (r.one, r.two))

-- a fill keeps every buffer within its capacity
pub fill_fits : (key : ℕ → ℕ) {t : Tree} → Roomy t → (bs : Buffers) → Among t (length bs) → Fits t bs → Fits t (fill key t bs).buffers
fill_fits key {t} roomy bs a h =
    seen_fits t (fill key t bs).buffers
    (subst (λ (r : Refilled (Below t)). FitsIn t r.contents) (sym (fill_seen key t (length bs) a bs refl)) (fits_fill key roomy (view t bs) (fits_seen t bs h)))
