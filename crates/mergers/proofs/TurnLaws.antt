-- One turn of filling: both inputs are filled where they are empty, and then a run of merge steps.
use Prim.Native.Nat.{ℕ, zero, suc, ◌+◌, ◌-◌, ◌≤◌, ◌<◌, min}
use mathlib.Core.Path.{◌≡◌, refl, sym, ap, ◌∙◌}
use mathlib.Core.Logic.{◌⊎◌, inl, inr}
use mathlib.Core.List.{List, [], ◌∷◌}
use native.Mathlib.Omega.{arith}
use native.Mathlib.Decide.{dec_lt}
use lib.ListN.{length}
use Rattle.rules.specs.Tree.{Buffers, Tree, merger, entries}
use Rattle.rules.specs.Merge.{Step, stop, move, merge_step}
use Rattle.rules.specs.Fill.{Filled, untouched, if_empty, move_up, step_and, fill_room, fill}
use Rattle.rules.specs.Take.{held_in}
use Rattle.rules.proofs.Numbers.{Among, joint, among_first, among_second}
use Rattle.rules.proofs.Full.{Roomy, fill_found_none}
use Rattle.std.proofs.lemmas.List.{nil_from_length}
use Rattle.rules.proofs.Weight.{fill_held}
use Rattle.rules.proofs.Frame.{Framed, fill_frame, if_empty_frame, view_apart}
use Rattle.rules.proofs.Contents.{Contents, below, view}
use Rattle.rules.proofs.Full.{held_seen, held_below}
use Rattle.runs.specs.Until.{until_empty}
use Rattle.runs.proofs.MergeLaws.{until_within, until_most, until_some}
use Rattle.mergers.specs.Moves.{run_length}
use Rattle.mergers.proofs.RunLaws.{runs_all, plus, filling, advanced, room_step, run_law}

-- an input, filled where it is empty
abbrev pub refilled : (ℕ → ℕ) → Tree → Buffers → Filled
refilled key t bs = if_empty (fill key t) (entries t bs) bs

-- an input has entries or nothing stands in its tree
abbrev pub Ready : Tree → Buffers → Type 0
Ready t bs = length (entries t bs) ≡ 0 → held_in t bs ≡ 0

pub ready_or : (t : Tree) (bs : Buffers) → Ready t bs → (0 < length (entries t bs)) ⊎ (held_in t bs ≡ 0)
ready_or t bs ready = go (dec_lt 0 (length (entries t bs)))
  where
    go : Dec (0 < length (entries t bs)) → (0 < length (entries t bs)) ⊎ (held_in t bs ≡ 0)
    go (yes some) = inl some
    go (no none) = inr (ready (omega arith))

module _ (key : ℕ → ℕ) {t : Tree} (roomy : Roomy t) (bs : Buffers) (among : Among t (length bs)) where
  ready_by : (es : List ℕ) → entries t bs ≡ es → Ready t (if_empty (fill key t) es bs).buffers
  unfolding if_empty untouched
  ready_by [] e none = fill_held key t bs among ∙ fill_found_none key roomy bs among none
  ready_by (x ∷ es) e none = absurd (omega (arith, ap length e))

  pub refilled_ready : Ready t (refilled key t bs).buffers
  refilled_ready = ready_by (entries t bs) refl

pub refilled_frame : (key : ℕ → ℕ) (t : Tree) → Framed t (refilled key t)
refilled_frame key t bs = if_empty_frame (fill key t) (fill_frame key t) (entries t bs) bs

-- what is seen of a tree says whether it is ready
pub ready_seen : (t : Tree) (a b : Buffers) → view t b ≡ view t a → Ready t a → Ready t b
ready_seen t a b e ready none =
    let top : length (entries t b) ≡ length (entries t a) = ap (λ (v : Contents t). length v.0) e in
    let low : held_below t 0 (below t b) ≡ held_below t 0 (below t a) = ap (λ (v : Contents t). held_below t 0 v.1) e in
    omega (arith, ready (omega arith), held_seen t 0 a, held_seen t 0 b)

steps_before : (rest : Buffers → Filled) (n : ℕ) (one two : Tree) (k : ℕ) (s : Step) (bs : Buffers) → step_and rest n one two k s bs ≡ plus k (step_and rest n one two 0 s bs)
unfolding step_and
steps_before rest n one two k stop bs = let e : k ≡ k + 0 = omega arith in λ i. record { buffers = bs; steps = e i }
steps_before rest n one two k (move x xs ys) bs =
    let after = rest (move_up n one two x xs ys bs) in
    let e : suc k + after.steps ≡ k + (1 + after.steps) = omega arith in
    λ i. record { buffers = after.buffers; steps = e i }

module _ (key : ℕ → ℕ) (n c : ℕ) (one two : Tree) (roomy_one : Roomy one) (roomy_two : Roomy two) where
  module _ (bs : Buffers) (among : Among (merger n c one two) (length bs)) where
    abbrev first : Filled
    first = refilled key one bs

    abbrev second : Filled
    second = refilled key two first.buffers

    abbrev now : Buffers
    now = second.buffers

    pub one_ready : Ready one now
    one_ready =
        ready_seen one first.buffers now (view_apart (joint among).apart (refilled_frame key two first.buffers)) (refilled_ready key roomy_one bs (among_first among))

    pub two_ready : Ready two now
    two_ready = refilled_ready key roomy_two first.buffers (rw (refilled_frame key one bs).as_many (among_second among))

    -- the inputs are filled where they are empty, and then filling goes on
    pub turn_law : (room : ℕ) → filling key n c one two (suc room) bs ≡ plus (first.steps + second.steps) (filling key n c one two (suc room) now)
    unfolding fill_room
    turn_law room =
        steps_before (filling key n c one two room) n one two (first.steps + second.steps) (merge_step key (entries one now) (entries two now)) now
        ∙ ap (plus (first.steps + second.steps)) (sym (room_step key n c one two room now (ready_or one now one_ready) (ready_or two now two_ready)))

  -- a run of steps from inputs that are ready, and then filling goes on
  pub ready_run : (room : ℕ) (bs : Buffers) → Among (merger n c one two) (length bs) → Ready one bs → Ready two bs → (m : ℕ) → m ≡ run_length key room (entries one bs) (entries two bs) → m ≤ room
      → filling key n c one two room bs ≡ plus m (filling key n c one two (room - m) (advanced key n c one two m bs))
  ready_run room bs among p q m e within =
      let split : room ≡ m + (room - m) = omega arith in
      ap (λ r. filling key n c one two r bs) split
      ∙ run_law key n c one two m (room - m) bs among refl refl (rw e (runs_all key room (entries one bs) (entries two bs) p q))

  -- with both inputs empty and nothing behind them, filling stops
  pub ready_stop : (room : ℕ) (bs : Buffers) → entries one bs ≡ [] → entries two bs ≡ [] → Ready one bs → Ready two bs → filling key n c one two room bs ≡ untouched bs
  unfolding fill_room untouched step_and merge_step
  ready_stop zero bs p q r s = refl
  ready_stop (suc room) bs p q r s = room_step key n c one two room bs (ready_or one bs r) (ready_or two bs s) ∙ rw (p, q)

-- a run within its room; no step at all only where both inputs are empty
module _ (key : ℕ → ℕ) where
  pub run_within : (room : ℕ) (xs ys : List ℕ) → run_length key room xs ys ≤ room
  unfolding run_length
  run_within room [] ys = omega arith
  run_within room (x ∷ xs) [] = omega arith
  run_within room (x ∷ xs) (y ∷ ys) = until_within key room (x ∷ xs) (y ∷ ys)

  pub run_none : (room : ℕ) (xs ys : List ℕ) → run_length key (suc room) xs ys ≡ 0 → (xs ≡ []) × (ys ≡ [])
  unfolding run_length
  run_none room [] ys e = (refl, nil_from_length ys (omega arith))
  run_none room (x ∷ xs) [] e = absurd (omega arith)
  run_none room (x ∷ xs) (y ∷ ys) e = absurd (omega (arith, until_some key (suc room) (x ∷ xs) (y ∷ ys) (omega arith) (omega arith) (omega arith)))

  -- the length of a run, by which inputs have entries
  pub run_second : (room : ℕ) (xs ys : List ℕ) → xs ≡ [] → run_length key room xs ys ≡ min room (length ys)
  unfolding run_length
  run_second room xs ys e = rw e

  pub run_first : (room : ℕ) (xs ys : List ℕ) → 0 < length xs → ys ≡ [] → run_length key room xs ys ≡ min room (length xs)
  unfolding run_length
  run_first room [] ys some e = absurd (omega arith)
  run_first room (x ∷ xs) ys some e = rw (e, run_length)

  pub run_both : (room : ℕ) (xs ys : List ℕ) → 0 < length xs → 0 < length ys → run_length key room xs ys ≡ until_empty key room xs ys
  unfolding run_length
  run_both room [] ys some others = absurd (omega arith)
  run_both room (x ∷ xs) [] some others = absurd (omega arith)
  run_both room (x ∷ xs) (y ∷ ys) some others = refl

  pub run_one : (room : ℕ) (xs : List ℕ) → run_length key room xs [] ≡ min room (length xs)
  unfolding run_length
  run_one room [] = refl
  run_one room (x ∷ xs) = refl

  pub run_most : (room : ℕ) (xs ys : List ℕ) → run_length key room xs ys ≤ length xs + length ys
  unfolding run_length
  run_most room [] ys = omega arith
  run_most room (x ∷ xs) [] = omega arith
  run_most room (x ∷ xs) (y ∷ ys) = until_most key room (x ∷ xs) (y ∷ ys)
