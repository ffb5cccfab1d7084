-- A run of merge steps taken together is what the rules do step by step.
use Prim.Native.Nat.{ℕ, zero, suc, ◌+◌, ◌≤◌, ◌<◌, min}
use mathlib.Core.Path.{◌≡◌, refl, sym, ap, ◌∙◌}
use mathlib.Core.Logic.{◌⊎◌, inl, inr, ⊎_elim}
use mathlib.Core.Bool.{Bool, true, false}
use mathlib.Core.List.{List, [], ◌∷◌, ◌++◌, append_assoc, append-nil}
use native.Mathlib.Omega.{arith}
use native.Mathlib.Nat.{zero-add, suc-add}
use lib.Dec.{leb}
use lib.ListN.{length, get_or, set, length-set}
use lib.Seq.{set-set, set_comm, set-get_or, get_or-set_same}
use Rattle.rules.specs.Tree.{Buffers, Tree, exhausted, buffer, merger, entries, put}
use Rattle.rules.specs.Merge.{Step, stop, move, merge_step, merged}
use Rattle.rules.specs.Fill.{Filled, untouched, if_empty, move_up, step_and, fill_room, fill}
use Rattle.rules.specs.Take.{held_in}
use Rattle.rules.proofs.Numbers.{itself, output, Outside, Apart, apart_back, Among, joint, among_first, among_second}
use Rattle.rules.proofs.Full.{held_below, held_seen, fill_none, none_entries}
use Rattle.rules.proofs.Frame.{frame_put, view_apart, view_set}
use Rattle.rules.proofs.Contents.{Contents, below, view}
use Rattle.rules.proofs.Lens.{CanHold, can_hold, can_hold_rest, view_put}
use Rattle.rules.proofs.Steps.{Stepped, stops, from_first, from_second, stepped}
use Rattle.runs.specs.Until.{until_empty}
use Rattle.runs.proofs.MergeLaws.{merged_suc}
use Rattle.mergers.specs.Moves.{run_length}

-- ---- stores at the tops of trees

pub put_put : (t : Tree) (xs ys : List ℕ) (bs : Buffers) → put t xs (put t ys bs) ≡ put t xs bs
unfolding put
put_put exhausted xs ys bs = refl
put_put (buffer n c) xs ys bs = set-set bs n ys xs
put_put (merger n c one two) xs ys bs = set-set bs n ys xs

pub put_set : (t : Tree) (n : ℕ) → Outside n t → (xs es : List ℕ) (bs : Buffers) → set (put t xs bs) n es ≡ put t xs (set bs n es)
unfolding put
put_set exhausted n out xs es bs = refl
put_set (buffer m c) n out xs es bs = set_comm bs m n xs es (λ e. out (rw e itself))
put_set (merger m c one two) n out xs es bs = set_comm bs m n xs es (λ e. out (rw e output))

pub put_comm : (t u : Tree) → Apart t u → (xs ys : List ℕ) (bs : Buffers) → put t xs (put u ys bs) ≡ put u ys (put t xs bs)
unfolding put
put_comm t exhausted apart xs ys bs = refl
put_comm t (buffer m c) apart xs ys bs = sym (put_set t m (λ s. apart m s itself) xs ys bs)
put_comm t (merger m c one two) apart xs ys bs = sym (put_set t m (λ s. apart m s output) xs ys bs)

pub length_put : (t : Tree) (es : List ℕ) (bs : Buffers) → length (put t es bs) ≡ length bs
unfolding put
length_put exhausted es bs = refl
length_put (buffer n c) es bs = length-set bs n es
length_put (merger n c one two) es bs = length-set bs n es

pub put_entries : (t : Tree) (bs : Buffers) → put t (entries t bs) bs ≡ bs
unfolding put entries
put_entries exhausted bs = refl
put_entries (buffer n c) bs = set-get_or bs n []
put_entries (merger n c one two) bs = set-get_or bs n []

-- ---- runs of steps

-- so many steps can be made from these runs; an empty one has nothing behind it
pub data Runs (key : ℕ → ℕ) (NoneInOne NoneInTwo : Type 0) : ℕ → List ℕ → List ℕ → Type 0 where
  ends : {xs ys : List ℕ} → Runs key NoneInOne NoneInTwo zero xs ys
  goes : {m e : ℕ} {xs ys xs' ys' : List ℕ} → (0 < length xs) ⊎ NoneInOne → (0 < length ys) ⊎ NoneInTwo → merge_step key xs ys ≡ move e xs' ys'
      → Runs key NoneInOne NoneInTwo m xs' ys' → Runs key NoneInOne NoneInTwo (suc m) xs ys

module _ (key : ℕ → ℕ) {I J : Type 0} where
  runs_both : (room : ℕ) (xs ys : List ℕ) → Runs key I J (until_empty key room xs ys) xs ys
  unfolding until_empty merge_step
  runs_both zero xs ys = ends
  runs_both (suc room) [] ys = ends
  runs_both (suc room) (x ∷ xs) [] = ends
  runs_both (suc room) (x ∷ xs) (y ∷ ys) = go (runs_both room xs (y ∷ ys)) (runs_both room (x ∷ xs) ys) (leb (key x) (key y)) refl
    where
      some_x : 0 < length (x ∷ xs)
      some_x = omega arith

      some_y : 0 < length (y ∷ ys)
      some_y = omega arith

      go : Runs key I J (until_empty key room xs (y ∷ ys)) xs (y ∷ ys) → Runs key I J (until_empty key room (x ∷ xs) ys) (x ∷ xs) ys → (b : Bool) → leb (key x) (key y) ≡ b
          → Runs key I J (elim b [ true ↦ suc (until_empty key room xs (y ∷ ys)) | false ↦ suc (until_empty key room (x ∷ xs) ys) ]) (x ∷ xs) (y ∷ ys)
      go one two true e = let q : merge_step key (x ∷ xs) (y ∷ ys) ≡ move x xs (y ∷ ys) = rw (e, merge_step) in goes (inl some_x) (inl some_y) q one
      go one two false e = let q : merge_step key (x ∷ xs) (y ∷ ys) ≡ move y (x ∷ xs) ys = rw (e, merge_step) in goes (inl some_x) (inl some_y) q two

  runs_one : J → (m : ℕ) (xs : List ℕ) → m ≤ length xs → Runs key I J m xs []
  unfolding merge_step
  runs_one none zero xs h = ends
  runs_one none (suc m) [] h = absurd (omega arith)
  runs_one none (suc m) (x ∷ xs) h = let some : 0 < length (x ∷ xs) = omega arith in goes (inl some) (inr none) refl (runs_one none m xs (omega arith))

  runs_two : I → (m : ℕ) (ys : List ℕ) → m ≤ length ys → Runs key I J m [] ys
  unfolding merge_step
  runs_two none zero ys h = ends
  runs_two none (suc m) [] h = absurd (omega arith)
  runs_two none (suc m) (y ∷ ys) h = let some : 0 < length (y ∷ ys) = omega arith in goes (inr none) (inl some) refl (runs_two none m ys (omega arith))

  pub runs_all : (room : ℕ) (xs ys : List ℕ) → (length xs ≡ 0 → I) → (length ys ≡ 0 → J) → Runs key I J (run_length key room xs ys) xs ys
  unfolding run_length
  runs_all room [] ys p q = runs_two (p refl) (min room (length ys)) ys (omega arith)
  runs_all room (x ∷ xs) [] p q = runs_one (q refl) (min room (length (x ∷ xs))) (x ∷ xs) (omega arith)
  runs_all room (x ∷ xs) (y ∷ ys) p q = runs_both room (x ∷ xs) (y ∷ ys)

  pub runs_imply : {I' J' : Type 0} → (I → I') → (J → J') → {m : ℕ} {xs ys : List ℕ} → Runs key I J m xs ys → Runs key I' J' m xs ys
  runs_imply f g ends = ends
  runs_imply f g (goes a b e r) = goes (⊎_elim (λ x. inl x) (λ x. inr (f x)) a) (⊎_elim (λ x. inl x) (λ x. inr (g x)) b) e (runs_imply f g r)

-- the first of some steps
record NextStep (key : ℕ → ℕ) (I J : Type 0) (m : ℕ) (xs ys : List ℕ) : Type 0 where
  e : ℕ
  xs' : List ℕ
  ys' : List ℕ
  one_ready : (0 < length xs) ⊎ I
  two_ready : (0 < length ys) ⊎ J
  step : merge_step key xs ys ≡ move e xs' ys'
  rest : Runs key I J m xs' ys'

next_step : {key : ℕ → ℕ} {I J : Type 0} {m : ℕ} {xs ys : List ℕ} → Runs key I J (suc m) xs ys → NextStep key I J m xs ys
next_step (goes {e = e} {xs' = xs'} {ys' = ys'} a b step rest) = record { e = e; xs' = xs'; ys' = ys'; one_ready = a; two_ready = b; step = step; rest = rest }

-- more steps before
abbrev pub plus : ℕ → Filled → Filled
plus m z = record { buffers = z.buffers; steps = m + z.steps }

filled_already : (f : Buffers → Filled) (es : List ℕ) (bs : Buffers) → 0 < length es → if_empty f es bs ≡ untouched bs
unfolding if_empty
filled_already f [] bs h = absurd (omega arith)
filled_already f (e ∷ es) bs h = refl

-- an input that has entries, or has none in its whole tree, is not changed by filling where it is empty
pub skips : (key : ℕ → ℕ) (t : Tree) (bs : Buffers) → (0 < length (entries t bs)) ⊎ (held_in t bs ≡ 0) → if_empty (fill key t) (entries t bs) bs ≡ untouched bs
unfolding if_empty
skips key t bs (inl some) = filled_already (fill key t) (entries t bs) bs some
skips key t bs (inr none) = rw (none_entries t bs none) (fill_none key t bs none)

-- a step leaves no more in either run
abbrev pub Shorter : List ℕ → List ℕ → Step → Type 0
Shorter xs ys stop = Unit {0}
Shorter xs ys (move e xs' ys') = (length xs' ≤ length xs) × (length ys' ≤ length ys)

pub shorter : (key : ℕ → ℕ) {xs ys : List ℕ} {s : Step} → Stepped key xs ys s → Shorter xs ys s
shorter key stops = tt
shorter key (from_first low) = omega arith
shorter key (from_second low) = omega arith

-- an input can hold what a step leaves of it
abbrev Holds : Tree → Tree → Step → Type 0
Holds one two stop = Unit {0}
Holds one two (move e xs' ys') = CanHold one xs' × CanHold two ys'

holds : (key : ℕ → ℕ) (one two : Tree) (bs : Buffers) {xs ys : List ℕ} → entries one bs ≡ xs → entries two bs ≡ ys → {s : Step} → Stepped key xs ys s → Holds one two s
holds key one two bs p q stops = tt
holds key one two bs p q (from_first low) = (can_hold_rest one bs p, can_hold two bs q)
holds key one two bs p q (from_second low) = (can_hold one bs p, can_hold_rest two bs q)

-- ---- the output and the two inputs stored anew

module _ (n : ℕ) (one two : Tree) where
  unfoldable pub stored : List ℕ → List ℕ → List ℕ → Buffers → Buffers
  unfolding put
  stored out xs ys bs = put two ys (put one xs (set bs n out))

module _ (n c : ℕ) (one two : Tree) (bs : Buffers) (among : Among (merger n c one two) (length bs)) (out xs ys : List ℕ) where
  pub stored_many : length (stored n one two out xs ys bs) ≡ length bs
  unfolding stored
  stored_many = length_put two ys (put one xs (set bs n out)) ∙ length_put one xs (set bs n out) ∙ length-set bs n out

  pub stored_out : get_or (stored n one two out xs ys bs) n [] ≡ out
  unfolding stored
  stored_out =
      (frame_put two ys (put one xs (set bs n out))).same n (joint among).out_two ∙ (frame_put one xs (set bs n out)).same n (joint among).out_one
      ∙ get_or-set_same bs n out [] (among.less n output)

  pub stored_one : CanHold one xs → view one (stored n one two out xs ys bs) ≡ (xs, below one bs)
  unfolding stored
  stored_one hold =
      view_apart (joint among).apart (frame_put two ys (put one xs (set bs n out))) ∙ view_put one (set bs n out) (rw (length-set bs n out) (among_first among)) xs hold
      ∙ ap (λ (v : Contents one). (xs, v.1)) (view_set one n (joint among).out_one out bs)

  pub stored_two : CanHold two ys → view two (stored n one two out xs ys bs) ≡ (ys, below two bs)
  unfolding stored
  stored_two hold =
      let many : length (put one xs (set bs n out)) ≡ length bs = length_put one xs (set bs n out) ∙ length-set bs n out in
      view_put two (put one xs (set bs n out)) (rw many (among_second among)) ys hold
      ∙ ap (λ (v : Contents two). (ys, v.1)) (view_apart (apart_back (joint among).apart) (frame_put one xs (set bs n out)) ∙ view_set two n (joint among).out_two out bs)

  -- what is stored last stands
  pub stored_again : (out' xs' ys' : List ℕ) → stored n one two out' xs' ys' (stored n one two out xs ys bs) ≡ stored n one two out' xs' ys' bs
  unfolding stored
  stored_again out' xs' ys' =
      let a = put one xs (set bs n out) in
      ap (λ b. put two ys' (put one xs' b)) (put_set two n (joint among).out_two ys out' a ∙ ap (put two ys) (put_set one n (joint among).out_one xs out' (set bs n out) ∙ ap (put one xs) (set-set bs n out out')))
      ∙ ap (put two ys') (put_comm one two (joint among).apart xs' ys (put one xs (set bs n out')) ∙ ap (put two ys) (put_put one xs' xs (set bs n out')))
      ∙ put_put two ys' ys (put one xs' (set bs n out'))

-- an input has no more in its tree after its top has become shorter
pub held_less : (t : Tree) (a b : Buffers) (es : List ℕ) → view t b ≡ (es, below t a) → length es ≤ length (entries t a) → held_in t b ≤ held_in t a
held_less t a b es e h =
    let top : length (entries t b) ≡ length es = ap (λ (v : Contents t). length v.0) e in
    let low : held_below t 0 (below t b) ≡ held_below t 0 (below t a) = ap (λ (v : Contents t). held_below t 0 v.1) e in
    omega (arith, held_seen t 0 a, held_seen t 0 b)

module _ (key : ℕ → ℕ) (n c : ℕ) (one two : Tree) where
  -- the rules' filling with room for so many
  abbrev pub filling : ℕ → Buffers → Filled
  filling room bs = fill_room key (fill key one) (fill key two) n one two room bs

  -- m merge steps made at once
  unfoldable pub advanced : ℕ → Buffers → Buffers
  unfolding stored merged entries
  advanced m bs =
      let z = merged key m (entries one bs) (entries two bs) in
      stored n one two (get_or bs n [] ++ z.out) z.one z.two bs

  pub room_step : (room : ℕ) (bs : Buffers) → (0 < length (entries one bs)) ⊎ (held_in one bs ≡ 0) → (0 < length (entries two bs)) ⊎ (held_in two bs ≡ 0)
      → filling (suc room) bs ≡ step_and (filling room) n one two 0 (merge_step key (entries one bs) (entries two bs)) bs
  unfolding fill_room untouched
  room_step room bs p q = rw (skips key one bs p, skips key two bs q)

  module _ (bs : Buffers) (among : Among (merger n c one two) (length bs)) where
    pub none_advanced : advanced 0 bs ≡ bs
    unfolding advanced stored merged
    none_advanced =
        rw append-nil
        (ap (λ b. put two (entries two bs) (put one (entries one bs) b)) (set-get_or bs n []) ∙ ap (put two (entries two bs)) (put_entries one bs) ∙ put_entries two bs)

    -- one step, and the others after it
    step_advanced : (m e : ℕ) (xs ys : List ℕ) → CanHold one xs → CanHold two ys → merge_step key (entries one bs) (entries two bs) ≡ move e xs ys
        → advanced (suc m) bs ≡ advanced m (move_up n one two e xs ys bs)
    unfolding advanced stored move_up
    step_advanced m e xs ys hold_one hold_two q =
        let up = stored n one two (get_or bs n [] ++ e ∷ []) xs ys bs in
        let o = stored_out n c one two bs among (get_or bs n [] ++ e ∷ []) xs ys in
        let p₁ : entries one up ≡ xs = ap (λ (v : Contents one). v.0) (stored_one n c one two bs among (get_or bs n [] ++ e ∷ []) xs ys hold_one) in
        let p₂ : entries two up ≡ ys = ap (λ (v : Contents two). v.0) (stored_two n c one two bs among (get_or bs n [] ++ e ∷ []) xs ys hold_two) in
        let z = merged key m xs ys in
        let first : advanced (suc m) bs ≡ stored n one two (get_or bs n [] ++ (e ∷ z.out)) z.one z.two bs = rw (merged_suc key m (entries one bs) (entries two bs), q) in
        let then : advanced m up ≡ stored n one two ((get_or bs n [] ++ e ∷ []) ++ z.out) z.one z.two up = rw (p₁, p₂, o) in
        first ∙ rw (← append_assoc (get_or bs n []) (e ∷ []) z.out) (sym (then ∙ stored_again n c one two bs among (get_or bs n [] ++ e ∷ []) xs ys ((get_or bs n [] ++ e ∷ []) ++ z.out) z.one z.two))

  -- a run of steps, and then going on, is going on from the start
  pub run_law : (m room : ℕ) (bs : Buffers) → Among (merger n c one two) (length bs) → {xs ys : List ℕ} → entries one bs ≡ xs → entries two bs ≡ ys
      → Runs key (held_in one bs ≡ 0) (held_in two bs ≡ 0) m xs ys → filling (m + room) bs ≡ plus m (filling room (advanced m bs))
  unfolding step_and move_up stored
  run_law zero room bs among p q runs =
      rw (zero-add room, none_advanced bs among, zero-add)
  run_law (suc m) room bs among {xs} {ys} p q runs =
      let z = next_step runs in
      let e = z.e in
      let xs' = z.xs' in
      let ys' = z.ys' in
      let step = z.step in
      let here : merge_step key (entries one bs) (entries two bs) ≡ move e xs' ys' = rw (p, q) step in
      let fit : Holds one two (move e xs' ys') = rw step at (holds key one two bs p q (stepped key xs ys)) in
      let less : Shorter xs ys (move e xs' ys') = rw step at (shorter key (stepped key xs ys)) in
      let up = stored n one two (get_or bs n [] ++ e ∷ []) xs' ys' bs in
      let v₁ = stored_one n c one two bs among (get_or bs n [] ++ e ∷ []) xs' ys' fit.0 in
      let v₂ = stored_two n c one two bs among (get_or bs n [] ++ e ∷ []) xs' ys' fit.1 in
      let among' : Among (merger n c one two) (length up) = rw (stored_many n c one two bs among (get_or bs n [] ++ e ∷ []) xs' ys') among in
      let h₁ = held_less one bs up xs' v₁ (rw p less.0) in
      let h₂ = held_less two bs up ys' v₂ (rw q less.1) in
      let further = run_law m room up among' (ap (λ (v : Contents one). v.0) v₁) (ap (λ (v : Contents two). v.0) v₂) (runs_imply key (λ none. omega arith) (λ none. omega arith) z.rest) in
      let after = filling room (advanced m up) in
      let counts : 1 + (m + after.steps) ≡ suc m + after.steps = omega arith in
      rw (suc-add m room, room_step (m + room) bs (rw p z.one_ready) (rw q z.two_ready), here, further, step_advanced bs among m e xs' ys' fit.0 fit.1 here)
      (λ i. record { buffers = after.buffers; steps = counts i })
