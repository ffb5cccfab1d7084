-- What stands in an input, and below it, never grows by fills and takes.
use Prim.Native.Nat.{ℕ, ◌+◌, ◌-◌, ◌≤◌}
use mathlib.Core.Path.{◌≡◌, refl, sym, ap, ◌∙◌}
use mathlib.Core.List.{List}
use native.Mathlib.Omega.{arith}
use lib.ListN.{length}
use Rattle.rules.specs.Tree.{Buffers, Tree, merger}
use Rattle.rules.specs.Merge.{Step, stop, move, merge_step}
use Rattle.rules.specs.Fill.{untouched, fill}
use Rattle.rules.specs.Take.{held_in, insertion, ready, take_one}
use Rattle.rules.proofs.Numbers.{Among}
use Rattle.rules.proofs.Contents.{Below, Contents, below, view, Refilled, refill, fill_contents}
use Rattle.rules.proofs.Lens.{fill_seen}
use Rattle.rules.proofs.Weight.{sum_of_ones, contents_pay}
use Rattle.rules.proofs.Full.{held_below, held_seen, Pops, Fills, refill_keeps, run_keeps}
use Rattle.rules.proofs.Takes.{Took, hand_contents, take_contents, Beside, take_seen, ready_cases}

-- u is an input of a merger of t
pub data Input (u : Tree) : Tree → Type 0 where
  the_first : {n c : ℕ} {two : Tree} → Input u (merger n c u two)
  the_second : {n c : ℕ} {one : Tree} → Input u (merger n c one u)
  within_first : {n c : ℕ} {one two : Tree} → Input u one → Input u (merger n c one two)
  within_second : {n c : ℕ} {one two : Tree} → Input u two → Input u (merger n c one two)

-- what stands in it
unfoldable pub part : {u t : Tree} → Input u t → Below t → Contents u
part the_first b = b.0
part the_second b = b.1
part (within_first s) b = part s b.0.1
part (within_second s) b = part s b.1.1

-- as the buffers show it
pub part_seen : {u t : Tree} (s : Input u t) (bs : Buffers) → part s (below t bs) ≡ view u bs
unfolding part below
part_seen the_first bs = refl
part_seen the_second bs = refl
part_seen (within_first s) bs = part_seen s bs
part_seen (within_second s) bs = part_seen s bs

-- how many stand in contents
abbrev pub held_of : (t : Tree) → Contents t → ℕ
held_of t z = length z.0 + held_below t 0 z.1

module _ (key : ℕ → ℕ) where
  fill_of : (u : Tree) (most : ℕ) → Fills (λ z. held_of u z ≤ most) (fill_contents key u)
  fill_of u most z h =
      let r = fill_contents key u z in
      omega (arith, contents_pay (λ d e. 1) 0 (λ d e. omega arith) key u 0 z, sum_of_ones z.0, sum_of_ones r.contents.0)

  pop_of : (u : Tree) (most : ℕ) → Pops (λ (z : Contents u). held_of u z ≤ most)
  pop_of u most e es b h = omega arith

  fill_input : {u t : Tree} (s : Input u t) (most : ℕ) (z : Contents t) → held_of u (part s z.1) ≤ most → held_of u (part s (fill_contents key t z).contents.1) ≤ most
  unfolding fill_contents part
  fill_input {u} (the_first {c = c} {two = two}) most z h =
      (run_keeps key (λ y. held_of u y ≤ most) (λ (y : Contents two). Unit {0}) (pop_of u most) (λ e es b t. tt) (fill_contents key u) (fill_of u most) (fill_contents key two) (λ y t. tt)
      (c - length z.0) z.0 z.1.0 z.1.1 h tt).one
  fill_input {u} (the_second {c = c} {one = one}) most z h =
      (run_keeps key (λ (y : Contents one). Unit {0}) (λ y. held_of u y ≤ most) (λ e es b t. tt) (pop_of u most) (fill_contents key one) (λ y t. tt) (fill_contents key u) (fill_of u most)
      (c - length z.0) z.0 z.1.0 z.1.1 tt h).two
  fill_input {u} (within_first {c = c} {one = one} {two = two} s) most z h =
      (run_keeps key (λ (y : Contents one). held_of u (part s y.1) ≤ most) (λ (y : Contents two). Unit {0}) (λ e es b q. q) (λ e es b t. tt)
      (fill_contents key one) (fill_input s most) (fill_contents key two) (λ y t. tt)
      (c - length z.0) z.0 z.1.0 z.1.1 h tt).one
  fill_input {u} (within_second {c = c} {one = one} {two = two} s) most z h =
      (run_keeps key (λ (y : Contents one). Unit {0}) (λ (y : Contents two). held_of u (part s y.1) ≤ most) (λ e es b t. tt) (λ e es b q. q)
      (fill_contents key one) (λ y t. tt) (fill_contents key two) (fill_input s most)
      (c - length z.0) z.0 z.1.0 z.1.1 tt h).two

  -- a take lets go of the top alone
  hand_below : {A : Type 0} (s : Step) (a : A) (steps : ℕ) → (hand_contents s a steps).tree.1 ≡ a
  unfolding hand_contents
  hand_below stop a steps = refl
  hand_below (move e xs ys) a steps = refl

  take_input : {u t : Tree} (s : Input u t) (most : ℕ) (i : List ℕ) (z : Contents t) → held_of u (part s z.1) ≤ most → held_of u (part s (take_contents key t i z).tree.1) ≤ most
  unfolding take_contents
  take_input {u} {t} s most i z h =
      let now = refill (fill_contents key t) z.0 z.1 in
      rw (hand_below (merge_step key now.contents.0 i) now.contents.1 now.steps)
      (refill_keeps (λ (y : Contents t). held_of u (part s y.1) ≤ most) (fill_contents key t) (fill_input s most) z.0 z.1 h)

  module _ {u t : Tree} (s : Input u t) (bs : Buffers) where
    held_part : held_in u bs ≡ held_of u (part s (below t bs))
    held_part = held_seen u 0 bs ∙ ap (held_of u) (sym (part_seen s bs))

  -- no fill makes what stands in an input more
  pub fill_fewer : {u t : Tree} → Input u t → (bs : Buffers) → Among t (length bs) → held_in u (fill key t bs).buffers ≤ held_in u bs
  fill_fewer {u} {t} s bs a =
      let e = ap (λ (r : Refilled (Below t)). held_of u (part s r.contents.1)) (fill_seen key t (length bs) a bs refl) in
      omega (arith, e, held_part s bs, held_part s (fill key t bs).buffers, fill_input s (held_in u bs) (view t bs) (omega (arith, held_part s bs)))

  -- nor does a fill that is made only where A(1) is empty
  pub ready_fewer : {u t : Tree} → Input u t → (bs : Buffers) → Among t (length bs) → held_in u (ready key t bs).buffers ≤ held_in u bs
  unfolding untouched
  ready_fewer {u} {t} s bs a = ready_cases key t bs (λ z. held_in u z.buffers ≤ held_in u bs) (omega arith) (fill_fewer s bs a)

  -- nor does a take
  pub take_fewer : {u t : Tree} → Input u t → (bs : Buffers) → Beside t (length bs) → held_in u (take_one key t bs).buffers ≤ held_in u bs
  take_fewer {u} {t} s bs b =
      let e = ap (λ (r : Took (Below t)). held_of u (part s r.tree.1)) (take_seen key t (length bs) b bs refl) in
      omega (arith, e, held_part s bs, held_part s (take_one key t bs).buffers, take_input s (held_in u bs) (insertion bs) (view t bs) (omega (arith, held_part s bs)))
