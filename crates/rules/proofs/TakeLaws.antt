-- Takes: nothing is lost, every merge step is paid by an entry that rises, and entries come out in order.
use Prim.Native.Nat.{ℕ, zero, suc, ◌+◌, ◌*◌, ◌<◌}
use mathlib.Core.Path.{◌≡◌, refl, ap, ◌∙◌}
use mathlib.Core.List.{List, []}
use native.Mathlib.Omega.{arith}
use lib.ListN.{length, get_or, length-append}
use lib.Dec.{eqb}
use Rattle.rules.specs.Tree.{Buffers, Tree, exhausted, buffer, merger}
use Rattle.rules.specs.Merge.{Step}
use Rattle.rules.specs.Fill.{untouched}
use Rattle.rules.specs.Take.{insertion, held_in, ready, take_one, takes, take_all}
use Rattle.rules.proofs.Steps.{Stepped, stops, from_first, from_second, stepped}
use Rattle.rules.proofs.Numbers.{Stands, itself, output, in_first, in_second}
use Rattle.rules.proofs.Contents.{Below, Contents, view, refill, fill_contents}
use Rattle.rules.proofs.Weight.{sum_of, sum_of_append, sum_of_ones, weight_in, weight_below, weight, weight_seen, held_weight, refill_pays, contents_pay, fill_pays, one_if, times_of, times_in}
use Rattle.rules.proofs.Full.{Roomy, held_below, held_seen, refill_drains, contents_drain, no_entries}
use Rattle.rules.proofs.Takes.{Took, hand_contents, take_contents, takes_contents, Beside, ready_cases, ready_insertion, take_seen, takes_seen}

-- ---- weights over I and a tree

-- I stands at no depth
abbrev pub weight_all : (ℕ → ℕ → ℕ) → Tree → Buffers → ℕ
weight_all g t bs = sum_of (g 0) (insertion bs) + weight_in g t 0 bs

module _ (g : ℕ → ℕ → ℕ) (e : ℕ) (deeper : (d x : ℕ) → g (suc d) x ≡ g d x + e) (key : ℕ → ℕ) (t : Tree) where
  abbrev left : Took (Below t) → ℕ
  left z = sum_of (g 0) z.out + (sum_of (g 0) z.insertion + weight g t 0 z.tree) + e * z.steps

  hand_pays : {xs ys : List ℕ} {s : Step} → Stepped key xs ys s → (b : Below t) (steps : ℕ) → left (hand_contents s b steps) ≡ sum_of (g 0) ys + weight g t 0 (xs, b) + e * steps
  unfolding hand_contents
  hand_pays stops b steps = omega arith
  hand_pays (from_first l) b steps = omega arith
  hand_pays (from_second l) b steps = omega arith

  take_contents_pay : (i : List ℕ) (z : Contents t) → left (take_contents key t i z) ≡ sum_of (g 0) i + weight g t 0 z
  unfolding take_contents
  take_contents_pay i z =
      let now = refill (fill_contents key t) z.0 z.1 in
      omega (
        arith,
        hand_pays (stepped key now.contents.0 i) now.contents.1 now.steps,
        refill_pays e (g 0) (weight_below g t 0) (fill_contents key t) (contents_pay g e deeper key t 0) z.0 z.1,
      )

  takes_contents_pay : (n : ℕ) (i : List ℕ) (z : Contents t) → left (takes_contents key t n i z) ≡ sum_of (g 0) i + weight g t 0 z
  unfolding takes_contents
  takes_contents_pay zero i z = omega arith
  takes_contents_pay (suc n) i z =
      let one = take_contents key t i z in
      omega (
        arith,
        take_contents_pay i z,
        takes_contents_pay n one.insertion one.tree,
        sum_of_append (g 0) one.out (takes_contents key t n one.insertion one.tree).out,
      )

  module _ (bs : Buffers) (b : Beside t (length bs)) where
    ready_tree_pays : weight_in g t 0 (ready key t bs).buffers + e * (ready key t bs).steps ≡ weight_in g t 0 bs
    unfolding untouched
    ready_tree_pays = ready_cases key t bs (λ z. weight_in g t 0 z.buffers + e * z.steps ≡ weight_in g t 0 bs) (omega arith) (fill_pays g e deeper key t 0 bs b.among)

    -- what I and the tree weigh when A(1) was filled if need be, with e for each merge step, is what they weighed
    pub ready_pays : let z = ready key t bs in weight_all g t z.buffers + e * z.steps ≡ weight_all g t bs
    ready_pays = omega (arith, ready_tree_pays, ap (sum_of (g 0)) (ready_insertion key t (length bs) b bs refl))

    -- what the taken entries, I and the tree weigh, with e for each merge step, is what I and the tree weighed
    pub take_pays : let z = take_one key t bs in sum_of (g 0) z.out + weight_all g t z.buffers + e * z.steps ≡ weight_all g t bs
    take_pays =
        let z = take_one key t bs in
        omega (arith, ap left (take_seen key t (length bs) b bs refl), take_contents_pay (insertion bs) (view t bs), weight_seen g t 0 bs, weight_seen g t 0 z.buffers)

    -- and so for many takes
    pub takes_pay : (n : ℕ) → let z = takes key t n bs in sum_of (g 0) z.out + weight_all g t z.buffers + e * z.steps ≡ weight_all g t bs
    takes_pay n =
        let z = takes key t n bs in
        omega (arith, ap left (takes_seen key t (length bs) b n bs refl), takes_contents_pay n (insertion bs) (view t bs), weight_seen g t 0 bs, weight_seen g t 0 z.buffers)

-- ---- an entry while there is one

-- how many stand in I and in the tree
abbrev pub held_all : Tree → Buffers → ℕ
held_all t bs = length (insertion bs) + held_in t bs

module _ (key : ℕ → ℕ) {t : Tree} (roomy : Roomy t) where
  abbrev total : List ℕ → Contents t → ℕ
  total i z = length i + (length z.0 + held_below t 0 z.1)

  -- of so many, one is handed out, or none where there is none
  pub record HandsOut (before : ℕ) (z : Took (Below t)) : Type 0 where
    pub one : 0 < before → length z.out ≡ 1
    pub fewer : length z.out + total z.insertion z.tree ≡ before

  hand_one : {xs ys : List ℕ} {s : Step} → Stepped key xs ys s → (b : Below t) (steps : ℕ) → (length xs ≡ 0 → held_below t 0 b ≡ 0) → HandsOut (total ys (xs, b)) (hand_contents s b steps)
  unfolding hand_contents
  hand_one stops b steps d = record { one = λ q. absurd (omega (arith, d refl)); fewer = omega arith }
  hand_one (from_first l) b steps d = record { one = λ q. refl; fewer = omega arith }
  hand_one (from_second l) b steps d = record { one = λ q. refl; fewer = omega arith }

  take_contents_one : (i : List ℕ) (z : Contents t) → HandsOut (total i z) (take_contents key t i z)
  unfolding take_contents
  take_contents_one i z =
      let now = refill (fill_contents key t) z.0 z.1 in
      let same : total i now.contents ≡ total i z =
      omega (
        arith,
        refill_pays 0 (λ e. 1) (held_below t 0) (fill_contents key t) (contents_pay (λ d e. 1) 0 (λ d e. omega arith) key t 0) z.0 z.1,
        sum_of_ones z.0,
        sum_of_ones now.contents.0,
      ) in
      rw same at (hand_one (stepped key now.contents.0 i) now.contents.1 now.steps (refill_drains (held_below t 0) (fill_contents key t) (contents_drain key roomy 0) z.0 z.1))

  takes_contents_empty : (n : ℕ) (i : List ℕ) (z : Contents t) → total i z ≡ n → let r = takes_contents key t n i z in (total r.insertion r.tree ≡ 0) × (length r.out ≡ n)
  unfolding takes_contents
  takes_contents_empty zero i z h = (h, refl)
  takes_contents_empty (suc n) i z h =
      let one = take_contents key t i z in
      let o = take_contents_one i z in
      let l = o.one (omega arith) in
      let rest = takes_contents_empty n one.insertion one.tree (omega (arith, o.fewer)) in
      (rest.0, omega (arith, rest.1, length-append one.out (takes_contents key t n one.insertion one.tree).out))

  module _ (bs : Buffers) (b : Beside t (length bs)) where
    -- a take hands out one entry where one is held
    pub take_one_lem : 0 < held_all t bs → length (take_one key t bs).out ≡ 1
    take_one_lem h =
        ap (λ (z : Took (Below t)). length z.out) (take_seen key t (length bs) b bs refl)
        ∙ (take_contents_one (insertion bs) (view t bs)).one (rw (← held_seen t 0 bs) h)

    -- "take everything out by repeated takes": then nothing is held, and as many came out as were held
    pub take_all_empties : (held_all t (take_all key t bs).buffers ≡ 0) × (length (take_all key t bs).out ≡ held_all t bs)
    unfolding take_all
    take_all_empties =
        let n = length (insertion bs) + held_in t bs in
        let z = takes key t n bs in
        let e = takes_seen key t (length bs) b n bs refl in
        let h = takes_contents_empty n (insertion bs) (view t bs) (omega (arith, held_seen t 0 bs)) in
        (omega (arith, ap (λ (z : Took (Below t)). total z.insertion z.tree) e, h.0, held_seen t 0 z.buffers), ap (λ (z : Took (Below t)). length z.out) e ∙ h.1)

module _ (key : ℕ → ℕ) (t : Tree) (bs : Buffers) (b : Beside t (length bs)) where
  held_all_lem : (bs : Buffers) → held_all t bs ≡ weight_all (λ d e. 1) t bs
  held_all_lem bs = omega (arith, sum_of_ones (insertion bs), held_weight t 0 bs)

  -- as many fewer are held as a take has handed out
  pub take_held : length (take_one key t bs).out + held_all t (take_one key t bs).buffers ≡ held_all t bs
  take_held =
      let z = take_one key t bs in
      omega (arith, take_pays (λ d e. 1) 0 (λ d e. omega arith) key t bs b, sum_of_ones z.out, held_all_lem bs, held_all_lem z.buffers)

  -- and as many as before after a look
  pub ready_held : held_all t (ready key t bs).buffers ≡ held_all t bs
  ready_held = omega (arith, ready_pays (λ d e. 1) 0 (λ d e. omega arith) key t bs b, held_all_lem bs, held_all_lem (ready key t bs).buffers)

-- where nothing stands in a tree, each of its buffers is empty
pub none_stands : (t : Tree) (bs : Buffers) → held_in t bs ≡ 0 → {m : ℕ} → Stands m t → get_or bs m [] ≡ []
unfolding held_in
none_stands exhausted bs h {m = m} st = elim st [ ]
none_stands (buffer n c) bs h itself = no_entries (get_or bs n []) h
none_stands (merger n c one two) bs h output = no_entries (get_or bs n []) (omega arith)
none_stands (merger n c one two) bs h (in_first s) = none_stands one bs (omega arith) s
none_stands (merger n c one two) bs h (in_second s) = none_stands two bs (omega arith) s

-- ---- and weighs nothing

-- a tree with nothing in it
pub none_weighs : (g : ℕ → ℕ → ℕ) (t : Tree) (d : ℕ) (bs : Buffers) → held_in t bs ≡ 0 → weight_in g t d bs ≡ 0
unfolding weight_in held_in
none_weighs g exhausted d bs h = refl
none_weighs g (buffer n c) d bs h = ap (sum_of (g d)) (no_entries (get_or bs n []) h)
none_weighs g (merger n c one two) d bs h =
    let e : sum_of (g d) (get_or bs n []) ≡ 0 = ap (sum_of (g d)) (no_entries (get_or bs n []) (omega arith)) in
    omega (arith, none_weighs g one (suc d) bs (omega arith), none_weighs g two (suc d) bs (omega arith))

-- all that I and the tree weighed is in what repeated takes hand out, and in their steps
pub take_all_pays : (g : ℕ → ℕ → ℕ) (e : ℕ) → ((d x : ℕ) → g (suc d) x ≡ g d x + e) → (key : ℕ → ℕ) {t : Tree} → Roomy t → (bs : Buffers) → Beside t (length bs)
    → sum_of (g 0) (take_all key t bs).out + e * (take_all key t bs).steps ≡ weight_all g t bs
unfolding take_all
take_all_pays g e deeper key {t} roomy bs b =
    let n = length (insertion bs) + held_in t bs in
    let z = takes key t n bs in
    let none = (take_all_empties key roomy bs b).0 in
    let i : sum_of (g 0) (insertion z.buffers) ≡ 0 = ap (sum_of (g 0)) (no_entries (insertion z.buffers) (omega arith)) in
    omega (arith, takes_pay g e deeper key t bs b n, none_weighs g t 0 z.buffers (omega arith))

-- ---- how often a value is held

-- in I and in the tree
abbrev pub times_all : ℕ → Tree → Buffers → ℕ
times_all v t bs = times_of v (insertion bs) + times_in v t bs

module _ (key : ℕ → ℕ) (t : Tree) (bs : Buffers) (b : Beside t (length bs)) (v : ℕ) where
  -- what a take hands out is what is then held no more
  pub take_times : times_of v (take_one key t bs).out + times_all v t (take_one key t bs).buffers ≡ times_all v t bs
  take_times = omega (arith, take_pays (λ d e. one_if (eqb v e)) 0 (λ d e. omega arith) key t bs b)

  -- and so for many takes
  pub takes_times : (n : ℕ) → times_of v (takes key t n bs).out + times_all v t (takes key t n bs).buffers ≡ times_all v t bs
  takes_times n = omega (arith, takes_pay (λ d e. one_if (eqb v e)) 0 (λ d e. omega arith) key t bs b n)

  -- a look hands out nothing
  pub ready_times : times_all v t (ready key t bs).buffers ≡ times_all v t bs
  ready_times = omega (arith, ready_pays (λ d e. one_if (eqb v e)) 0 (λ d e. omega arith) key t bs b)
