-- Marks where none stands, over fewer links, and after a sweep: its path has none, links before its own have nothing below their outputs, and all else is as it was.
use Prim.Native.Nat.{ℕ, zero, suc, ◌+◌, ◌≤◌, ◌<◌}
use mathlib.Core.Path.{◌≡◌, subst}
use mathlib.Core.Logic.{◌≢◌}
use mathlib.Core.List.{List, [], ◌∷◌, ◌++◌}
use native.Mathlib.Omega.{arith}
use lib.ListN.{length, get_or, take}
use Rattle.rules.specs.Tree.{Buffers, Tree, exhausted, buffer, merger, k_merger, links_from}
use Rattle.rules.specs.Take.{held_in}
use Rattle.rules.specs.Sweep.{outputs}
use Rattle.rules.proofs.Numbers.{Stands, itself, output, in_first, in_second, Among, joint, among_first, among_second}
use Rattle.rules.proofs.Paths.{Way, end, by_first, by_second}
use Rattle.rules.proofs.PathCounts.{NotOn, not_on_way}
use Rattle.rules.proofs.PackLaws.{stands_none}
use Rattle.buffers.specs.Format.{mark_of, buffers_of}
use Rattle.mergers.specs.Fills.{MarksRight}
use Rattle.mergers.proofs.FillLaws.{marks_less}

-- where no mark stands, all are right
pub unmarked : (ws : List ℕ) (t : Tree) → ((m : ℕ) → Stands m t → mark_of ws m ≡ 0) → MarksRight ws t
unmarked ws exhausted h = tt
unmarked ws (buffer n c) h = λ e. absurd (omega (arith, h n itself))
unmarked ws (merger n c one two) h = (λ e. absurd (omega (arith, h n output)), unmarked ws one (λ m s. h m (in_first s)), unmarked ws two (λ m s. h m (in_second s)))

-- ---- fewer links

held_fewer : (p a n : ℕ) (bs : Buffers) → held_in (links_from a p) bs ≤ held_in (links_from a (p + n)) bs
unfolding links_from held_in
held_fewer zero a n bs = omega arith
held_fewer (suc p) a n bs = let e : suc p + n ≡ suc (p + n) = omega arith in rw e (omega (arith, held_fewer p (suc a) n bs))

-- a mark that is right over more links is right over the first of them
pub marks_fewer : (p a n : ℕ) (ws : List ℕ) → MarksRight ws (links_from a (p + n)) → MarksRight ws (links_from a p)
unfolding links_from held_in
marks_fewer zero a n ws r = tt
marks_fewer (suc p) a n ws r =
    let e : suc p + n ≡ suc (p + n) = omega arith in
    let s : MarksRight ws (links_from a (suc (p + n))) = rw e at r in
    (λ m. omega (arith, s.0 m, held_fewer p (suc a) n (buffers_of ws)), s.1, marks_fewer p (suc a) n ws s.2)

-- and over those behind them
pub marks_behind : (p a n : ℕ) (ws : List ℕ) → MarksRight ws (links_from a (p + n)) → MarksRight ws (links_from (a + p) n)
unfolding links_from
marks_behind zero a n ws r = let e : a + 0 ≡ a = omega arith in let z : 0 + n ≡ n = omega arith in rw e (rw z at r)
marks_behind (suc p) a n ws r =
    let e : suc p + n ≡ suc (p + n) = omega arith in
    let f : a + suc p ≡ suc a + p = omega arith in
    let s : MarksRight ws (links_from a (suc (p + n))) = rw e at r in
    rw f (marks_behind p (suc a) n ws s.2)

-- ---- nothing there

pub marks_none : (t : Tree) (ws : List ℕ) → ((m : ℕ) → Stands m t → get_or (buffers_of ws) m [] ≡ []) → MarksRight ws t
marks_none exhausted ws none = tt
marks_none (buffer n c) ws none = λ e. stands_none (buffer n c) (buffers_of ws) none
marks_none (merger n c one two) ws none = (λ e. stands_none (merger n c one two) (buffers_of ws) none, marks_none one ws (λ m s. none m (in_first s)), marks_none two ws (λ m s. none m (in_second s)))

-- ---- along a path

-- every number of a list
abbrev pub AllOf : (ℕ → Type 0) → List ℕ → Type 0
AllOf P [] = Unit {0}
AllOf P (n ∷ ns) = P n × AllOf P ns

pub all_taken : (P : ℕ → Type 0) (r : ℕ) (ns : List ℕ) → r ≤ length ns → ((t : ℕ) → t < r → P (get_or ns t 0)) → AllOf P (take r ns)
all_taken P zero ns few h = tt
all_taken P (suc r) [] few h = absurd (omega arith)
all_taken P (suc r) (n ∷ ns) few h = (h 0 (omega arith), all_taken P r ns (omega arith) (λ t less. h (suc t) (omega arith)))

pub all_first : (P : ℕ → Type 0) (xs ys : List ℕ) → AllOf P (xs ++ ys) → AllOf P xs
all_first P [] ys h = tt
all_first P (x ∷ xs) ys h = (h.0, all_first P xs ys h.1)

pub all_second : (P : ℕ → Type 0) (xs ys : List ℕ) → AllOf P (xs ++ ys) → AllOf P ys
all_second P [] ys h = h
all_second P (x ∷ xs) ys h = all_second P xs ys h.1

pub not_on_taken : (m r : ℕ) (ns : List ℕ) → r ≤ length ns → NotOn m (take r ns) → (t : ℕ) → t < r → m ≢ get_or ns t 0
not_on_taken m zero ns few off t less = absurd (omega arith)
not_on_taken m (suc r) [] few off t less = absurd (omega arith)
not_on_taken m (suc r) (n ∷ ns) few off zero less = off.0
not_on_taken m (suc r) (n ∷ ns) few off (suc t) less = not_on_taken m r ns (omega arith) off.1 t (omega arith)

pub not_on_second : (m : ℕ) (xs ys : List ℕ) → NotOn m (xs ++ ys) → NotOn m ys
not_on_second m [] ys off = off
not_on_second m (x ∷ xs) ys off = not_on_second m xs ys off.1

module _ (ws ws' : List ℕ) where
  abbrev pub Clear : List ℕ → Type 0
  Clear ns = AllOf (λ m. mark_of ws' m ≡ 0) ns

  -- a buffer's mark is as it was, and it has no more entries
  abbrev pub AsBefore : ℕ → Type 0
  AsBefore m = (mark_of ws' m ≡ mark_of ws m) × (length (get_or (buffers_of ws') m []) ≤ length (get_or (buffers_of ws) m []))

  -- the path of a tree is cleared, and its other buffers are as they were
  pub marks_way : {t : Tree} {n count : ℕ} {ns : List ℕ} → Way t n ns → Among t count → Clear (n ∷ ns) → ((m : ℕ) → Stands m t → NotOn m (n ∷ ns) → AsBefore m) → MarksRight ws t → MarksRight ws' t
  marks_way end among clear same r = λ e. absurd (omega (arith, clear.0))
  marks_way (by_first {n = n} {m = m} {one = one} {two = two} {ns = ns} w) among clear same r =
      let j = joint among in
      let off : (y : ℕ) → Stands y two → NotOn y (n ∷ m ∷ ns) = λ y s. (λ e. j.out_two (subst (λ z. Stands z two) e s), not_on_way w y (λ o. j.apart y o s)) in (
        λ e. absurd (omega (arith, clear.0)),
        marks_way w (among_first among) clear.1 (λ y s o. same y (in_first s) (λ e. j.out_one (subst (λ z. Stands z one) e s), o)) r.1,
        marks_less two ws ws' (λ y s. (same y (in_second s) (off y s)).0) (λ y s. (same y (in_second s) (off y s)).1) r.2,
      )
  marks_way (by_second {n = n} {m = m} {one = one} {two = two} {ns = ns} w) among clear same r =
      let j = joint among in
      let off : (y : ℕ) → Stands y one → NotOn y (n ∷ m ∷ ns) = λ y s. (λ e. j.out_one (subst (λ z. Stands z one) e s), not_on_way w y (λ o. j.apart y s o)) in (
        λ e. absurd (omega (arith, clear.0)),
        marks_less one ws ws' (λ y s. (same y (in_first s) (off y s)).0) (λ y s. (same y (in_first s) (off y s)).1) r.1,
        marks_way w (among_second among) clear.1 (λ y s o. same y (in_second s) (λ e. j.out_two (subst (λ z. Stands z two) e s), o)) r.2,
      )

  -- and so are the outputs of the links before it, which have nothing below them
  pub marks_through : (p a n : ℕ) → 0 < a → Clear (outputs a p) → ((b : ℕ) → a ≤ b → b < a + p → (m : ℕ) → Stands m (k_merger b) → get_or (buffers_of ws') m [] ≡ []) → MarksRight ws' (links_from (a + p) n) → MarksRight ws' (links_from a (p + n))
  unfolding links_from outputs
  marks_through zero a n some clear none r = let e : a + 0 ≡ a = omega arith in let z : 0 + n ≡ n = omega arith in rw z (rw e at r)
  marks_through (suc p) a n some clear none r =
      let e : suc p + n ≡ suc (p + n) = omega arith in
      let f : a + suc p ≡ suc a + p = omega arith in
      rw e (
        λ m. absurd (omega (arith, clear.0)),
        marks_none (k_merger a) ws' (none a (omega arith) (omega arith)),
        marks_through p (suc a) n (omega arith) clear.1 (λ b low high. none b (omega arith) (omega arith)) (rw f at r),
      )
