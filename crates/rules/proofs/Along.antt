-- Links one behind the other, and what stands along a sweep's path: what it weighs, what it owes, what is below its outputs.
use Prim.Native.Nat.{ℕ, zero, suc, ◌+◌, ◌*◌, ◌≤◌, ◌<◌}
use mathlib.Core.Path.{◌≡◌, refl, sym, ap, ◌∙◌}
use mathlib.Core.Logic.{◌≢◌}
use mathlib.Core.List.{List, [], ◌∷◌, ◌++◌}
use native.Mathlib.Omega.{arith}
use lib.ListN.{length, get_or, length-append}
use Rattle.rules.specs.Links.{first, sum}
use Rattle.rules.specs.Tree.{Buffers, Tree, entries, k_merger, links_from}
use Rattle.rules.specs.Take.{held_in}
use Rattle.rules.specs.Sweep.{outputs, counts, run_along}
use Rattle.rules.proofs.Contents.{below, view}
use Rattle.rules.proofs.Weight.{sum_of, sum_of_append, weight_in}
use Rattle.rules.proofs.Sizes.{by_leb, first_mono}
use Rattle.rules.proofs.Paths.{Way, end, by_first, by_second}
use Rattle.rules.proofs.PathCounts.{NotOn}
use Rattle.rules.proofs.LayLaws.{owed_on}

-- ---- links one behind the other

-- what so many links weigh, and so many more behind them
pub links_weight_lem : (g : ℕ → ℕ → ℕ) (p a n d : ℕ) (bs : Buffers) → weight_in g (links_from a (p + n)) d bs ≡ weight_in g (links_from a p) d bs + weight_in g (links_from (a + p) n) (d + p) bs
unfolding links_from weight_in
links_weight_lem g zero a n d bs =
    let e : a + 0 ≡ a = omega arith in
    let f : d + 0 ≡ d = omega arith in
    let z : 0 + n ≡ n = omega arith in
    rw (e, f, z) (omega arith)
links_weight_lem g (suc p) a n d bs =
    let e : a + suc p ≡ suc a + p = omega arith in
    let f : d + suc p ≡ suc d + p = omega arith in
    let z : suc p + n ≡ suc (p + n) = omega arith in
    rw (e, f, z) (omega (arith, links_weight_lem g p (suc a) n (suc d) bs))

-- ---- along a path

-- what the entries along a path owe, from depth d on
unfoldable pub owed_along : ℕ → List ℕ → Buffers → ℕ
owed_along d [] bs = 0
owed_along d (n ∷ ns) bs = d * length (get_or bs n []) + owed_along (suc d) ns bs

-- one path behind another
pub owed_along_append : (d : ℕ) (ms ns : List ℕ) (bs : Buffers) → owed_along d (ms ++ ns) bs ≡ owed_along d ms bs + owed_along (d + length ms) ns bs
unfolding owed_along
owed_along_append d [] ns bs = let e : d + 0 ≡ d = omega arith in rw e (omega arith)
owed_along_append d (m ∷ ms) ns bs = let e : d + suc (length ms) ≡ suc d + length ms = omega arith in rw e (omega (arith, owed_along_append (suc d) ms ns bs))

-- what is owed along a way is what its numbers owe
pub owed_on_seen : {t : Tree} {n : ℕ} {ns : List ℕ} (w : Way t n ns) (d : ℕ) (bs : Buffers) → owed_on w d (view t bs) ≡ owed_along d (n ∷ ns) bs
unfolding owed_on owed_along entries below
owed_on_seen end d bs = omega arith
owed_on_seen (by_first w) d bs = omega (arith, owed_on_seen w (suc d) bs)
owed_on_seen (by_second w) d bs = omega (arith, owed_on_seen w (suc d) bs)

-- what a path owes depends on its counts alone
abbrev owed_by : ℕ → List ℕ → ℕ
owed_by d [] = 0
owed_by d (c ∷ cs) = d * c + owed_by (suc d) cs

by_counts : (d : ℕ) (ns : List ℕ) (bs : Buffers) → owed_along d ns bs ≡ owed_by d (counts ns bs)
unfolding owed_along counts
by_counts d [] bs = refl
by_counts d (n ∷ ns) bs = omega (arith, by_counts (suc d) ns bs)

-- two queues with the same counts along a path owe the same along it
pub owed_counts : (d : ℕ) (ns : List ℕ) (bs bs' : Buffers) → counts ns bs ≡ counts ns bs' → owed_along d ns bs ≡ owed_along d ns bs'
owed_counts d ns bs bs' e = by_counts d ns bs ∙ ap (owed_by d) e ∙ sym (by_counts d ns bs')

-- what the run along two paths weighs
pub run_along_append : (ms ns : List ℕ) (bs : Buffers) (g : ℕ → ℕ) → sum_of g (run_along (ms ++ ns) bs) ≡ sum_of g (run_along ms bs) + sum_of g (run_along ns bs)
unfolding run_along
run_along_append [] ns bs g = omega arith
run_along_append (m ∷ ms) ns bs g =
    omega (arith, run_along_append ms ns bs g, sum_of_append g (get_or bs m []) (run_along (ms ++ ns) bs), sum_of_append g (get_or bs m []) (run_along ms bs))

-- "Note the counts": together they are as long as the run
pub counts_sum : (ns : List ℕ) (bs : Buffers) → sum (counts ns bs) ≡ length (run_along ns bs)
unfolding counts sum run_along
counts_sum [] bs = refl
counts_sum (n ∷ ns) bs = omega (arith, counts_sum ns bs, length-append (get_or bs n []) (run_along ns bs))

-- the run along a way has no more than stands in the tree
pub along_within : {t : Tree} {n : ℕ} {ns : List ℕ} → Way t n ns → (bs : Buffers) → length (run_along (n ∷ ns) bs) ≤ held_in t bs
unfolding run_along held_in
along_within (end {n = n}) bs = omega (arith, length-append (get_or bs n []) [])
along_within (by_first {n = n} {m = m} {ns = ns} w) bs = omega (arith, along_within w bs, length-append (get_or bs n []) (run_along (m ∷ ns) bs))
along_within (by_second {n = n} {m = m} {ns = ns} w) bs = omega (arith, along_within w bs, length-append (get_or bs n []) (run_along (m ∷ ns) bs))

-- as many outputs as links
pub length_outputs : (a p : ℕ) → length (outputs a p) ≡ p
unfolding outputs
length_outputs a zero = refl
length_outputs a (suc p) = ap suc (length_outputs (suc a) p)

-- how many stand below the outputs of so many links: in B, inner buffers and S
unfoldable pub lower : ℕ → ℕ → Buffers → ℕ
lower a zero bs = 0
lower a (suc p) bs = held_in (k_merger a) bs + lower (suc a) p bs

-- what links have stands in their outputs or below them
pub links_lower : (a p : ℕ) (bs : Buffers) → held_in (links_from a p) bs ≡ length (run_along (outputs a p) bs) + lower a p bs
unfolding links_from held_in outputs run_along lower
links_lower a zero bs = refl
links_lower a (suc p) bs = omega (arith, links_lower (suc a) p bs, length-append (get_or bs (first a) []) (run_along (outputs (suc a) p) bs))

-- nothing stands in the outputs of links in which nothing stands
pub no_outputs : (a p d : ℕ) (bs : Buffers) → held_in (links_from a p) bs ≡ 0 → owed_along d (outputs a p) bs ≡ 0
unfolding links_from held_in outputs owed_along
no_outputs a zero d bs h = refl
no_outputs a (suc p) d bs h =
    let e : d * length (get_or bs (first a) []) ≡ d * 0 = ap (λ n. d * n) (omega arith) in
    omega (arith, no_outputs (suc a) p (suc d) bs (omega arith))

-- what the outputs weigh, the links weigh at least
pub outputs_within : (g : ℕ → ℕ) (a p d : ℕ) (bs : Buffers) → sum_of g (run_along (outputs a p) bs) ≤ weight_in (λ d. g) (links_from a p) d bs
unfolding links_from weight_in outputs run_along
outputs_within g a zero d bs = omega arith
outputs_within g a (suc p) d bs = omega (arith, outputs_within g (suc a) p (suc d) bs, sum_of_append g (get_or bs (first a) []) (run_along (outputs (suc a) p) bs))

-- ---- numbers that are no output's

-- a number behind A(a) and before A(a+1) is no output
pub not_on_outputs : (p b a m : ℕ) → 0 < b → 0 < a → first a < m → m < first (suc a) → NotOn m (outputs b p)
unfolding outputs
not_on_outputs zero b a m some here low high = tt
not_on_outputs (suc p) b a m some here low high =
    let other : m ≢ first b = λ e. by_leb b a (λ t. ⊥) (λ l. omega (arith, first_mono b a some l)) (λ l. omega (arith, first_mono (suc a) b (omega arith) l)) in
    (other, not_on_outputs p (suc b) a m (omega arith) here low high)
