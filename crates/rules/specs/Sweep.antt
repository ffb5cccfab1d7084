-- The sweep to a link, and packing.
use Rattle.std.specs.Prelude.{ℕ, zero, suc, ◌+◌, ◌-◌, ◌/◌, List, [], ◌∷◌, ◌++◌, map, length, get_or, set, take, drop, replicate}
use Rattle.rules.specs.Links.{s, k, height, first, number_of_s, sum}
use Rattle.rules.specs.Tree.{Buffers, links_from}
use Rattle.rules.specs.Merge.{join}
use Rattle.rules.specs.Take.{take_all}

-- ---- the path

-- the numbers in a link on the way down to j, which stands so many levels down: above j stands j / 2, above B (1) A (0)
unfoldable pub way_down : ℕ → ℕ → List ℕ
way_down zero j = j ∷ []
way_down (suc levels) j = way_down levels (j / 2) ++ j ∷ []

-- A(i), B(i) and inner buffers to S(i,j)
unfoldable pub path_in_link : ℕ → ℕ → List ℕ
unfolding way_down height k first
path_in_link i j = map (λ n. first i + n) (way_down (suc (height i)) (k i + (j - 1)))

-- A(i), A(i + 1), ..: so many
unfoldable pub outputs : ℕ → ℕ → List ℕ
unfolding first
outputs i zero = []
outputs i (suc n) = first i ∷ outputs (suc i) n

-- "the path runs from A(1) through A(2) .. A(i), B(i) and inner buffers to S(i, c(i))"
unfoldable pub path : ℕ → ℕ → List ℕ
unfolding outputs path_in_link
path i j = outputs 1 (i - 1) ++ path_in_link i j

-- "Note the counts on it."
unfoldable pub counts : List ℕ → Buffers → List ℕ
counts ns bs = map (λ n. length (get_or bs n [])) ns

-- "the run read along the path"
unfoldable pub run_along : List ℕ → Buffers → List ℕ
run_along [] bs = []
run_along (n ∷ ns) bs = get_or bs n [] ++ run_along ns bs

-- "Refill each path buffer from A(1) downwards to its noted count. The rest goes into S(i, c(i))", the last of them
unfoldable pub refill_path : List ℕ → List ℕ → List ℕ → Buffers → Buffers
refill_path [] noted run bs = bs
refill_path (n ∷ []) noted run bs = set bs n run
refill_path (n ∷ m ∷ ns) [] run bs = bs
refill_path (n ∷ m ∷ ns) (c ∷ noted) run bs = refill_path (m ∷ ns) noted (drop c run) (set bs n (take c run))

-- ---- the sweep

-- the buffers afterwards, the merge steps made, and how many entries are left over for the destination
pub record Swept : Type 0 where
  pub buffers : Buffers
  pub steps : ℕ
  pub rest : ℕ

-- "Sweep to i": j is c(i)
unfoldable pub sweep_to : (ℕ → ℕ) → ℕ → ℕ → Buffers → Swept
unfolding path path_in_link counts take_all links_from join run_along refill_path sum
sweep_to key i j bs =
    let noted = counts (path i j) bs in
    let emptied = take_all key (links_from 1 (i - 1)) bs in
    let run = join key (run_along (path_in_link i j) emptied.buffers) emptied.out in
    record { buffers = refill_path (path i j) noted run emptied.buffers; steps = emptied.steps; rest = length run - sum noted }

-- "Then c(i) rises by one and c(1) .. c(i-1) become 1."
unfoldable pub raised : ℕ → List ℕ → List ℕ
raised i [] = []
raised zero (c ∷ cs) = c ∷ cs
raised (suc zero) (c ∷ cs) = suc c ∷ cs
raised (suc (suc i)) (c ∷ cs) = 1 ∷ raised (suc i) cs

-- ---- packing

-- "lay it in order into S(L,1), S(L,2), .., s(L) entries each": so many parts of a run
unfoldable pub parts : ℕ → ℕ → List ℕ → List (List ℕ)
parts zero size run = []
parts (suc n) size run = take size run ∷ parts n size (drop size run)

-- "All other buffers are empty.": those with smaller numbers than S(L,1)
unfoldable pub laid_out : ℕ → List ℕ → Buffers
unfolding parts number_of_s k s
laid_out links run = replicate (number_of_s links 1) [] ++ parts (k links) (s links) run

-- "c(L) is one more than the number of S used; the others are 1."
unfoldable pub packed_counters : ℕ → ℕ → List ℕ
unfolding s
packed_counters links n = replicate (links - 1) 1 ++ suc ((n + (s links - 1)) / s links) ∷ []
