-- The numbers of a queue's buffers: in the tree of so many links each stands once, and together they are all from the first link's first to the last link's last.
use Prim.Native.Nat.{ℕ, zero, suc, ◌+◌, ◌-◌, ◌*◌, ◌^◌, ◌≤◌, ◌<◌}
use mathlib.Core.Path.{◌≡◌, refl}
use mathlib.Core.List.{List, [], ◌∷◌}
use native.Mathlib.Omega.{arith}
use native.Mathlib.Nat.{two-pow-succ, mul_assoc, mul-add}
use lib.ListN.{length}
use Rattle.rules.specs.Links.{s, k, height, levels, first, buffer_count, number_of_s}
use Rattle.rules.specs.Tree.{perfect, k_merger, links_from, tree_of}
use Rattle.rules.proofs.Numbers.{Stands, itself, output, in_first, in_second, Outside, Joint, Distinct, nothing, alone, joined, Among}
use Rattle.rules.proofs.Full as full
use Rattle.rules.proofs.Sizes.{by_leb, k_power, k_some, length_levels, AllSome, a_some, levels_some, first_next, first_some, first_further}

-- ---- doubling: the numbers so many levels below j begin with j doubled so often

-- n, doubled so often
abbrev pub doubled : ℕ → ℕ → ℕ
doubled zero n = n
doubled (suc d) n = doubled d (2 * n)

-- the larger, doubled, is the larger
pub doubled_mono : (d a b : ℕ) → a ≤ b → doubled d a ≤ doubled d b
doubled_mono zero a b h = h
doubled_mono (suc d) a b h = doubled_mono d (2 * a) (2 * b) (omega arith)

-- nothing gets smaller by doubling
pub doubled_grows : (d a : ℕ) → a ≤ doubled d a
doubled_grows zero a = omega arith
doubled_grows (suc d) a = omega (arith, doubled_grows d (2 * a))

doubled_more : (d e a : ℕ) → d ≤ e → doubled d a ≤ doubled e a
doubled_more zero e a h = doubled_grows e a
doubled_more (suc d) zero a h = absurd (omega arith)
doubled_more (suc d) (suc e) a h = doubled_more d e (2 * a) (omega arith)

-- doubling d times is multiplying by 2 ^ d
pub doubled_power : (d n : ℕ) → doubled d n ≡ n * 2 ^ d
doubled_power zero n = omega arith
doubled_power (suc d) n = rw two-pow-succ (omega (arith, doubled_power d (2 * n), mul_assoc 2 n (2 ^ d), mul-add n (2 ^ d) (2 ^ d)))

-- ---- a perfect tree

-- y is so many levels below j, of so many that there are
pub record Under (j deepest y : ℕ) : Type 0 where
  pub depth : ℕ
  pub deep : depth ≤ deepest
  pub low : doubled depth j ≤ y
  pub high : y < doubled depth (suc j)

under_first : {j h y : ℕ} → Under (2 * j) h y → Under j (suc h) y
under_first {j} u =
    let d = u.depth in
    record { depth = suc d; deep = omega (arith, u.deep); low = u.low; high = omega (arith, u.high, doubled_mono d (suc (2 * j)) (2 * suc j) (omega arith)) }

under_second : {j h y : ℕ} → Under (suc (2 * j)) h y → Under j (suc h) y
under_second {j} u =
    let d = u.depth in
    record {
      depth = suc d;
      deep = omega (arith, u.deep);
      low = omega (arith, u.low, doubled_mono d (2 * j) (suc (2 * j)) (omega arith));
      high = omega (arith, u.high, doubled_mono d (suc (suc (2 * j))) (2 * suc j) (omega arith));
    }

-- two inputs of one merger have nothing in common
disjoint : (d d' lo hi lo' hi' y : ℕ) → hi ≤ lo' → hi' ≤ 2 * lo → doubled d lo ≤ y → y < doubled d hi → doubled d' lo' ≤ y → y < doubled d' hi' → ⊥
disjoint zero zero lo hi lo' hi' y a b p q r t = omega arith
disjoint zero (suc d') lo hi lo' hi' y a b p q r t = omega (arith, doubled_grows (suc d') lo')
disjoint (suc d) zero lo hi lo' hi' y a b p q r t = omega (arith, doubled_grows d (2 * lo))
disjoint (suc d) (suc d') lo hi lo' hi' y a b p q r t = disjoint d d' (2 * lo) (2 * hi) (2 * lo') (2 * hi') y (omega arith) (omega arith) p q r t

module _ (a size : ℕ) where
  -- where a buffer of a perfect tree stands
  pub record Spot (j deepest m : ℕ) : Type 0 where
    pub place : ℕ
    pub is : m ≡ a + place
    pub under : Under j deepest place

  spot : (cs : List ℕ) (j : ℕ) {m : ℕ} → Stands m (perfect a size cs j) → Spot j (length cs) m
  unfolding perfect
  spot [] j itself = record { place = j; is = refl; under = record { depth = 0; deep = omega arith; low = omega arith; high = omega arith } }
  spot (c ∷ cs) j output = record { place = j; is = refl; under = record { depth = 0; deep = omega arith; low = omega arith; high = omega arith } }
  spot (c ∷ cs) j (in_first st) = let z = spot cs (2 * j) st in record { place = z.place; is = z.is; under = under_first z.under }
  spot (c ∷ cs) j (in_second st) = let z = spot cs (suc (2 * j)) st in record { place = z.place; is = z.is; under = under_second z.under }

  perfect_joint : (cs : List ℕ) (j : ℕ) → 0 < j → Joint (a + j) (perfect a size cs (2 * j)) (perfect a size cs (suc (2 * j)))
  perfect_joint cs j some =
      record {
        out_one = λ st. let z = spot cs (2 * j) st in let l = z.under.low in omega (arith, z.is, doubled_grows z.under.depth (2 * j));
        out_two = λ st. let z = spot cs (suc (2 * j)) st in let l = z.under.low in omega (arith, z.is, doubled_grows z.under.depth (suc (2 * j)));
        apart = λ m st st'.
            let z = spot cs (2 * j) st in
            let z' = spot cs (suc (2 * j)) st' in
            let same : z.place ≡ z'.place = omega (arith, z.is, z'.is) in
            disjoint z.under.depth z'.under.depth (2 * j) (suc (2 * j)) (suc (2 * j)) (suc (suc (2 * j))) z.place (omega arith) (omega arith)
            z.under.low z.under.high (rw same z'.under.low) (rw same z'.under.high);
      }

  perfect_distinct : (cs : List ℕ) (j : ℕ) → 0 < j → Distinct (perfect a size cs j)
  unfolding perfect
  perfect_distinct [] j some = alone
  perfect_distinct (c ∷ cs) j some = joined (perfect_joint cs j some) (perfect_distinct cs (2 * j) (omega arith)) (perfect_distinct cs (suc (2 * j)) (omega arith))

  -- all numbers of the tree
  perfect_range : (cs : List ℕ) (j : ℕ) → 0 < j → {m : ℕ} → Stands m (perfect a size cs j) → (a < m) × (m < a + doubled (length cs) (suc j))
  perfect_range cs j some st =
      let z = spot cs j st in
      let u = z.under in
      let is = z.is in
      let low = u.low in
      let high = u.high in
      (omega (arith, doubled_grows u.depth j), omega (arith, doubled_more u.depth (length cs) (suc j) u.deep))

  perfect_roomy : (cs : List ℕ) (j : ℕ) → AllSome cs → full.Roomy (perfect a size cs j)
  unfolding perfect
  perfect_roomy [] j h = full.alone
  perfect_roomy (c ∷ cs) j h = full.over h.0 (perfect_roomy cs (2 * j) h.1) (perfect_roomy cs (suc (2 * j)) h.1)

  top_stands : (cs : List ℕ) (j : ℕ) → Stands (a + j) (perfect a size cs j)
  unfolding perfect
  top_stands [] j = itself
  top_stands (c ∷ cs) j = output

  -- each of them stands in it
  perfect_stands : (cs : List ℕ) (j depth y : ℕ) → depth ≤ length cs → doubled depth j ≤ y → y < doubled depth (suc j) → Stands (a + y) (perfect a size cs j)
  unfolding perfect
  perfect_stands cs j zero y d l h = let e : y ≡ j = omega arith in rw e (top_stands cs j)
  perfect_stands [] j (suc depth) y d l h = absurd (omega arith)
  perfect_stands (c ∷ cs) j (suc depth) y d l h =
      let e : 2 * suc j ≡ suc (suc (2 * j)) = omega arith in
      let high : y < doubled depth (suc (suc (2 * j))) = rw e at h in
      by_leb (doubled depth (suc (2 * j))) y (λ b. Stands (a + y) (perfect a size (c ∷ cs) j))
      (λ q. in_second (perfect_stands cs (suc (2 * j)) depth y (omega arith) q high))
      (λ q. in_first (perfect_stands cs (2 * j) depth y (omega arith) l q))

-- every number from 1 on has its level
pub level_of : (h y : ℕ) → 0 < y → y < 2 * 2 ^ h → Under 1 h y
level_of zero y some less = record { depth = 0; deep = omega arith; low = omega arith; high = omega arith }
level_of (suc h) y some less =
    by_leb (2 * 2 ^ h) y (λ b. Under 1 (suc h) y)
    (λ q. record {
      depth = suc h;
      deep = omega arith;
      low = omega (arith, doubled_power (suc h) 1, two-pow-succ h);
      high = omega (arith, doubled_power (suc h) 2);
    })
    (λ q. let u = level_of h y some q in record { depth = u.depth; deep = omega (arith, u.deep); low = u.low; high = u.high })

-- ---- the k-merger of a link

module _ (i : ℕ) (link : 0 < i) where
  ends : first i + doubled (length (levels i)) 2 ≡ first (suc i)
  ends = rw (length_levels i link) (omega (arith, doubled_power (height i) 2, first_next i link, k_power i))

  -- from B(i) to the last S(i,j): all numbers of the link but A(i)'s
  pub k_merger_range : {m : ℕ} → Stands m (k_merger i) → (first i < m) × (m < first (suc i))
  unfolding k_merger
  k_merger_range st = let r = perfect_range (first i) (s i) (levels i) 1 (omega arith) st in (r.0, omega (arith, r.1, ends))

  -- and each of these numbers stands in it
  pub k_merger_stands : {m : ℕ} → first i < m → m < first (suc i) → Stands m (k_merger i)
  unfolding k_merger
  k_merger_stands {m} low high =
      let u = level_of (height i) (m - first i) (omega arith) (omega (arith, first_next i link, k_power i)) in
      let e : first i + (m - first i) ≡ m = omega arith in
      rw e at (perfect_stands (first i) (s i) (levels i) 1 u.depth (m - first i) (rw (length_levels i link) u.deep) u.low u.high)

  -- each once
  pub k_merger_distinct : Distinct (k_merger i)
  unfolding k_merger
  k_merger_distinct = perfect_distinct (first i) (s i) (levels i) 1 (omega arith)

  -- every merger's output has room
  pub k_merger_roomy : full.Roomy (k_merger i)
  unfolding k_merger
  k_merger_roomy = perfect_roomy (first i) (s i) (levels i) 1 (levels_some i link)

-- ---- links

next_end : (i n : ℕ) → first (suc i + n) ≡ first (i + suc n)
next_end i n = let e : suc i + n ≡ i + suc n = omega arith in rw e

-- all numbers of so many links from link i on stand from A(i)'s on and before those of the link behind them
pub links_range : (i n : ℕ) → 0 < i → {m : ℕ} → Stands m (links_from i n) → (first i ≤ m) × (m < first (i + n))
unfolding links_from
links_range i zero link {m = m} st = elim st [ ]
links_range i (suc n) link output = (omega arith, omega (arith, first_further (suc i) n (omega arith), next_end i n, first_next i link, k_some i))
links_range i (suc n) link (in_first st) = let r = k_merger_range i link st in (omega (arith, r.0), omega (arith, r.1, first_further (suc i) n (omega arith), next_end i n))
links_range i (suc n) link (in_second st) = let r = links_range (suc i) n (omega arith) st in (omega (arith, r.0, first_next i link), omega (arith, r.1, next_end i n))

-- and each of these numbers stands among them
pub links_stand : (i n : ℕ) → 0 < i → {m : ℕ} → first i ≤ m → m < first (i + n) → Stands m (links_from i n)
unfolding links_from
links_stand i zero link {m} low high = let e : i + 0 ≡ i = omega arith in let h : m < first i = rw e at high in absurd (omega arith)
links_stand i (suc n) link {m} low high =
    by_leb (first (suc i)) m (λ b. Stands m (links_from i (suc n)))
    (λ q. in_second (links_stand (suc i) n (omega arith) q (omega (arith, next_end i n))))
    (λ q. by_leb (suc (first i)) m (λ b. Stands m (links_from i (suc n)))
    (λ r. in_first (k_merger_stands i link r q))
    (λ r. let e : m ≡ first i = omega arith in rw e output))

-- every number stands once
pub links_distinct : (i n : ℕ) → 0 < i → Distinct (links_from i n)
unfolding links_from
links_distinct i zero link = nothing
links_distinct i (suc n) link =
    let j : Joint (first i) (k_merger i) (links_from (suc i) n) = record {
      out_one = λ st. omega (arith, (k_merger_range i link st).0);
      out_two = λ st. omega (arith, (links_range (suc i) n (omega arith) st).0, first_next i link, k_some i);
      apart = λ m st st'. omega (arith, (k_merger_range i link st).1, (links_range (suc i) n (omega arith) st').0);
    } in
    joined j (k_merger_distinct i link) (links_distinct (suc i) n (omega arith))

-- every merger's output has room
pub links_roomy : (i n : ℕ) → 0 < i → full.Roomy (links_from i n)
unfolding links_from
links_roomy i zero link = full.nothing
links_roomy i (suc n) link = full.over (a_some i) (k_merger_roomy i link) (links_roomy (suc i) n (omega arith))

-- so many links are among as many buffers as reach to their end
pub links_among : (i n count : ℕ) → 0 < i → first (i + n) ≤ count → Among (links_from i n) count
links_among i n count link h = record { distinct = links_distinct i n link; less = λ m st. omega (arith, (links_range i n link st).1) }

-- ---- the tree of a queue

module _ (links : ℕ) where
  -- the buffers of a queue end where the next link would begin
  pub count_is : buffer_count links ≡ first (1 + links)
  unfolding buffer_count
  count_is = let e : 1 + links ≡ suc links = omega arith in rw e

  -- I is number 0, and the tree's numbers are all the others
  pub tree_range : {m : ℕ} → Stands m (tree_of links) → (0 < m) × (m < buffer_count links)
  unfolding tree_of
  tree_range st =
      let r = links_range 1 links (omega arith) st in
      (omega (arith, r.0, first_some 1 (omega arith)), omega (arith, r.1, count_is))

  -- each number behind I's stands in the tree
  pub tree_stands : {m : ℕ} → 0 < m → m < buffer_count links → Stands m (tree_of links)
  unfolding tree_of first
  tree_stands low high = links_stand 1 links (omega arith) low (omega (arith, count_is))

  -- "I stands outside the tree."
  pub insertion_outside : Outside 0 (tree_of links)
  insertion_outside st = omega (arith, (tree_range st).0)

  -- the tree of a queue is among its buffers
  pub tree_among : {count : ℕ} → buffer_count links ≤ count → Among (tree_of links) count
  unfolding tree_of
  tree_among {count} h = links_among 1 links count (omega arith) (omega (arith, count_is))

  -- every merger's output in it has room
  pub tree_roomy : full.Roomy (tree_of links)
  unfolding tree_of
  tree_roomy = links_roomy 1 links (omega arith)

  -- every S(i,j) stands in it
  pub s_stands : (i j : ℕ) → 1 ≤ i → i ≤ links → 1 ≤ j → j ≤ k i → Stands (number_of_s i j) (tree_of links)
  unfolding number_of_s
  s_stands i j low high some most =
      let e : suc i + (links - i) ≡ 1 + links = omega arith in
      let further : first (suc i) ≤ first (1 + links) = rw e at (first_further (suc i) (links - i) (omega arith)) in
      tree_stands (omega (arith, first_some i low)) (omega (arith, first_next i low, count_is))
