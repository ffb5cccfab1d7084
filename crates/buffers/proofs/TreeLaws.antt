-- The tree of buffers by number: how many entries stand in it, its numbers and its sizes.
use mathlib.Core.Path.{◌≡◌, refl, sym, ap, ◌∙◌}
use mathlib.Core.Bool.{Bool, true, false}
use Prim.Native.Nat.{ℕ, zero, suc, ◌+◌, ◌-◌, ◌*◌, ◌≤◌, ◌<◌}
use native.Mathlib.Omega.{arith}
use native.Mathlib.Decide.{dec_lt}
use mathlib.Core.List.{List, [], ◌∷◌}
use lib.Dec.{T, leb, ltb, eqb, eqb→eq, leb→le}
use Rattle.rules.specs.Tests.{◌and◌, ◌or◌, every}
use Rattle.rules.specs.Links.{s, k, levels, first, buffer_count, most_links, LinkNumber}
use Rattle.rules.specs.Tree.{Tree, exhausted, buffer, merger, perfect, k_merger, links_from, tree_of}
use Rattle.rules.specs.Book.{Book, count, together}
use Rattle.rules.proofs.Table.{every_at, each_link_lem, k_least}
use Rattle.buffers.specs.Slots.{capacity_of, capacities}
use Rattle.buffers.specs.Rules.{held_under}

-- ---- what stands in a tree, counted by number

module _ (b : Book) where
  pub together_add : (m x y : ℕ) → together b m (x + y) ≡ together b m x + together b (m + x) y
  unfolding together
  together_add m zero y =
      let e : zero + y ≡ y = omega arith in
      let f : m + zero ≡ m = omega arith in
      rw (e, f) (omega arith)
  together_add m (suc x) y =
      let e : suc x + y ≡ suc (x + y) = omega arith in
      let f : m + suc x ≡ suc m + x = omega arith in
      rw (e, f) (omega (arith, together_add (suc m) x y))

-- so many buffers from j on stand in a row of j trees
unfoldable span : List ℕ → ℕ → ℕ
span [] j = j
span (size ∷ cs) j = j + span cs (2 * j)

span_is : {i : ℕ} → LinkNumber i → span (levels i) 1 ≡ 2 * k i - 1
unfolding every span levels k
span_is {i} h = eqb→eq (span (levels i) 1) (2 * k i - 1) (each_link_lem (λ i. eqb (span (levels i) 1) (2 * k i - 1)) tt h)

-- so many buffers have n links from link i on
unfoldable links_span : ℕ → ℕ → ℕ
unfolding k
links_span i zero = 0
links_span i (suc n) = 2 * k i + links_span (suc i) n

links_span_lem : {l : ℕ} → LinkNumber l → buffer_count l ≡ suc (links_span 1 l)
unfolding every links_span buffer_count
links_span_lem {l} h = eqb→eq (buffer_count l) (suc (links_span 1 l)) (each_link_lem (λ l. eqb (buffer_count l) (suc (links_span 1 l))) tt h)

first_next : {i : ℕ} → LinkNumber i → first (suc i) ≡ first i + 2 * k i
unfolding every first k
first_next {i} h = eqb→eq (first (suc i)) (first i + 2 * k i) (each_link_lem (λ i. eqb (first (suc i)) (first i + 2 * k i)) tt h)

module _ (b : Book) (a size : ℕ) where
  -- n trees from buffer j on
  unfoldable row : List ℕ → ℕ → ℕ → ℕ
  row cs j zero = 0
  row cs j (suc n) = held_under b (perfect a size cs j) + row cs (suc j) n

  row_lowest : (j n : ℕ) → row [] j n ≡ together b (a + j) n
  unfolding row together held_under perfect
  row_lowest j zero = refl
  row_lowest j (suc n) = let e : a + suc j ≡ suc (a + j) = omega arith in let z : row [] (suc j) n ≡ together b (suc (a + j)) n = rw e at (row_lowest (suc j) n) in omega arith

  row_above : (size' : ℕ) (cs : List ℕ) (j n : ℕ) → row (size' ∷ cs) j n ≡ together b (a + j) n + row cs (2 * j) (2 * n)
  unfolding row together held_under perfect
  row_above size' cs j zero = refl
  row_above size' cs j (suc n) =
      let e : a + suc j ≡ suc (a + j) = omega arith in
      let f : 2 * suc j ≡ suc (suc (2 * j)) = omega arith in
      let g : 2 * suc n ≡ suc (suc (2 * n)) = omega arith in
      let z : row (size' ∷ cs) (suc j) n ≡ together b (suc (a + j)) n + row cs (suc (suc (2 * j))) (2 * n) = rw (e, f) at (row_above size' cs (suc j) n) in
      rw g (omega arith)

  row_span : (cs : List ℕ) (j : ℕ) → row cs j j ≡ together b (a + j) (span cs j)
  unfolding span
  row_span [] j = row_lowest j j
  row_span (size' ∷ cs) j =
      let e : a + 2 * j ≡ a + j + j = omega arith in
      let z : row cs (2 * j) (2 * j) ≡ together b (a + j + j) (span cs (2 * j)) = rw e at (row_span cs (2 * j)) in
      row_above size' cs j j ∙ ap (λ n. together b (a + j) j + n) z ∙ sym (together_add b (a + j) j (span cs (2 * j)))

  perfect_held : (cs : List ℕ) → held_under b (perfect a size cs 1) ≡ together b (a + 1) (span cs 1)
  unfolding row
  perfect_held cs = let z : held_under b (perfect a size cs 1) + 0 ≡ together b (a + 1) (span cs 1) = row_span cs 1 in omega arith

module _ (b : Book) where
  pub merger_held : {i : ℕ} → LinkNumber i → held_under b (k_merger i) ≡ together b (first i + 1) (2 * k i - 1)
  unfolding k_merger
  merger_held {i} h = perfect_held b (first i) (s i) (levels i) ∙ ap (together b (first i + 1)) (span_is h)

  links_held : (i n : ℕ) → 1 ≤ i → i + n ≤ suc most_links → held_under b (links_from i n) ≡ together b (first i) (links_span i n)
  unfolding held_under links_from links_span together
  links_held i zero low high = refl
  links_held i (suc n) low high =
      let number : LinkNumber i = record { low = low; high = omega arith } in
      let here : 2 * k i ≡ suc (2 * k i - 1) = omega (arith, k_least number) in
      let rest : held_under b (links_from (suc i) n) ≡ together b (first i + 2 * k i) (links_span (suc i) n) =
      links_held (suc i) n (omega arith) (omega arith) ∙ ap (λ m. together b m (links_span (suc i) n)) (first_next number) in
      let one : first i + 1 ≡ suc (first i) = omega arith in
      let lower : held_under b (k_merger i) ≡ together b (suc (first i)) (2 * k i - 1) = merger_held number ∙ ap (λ m. together b m (2 * k i - 1)) one in
      let split : together b (first i) (2 * k i + links_span (suc i) n) ≡ together b (first i) (2 * k i) + together b (first i + 2 * k i) (links_span (suc i) n) =
      together_add b (first i) (2 * k i) (links_span (suc i) n) in
      let whole : together b (first i) (2 * k i) ≡ count b (first i) + together b (suc (first i)) (2 * k i - 1) = ap (together b (first i)) here in
      omega arith

  pub all_held : {l : ℕ} → LinkNumber l → together b 0 (buffer_count l) ≡ count b 0 + held_under b (tree_of l)
  unfolding tree_of together first
  all_held {l} h =
      ap (together b 0) (links_span_lem h) ∙ ap (λ n. count b 0 + n) (sym (links_held 1 l (omega arith) (omega (arith, h.high))))

-- ---- the numbers and the sizes in a tree

-- each buffer's number is below m, and its size is its capacity
unfoldable pub numbered : ℕ → Tree → Bool
unfolding capacity_of
numbered m exhausted = true
numbered m (buffer n size) = ltb n m and eqb size (capacity_of n)
numbered m (merger n size one two) = (ltb n m and eqb size (capacity_of n)) and numbered m one and numbered m two

-- buffer n stands in a tree
unfoldable pub occurs : ℕ → Tree → Bool
occurs n exhausted = false
occurs n (buffer m _) = eqb n m
occurs n (merger m _ one two) = eqb n m or occurs n one or occurs n two

pub tree_numbered : {l : ℕ} → LinkNumber l → T (numbered (buffer_count l) (tree_of l))
unfolding every numbered capacity_of capacities tree_of buffer_count
tree_numbered {l} h = each_link_lem (λ l. numbered (buffer_count l) (tree_of l)) tt h

pub merger_numbered : {l i : ℕ} → LinkNumber l → 1 ≤ i → i ≤ l → T (numbered (buffer_count l) (k_merger i))
unfolding every numbered capacity_of capacities k_merger buffer_count
merger_numbered {l} {i} h low high = every_at (λ i. numbered (buffer_count l) (k_merger i)) 1 l (each_link_lem (λ l. every (λ i. numbered (buffer_count l) (k_merger i)) 1 l) tt h) i low (omega arith)

pub tree_occurs : {l : ℕ} → LinkNumber l → (n : ℕ) → 1 ≤ n → n < buffer_count l → T (occurs n (tree_of l))
unfolding every occurs tree_of buffer_count
tree_occurs {l} h n low high = every_at (λ n. occurs n (tree_of l)) 1 (buffer_count l - 1) (each_link_lem (λ l. every (λ n. occurs n (tree_of l)) 1 (buffer_count l - 1)) tt h) n low (omega arith)

-- ---- numbers of the links

pub number_1 : LinkNumber 1
number_1 = record { low = omega arith; high = omega arith }

pub link_within : {l i : ℕ} → LinkNumber l → 1 ≤ i → i ≤ l → first i + 2 * k i ≤ buffer_count l
unfolding every first k buffer_count
link_within {l} {i} h low high =
    leb→le (first i + 2 * k i) (buffer_count l)
    (every_at (λ i. leb (first i + 2 * k i) (buffer_count l)) 1 l (each_link_lem (λ l. every (λ i. leb (first i + 2 * k i) (buffer_count l)) 1 l) tt h) i low (omega arith))

pub first_least : {i : ℕ} → LinkNumber i → 1 ≤ first i
unfolding every first
first_least {i} h = leb→le 1 (first i) (each_link_lem (λ i. leb 1 (first i)) tt h)

pub capacity_I : capacity_of 0 ≡ 8
unfolding capacity_of capacities
capacity_I = refl

-- what holds of I and of every link's buffers holds of all
pub each_buffer : (P : ℕ → Type 0) (l : ℕ) → l ≤ most_links → P 0 → ((i j : ℕ) → 1 ≤ i → i ≤ l → j < 2 * k i → P (first i + j)) → (n : ℕ) → n < first (suc l) → P n
unfolding first
each_buffer P zero few zeroth each n lt = let e : n ≡ 0 = omega arith in rw e zeroth
each_buffer P (suc l) few zeroth each n lt = go (dec_lt n (first (suc l))) (each_buffer P l (omega arith) zeroth (λ i j low high. each i j low (omega arith)) n)
  where
    go : Dec (n < first (suc l)) → (n < first (suc l) → P n) → P n
    go (yes under) further = further under
    go (no over) further = let e : n ≡ first (suc l) + (n - first (suc l)) = omega arith in rw e (each (suc l) (n - first (suc l)) (omega arith) (omega arith) (omega arith))
