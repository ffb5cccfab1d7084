-- Sums over a queue's entries, along the buffers' numbers and down the tree; and so how many entries are held.
use Prim.Native.Nat.{ℕ, zero, suc, ◌+◌, ◌-◌, ◌*◌, ◌≤◌, ◌<◌}
use mathlib.Core.Path.{◌≡◌, refl, sym, ◌∙◌}
use mathlib.Core.Logic.{◌≢◌}
use mathlib.Core.List.{List, [], ◌∷◌}
use native.Mathlib.Omega.{arith}
use lib.ListN.{length, get_or}
use Rattle.rules.specs.Links.{s, k, height, levels, first, buffer_count}
use Rattle.rules.specs.Tree.{Buffers, Tree, exhausted, buffer, merger, perfect, k_merger, links_from, tree_of}
use Rattle.rules.specs.Take.{held_in, insertion}
use Rattle.rules.specs.Queue.{Queue, held_from, held}
use Rattle.rules.proofs.Sizes.{by_eqb, k_power, k_some, length_levels, first_one, first_next, first_some, first_further}
use Rattle.rules.proofs.Numbering.{doubled, doubled_grows, doubled_power, count_is}
use Rattle.rules.proofs.Weight.{sum_of, sum_of_ones, weight_in, held_weight}

-- what n buffers from number b on weigh
unfoldable pub weight_from : (ℕ → ℕ) → ℕ → ℕ → Buffers → ℕ
weight_from g b zero bs = 0
weight_from g b (suc n) bs = sum_of g (get_or bs b []) + weight_from g (suc b) n bs

-- one stretch of numbers behind another
pub weight_from_append : (g : ℕ → ℕ) (b m n : ℕ) (bs : Buffers) → weight_from g b (m + n) bs ≡ weight_from g b m bs + weight_from g (b + m) n bs
unfolding weight_from
weight_from_append g b zero n bs = let e : b + 0 ≡ b = omega arith in let z : 0 + n ≡ n = omega arith in rw (e, z) (omega arith)
weight_from_append g b (suc m) n bs =
    let e : b + suc m ≡ suc b + m = omega arith in
    let z : suc m + n ≡ suc (m + n) = omega arith in
    rw (e, z) (omega (arith, weight_from_append g (suc b) m n bs))

-- where the depth plays no part, any depth will do
pub any_depth : (g : ℕ → ℕ) (t : Tree) (d d' : ℕ) (bs : Buffers) → weight_in (λ d. g) t d bs ≡ weight_in (λ d. g) t d' bs
unfolding weight_in
any_depth g exhausted d d' bs = refl
any_depth g (buffer n c) d d' bs = refl
any_depth g (merger n c one two) d d' bs = omega (arith, any_depth g one (suc d) (suc d') bs, any_depth g two (suc d) (suc d') bs)

module _ (g : ℕ → ℕ) (a size : ℕ) (bs : Buffers) where
  -- what so many perfect trees one beside the other weigh, from buffer j on
  unfoldable forest : List ℕ → ℕ → ℕ → ℕ
  forest cs zero j = 0
  forest cs (suc n) j = weight_in (λ d. g) (perfect a size cs j) 0 bs + forest cs n (suc j)

  forest_last : (n j : ℕ) → forest [] n j ≡ weight_from g (a + j) n bs
  unfolding forest weight_from weight_in perfect
  forest_last zero j = refl
  forest_last (suc n) j = let e : a + suc j ≡ suc (a + j) = omega arith in let h = rw e at (forest_last n (suc j)) in omega arith

  -- the outputs, and then the level below
  forest_level : (c : ℕ) (cs : List ℕ) (n j : ℕ) → forest (c ∷ cs) n j ≡ weight_from g (a + j) n bs + forest cs (2 * n) (2 * j)
  unfolding forest weight_from weight_in perfect
  forest_level c cs zero j = refl
  forest_level c cs (suc n) j =
      let e : a + suc j ≡ suc (a + j) = omega arith in
      let p : 2 * suc n ≡ suc (suc (2 * n)) = omega arith in
      let q : 2 * suc j ≡ suc (suc (2 * j)) = omega arith in
      let h = rw (e, q) at (forest_level c cs n (suc j)) in
      rw p (omega (arith, any_depth g (perfect a size cs (2 * j)) 1 0 bs, any_depth g (perfect a size cs (suc (2 * j))) 1 0 bs))

  -- from the first of a level on, all numbers down to the last level
  forest_all : (cs : List ℕ) (n : ℕ) → forest cs n n ≡ weight_from g (a + n) (doubled (length cs) (2 * n) - n) bs
  forest_all [] n = let e : 2 * n - n ≡ n = omega arith in rw e (forest_last n n)
  forest_all (c ∷ cs) n =
      let l = length cs in
      let e : doubled l (2 * (2 * n)) - n ≡ n + (doubled l (2 * (2 * n)) - 2 * n) = omega (arith, doubled_grows l (2 * (2 * n))) in
      let p : a + n + n ≡ a + 2 * n = omega arith in
      let h = rw p at (weight_from_append g (a + n) n (doubled l (2 * (2 * n)) - 2 * n) bs) in
      rw e (omega (arith, forest_level c cs n n, forest_all cs (2 * n)))

  perfect_weight : (cs : List ℕ) → weight_in (λ d. g) (perfect a size cs 1) 0 bs ≡ weight_from g (a + 1) (doubled (length cs) 2 - 1) bs
  unfolding forest
  perfect_weight cs = omega (arith, forest_all cs 1)

module _ (g : ℕ → ℕ) (bs : Buffers) where
  -- "B(i), inner buffers and S of link i together"
  pub k_merger_weight : (i d : ℕ) → 0 < i → weight_in (λ d. g) (k_merger i) d bs ≡ weight_from g (first i + 1) (2 * k i - 1) bs
  unfolding k_merger
  k_merger_weight i d link =
      let e : doubled (length (levels i)) 2 ≡ 2 * k i = rw (length_levels i link) (omega (arith, doubled_power (height i) 2, k_power i)) in
      any_depth g (perfect (first i) (s i) (levels i) 1) d 0 bs ∙ (rw e at (perfect_weight g (first i) (s i) bs (levels i)))

  links_split : (i n d : ℕ) → weight_in (λ d. g) (links_from i (suc n)) d bs ≡ sum_of g (get_or bs (first i) []) + (weight_in (λ d. g) (k_merger i) (suc d) bs + weight_in (λ d. g) (links_from (suc i) n) (suc d) bs)
  unfolding links_from weight_in
  links_split i n d = refl

  no_links : (i d : ℕ) → weight_in (λ d. g) (links_from i 0) d bs ≡ 0
  unfolding links_from weight_in
  no_links i d = refl

  -- what so many links weigh, the buffers between their first and their last number weigh
  pub links_weight_from : (i n d : ℕ) → 0 < i → weight_in (λ d. g) (links_from i n) d bs ≡ weight_from g (first i) (first (i + n) - first i) bs
  unfolding weight_from
  links_weight_from i zero d link =
      let z : i + 0 ≡ i = omega arith in
      let e : first i - first i ≡ 0 = omega arith in
      rw (z, e) (no_links i d)
  links_weight_from i (suc n) d link =
      let z : i + suc n ≡ suc i + n = omega arith in
      let l = first_next i link in
      let some = k_some i in
      let e : first (suc i + n) - first i ≡ suc ((2 * k i - 1) + (first (suc i + n) - first (suc i))) = omega (arith, first_further (suc i) n (omega arith)) in
      let p : suc (first i) + (2 * k i - 1) ≡ first (suc i) = omega arith in
      let q : first i + 1 ≡ suc (first i) = omega arith in
      let h = rw p at (weight_from_append g (suc (first i)) (2 * k i - 1) (first (suc i + n) - first (suc i)) bs) in
      let b = rw q at (k_merger_weight i (suc d) link) in
      rw (z, e) (omega (arith, links_weight_from (suc i) n (suc d) (omega arith), links_split i n d))

  -- I and the tree together are all the buffers
  pub tree_weight : (links : ℕ) → weight_from g 0 (buffer_count links) bs ≡ sum_of g (get_or bs 0 []) + weight_in (λ d. g) (links_from 1 links) 0 bs
  unfolding weight_from
  tree_weight links =
      let one = first_one in
      let e : buffer_count links ≡ suc (first (1 + links) - 1) = omega (arith, count_is links, first_some (1 + links) (omega arith)) in
      rw e (omega (arith, rw one at (links_weight_from 1 links 0 (omega arith))))

-- ---- how many are held

-- the number held is a weight
pub held_from_lem : (b n : ℕ) (bs : Buffers) → held_from b n bs ≡ weight_from (λ e. 1) b n bs
unfolding held_from weight_from
held_from_lem b zero bs = refl
held_from_lem b (suc n) bs = omega (arith, held_from_lem (suc b) n bs, sum_of_ones (get_or bs b []))

-- "B(i), inner buffers and S of link i together", counted along the numbers
pub k_merger_held : (i : ℕ) → 0 < i → (bs : Buffers) → held_in (k_merger i) bs ≡ held_from (first i + 1) (2 * k i - 1) bs
k_merger_held i link bs = held_weight (k_merger i) 0 bs ∙ k_merger_weight (λ e. 1) bs i 0 link ∙ sym (held_from_lem (first i + 1) (2 * k i - 1) bs)

-- all that is held stands in I or in the tree
pub held_split : (q : Queue) → held q ≡ length (insertion q.buffers) + held_in (tree_of q.links) q.buffers
unfolding held insertion tree_of
held_split q =
    let bs = q.buffers in
    let l = q.links in
    omega (arith, held_from_lem 0 (buffer_count l) bs, tree_weight (λ e. 1) bs l, held_weight (links_from 1 l) 0 bs, sum_of_ones (get_or bs 0 []))

-- ---- more and fewer

-- where no buffer has more, no more are held
pub held_mono : (b n : ℕ) (before after : Buffers) → ((m : ℕ) → b ≤ m → m < b + n → length (get_or after m []) ≤ length (get_or before m [])) → held_from b n after ≤ held_from b n before
unfolding held_from
held_mono b zero before after h = omega arith
held_mono b (suc n) before after h = omega (arith, h b (omega arith) (omega arith), held_mono (suc b) n before after (λ m low high. h m (omega arith) (omega arith)))

-- and where one has at most r more, at most r more
pub held_but_one : (b n x r : ℕ) (before after : Buffers) → ((m : ℕ) → m ≢ x → length (get_or after m []) ≤ length (get_or before m []))
    → length (get_or after x []) ≤ r + length (get_or before x []) → held_from b n after ≤ held_from b n before + r
unfolding held_from
held_but_one b zero x r before after h more = omega arith
held_but_one b (suc n) x r before after h more =
    by_eqb b x (λ t. length (get_or after b []) + held_from (suc b) n after ≤ length (get_or before b []) + held_from (suc b) n before + r)
    (λ e. let here = rw (← e) at more in omega (arith, held_mono (suc b) n before after (λ m low high. h m (λ q. omega arith))))
    (λ e. omega (arith, h b e, held_but_one (suc b) n x r before after h more))
