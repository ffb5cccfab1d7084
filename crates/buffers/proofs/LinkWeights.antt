-- What a link weighs: its S, its mergers level by level, and A with what stands behind it.
use mathlib.Core.Path.{◌≡◌, refl, sym, ap, subst, ◌∙◌}
use mathlib.Core.Logic.{⊎_elim}
use mathlib.Core.Bool.{Bool, true, false}
use Prim.Native.Nat.{ℕ, zero, suc, ◌+◌, ◌-◌, ◌*◌, ◌/◌, ◌^◌, ◌≤◌, ◌<◌}
use native.Mathlib.Nat.{mul-le-mul_right, two-pow-succ, one-le-pow, pow-le-pow_right}
use native.Mathlib.Numerals.{add-one}
use native.Mathlib.Omega.{arith}
use native.Mathlib.Decide.{ℕ_discrete, dec_lt}
use mathlib.Core.List.{List, [], ◌∷◌}
use Rattle.std.specs.Prelude.{Option, Some, None}
use Rattle.std.specs.Bool.{then_some}
use lib.ListN.{length, get_or, drop, length-drop, drop_of_length-le}
use lib.Seq.{drop-cons}
use lib.Dec.{leb, eqb, eqb→eq, lit≤}
use borrow.Author.Tests.{eq-eqb, ne_eqb, le-leb, lt-leb, lt-ltb, le-ltb}
use Rattle.rules.specs.Tests.{◌and◌, every}
use Rattle.rules.specs.Links.{s, k, height, levels, first, capacity, most, most_links, widest, book_words, LinkNumber}
use Rattle.rules.specs.Tree.{perfect, k_merger}
use Rattle.rules.proofs.Table.{every_at, each_link_lem, at_most, k_least, most_few, k_most, s_most, first_most, in_book}
use Rattle.buffers.specs.Format.{count_in, counter_in, word_of, count_of}
use Rattle.buffers.specs.Weights.{broken, word_right, weigh, counts_from, weight, room, link_weight, links_weight, nothing, inputs, Wrong, Over, Stretched, Level, Levelled, OfLink, Stored, RoomIs, RoomLeft, Merging, Weighs, link_heavy, Behind, FromLink, Linking}
use Rattle.buffers.proofs.SoundLaws.{weighs, weigh_most, weigh_least}

pub of_link : (ws : List ℕ) (i : ℕ) → book_words ≤ length ws → LinkNumber i → OfLink ws i
of_link ws i long number = record {
  long = long;
  number = number;
  some = k_least number;
  few = k_most number;
  part = s_most number;
  fits = omega (arith, first_most number, in_book);
}

-- ---- counts

module _ (ws : List ℕ) where
  pub counts_none : (m n : ℕ) → counts_from ws m n ≡ 0 → (j : ℕ) → m ≤ j → j < m + n → count_of ws j ≡ 0
  unfolding counts_from
  counts_none m zero h j low high = absurd (omega arith)
  counts_none m (suc n) h j low high = go (ℕ_discrete j m) (counts_none (suc m) n (omega arith) j)
    where
      go : Dec (j ≡ m) → (suc m ≤ j → j < suc m + n → count_of ws j ≡ 0) → count_of ws j ≡ 0
      go (yes e) further = rw e (omega arith)
      go (no e) further = further (omega arith) (omega arith)

  pub none_counts : (m n : ℕ) → ((j : ℕ) → m ≤ j → j < m + n → count_of ws j ≡ 0) → counts_from ws m n ≡ 0
  unfolding counts_from
  none_counts m zero h = refl
  none_counts m (suc n) h = omega (arith, h m (omega arith) (omega arith), none_counts (suc m) n (λ j low high. h j (omega arith) (omega arith)))

-- ---- the room for what stands below A(i)

module _ (ws : List ℕ) (i : ℕ) where
  abbrev used : ℕ
  used = counter_in ws i - 1

  abbrev room_for : Bool → ℕ
  room_for t = elim t [ true ↦ used * s i + 1 | false ↦ 0 ]

  abbrev spare : ℕ
  spare = counts_from ws (first i + (k i + used)) (2 * k i - (k i + used))

  pub room_none : counter_in ws i < 1 → room ws i ≡ 0
  unfolding room
  room_none h = ap (λ t. room_for (t and leb (counter_in ws i) (k i + 1) and eqb spare 0)) (lt-leb 1 (counter_in ws i) h)

  room_some : 1 ≤ counter_in ws i → room ws i ≡ room_for (leb (counter_in ws i) (k i + 1) and eqb spare 0)
  unfolding room
  room_some h = ap (λ t. room_for (t and leb (counter_in ws i) (k i + 1) and eqb spare 0)) (le-leb 1 (counter_in ws i) h)

  pub room_many : 1 ≤ counter_in ws i → k i + 1 < counter_in ws i → room ws i ≡ 0
  room_many one h = room_some one ∙ ap (λ t. room_for (t and eqb spare 0)) (lt-leb (counter_in ws i) (k i + 1) h)

  room_few : 1 ≤ counter_in ws i → counter_in ws i ≤ k i + 1 → room ws i ≡ room_for (eqb spare 0)
  room_few one h = room_some one ∙ ap (λ t. room_for (t and eqb spare 0)) (le-leb (counter_in ws i) (k i + 1) h)

  pub room_held : 1 ≤ counter_in ws i → counter_in ws i ≤ k i + 1 → (spare ≡ 0 → ⊥) → room ws i ≡ 0
  room_held one few some = room_few one few ∙ ap room_for (ne_eqb spare 0 some)

  pub room_right : 1 ≤ counter_in ws i → counter_in ws i ≤ k i + 1 → spare ≡ 0 → room ws i ≡ used * s i + 1
  room_right one few none = room_few one few ∙ ap room_for (eq-eqb spare 0 none)

-- no queue holds so many
pub most_small : {l : ℕ} → LinkNumber l → most l < broken
most_small = most_few

-- nor would one of five links
pub five_links : most 5 < broken
unfolding most
five_links = lit≤ tt

-- and no link has so many places in its used S
pub used_few : {i : ℕ} → LinkNumber i → (d : ℕ) → d ≤ k i → d * s i < broken
unfolding most
used_few {i} h d few = omega (arith, mul-le-mul_right (s i) few, most_small h)

pub room_most : (ws : List ℕ) {i : ℕ} → LinkNumber i → room ws i ≤ broken
room_most ws {i} h = go (dec_lt (counter_in ws i) 1) (dec_lt (k i + 1) (counter_in ws i)) (ℕ_discrete (spare ws i) 0)
  where
    go : Dec (counter_in ws i < 1) → Dec (k i + 1 < counter_in ws i) → Dec (spare ws i ≡ 0) → room ws i ≤ broken
    go (yes z) q r = omega (arith, room_none ws i z)
    go (no z) (yes q) r = omega (arith, room_many ws i (omega arith) q)
    go (no z) (no q) (no r) = omega (arith, room_held ws i (omega arith) (omega arith) r)
    go (no z) (no q) (yes r) =
        omega (arith, room_right ws i (omega arith) (omega arith) r, used_few h (counter_in ws i - 1) (omega arith))

-- ---- the link's levels, from the rule

module _ {i : ℕ} (h : LinkNumber i) where
  pub levels_long : length (levels i) ≡ height i
  unfolding every levels height
  levels_long = eqb→eq (length (levels i)) (height i) (each_link_lem (λ i. eqb (length (levels i)) (height i)) tt h)

  pub height_most : height i ≤ 8
  unfolding every height
  height_most = at_most height 8 tt h

  -- the capacity of a level is that of its first buffer
  pub level_size : (d : ℕ) → d < height i → capacity i (2 ^ d) ≡ get_or (levels i) d 0
  unfolding every levels height capacity
  level_size d lt =
      eqb→eq (capacity i (2 ^ d)) (get_or (levels i) d 0)
      (every_at (λ d. eqb (capacity i (2 ^ d)) (get_or (levels i) d 0)) 0 (height i)
      (each_link_lem (λ i. every (λ d. eqb (capacity i (2 ^ d)) (get_or (levels i) d 0)) 0 (height i)) tt h) d (omega arith) (omega arith))

pub k_is : (i : ℕ) → k i ≡ 2 ^ height i
unfolding k height
k_is i = refl

-- ---- what a merger weighs

module _ (ws : List ℕ) (a size : ℕ) where
  weight_most : (cs : List ℕ) (j : ℕ) → weight ws (perfect a size cs j) + broken ≤ broken * 2 ^ suc (length cs)
  unfolding weight perfect
  weight_most [] j = omega (arith, weigh_most (word_of ws (a + j)) size 0)
  weight_most (c ∷ cs) j =
      let one = weight ws (perfect a size cs (2 * j)) in
      let two = weight ws (perfect a size cs (suc (2 * j))) in
      omega (arith, weigh_most (word_of ws (a + j)) c (one + two), weight_most cs (2 * j), weight_most cs (suc (2 * j)), two-pow-succ (suc (length cs)))

  pub weight_small : (cs : List ℕ) → length cs ≤ 8 → (j : ℕ) → weight ws (perfect a size cs j) + broken ≤ link_heavy
  weight_small cs few j =
      let n : suc (length cs) ≤ 9 = omega arith in
      let p : 2 ^ suc (length cs) ≤ 2 ^ 9 = pow-le-pow_right (omega arith) n in
      omega (arith, weight_most cs j)

-- what is broken somewhere below is broken at the top

parent_broken : (ws : List ℕ) (a size size' : ℕ) (cs : List ℕ) (m : ℕ) → broken ≤ weight ws (perfect a size cs m) → broken ≤ weight ws (perfect a size (size' ∷ cs) (m / 2))
unfolding weight perfect
parent_broken ws a size size' cs m h =
    weigh_least (word_of ws (a + m / 2)) size' (weight ws (perfect a size cs (2 * (m / 2))) + weight ws (perfect a size cs (suc (2 * (m / 2))))) (go (ℕ_discrete m (2 * (m / 2))))
  where
    go : Dec (m ≡ 2 * (m / 2)) → broken ≤ weight ws (perfect a size cs (2 * (m / 2))) + weight ws (perfect a size cs (suc (2 * (m / 2))))
    go (yes e) = let z : broken ≤ weight ws (perfect a size cs (2 * (m / 2))) = subst (λ j. broken ≤ weight ws (perfect a size cs j)) e h in omega arith
    go (no e) =
        let f : m ≡ suc (2 * (m / 2)) = omega arith in
        let z : broken ≤ weight ws (perfect a size cs (suc (2 * (m / 2)))) = subst (λ j. broken ≤ weight ws (perfect a size cs j)) f h in
        omega arith

module _ (ws : List ℕ) (a size : ℕ) (cs : List ℕ) where
  broken_up : (d : ℕ) → d ≤ length cs → (m : ℕ) → 2 ^ d ≤ m → m < 2 ^ suc d → broken ≤ weight ws (perfect a size (drop d cs) m) → broken ≤ weight ws (perfect a size cs 1)
  broken_up zero deep m low high h = let e : m ≡ 1 = omega arith in subst (λ j. broken ≤ weight ws (perfect a size cs j)) e h
  broken_up (suc d) deep m low high h =
      let p = two-pow-succ d in
      let q = two-pow-succ (suc d) in
      broken_up d (omega arith) (m / 2) (omega arith) (omega arith) (rw (drop-cons cs d 0 deep) (parent_broken ws a size (get_or cs d 0) (drop (suc d) cs) m h))

same_weigh : (ws : List ℕ) (m a a' size size' x x' y y' : ℕ) → a ≡ a' → size ≡ size' → x ≡ x' → y ≡ y'
    → weigh (word_of ws (a + m)) size (x + y) ≡ weigh (word_of ws (a' + m)) size' (x' + y')
same_weigh ws m a a' size size' x x' y y' ea es ex ey = cc

-- ---- the S: those in use and those behind them

module _ (ws : List ℕ) (i : ℕ) where
  pub no_counter : counter_in ws i < 1 → room ws i ≤ weight ws (k_merger i)
  no_counter h = omega (arith, room_none ws i h)

  pub far_counter : (k' : ℕ) → k' ≡ k i → 1 ≤ counter_in ws i → k' + 1 < counter_in ws i → room ws i ≤ weight ws (k_merger i)
  far_counter k' ek one h = omega (arith, room_many ws i one (omega arith))

-- what is known of link i once its counter is right
pub record Counted (ws : List ℕ) (i k' f' s' : ℕ) : Type 0 where
  pub of : OfLink ws i
  pub k_is : k' ≡ k i
  pub first_is : f' ≡ first i
  pub s_is : s' ≡ s i
  pub one : 1 ≤ counter_in ws i
  pub few : counter_in ws i ≤ k' + 1

pub counted : {ws : List ℕ} {i n k' f' s' : ℕ} → OfLink ws i → n ≡ i → k' ≡ k n → f' ≡ first n → s' ≡ s n → 1 ≤ counter_in ws i → counter_in ws i ≤ k' + 1 → Counted ws i k' f' s'
counted of n_is k_is f_is s_is one few = record { of = of; k_is = k_is ∙ ap k n_is; first_is = f_is ∙ ap first n_is; s_is = s_is ∙ ap s n_is; one = one; few = few }

module _ (ws below : List ℕ) (i k' f' s' : ℕ) (q : Counted ws i k' f' s') where
  abbrev end : ℕ
  end = k' + (counter_in ws i - 1)

  few' : counter_in ws i ≤ k i + 1
  few' = omega (arith, q.few, q.k_is)

  -- an S that breaks a rule
  wrong_S : (low high : ℕ) → k' ≤ low → high ≤ 2 * k' → Wrong ws f' low high s' nothing → room ws i ≤ weight ws (k_merger i)
  unfolding weight perfect k_merger
  wrong_S low high from to w =
      let here : weight ws (perfect (first i) (s i) (drop (height i) (levels i)) w.at) ≡ broken = all ∙ w.is in
      let up = broken_up ws (first i) (s i) (levels i) (height i) (omega (arith, levels_long q.of.number)) w.at
      (omega (arith, w.from, k_is i, q.k_is)) (omega (arith, w.to, k_is i, q.k_is, two-pow-succ (height i))) (omega (arith, here)) in
      omega (arith, up, room_most ws q.of.number)
    where
      none : drop (height i) (levels i) ≡ []
      none = let few : length (levels i) ≤ height i = omega (arith, levels_long q.of.number) in drop_of_length-le (levels i) few

      all : weight ws (perfect (first i) (s i) (drop (height i) (levels i)) w.at) ≡ weigh (word_of ws (f' + w.at)) s' 0
      all = ap (λ l. weight ws (perfect (first i) (s i) l w.at)) none ∙ ap (λ n. weigh (word_of ws (n + w.at)) (s i) 0) (sym q.first_is) ∙ ap (λ n. weigh (word_of ws (f' + w.at)) n 0) (sym q.s_is)

  module _ (below₁ : List ℕ) (r₁ : Bool) (used : Stretched ws below below₁ f' k' end s' 65535 r₁) where
    pub used_wrong : r₁ ≡ false → room ws i ≤ weight ws (k_merger i)
    used_wrong bad =
        ⊎_elim (wrong_S k' end (omega arith) (omega (arith, q.few))) (λ o. absurd (let z = o.is in omega arith)) (used.wrong bad)

    module _ (good : r₁ ≡ true) (below₂ : List ℕ) (many : ℕ) (r₂ : Bool) (unused : Stretched ws below₁ below₂ f' end (2 * k') s' many r₂) where
      spare_is : counts_from ws (f' + end) (2 * k' - end) ≡ spare ws i
      spare_is = ap (λ n. counts_from ws (f' + (n + (counter_in ws i - 1))) (2 * n - (n + (counter_in ws i - 1)))) q.k_is ∙ ap (λ n. counts_from ws (n + (k i + (counter_in ws i - 1))) (2 * k i - (k i + (counter_in ws i - 1)))) q.first_is

      held_S : Over ws f' end (2 * k') many → room ws i ≤ weight ws (k_merger i)
      held_S o =
          omega (
            arith,
            room_held ws i q.one few'
                (λ z. let e = counts_none ws (f' + end) (2 * k' - end) (spare_is ∙ z) (f' + o.at) (omega (arith, o.from)) (omega (arith, o.to, o.from)) in omega (arith, o.is)),
          )

      pub unused_wrong : r₂ ≡ false → room ws i ≤ weight ws (k_merger i)
      unused_wrong bad = ⊎_elim (wrong_S end (2 * k') (omega arith) (omega arith)) held_S (unused.wrong bad)

      module _ (good₂ : r₂ ≡ true) (none : many ≡ 0) where
        stored : Stored ws below₂ i
        stored = record { weighed = λ m h g. at m (omega (arith, q.k_is)) (omega (arith, q.k_is)) (dec_lt m end) ∙ ap (λ n. weigh (word_of ws (n + m)) s' 0) q.first_is ∙ ap (λ n. weigh (word_of ws (first i + m)) n 0) q.s_is }
          where
            at : (m : ℕ) → k' ≤ m → m < 2 * k' → Dec (m < end) → get_or below₂ m 0 ≡ weigh (word_of ws (f' + m)) s' 0
            at m h g (yes lt) = (unused.right good₂).before m lt ∙ (used.right good).weighed m h lt
            at m h g (no ge) = (unused.right good₂).weighed m (omega arith) g

        none_spare : spare ws i ≡ 0
        none_spare =
            sym spare_is ∙ none_counts ws (f' + end) (2 * k' - end)
            (λ n h g. at n (n - f') (omega arith) (omega (arith, unused.few good₂ (n - f') (omega arith) (omega arith))))
          where
            at : (n m : ℕ) → f' + m ≡ n → count_of ws (f' + m) ≤ 0 → count_of ws n ≡ 0
            at n m e h = let z : count_of ws n ≤ 0 = rw e at h in omega arith

        pub all_stored : RoomLeft ws below₂ i (Some ((counter_in ws i - 1) * s'))
        all_stored = record { is = ap (λ n. (counter_in ws i - 1) * n + 1) q.s_is ∙ sym (room_right ws i q.one few' none_spare); right = stored }

-- ---- the levels upwards: those from `low` on are weighed

pub record Merged (ws below : List ℕ) (i n a low : ℕ) : Type 0 where
  pub number : LinkNumber i
  pub same : n ≡ i
  pub placed : a ≡ first i
  pub long : book_words ≤ length ws
  pub fits : 8 + (first i + 2 * k i) ≤ book_words
  pub few : 2 * k i ≤ widest
  pub sized : length below ≡ widest
  pub within : low ≤ k i
  pub some : 1 ≤ low
  pub depth : ℕ
  pub is : low ≡ 2 ^ depth
  pub deep : depth ≤ height i
  pub weighed : (m : ℕ) → low ≤ m → m < 2 * low → get_or below m 0 ≡ weight ws (perfect (first i) (s i) (drop depth (levels i)) m)

pub merge_starts : (ws below : List ℕ) (i n a k' : ℕ) → OfLink ws i → length below ≡ widest → Stored ws below i → n ≡ i → a ≡ first n → k' ≡ k n → Merged ws below i n a k'
unfolding weight perfect
merge_starts ws below i n a k' of sized stored en ea ek = record {
  number = of.number;
  same = en;
  placed = ea ∙ ap first en;
  long = of.long;
  fits = of.fits;
  few = of.few;
  sized = sized;
  within = omega (arith, ek, ap k en);
  some = omega (arith, ek, ap k en, of.some);
  depth = height i;
  is = ek ∙ ap k en ∙ k_is i;
  deep = omega arith;
  weighed = λ m p q.
      let e = ap k en in
      let all : length (levels i) ≤ height i = omega (arith, levels_long of.number) in
      rw (drop_of_length-le (levels i) all) (stored.weighed m (omega arith) (omega arith));
}

module _ (ws below : List ℕ) (i n a low : ℕ) (inv : Merged ws below i n a low) where
  pub merge_lower : (m : ℕ) → low ≤ m → m < 2 * low → get_or below m 0 ≤ link_heavy
  merge_lower m h g =
      let e = inv.weighed m h g in
      let few : length (drop inv.depth (levels i)) ≤ 8 = omega (arith, length-drop inv.depth (levels i), levels_long inv.number, height_most inv.number) in
      omega (arith, weight_small ws (first i) (s i) (drop inv.depth (levels i)) few m)

  module _ (more : 1 < low) where
    abbrev half : ℕ
    half = low / 2

    -- the level above
    pub record Above : Type 0 where
      pub depth : ℕ
      pub next : inv.depth ≡ suc depth
      pub is : half ≡ 2 ^ depth
      pub even : low ≡ half + half

    above : Above
    above = go inv.depth refl
      where
        go : (d : ℕ) → inv.depth ≡ d → Above
        go zero e = let z : low ≡ 1 = inv.is ∙ ap (λ d. 2 ^ d) e in absurd (omega arith)
        go (suc d) e =
            let z : low ≡ 2 ^ d + 2 ^ d = inv.is ∙ ap (λ d. 2 ^ d) e ∙ two-pow-succ d in
            record { depth = d; next = e; is = omega arith; even = omega arith }

    pub ask_level : Level ws below a half
    ask_level = record {
      long = inv.long;
      few = omega (arith, inv.within, inv.few);
      fits = omega (arith, inv.within, inv.fits, inv.placed);
      small = λ m h g. let e = above.even in omega (arith, merge_lower m (omega arith) (omega arith));
    }

    module _ (size : ℕ) (es : size ≡ capacity n half) where
      deep' : above.depth < height i
      deep' = omega (arith, above.next, inv.deep)

      size_is : size ≡ get_or (levels i) above.depth 0
      size_is = es ∙ ap (λ n. capacity n half) inv.same ∙ ap (capacity i) above.is ∙ level_size inv.number above.depth deep'

      under : (m : ℕ) → low ≤ m → m < 2 * low → get_or below m 0 ≡ weight ws (perfect (first i) (s i) (drop (suc above.depth) (levels i)) m)
      under m h g = inv.weighed m h g ∙ ap (λ d. weight ws (perfect (first i) (s i) (drop d (levels i)) m)) above.next

      output_weight : (m : ℕ) → half ≤ m → m < 2 * half → weigh (word_of ws (a + m)) size (inputs below m) ≡ weight ws (perfect (first i) (s i) (drop above.depth (levels i)) m)
      unfolding weight perfect
      output_weight m h g =
          let e = above.even in
          let cons = drop-cons (levels i) above.depth 0 (omega (arith, deep', levels_long inv.number)) in
          let one = under (2 * m) (omega arith) (omega arith) in
          let two = under (2 * m + 1) (omega arith) (omega arith) ∙ ap (λ j. weight ws (perfect (first i) (s i) (drop (suc above.depth) (levels i)) j)) (add-one (2 * m)) in
          rw cons (same_weigh ws m _ _ _ _ _ _ _ _ inv.placed size_is one two)

      pub merge_again : (below' : List ℕ) → length below' ≡ widest → (r : Bool) → Levelled ws below below' a half size r → r ≡ true → Merged ws below' i n a half
      merge_again below' wide r done good = record {
        number = inv.number;
        same = inv.same;
        placed = inv.placed;
        long = inv.long;
        fits = inv.fits;
        few = inv.few;
        sized = wide;
        within = omega (arith, inv.within);
        some = omega arith;
        depth = above.depth;
        is = above.is;
        deep = omega (arith, above.next, inv.deep);
        weighed = λ m h g. (done.right good).weighed m h g ∙ output_weight m h g;
      }

      pub merge_wrong : (below' : List ℕ) (r : Bool) → Levelled ws below below' a half size r → r ≡ false → room ws i ≤ weight ws (k_merger i)
      unfolding k_merger
      merge_wrong below' r done bad =
          let w = done.wrong bad in
          let is = above.is in
          let e = sym (output_weight w.at w.from w.to) ∙ w.is in
          let up = broken_up ws (first i) (s i) (levels i) above.depth (omega (arith, deep', levels_long inv.number)) w.at (omega (arith, w.from))
          (omega (arith, w.to, two-pow-succ above.depth)) (omega (arith, e)) in
          omega (arith, up, room_most ws inv.number)

  pub merge_ends : low ≤ 1 → get_or below 1 0 ≡ weight ws (k_merger i)
  unfolding k_merger
  merge_ends h = go inv.depth refl
    where
      go : (d : ℕ) → inv.depth ≡ d → get_or below 1 0 ≡ weight ws (perfect (first i) (s i) (levels i) 1)
      go zero e = inv.weighed 1 h (omega (arith, inv.some)) ∙ ap (λ d. weight ws (perfect (first i) (s i) (drop d (levels i)) 1)) e
      go (suc d) e =
          let z : low ≡ 2 ^ d + 2 ^ d = inv.is ∙ ap (λ d. 2 ^ d) e ∙ two-pow-succ d in
          let p = one-le-pow d 2 (omega arith) in
          absurd (omega arith)

-- ---- the link from A on

module _ (ws : List ℕ) (i behind : ℕ) where
  abbrev lower : ℕ
  lower = weight ws (k_merger i)

  abbrev link_for : Bool → ℕ
  link_for t = elim t [ true ↦ weigh (word_of ws (first i)) (capacity i 0) (lower + behind) | false ↦ broken ]

  pub link_broken : room ws i ≤ lower → link_weight ws i behind ≡ broken
  unfolding link_weight
  link_broken h = ap link_for (le-ltb lower (room ws i) h)

  pub link_right : lower < room ws i → link_weight ws i behind ≡ weigh (word_of ws (first i)) (capacity i 0) (lower + behind)
  unfolding link_weight
  link_right h = ap link_for (lt-ltb lower (room ws i) h)

  pub link_weighed : (w size x : ℕ) → w ≡ word_of ws (first i) → size ≡ capacity i 0 → x ≡ lower → x < room ws i → weigh w size (x + behind) ≡ link_weight ws i behind
  link_weighed w size x ew es ex lt =
      let e : weigh w size (x + behind) ≡ weigh (word_of ws (first i)) (capacity i 0) (lower + behind) = cc in
      e ∙ sym (link_right (omega arith))

  pub link_most : LinkNumber i → link_weight ws i behind ≤ link_heavy + behind
  unfolding k_merger
  link_most h = go (dec_lt lower (room ws i))
    where
      few : length (levels i) ≤ 8
      few = omega (arith, levels_long h, height_most h)

      small : weight ws (perfect (first i) (s i) (levels i) 1) + broken ≤ link_heavy
      small = weight_small ws (first i) (s i) (levels i) few 1

      go : Dec (lower < room ws i) → link_weight ws i behind ≤ link_heavy + behind
      go (yes lt) = omega (arith, link_right lt, weigh_most (word_of ws (first i)) (capacity i 0) (lower + behind), small)
      go (no ge) = omega (arith, link_broken (omega arith))

-- with so much room, once all below A(i) are weighed
module _ {ws below : List ℕ} {i n a low : ℕ} (inv : Merged ws below i n a low) (ended : low ≤ 1) (behind r : ℕ) (room_is : r + 1 ≡ room ws i) where
  at_top : get_or below 1 0 ≡ weight ws (k_merger i)
  at_top = merge_ends ws below i n a low inv ended

  pub no_space : r < get_or below 1 0 → broken ≤ link_weight ws i behind
  no_space h = omega (arith, link_broken ws i behind (omega (arith, at_top)))

  pub from_A : get_or below 1 0 ≤ r → {w size c : ℕ} → w ≡ word_of ws a → size ≡ capacity n 0 → c ≡ count_in w → (t : Bool) → t ≡ word_right w size (c + (get_or below 1 0 + behind))
      → Weighs (then_some t (c + (get_or below 1 0 + behind))) (link_weight ws i behind)
  from_A fits {w} {size} {c} w_is size_is c_is t e =
      let is = link_weighed ws i behind w size (get_or below 1 0) (w_is ∙ ap (word_of ws) inv.placed) (size_is ∙ ap (λ m. capacity m 0) inv.same) at_top (omega arith) in
      subst (Weighs (then_some t (c + (get_or below 1 0 + behind)))) is (weighs w size (get_or below 1 0 + behind) t (c + (get_or below 1 0 + behind)) e (ap (λ m. m + (get_or below 1 0 + behind)) c_is))

-- what is broken behind a link is broken from it on

link_least : (ws : List ℕ) (i behind : ℕ) → broken ≤ behind → broken ≤ link_weight ws i behind
link_least ws i behind h = go (dec_lt (weight ws (k_merger i)) (room ws i))
  where
    go : Dec (weight ws (k_merger i) < room ws i) → broken ≤ link_weight ws i behind
    go (yes lt) = rw (link_right ws i behind lt) (weigh_least (word_of ws (first i)) (capacity i 0) (weight ws (k_merger i) + behind) (omega arith))
    go (no ge) = omega (arith, link_broken ws i behind (omega arith))

links_least : (ws : List ℕ) (d i n : ℕ) → broken ≤ links_weight ws (d + i) n → broken ≤ links_weight ws i (d + n)
unfolding links_weight
links_least ws zero i n h = let e : 0 + i ≡ i = omega arith in let f : 0 + n ≡ n = omega arith in rw f (rw e at h)
links_least ws (suc d) i n h =
    let e : suc d + i ≡ d + suc i = omega arith in
    let f : suc d + n ≡ suc (d + n) = omega arith in
    rw f (link_least ws i (links_weight ws (suc i) (d + n)) (links_least ws d (suc i) n (rw e at h)))

-- ---- the links from the last one on

pub behind_starts : (ws : List ℕ) (links : ℕ) → LinkNumber links → Behind ws links (suc most_links) 0
unfolding links_weight
behind_starts ws links number =
    let none : suc links - suc most_links ≡ 0 = omega (arith, number.high) in
    record { is = rw none; small = omega arith }

pub behind_all : (ws : List ℕ) (links held : ℕ) → Behind ws links 1 held → held ≡ links_weight ws 1 links
behind_all ws links held behind = let all : suc links - 1 ≡ links = omega arith in rw all at behind.is

module _ (ws : List ℕ) (links i held : ℕ) (p : Linking ws links i held) where
  pub skipped : links < i → FromLink ws links i (Some held)
  unfolding links_weight
  skipped lt =
      let none : suc links - i ≡ 0 = omega arith in
      let none' : suc links - suc i ≡ 0 = omega arith in
      let was : held ≡ links_weight ws (suc i) 0 = rw none' at p.behind.is in
      record { is = rw none was; small = omega (arith, p.behind.small) }

  pub ask_stores : OfLink ws i
  ask_stores = of_link ws i p.all.long p.number

  module _ (le : i ≤ links) where
    one_more : suc links - i ≡ suc (suc links - suc i)
    one_more = omega arith

    broken_here : broken ≤ link_weight ws i held → broken ≤ links_weight ws 1 links
    unfolding links_weight
    broken_here h =
        let here : broken ≤ links_weight ws i (suc (suc links - suc i)) = subst (λ x. broken ≤ link_weight ws i x) p.behind.is h in
        let low : (i - 1) + 1 ≡ i = omega (arith, p.number.low) in
        let all : (i - 1) + suc (suc links - suc i) ≡ links = omega (arith, p.number.low) in
        subst (λ n. broken ≤ links_weight ws 1 n) all (links_least ws (i - 1) 1 (suc (suc links - suc i)) (subst (λ n. broken ≤ links_weight ws n (suc (suc links - suc i))) (sym low) here))

    more_here : (r : ℕ) → r ≡ link_weight ws i held → Behind ws links i r
    unfolding links_weight
    more_here r is =
        let now : r ≡ link_weight ws i (links_weight ws (suc i) (suc links - suc i)) = is ∙ ap (link_weight ws i) p.behind.is in
        record { is = rw one_more now; small = omega (arith, p.behind.small, is, link_most ws i held p.number) }

    pub no_stores : room ws i ≤ weight ws (k_merger i) → broken ≤ links_weight ws 1 links
    no_stores none = broken_here (omega (arith, link_broken ws i held none))

    pub ask_mergers : (below : List ℕ) (r : ℕ) → RoomIs ws below i r → Merging ws below i held r
    ask_mergers below r left = record { of = ask_stores; small = omega (arith, p.behind.small, p.number.low); left = left }

    pub merged : (o : Option ℕ) → Weighs o (link_weight ws i held) → FromLink ws links i o
    merged None done = broken_here done
    merged (Some r) done = more_here r done
