-- Laying a run along a way: nothing is lost, what it changes in the account, and that it keeps the order.
use Prim.Native.Nat.{ℕ, zero, suc, ◌+◌, ◌*◌, ◌≤◌, ◌<◌}
use mathlib.Core.Path.{◌≡◌, refl, ap, ◌∙◌}
use mathlib.Core.List.{List, [], ◌∷◌, ◌++◌}
use native.Mathlib.Omega.{arith}
use lib.ListN.{length, take, drop, length-append, length-drop}
use lib.Seq.{length-take-le}
use lib.Dec.{leb}
use Rattle.rules.specs.Tree.{Tree}
use Rattle.rules.specs.Order.{last_key}
use Rattle.rules.proofs.Contents.{Contents}
use Rattle.rules.proofs.Weight.{sum_of, sum_of_append, sum_of_same, weight_below, weight, one_if}
use Rattle.rules.proofs.Ordered.{Ascends, ascends_from, Ordered, ordered_from}
use Rattle.rules.proofs.TakeOrder.{ascends_append}
use Rattle.rules.proofs.Sizes.{by_leb}
use Rattle.rules.proofs.Paths.{Way, end, by_first, by_second, along, lay}

-- ---- nothing is lost

-- a run in two pieces
pub sum_of_split : (w : ℕ → ℕ) (n : ℕ) (es : List ℕ) → sum_of w (take n es) + sum_of w (drop n es) ≡ sum_of w es
sum_of_split w zero es = omega arith
sum_of_split w (suc n) [] = omega arith
sum_of_split w (suc n) (e ∷ es) = omega (arith, sum_of_split w n es)

-- what stands along the way is replaced by the run
pub lay_keeps : (g : ℕ → ℕ) {t : Tree} {n : ℕ} {ns : List ℕ} (w : Way t n ns) (d : ℕ) (noted : Contents t) (run : List ℕ) (z : Contents t)
    → weight (λ d. g) t d (lay w noted run z) + sum_of g (along w z) ≡ weight (λ d. g) t d z + sum_of g run
unfolding lay along weight_below
lay_keeps g end d noted run z = omega arith
lay_keeps g (by_first w) d noted run z =
    let c = length noted.0 in
    omega (arith, lay_keeps g w (suc d) noted.1.0 (drop c run) z.1.0, sum_of_split g c run, sum_of_append g z.0 (along w z.1.0))
lay_keeps g (by_second w) d noted run z =
    let c = length noted.0 in
    omega (arith, lay_keeps g w (suc d) noted.1.1 (drop c run) z.1.1, sum_of_split g c run, sum_of_append g z.0 (along w z.1.1))

-- ---- the account

-- what the entries along a way owe, from depth d on
unfoldable pub owed_on : {t : Tree} {n : ℕ} {ns : List ℕ} → Way t n ns → ℕ → Contents t → ℕ
owed_on end d z = d * length z.0
owed_on (by_first w) d z = d * length z.0 + owed_on w (suc d) z.1.0
owed_on (by_second w) d z = d * length z.0 + owed_on w (suc d) z.1.1

-- each entry owes its depth
abbrev pub depth : ℕ → ℕ → ℕ
depth d e = d

-- a buffer that is refilled to its noted count owes what it owed
take_owed : (d : ℕ) (noted run : List ℕ) → length noted ≤ length run → sum_of (λ e. d) (take (length noted) run) ≡ d * length noted
take_owed d noted run enough = sum_of_same d (take (length noted) run) ∙ ap (λ n. d * n) (length-take-le (length noted) run enough)

one_deeper : (d n x : ℕ) → (suc d + n) * x ≡ (d + suc n) * x
one_deeper d n x = let e : suc d + n ≡ d + suc n = omega arith in rw e

-- a run that is x longer than what was noted: the last buffer of the way gets x more
pub lay_owed : {t : Tree} {n : ℕ} {ns : List ℕ} (w : Way t n ns) (d : ℕ) (noted : Contents t) (run : List ℕ) (z : Contents t) (x : ℕ) → length run ≡ length (along w noted) + x
    → weight depth t d (lay w noted run z) + owed_on w d z ≡ weight depth t d z + (owed_on w d noted + (d + length ns) * x)
unfolding lay along owed_on weight_below
lay_owed end d noted run z x long =
    let e : d * length run ≡ d * (length noted.0 + x) = ap (λ n. d * n) long in
    omega (arith, sum_of_same d run, sum_of_same d z.0)
lay_owed (by_first {ns = ns} w) d noted run z x long =
    let c = length noted.0 in
    let a = length-append noted.0 (along w noted.1.0) in
    let l = length-drop c run in
    omega (arith, take_owed d noted.0 run (omega arith), sum_of_same d z.0, one_deeper d (length ns) x, lay_owed w (suc d) noted.1.0 (drop c run) z.1.0 x (omega arith))
lay_owed (by_second {ns = ns} w) d noted run z x long =
    let c = length noted.0 in
    let a = length-append noted.0 (along w noted.1.1) in
    let l = length-drop c run in
    omega (arith, take_owed d noted.0 run (omega arith), sum_of_same d z.0, one_deeper d (length ns) x, lay_owed w (suc d) noted.1.1 (drop c run) z.1.1 x (omega arith))

-- ---- order

module _ (key : ℕ → ℕ) where
  -- the run is at least as long as another, and at each place its key is no larger
  abbrev pub NoLater : List ℕ → List ℕ → Type 0
  NoLater run [] = Unit {0}
  NoLater [] (y ∷ ys) = ⊥
  NoLater (x ∷ xs) (y ∷ ys) = (key x ≤ key y) × NoLater xs ys

  -- whether a key is at most v
  abbrev pub up_to : ℕ → ℕ → ℕ
  up_to v e = one_if (leb (key e) v)

  up_to_yes : (v e : ℕ) → key e ≤ v → up_to v e ≡ 1
  up_to_yes v e h = by_leb (key e) v (λ b. one_if b ≡ 1) (λ l. refl) (λ l. absurd (omega arith))

  up_to_no : (v e : ℕ) → v < key e → up_to v e ≡ 0
  up_to_no v e h = by_leb (key e) v (λ b. one_if b ≡ 0) (λ l. absurd (omega arith)) (λ l. refl)

  up_to_none : (v low : ℕ) (es : List ℕ) → v < low → Ascends key low es → sum_of (up_to v) es ≡ 0
  up_to_none v low [] h a = refl
  up_to_none v low (e ∷ es) h a = omega (arith, up_to_no v e (omega (arith, a.0)), up_to_none v (key e) es (omega (arith, a.0)) a.1)

  -- of two ascending runs, the one with more entries up to each key is the smaller at each place
  pub no_later : (low low' : ℕ) (xs ys : List ℕ) → Ascends key low xs → Ascends key low' ys → ((v : ℕ) → sum_of (up_to v) ys ≤ sum_of (up_to v) xs) → NoLater xs ys
  no_later low low' [] [] a b h = tt
  no_later low low' (x ∷ xs) [] a b h = tt
  no_later low low' [] (y ∷ ys) a b h = absurd (omega (arith, h (key y), up_to_yes (key y) y (omega arith)))
  no_later low low' (x ∷ xs) (y ∷ ys) a b h =
      by_leb (key x) (key y) (λ t. NoLater (x ∷ xs) (y ∷ ys))
      (λ q. (
        q,
        no_later (key x) (key y) xs ys a.1 b.1 (λ v.
            by_leb (key y) v (λ t. sum_of (up_to v) ys ≤ sum_of (up_to v) xs)
            (λ l. omega (arith, h v, up_to_yes v y l, up_to_yes v x (omega arith)))
            (λ l. omega (arith, up_to_none v (key y) ys l b.1))),
      ))
      (λ q. absurd (omega (arith, h (key y), up_to_yes (key y) y (omega arith), up_to_no (key y) x q, up_to_none (key y) (key x) xs q a.1)))

  no_later_take : (xs ys run : List ℕ) → NoLater run (xs ++ ys) → NoLater (take (length xs) run) xs
  no_later_take [] ys run h = tt
  no_later_take (x ∷ xs) ys [] h = h
  no_later_take (x ∷ xs) ys (r ∷ run) h = (h.0, no_later_take xs ys run h.1)

  no_later_drop : (xs ys run : List ℕ) → NoLater run (xs ++ ys) → NoLater (drop (length xs) run) ys
  no_later_drop [] ys run h = h
  no_later_drop (x ∷ xs) ys [] h = absurd h
  no_later_drop (x ∷ xs) ys (r ∷ run) h = no_later_drop xs ys run h.1

  -- with as many entries, the last key is no larger
  no_later_last : {low low' : ℕ} → low ≤ low' → (xs run : List ℕ) → NoLater (take (length xs) run) xs → last_key key low (take (length xs) run) ≤ last_key key low' xs
  unfolding last_key
  no_later_last l [] run h = l
  no_later_last l (x ∷ xs) [] h = absurd h
  no_later_last {low = low} {low' = low'} l (x ∷ xs) (r ∷ run) h = no_later_last {low = key r} {low' = key x} h.0 xs run h.1

  -- the front of an ascending run ascends
  pub ascends_take : (low n : ℕ) (es : List ℕ) → Ascends key low es → Ascends key low (take n es)
  ascends_take low zero es h = tt
  ascends_take low (suc n) [] h = tt
  ascends_take low (suc n) (e ∷ es) h = (h.0, ascends_take (key e) n es h.1)

  -- and what is behind goes on from its last key
  pub ascends_drop : (low n : ℕ) (es : List ℕ) → Ascends key low es → Ascends key (last_key key low (take n es)) (drop n es)
  unfolding last_key
  ascends_drop low zero es h = h
  ascends_drop low (suc n) [] h = tt
  ascends_drop low (suc n) (e ∷ es) h = ascends_drop (key e) n es h.1

  -- what is behind ascends from where all ascends
  pub ascends_behind : (low n : ℕ) (es : List ℕ) → Ascends key low es → Ascends key low (drop n es)
  ascends_behind low zero es h = h
  ascends_behind low (suc n) [] h = tt
  ascends_behind low (suc n) (e ∷ es) h = ascends_from key h.0 (drop n es) (ascends_behind (key e) n es h.1)

  -- what stands along a way in a tree in order ascends
  pub along_ascends : {t : Tree} {n : ℕ} {ns : List ℕ} (w : Way t n ns) (low : ℕ) (z : Contents t) → Ordered key t low z → Ascends key low (along w z)
  unfolding along
  along_ascends end low z h = h.0
  along_ascends (by_first w) low z h = ascends_append key low z.0 (along w z.1.0) h.0 (along_ascends w (last_key key low z.0) z.1.0 h.1.0)
  along_ascends (by_second w) low z h = ascends_append key low z.0 (along w z.1.1) h.0 (along_ascends w (last_key key low z.0) z.1.1 h.1.1)

  -- what stands beside the way is in order wherever it was
  unfoldable pub BesideWay : {t : Tree} {n : ℕ} {ns : List ℕ} → Way t n ns → Contents t → Contents t → Type 0
  BesideWay end before z = Unit {0}
  BesideWay (by_first {two = two} w) before z = ((low : ℕ) → Ordered key two low before.1.1 → Ordered key two low z.1.1) × BesideWay w before.1.0 z.1.0
  BesideWay (by_second {one = one} w) before z = ((low : ℕ) → Ordered key one low before.1.0 → Ordered key one low z.1.0) × BesideWay w before.1.1 z.1.1

  -- a run laid along a way, no later than what stood along it, keeps the order
  pub lay_ordered : {t : Tree} {n : ℕ} {ns : List ℕ} (w : Way t n ns) {low low' : ℕ} → low ≤ low' → (before : Contents t) (run : List ℕ) (z : Contents t)
      → BesideWay w before z → Ordered key t low' before → Ascends key low run → NoLater run (along w before) → Ordered key t low (lay w before run z)
  unfolding lay along BesideWay
  lay_ordered end l before run z b h a n = (a, tt)
  lay_ordered (by_first {two = two} w) {low} {low'} l before run z b h a n =
      let c = length before.0 in
      let v = no_later_last l before.0 run (no_later_take before.0 (along w before.1.0) run n) in (
        ascends_take low c run a,
        (
          lay_ordered w v before.1.0 (drop c run) z.1.0 b.1 h.1.0 (ascends_drop low c run a) (no_later_drop before.0 (along w before.1.0) run n),
          ordered_from key two v z.1.1 (b.0 (last_key key low' before.0) h.1.1),
        ),
      )
  lay_ordered (by_second {one = one} w) {low} {low'} l before run z b h a n =
      let c = length before.0 in
      let v = no_later_last l before.0 run (no_later_take before.0 (along w before.1.1) run n) in (
        ascends_take low c run a,
        (
          ordered_from key one v z.1.0 (b.0 (last_key key low' before.0) h.1.0),
          lay_ordered w v before.1.1 (drop c run) z.1.1 b.1 h.1.1 (ascends_drop low c run a) (no_later_drop before.0 (along w before.1.1) run n),
        ),
      )
