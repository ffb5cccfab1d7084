-- How many entries a refilled path leaves in each buffer; and what a sweep does to the counters.
use Prim.Native.Nat.{ℕ, zero, suc, ◌+◌, ◌-◌, ◌/◌, ◌≤◌, ◌<◌}
use mathlib.Core.Path.{◌≡◌, refl, sym, ap, ◌∙◌}
use mathlib.Core.Logic.{◌≢◌}
use mathlib.Core.Bool.{true, false}
use mathlib.Core.List.{List, [], ◌∷◌, ◌++◌, map, append_assoc, map-append}
use native.Mathlib.Omega.{arith}
use lib.ListN.{length, get_or, set, take, drop, length-append, length-set, length-take, length-drop}
use lib.Seq.{get_or-set_same, get_or-set_other, set_out, length-take-le}
use Rattle.rules.specs.Links.{k, height, first, number_of_s, sum}
use Rattle.rules.specs.Tree.{Buffers, Tree}
use Rattle.rules.specs.Sweep.{way_down, path_in_link, outputs, path, counts, refill_path, raised}
use Rattle.rules.specs.Insert.{lowest}
use Rattle.rules.proofs.Numbers.{itself, output, in_first, in_second, Outside}
use Rattle.rules.proofs.Sizes.{by_eqb, by_leb, k_some, first_next, first_mono}
use Rattle.rules.proofs.Paths.{Way, end, by_first, by_second}

-- ---- the end of a path

-- the last number of a path
unfoldable pub last_of : List ℕ → ℕ
last_of [] = 0
last_of (n ∷ []) = n
last_of (n ∷ m ∷ ns) = last_of (m ∷ ns)

last_of_snoc : (ns : List ℕ) (n : ℕ) → last_of (ns ++ n ∷ []) ≡ n
unfolding last_of
last_of_snoc [] n = refl
last_of_snoc (m ∷ []) n = refl
last_of_snoc (m ∷ l ∷ ns) n = last_of_snoc (l ∷ ns) n

-- a sweep's path ends at S(i,j)
pub path_ends : (i j : ℕ) → last_of (path i j) ≡ number_of_s i j
unfolding path path_in_link way_down number_of_s
path_ends i j =
    let y = k i + (j - 1) in
    let f : ℕ → ℕ = λ n. first i + n in
    let e : first i + (k i + (j - 1)) ≡ first i + k i + (j - 1) = omega arith in
    ap last_of (ap (λ ns. outputs 1 (i - 1) ++ ns) (map-append f (way_down (height i) (y / 2)) (y ∷ [])) ∙ sym (append_assoc (outputs 1 (i - 1)) (map f (way_down (height i) (y / 2))) (f y ∷ [])))
    ∙ last_of_snoc (outputs 1 (i - 1) ++ map f (way_down (height i) (y / 2))) (f y) ∙ e

-- not a number on the path
abbrev pub NotOn : ℕ → List ℕ → Type 0
NotOn m [] = Unit {0}
NotOn m (n ∷ ns) = (m ≢ n) × NotOn m ns

-- a number before all of these outputs is none of them
before_outputs : (p a m : ℕ) → 0 < a → m < first a → NotOn m (outputs a p)
unfolding outputs
before_outputs zero a m link less = tt
before_outputs (suc p) a m link less = (λ e. omega arith, before_outputs p (suc a) m (omega arith) (omega (arith, first_next a link)))

-- ---- how many a refilled path leaves

-- no buffer but the last has more than was noted, if none had before
abbrev pub NoMoreBut : ℕ → Buffers → Buffers → Type 0
NoMoreBut n before after = (m : ℕ) → m ≢ n → length (get_or after m []) ≤ length (get_or before m [])

set_no_more : (last n : ℕ) (v : List ℕ) (before bs : Buffers) → length v ≤ length (get_or before n []) → NoMoreBut last before bs → NoMoreBut last before (set bs n v)
set_no_more last n v before bs few h m other =
    by_eqb m n (λ b. length (get_or (set bs n v) m []) ≤ length (get_or before m []))
    (λ e. by_leb (suc n) (length bs) (λ b. length (get_or (set bs n v) m []) ≤ length (get_or before m []))
    (λ l. rw (e, get_or-set_same bs n v [] l) few)
    (λ l. rw (set_out bs n v (omega arith)) (h m other)))
    (λ e. rw (get_or-set_other bs n m v [] e) (h m other))

-- so after a refill
pub refill_no_more : (ns run : List ℕ) (before bs : Buffers) → NoMoreBut (last_of ns) before bs → NoMoreBut (last_of ns) before (refill_path ns (counts ns before) run bs)
unfolding refill_path counts last_of
refill_no_more [] run before bs h = h
refill_no_more (n ∷ []) run before bs h = λ m other. rw (get_or-set_other bs n m run [] other) (h m other)
refill_no_more (n ∷ m ∷ ns) run before bs h =
    let c = length (get_or before n []) in
    refill_no_more (m ∷ ns) (drop c run) before (set bs n (take c run)) (set_no_more (last_of (m ∷ ns)) n (take c run) before bs (omega (arith, length-take c run)) h)

-- the last gets what is left over
pub refill_last : (n : ℕ) (ns run : List ℕ) (before bs : Buffers) → last_of (n ∷ ns) < length bs → sum (counts (n ∷ ns) before) ≤ length run
    → length (get_or (refill_path (n ∷ ns) (counts (n ∷ ns) before) run bs) (last_of (n ∷ ns)) []) + sum (counts (n ∷ ns) before) ≡ length run + length (get_or before (last_of (n ∷ ns)) [])
unfolding refill_path counts last_of sum
refill_last n [] run before bs less enough = rw (get_or-set_same bs n run [] less) (omega arith)
refill_last n (m ∷ ns) run before bs less enough =
    let c = length (get_or before n []) in
    let l = length-drop c run in
    let h = refill_last m ns (drop c run) before (set bs n (take c run)) (rw (length-set bs n (take c run)) less) (omega arith) in
    omega arith

-- ---- what is not on a path stays

-- on neither of two paths, so not on both together
pub not_on_append : (m : ℕ) (xs ys : List ℕ) → NotOn m xs → NotOn m ys → NotOn m (xs ++ ys)
not_on_append m [] ys p q = q
not_on_append m (x ∷ xs) ys p q = (p.0, not_on_append m xs ys p.1 q)

-- what stands outside a tree is on no way down it
pub not_on_way : {t : Tree} {n : ℕ} {ns : List ℕ} → Way t n ns → (m : ℕ) → Outside m t → NotOn m (n ∷ ns)
not_on_way end m out = (λ e. out (rw e itself), tt)
not_on_way (by_first w) m out = (λ e. out (rw e output), not_on_way w m (λ st. out (in_first st)))
not_on_way (by_second w) m out = (λ e. out (rw e output), not_on_way w m (λ st. out (in_second st)))

-- a refilled path changes no other buffer
pub refill_other : (ns noted run : List ℕ) (bs : Buffers) (m : ℕ) → NotOn m ns → get_or (refill_path ns noted run bs) m [] ≡ get_or bs m []
unfolding refill_path
refill_other [] noted run bs m h = refl
refill_other (n ∷ []) noted run bs m h = get_or-set_other bs n m run [] h.0
refill_other (n ∷ l ∷ ns) [] run bs m h = refl
refill_other (n ∷ l ∷ ns) (c ∷ noted) run bs m h = refill_other (l ∷ ns) noted (drop c run) (set bs n (take c run)) m h.1 ∙ get_or-set_other bs n m (take c run) [] h.0

-- ---- the outputs before a path keep their counts

refill_step : (n c : ℕ) (ns noted run : List ℕ) (bs : Buffers) → 0 < length ns → refill_path (n ∷ ns) (c ∷ noted) run bs ≡ refill_path ns noted (drop c run) (set bs n (take c run))
unfolding refill_path
refill_step n c [] noted run bs some = absurd (omega arith)
refill_step n c (m ∷ ns) noted run bs some = refl

-- where the run is long enough, each of these buffers has as many as was noted
pub refill_outputs : (p a : ℕ) (ns run : List ℕ) (before bs : Buffers) → 0 < a → 0 < length ns → ((m : ℕ) → m < first (a + p) → NotOn m ns) → first (a + p) ≤ length bs
    → sum (counts (outputs a p ++ ns) before) ≤ length run → counts (outputs a p) (refill_path (outputs a p ++ ns) (counts (outputs a p ++ ns) before) run bs) ≡ counts (outputs a p) before
unfolding outputs counts sum
refill_outputs zero a ns run before bs link some off many enough = refl
refill_outputs (suc p) a ns run before bs link some off many enough =
    let e : a + suc p ≡ suc a + p = omega arith in
    let n = first a in
    let c = length (get_or before n []) in
    let rest = outputs (suc a) p ++ ns in
    let up = set bs n (take c run) in
    let after = refill_path rest (counts rest before) (drop c run) up in
    let l = length-drop c run in
    let f = first_mono (suc a) (suc a + p) (omega arith) (omega arith) in
    let g = first_next a link in
    let some_k = k_some a in
    let as_many = length-set bs n (take c run) in
    let off' : (m : ℕ) → m < first (suc a + p) → NotOn m ns = rw e at off in
    let many' : first (suc a + p) ≤ length up = rw length-set (rw e at many) in
    let step : refill_path (n ∷ rest) (c ∷ counts rest before) run bs ≡ after = refill_step n c rest (counts rest before) run bs (omega (arith, length-append (outputs (suc a) p) ns)) in
    let here : length (get_or after n []) ≡ c =
    ap length (refill_other rest (counts rest before) (drop c run) up n (not_on_append n (outputs (suc a) p) ns (before_outputs p (suc a) n (omega arith) (omega arith)) (off' n (omega arith)))
    ∙ get_or-set_same bs n (take c run) [] (omega arith)) ∙ length-take-le c run (omega arith) in
    let others = refill_outputs p (suc a) ns (drop c run) before up (omega arith) some off' many' (omega arith) in
    ap (λ z. length (get_or z n []) ∷ counts (outputs (suc a) p) z) step ∙ (λ i. here i ∷ others i)

-- ---- counters

-- "Then c(i) rises by one and c(1) .. c(i-1) become 1.": link m is the counters' place m - 1
pub raised_long : (i : ℕ) (cs : List ℕ) → length (raised i cs) ≡ length cs
unfolding raised
raised_long i [] = refl
raised_long zero (c ∷ cs) = refl
raised_long (suc zero) (c ∷ cs) = refl
raised_long (suc (suc i)) (c ∷ cs) = ap suc (raised_long (suc i) cs)

-- the counters before it become 1
pub raised_before : (i : ℕ) (cs : List ℕ) (n : ℕ) → suc n < i → n < length cs → get_or (raised i cs) n 0 ≡ 1
unfolding raised
raised_before i [] n h l = absurd (omega arith)
raised_before zero (c ∷ cs) n h l = absurd (omega arith)
raised_before (suc zero) (c ∷ cs) n h l = absurd (omega arith)
raised_before (suc (suc i)) (c ∷ cs) zero h l = refl
raised_before (suc (suc i)) (c ∷ cs) (suc n) h l = raised_before (suc i) cs n (omega arith) (omega arith)

-- its counter rises by one
pub raised_at : (i : ℕ) (cs : List ℕ) (n : ℕ) → suc n ≡ i → n < length cs → get_or (raised i cs) n 0 ≡ suc (get_or cs n 0)
unfolding raised
raised_at i [] n h l = absurd (omega arith)
raised_at zero (c ∷ cs) n h l = absurd (omega arith)
raised_at (suc zero) (c ∷ cs) zero h l = refl
raised_at (suc zero) (c ∷ cs) (suc n) h l = absurd (omega arith)
raised_at (suc (suc i)) (c ∷ cs) zero h l = absurd (omega arith)
raised_at (suc (suc i)) (c ∷ cs) (suc n) h l = raised_at (suc i) cs n (omega arith) (omega arith)

-- those behind stay
pub raised_behind : (i : ℕ) (cs : List ℕ) (n : ℕ) → i ≤ n → get_or (raised i cs) n 0 ≡ get_or cs n 0
unfolding raised
raised_behind i [] n h = refl
raised_behind zero (c ∷ cs) n h = refl
raised_behind (suc zero) (c ∷ cs) zero h = absurd (omega arith)
raised_behind (suc zero) (c ∷ cs) (suc n) h = refl
raised_behind (suc (suc i)) (c ∷ cs) zero h = absurd (omega arith)
raised_behind (suc (suc i)) (c ∷ cs) (suc n) h = raised_behind (suc i) cs n (omega arith)

-- "the lowest link with c(i) at most k(i)", of links from i on
pub record Lowest (i : ℕ) (cs : List ℕ) (l : ℕ) : Type 0 where
  pub low : i ≤ l
  pub high : l ≤ i + length cs
  pub has : (n : ℕ) → l ≡ i + n → n < length cs → get_or cs n 0 ≤ k l
  pub others : (n : ℕ) → i + n < l → k (i + n) < get_or cs n 0

lowest_here : (i c : ℕ) (cs : List ℕ) → c ≤ k i → Lowest i (c ∷ cs) i
lowest_here i c cs h = record { low = omega arith; high = omega arith; has = has; others = λ n less. absurd (omega arith) }
  where
    has : (n : ℕ) → i ≡ i + n → n < length (c ∷ cs) → get_or (c ∷ cs) n 0 ≤ k i
    has zero e less = h
    has (suc n) e less = absurd (omega arith)

lowest_later : (i c : ℕ) (cs : List ℕ) (l : ℕ) → k i < c → Lowest (suc i) cs l → Lowest i (c ∷ cs) l
lowest_later i c cs l h z = record { low = omega (arith, z.low); high = omega (arith, z.high); has = has; others = others }
  where
    has : (n : ℕ) → l ≡ i + n → n < length (c ∷ cs) → get_or (c ∷ cs) n 0 ≤ k l
    has zero e less = absurd (omega (arith, z.low))
    has (suc n) e less = z.has n (omega arith) (omega arith)

    others : (n : ℕ) → i + n < l → k (i + n) < get_or (c ∷ cs) n 0
    others zero less = let e : i + 0 ≡ i = omega arith in rw e h
    others (suc n) less = let e : i + suc n ≡ suc i + n = omega arith in rw e (z.others n (omega arith))

-- and that is what the rule finds
pub lowest_is : (i : ℕ) (cs : List ℕ) → Lowest i cs (lowest i cs)
unfolding lowest
lowest_is i [] = record { low = omega arith; high = omega arith; has = λ n e less. absurd (omega arith); others = λ n less. absurd (omega arith) }
lowest_is i (c ∷ cs) =
    by_leb c (k i) (λ b. Lowest i (c ∷ cs) (elim b [ true ↦ i | false ↦ lowest (suc i) cs ])) (lowest_here i c cs) (λ h. lowest_later i c cs (lowest (suc i) cs) h (lowest_is (suc i) cs))
