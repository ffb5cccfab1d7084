-- Paths: a way down the tree, the run read along it, and the laying of a run along it; and that a sweep's path is such a way.
use Prim.Native.Nat.{ℕ, zero, suc, ◌+◌, ◌-◌, ◌*◌, ◌^◌, ◌/◌, ◌≤◌, ◌<◌}
use mathlib.Core.Path.{◌≡◌, refl, sym, ap, ◌∙◌, subst}
use mathlib.Core.List.{List, [], ◌∷◌, ◌++◌, map, append-nil}
use native.Mathlib.Omega.{arith}
use native.Mathlib.Nat.{div-eq_of_lt, div-eq_of_lt-le, div-one, two-pow-succ, div-div-eq-div-mul, pow-succ', mul_comm}
use lib.ListN.{length, get_or, set, take, drop, length-set}
use lib.Seq.{get_or-set_same}
use Rattle.rules.specs.Links.{s, k, height, levels, capacity, first}
use Rattle.rules.specs.Tree.{Buffers, Tree, buffer, merger, entries, perfect, k_merger, links_from}
use Rattle.rules.specs.Sweep.{way_down, path_in_link, outputs, path, counts, run_along, refill_path}
use Rattle.rules.proofs.Numbers.{itself, output, in_first, in_second, apart_back, Among, joint, among_first, among_second, Outside, Apart}
use Rattle.rules.proofs.Contents.{Contents, below, view}
use Rattle.rules.proofs.Frame.{Frame, frame_none, frame_then, frame_wider, frame_set, view_apart, view_set}
use Rattle.rules.proofs.Sizes.{by_leb, k_power, length_levels}

-- ---- ways

-- from the top buffer, n, down to a buffer that no merger feeds, by these numbers
pub data Way : Tree → ℕ → List ℕ → Type 0 where
  end : {n c : ℕ} → Way (buffer n c) n []
  by_first : {n c m : ℕ} {one two : Tree} {ns : List ℕ} → Way one m ns → Way (merger n c one two) n (m ∷ ns)
  by_second : {n c m : ℕ} {one two : Tree} {ns : List ℕ} → Way two m ns → Way (merger n c one two) n (m ∷ ns)

-- "the run read along the path", of contents
unfoldable pub along : {t : Tree} {n : ℕ} {ns : List ℕ} → Way t n ns → Contents t → List ℕ
along end z = z.0
along (by_first w) z = z.0 ++ along w z.1.0
along (by_second w) z = z.0 ++ along w z.1.1

-- "Refill each path buffer .. to its noted count. The rest goes into" the last, of contents: `noted` are the contents whose counts were noted
unfoldable pub lay : {t : Tree} {n : ℕ} {ns : List ℕ} → Way t n ns → Contents t → List ℕ → Contents t → Contents t
lay end noted run z = (run, tt)
lay (by_first w) noted run z = let c = length noted.0 in (take c run, (lay w noted.1.0 (drop c run) z.1.0, z.1.1))
lay (by_second w) noted run z = let c = length noted.0 in (take c run, (z.1.0, lay w noted.1.1 (drop c run) z.1.1))

-- as the buffers show it
pub along_seen : {t : Tree} {n : ℕ} {ns : List ℕ} (w : Way t n ns) (bs : Buffers) → along w (view t bs) ≡ run_along (n ∷ ns) bs
unfolding along run_along entries below
along_seen (end {n = n}) bs = sym (append-nil (get_or bs n []))
along_seen (by_first {n = n} w) bs = ap (λ l. get_or bs n [] ++ l) (along_seen w bs)
along_seen (by_second {n = n} w) bs = ap (λ l. get_or bs n [] ++ l) (along_seen w bs)

-- ---- laying a run along a way

-- a refilled path changes the buffers of its tree alone
pub refill_frame : {t : Tree} {n : ℕ} {ns : List ℕ} → Way t n ns → (noted run : List ℕ) (bs : Buffers) → Frame t bs (refill_path (n ∷ ns) noted run bs)
unfolding refill_path
refill_frame (end {n = n}) noted run bs = frame_set n itself run bs
refill_frame (by_first w) [] run bs = frame_none bs
refill_frame (by_first {n = n} w) (c ∷ noted) run bs =
    frame_then (frame_set n output (take c run) bs) (frame_wider (λ m. in_first) (refill_frame w noted (drop c run) (set bs n (take c run))))
refill_frame (by_second w) [] run bs = frame_none bs
refill_frame (by_second {n = n} w) (c ∷ noted) run bs =
    frame_then (frame_set n output (take c run) bs) (frame_wider (λ m. in_second) (refill_frame w noted (drop c run) (set bs n (take c run))))

-- one step down: the output n gets its part, the input on the way what is laid into it, and the other input is not touched
one_down : (n m c : ℕ) (ns noted run : List ℕ) (sub other : Tree) → Way sub m ns → (bs : Buffers) → Outside n sub → Outside n other → Apart other sub → n < length bs
    → (f : Contents sub → Contents sub) → let up = set bs n (take c run) in let after = refill_path (m ∷ ns) noted (drop c run) up in
    view sub after ≡ f (view sub up) → (get_or after n [] ≡ take c run) × (view sub after ≡ f (view sub bs)) × (view other after ≡ view other bs)
one_down n m c ns noted run sub other w bs out out_other apart less f e =
    let v = take c run in
    let fr = refill_frame w noted (drop c run) (set bs n v) in
    (fr.same n out ∙ get_or-set_same bs n v [] less, e ∙ ap f (view_set sub n out v bs), view_apart apart fr ∙ view_set other n out_other v bs)

-- a refilled path, seen through the tree, is the run laid along the way
pub lay_seen : {t : Tree} {n : ℕ} {ns : List ℕ} (w : Way t n ns) (before bs : Buffers) (run : List ℕ) → Among t (length bs)
    → view t (refill_path (n ∷ ns) (counts (n ∷ ns) before) run bs) ≡ lay w (view t before) run (view t bs)
unfolding refill_path counts lay entries below
lay_seen (end {n = n}) before bs run a = ap (λ l. (l, tt)) (get_or-set_same bs n run [] (a.less n itself))
lay_seen (by_first {n = n} {m = m} {one = one} {two = two} {ns = ns} w) before bs run a =
    let c = length (get_or before n []) in
    let many = length-set bs n (take c run) in
    let d = one_down n m c ns (counts (m ∷ ns) before) run one two w bs (joint a).out_one (joint a).out_two (apart_back (joint a).apart) (a.less n output)
    (lay w (view one before) (drop c run)) (lay_seen w before (set bs n (take c run)) (drop c run) (rw many (among_first a))) in
    λ i. (d.0 i, (d.1 i, d.2 i))
lay_seen (by_second {n = n} {m = m} {one = one} {two = two} {ns = ns} w) before bs run a =
    let c = length (get_or before n []) in
    let many = length-set bs n (take c run) in
    let d = one_down n m c ns (counts (m ∷ ns) before) run two one w bs (joint a).out_two (joint a).out_one (joint a).apart (a.less n output)
    (lay w (view two before) (drop c run)) (lay_seen w before (set bs n (take c run)) (drop c run) (rw many (among_second a))) in
    λ i. (d.0 i, (d.2 i, d.1 i))

-- ---- a sweep's path

-- below y / 2 ^ l stand these, down to y
unfoldable rest : ℕ → ℕ → ℕ → List ℕ
rest a zero y = []
rest a (suc l) y = (a + y / 2 ^ l) ∷ rest a l y

length_rest : (a l y : ℕ) → length (rest a l y) ≡ l
unfolding rest
length_rest a zero y = refl
length_rest a (suc l) y = ap suc (length_rest a l y)

halved : (y l : ℕ) → y / 2 / 2 ^ l ≡ y / 2 ^ suc l
halved y l = div-div-eq-div-mul y 2 (2 ^ l) ∙ ap (λ d. y / d) (sym (pow-succ' 2 l))

halved_last : (y l : ℕ) → y / 2 ^ l / 2 ≡ y / 2 ^ suc l
halved_last y l = div-div-eq-div-mul y (2 ^ l) 2 ∙ ap (λ d. y / d) (mul_comm (2 ^ l) 2 ∙ sym (pow-succ' 2 l))

-- the way down, from the top
way_down_top : (l y : ℕ) → way_down (suc l) y ≡ y / 2 ^ suc l ∷ way_down l y
unfolding way_down
way_down_top zero y = refl
way_down_top (suc l) y = ap (λ ns. ns ++ y ∷ []) (way_down_top l (y / 2)) ∙ ap (λ n. n ∷ way_down l (y / 2) ++ y ∷ []) (halved y (suc l))

way_down_is : (a l y : ℕ) → map (λ n. a + n) (way_down l y) ≡ (a + y / 2 ^ l) ∷ rest a l y
unfolding rest way_down
way_down_is a zero y = ap (λ n. (a + n) ∷ []) (sym (div-one y))
way_down_is a (suc l) y = ap (map (λ n. a + n)) (way_down_top l y) ∙ ap (λ ns. (a + y / 2 ^ suc l) ∷ ns) (way_down_is a l y)

perfect_way : (a size : ℕ) (cs : List ℕ) (y : ℕ) → Way (perfect a size cs (y / 2 ^ length cs)) (a + y / 2 ^ length cs) (rest a (length cs) y)
unfolding perfect rest
perfect_way a size [] y = end
perfect_way a size (c ∷ cs) y =
    let l = length cs in
    let z = y / 2 ^ l in
    let j = y / 2 ^ suc l in
    let half : z / 2 ≡ j = halved_last y l in
    let w = perfect_way a size cs y in
    by_leb z (2 * j) (λ b. Way (perfect a size (c ∷ cs) j) (a + j) ((a + z) ∷ rest a l y))
    (λ q. let e : z ≡ 2 * j = omega arith in by_first (subst (λ n. Way (perfect a size cs n) (a + z) (rest a l y)) e w))
    (λ q. let e : z ≡ suc (2 * j) = omega arith in by_second (subst (λ n. Way (perfect a size cs n) (a + z) (rest a l y)) e w))

-- "B(i) and inner buffers to S(i,j)"
unfoldable pub from_b : ℕ → ℕ → List ℕ
unfolding rest
from_b i j = (first i + 1) ∷ rest (first i) (height i) (k i + (j - 1))

-- S(i,j) is one of the last k numbers of its link
module _ (i j : ℕ) (link : 0 < i) (some : 0 < j) (most : j ≤ k i) where
  abbrev bottom : ℕ
  bottom = k i + (j - 1)

  at_b : bottom / 2 ^ height i ≡ 1
  at_b = div-eq_of_lt-le (2 ^ height i) (omega (arith, k_power i)) (omega (arith, k_power i))

  at_a : bottom / 2 ^ suc (height i) ≡ 0
  at_a = div-eq_of_lt (omega (arith, k_power i, two-pow-succ (height i)))

  -- "A(i), B(i) and inner buffers to S(i,j)"
  pub path_in_link_is : path_in_link i j ≡ first i ∷ from_b i j
  unfolding path_in_link from_b
  path_in_link_is =
      let e : first i + 0 ≡ first i = omega arith in
      ap (map (λ n. first i + n)) (way_down_top (height i) bottom) ∙ ap (λ n. (first i + n) ∷ map (λ n. first i + n) (way_down (height i) bottom)) at_a
      ∙ ap (λ ns. (first i + 0) ∷ ns) (way_down_is (first i) (height i) bottom ∙ ap (λ n. (first i + n) ∷ rest (first i) (height i) bottom) at_b)
      ∙ ap (λ n. n ∷ (first i + 1) ∷ rest (first i) (height i) bottom) e

  -- it is a way down from A(i)
  pub link_way : (n : ℕ) → Way (links_from i (suc n)) (first i) (from_b i j)
  unfolding links_from k_merger from_b
  link_way n =
      let w = perfect_way (first i) (s i) (levels i) bottom in
      let v = subst (λ l. Way (perfect (first i) (s i) (levels i) (bottom / 2 ^ l)) (first i + bottom / 2 ^ l) (rest (first i) l bottom)) (length_levels i link) w in
      by_first (subst (λ n. Way (perfect (first i) (s i) (levels i) n) (first i + n) (rest (first i) (height i) bottom)) at_b v)

  -- from B(i) to S(i,j) there are as many buffers as levels, and S itself
  pub length_from_b : length (from_b i j) ≡ suc (height i)
  unfolding from_b
  length_from_b = ap suc (length_rest (first i) (height i) bottom)

-- ---- through the outputs of the links before it

-- a way, as a list of all its numbers
abbrev pub IsWay : Tree → List ℕ → Type 0
IsWay t [] = ⊥
IsWay t (n ∷ ns) = Way t n ns

behind : (n c : ℕ) (one two : Tree) (ns : List ℕ) → IsWay two ns → IsWay (merger n c one two) (n ∷ ns)
behind n c one two [] w = absurd w
behind n c one two (m ∷ ns) w = by_second w

-- a way down from link a + p, and the outputs of p links before it
pub way_through : (p a n : ℕ) (ns : List ℕ) → IsWay (links_from (a + p) n) ns → IsWay (links_from a (p + n)) (outputs a p ++ ns)
unfolding links_from outputs
way_through zero a n ns w = let e : a + 0 ≡ a = omega arith in let z : 0 + n ≡ n = omega arith in rw z (rw e at w)
way_through (suc p) a n ns w =
    let e : a + suc p ≡ suc a + p = omega arith in
    let z : suc p + n ≡ suc (p + n) = omega arith in
    rw z (behind (first a) (capacity a 0) (k_merger a) (links_from (suc a) (p + n)) (outputs (suc a) p ++ ns) (way_through p (suc a) n ns (rw e at w)))

-- "the path runs from A(1) through A(2) .. A(i), B(i) and inner buffers to S(i, c(i))": a way down the tree of a queue with at least i links
pub path_way : (i j n : ℕ) → 0 < i → 0 < j → j ≤ k i → IsWay (links_from 1 ((i - 1) + suc n)) (path i j)
unfolding path
path_way i j n link some most =
    let e : 1 + (i - 1) ≡ i = omega arith in
    way_through (i - 1) 1 (suc n) (path_in_link i j) (rw (e, path_in_link_is i j link some most) (link_way i j link some most n))

-- a way, with its first number told from the others
pub record WayOf (t : Tree) (ns : List ℕ) : Type 0 where
  pub head : ℕ
  pub tail : List ℕ
  pub is : ns ≡ head ∷ tail
  pub way : Way t head tail

-- every way has a first number
pub way_of : {t : Tree} (ns : List ℕ) → IsWay t ns → WayOf t ns
way_of [] w = absurd w
way_of (n ∷ ns) w = record { head = n; tail = ns; is = refl; way = w }
