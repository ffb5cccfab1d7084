-- How many entries stand in the first buffers, counted one after the other.
use Prim.Native.Nat.{ℕ, zero, suc, ◌+◌, ◌*◌, ◌≤◌, ◌<◌}
use mathlib.Core.Path.{◌≡◌, refl, sym, ap, ◌∙◌}
use mathlib.Core.List.{List, []}
use native.Mathlib.Omega.{arith}
use native.Mathlib.Nat.{add-suc, suc-add, add-zero}
use native.Mathlib.Numerals.{add-one}
use lib.ListN.{length, get_or}
use Rattle.rules.specs.Links.{first, buffer_count, book_words}
use Rattle.rules.specs.Tree.{Buffers}
use Rattle.rules.specs.Queue.{held_from}
use Rattle.rules.proofs.Sizes.{first_mono}
use Rattle.buffers.specs.Format.{links_in, count_of, buffer_of, buffers_of, many}
use Rattle.buffers.specs.Post.{Inside}
use Rattle.buffers.proofs.SlotLaws.{few}
use Rattle.buffers.proofs.ArrayLaws.{has, buffer_length, buffers_at}

held_last : (b n : ℕ) (bs : Buffers) → held_from b (suc n) bs ≡ held_from b n bs + length (get_or bs (b + n) [])
unfolding held_from
held_last b zero bs = rw (add-zero b) (omega arith)
held_last b (suc n) bs = rw (add-suc b n, ← suc-add b n) (omega (arith, held_last (suc b) n bs))

pub held_more : (n : ℕ) (bs : Buffers) → held_from 0 (n + 1) bs ≡ held_from 0 n bs + length (get_or bs n [])
held_more n bs = let e : 0 + n ≡ n = omega arith in rw (add-one n) (held_last 0 n bs ∙ ap (λ m. held_from 0 n bs + length (get_or bs m [])) e)

-- a sum of so many counts is small
pub record Summed (ws : List ℕ) (end n sum : ℕ) : Type 0 where
  pub within : n ≤ end
  pub is : sum ≡ held_from 0 n (buffers_of ws)
  pub small : sum ≤ 65535 * n

pub sum_start : (ws : List ℕ) (end : ℕ) → Summed ws end 0 0
unfolding held_from
sum_start ws end = record { within = omega arith; is = refl; small = omega arith }

-- the buffers of the first links, so many of them
pub record FirstLinks (ws : List ℕ) (links end : ℕ) : Type 0 where
  pub array : Inside ws
  pub is : end ≡ buffer_count links
  pub among : end ≤ many ws
  pub few : end ≤ book_words

pub first_links : (ws : List ℕ) (links i end : ℕ) → Inside ws → links ≤ links_in ws → i ≡ links + 1 → end ≡ first i → FirstLinks ws links end
unfolding buffer_count
first_links ws links i end array low e f =
    let next : end ≡ first (suc links) = f ∙ ap first (e ∙ add-one links) in
    let among : end ≤ many ws = omega (arith, first_mono (suc links) (suc (links_in ws)) (omega arith) (omega arith)) in
    record { array = array; is = next; among = among; few = omega (arith, few array.link) }

pub sum_more : (ws : List ℕ) (links end n sum c : ℕ) → FirstLinks ws links end → n < end → Summed ws end n sum → c ≡ length (buffer_of ws n) → Summed ws end (n + 1) (sum + c)
sum_more ws links end n sum c h before s e =
    let lt : n < many ws = omega (arith, h.among) in
    let count : length (buffer_of ws n) ≡ count_of ws n = buffer_length ws n (has ws n h.array lt) in
    record {
      within = omega arith;
      is = let here : length (get_or (buffers_of ws) n []) ≡ c = ap length (buffers_at ws n lt) ∙ sym e in omega (arith, held_more n (buffers_of ws), s.is);
      small = omega (arith, s.small);
    }

pub sum_all_lem : (ws : List ℕ) (links end n sum : ℕ) → FirstLinks ws links end → end ≤ n → Summed ws end n sum → sum ≡ held_from 0 (buffer_count links) (buffers_of ws)
sum_all_lem ws links end n sum h past s = let all : n ≡ buffer_count links = omega (arith, s.within, h.is) in s.is ∙ ap (λ n. held_from 0 n (buffers_of ws)) all
