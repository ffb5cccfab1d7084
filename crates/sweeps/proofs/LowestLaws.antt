-- The lowest link with an S to spare: what the loop keeps.
use Prim.Native.Nat.{ℕ, suc, ◌+◌, ◌-◌, ◌≤◌, ◌<◌}
use mathlib.Core.Path.{◌≡◌, refl, sym, ap, ◌∙◌}
use mathlib.Core.Bool.{Bool, true, false}
use mathlib.Core.List.{List, map}
use native.Mathlib.Omega.{arith}
use native.Mathlib.Numerals.{add-one}
use borrow.Author.Tests.{le-leb, lt-leb}
use lib.Dec.{leb}
use Rattle.rules.specs.Links.{from, k}
use Rattle.rules.specs.Insert.{lowest}
use Rattle.buffers.specs.Format.{links_in, counter_in, book_of}

module _ (ws : List ℕ) where
  -- the lowest of so many links, from link i on
  abbrev lowest_of : ℕ → ℕ → ℕ
  lowest_of i n = lowest i (map (counter_in ws) (from i n))

  -- the first of them, or one of the others
  first_of : (i n : ℕ) (b : Bool) → leb (counter_in ws i) (k i) ≡ b → lowest_of i (suc n) ≡ elim b [ true ↦ i | false ↦ lowest_of (suc i) n ]
  unfolding lowest from
  first_of i n b e = ap (λ b. elim b [ true ↦ i | false ↦ lowest_of (suc i) n ]) e

  none_of : (i : ℕ) → lowest_of i 0 ≡ i
  unfolding lowest from
  none_of i = refl

-- the links before link i have no S to spare
pub record Searching (ws : List ℕ) (links i : ℕ) : Type 0 where
  pub low : 1 ≤ i
  pub high : i ≤ links + 1
  pub same : lowest_of ws i (suc links - i) ≡ lowest_of ws 1 links

module _ (ws : List ℕ) (links i : ℕ) (z : Searching ws links i) where
  module _ (more : i ≤ links) (c j k' : ℕ) (c_is : c ≡ counter_in ws i) (j_is : j ≡ i) (k_is : k' ≡ k j) where
    here : (b : Bool) → leb c k' ≡ b → lowest_of ws i (suc links - i) ≡ elim b [ true ↦ i | false ↦ lowest_of ws (suc i) (links - i) ]
    here b e =
        let left : suc links - i ≡ suc (links - i) = omega arith in
        ap (lowest_of ws i) left ∙ first_of ws i (links - i) b (ap (λ n. leb n (k i)) (sym c_is) ∙ ap (leb c) (sym (k_is ∙ ap k j_is)) ∙ e)

    pub search_found : links ≡ links_in ws → c ≤ k' → i ≡ lowest 1 (book_of ws).counters
    unfolding book_of
    search_found of h = sym (here true (le-leb c k' h)) ∙ z.same ∙ ap (lowest_of ws 1) of

    pub search_next : k' < c → Searching ws links (i + 1)
    search_next h =
        let left : suc links - (i + 1) ≡ links - i = omega arith in
        record {
          low = omega arith;
          high = omega arith;
          same = ap (lowest_of ws (i + 1)) left ∙ ap (λ n. lowest_of ws n (links - i)) (add-one i) ∙ sym (here false (lt-leb c k' h)) ∙ z.same;
        }

  pub search_none : links ≡ links_in ws → links < i → links < lowest 1 (book_of ws).counters
  unfolding book_of
  search_none of past =
      let left : suc links - i ≡ 0 = omega arith in
      let last : i ≡ lowest_of ws 1 (links_in ws) = sym (none_of ws i) ∙ ap (lowest_of ws i) (sym left) ∙ z.same ∙ ap (lowest_of ws 1) of in
      omega arith
