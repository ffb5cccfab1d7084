-- What setup writes: a stretch of equal words, and the fresh book.
use Prim.Native.Nat.{ℕ, ◌+◌, ◌≤◌}
use mathlib.Core.Path.{◌≡◌, ap, ◌∙◌}
use mathlib.Core.List.{List}
use native.Mathlib.Omega.{arith}
use native.Mathlib.Numerals.{add-one}
use lib.ListN.{length, set, length-set}
use lib.Seq.{get_or-set_same, get_or-set_other}
use Rattle.rules.specs.Links.{first, buffer_count, book_words}
use Rattle.buffers.proofs.SlotLaws.{words_end, behind_book, few}
use Rattle.buffers.specs.Fresh.{Written, CanBegin, Begun}

-- ---- the fresh book

module _ (ws : List ℕ) (links : ℕ) (h : CanBegin ws links) where
  -- the book is in the array
  pub book_in : book_words ≤ length ws
  book_in = omega (arith, h.enough, words_end h.link, behind_book (buffer_count links))

  end_is : (i end : ℕ) → i ≡ links + 1 → end ≡ first i → end ≡ buffer_count links
  unfolding buffer_count
  end_is i end e f = f ∙ ap first (e ∙ add-one links)

  -- and so is each buffer's word
  pub end_in : (i end : ℕ) → i ≡ links + 1 → end ≡ first i → 8 + end ≤ book_words
  end_in i end e f = omega (arith, end_is i end e f, few h.link)

  module _ (ws₁ ws₂ : List ℕ) (i end : ℕ) (e : i ≡ links + 1) (f : end ≡ first i) (one : Written (set ws 0 links) ws₁ 1 (links + 1) 1) (two : Written ws₁ ws₂ 8 (8 + end) 0) where
    pub begun_long : length ws₂ ≡ length ws
    begun_long = two.long ∙ one.long ∙ length-set ws 0 links

    pub begun : Begun ws ws₂ links
    begun =
        let last = end_is i end e f in
        record {
          long = begun_long;
          number =
              two.elsewhere 0 (λ low high. absurd (omega arith)) ∙ one.elsewhere 0 (λ low high. absurd (omega arith)) ∙ get_or-set_same ws 0 links 0 (omega (arith, book_in));
          counters = λ m low high. two.elsewhere m (λ from to. absurd (omega (arith, h.link.high))) ∙ one.there m low (omega arith);
          buffers = λ n lt. two.there (8 + n) (omega arith) (omega arith);
          between = λ p low high.
              two.elsewhere p (λ from to. absurd (omega arith)) ∙ one.elsewhere p (λ from to. absurd (omega arith)) ∙ get_or-set_other ws 0 p links 0 (omega arith);
          behind = λ p low.
              two.elsewhere p (λ from to. absurd (omega arith)) ∙ one.elsewhere p (λ from to. absurd (omega (arith, h.link.high))) ∙ get_or-set_other ws 0 p links 0 (omega arith);
        }
