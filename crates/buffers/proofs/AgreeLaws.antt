-- What a change of one buffer and a fresh book promise determines the entries of every buffer: two outcomes that meet it agree.
use Prim.Native.Nat.{ℕ, ◌≤◌, ◌<◌}
use mathlib.Core.Path.{◌≡◌, sym, ◌∙◌}
use mathlib.Core.List.{List}
use lib.ListN.{length}
use Rattle.rules.specs.Links.{buffer_count}
use Rattle.buffers.specs.Format.{links_in, counter_in, word_of, buffers_of}
use Rattle.buffers.specs.Post.{Now}
use Rattle.buffers.specs.Fresh.{Begun}

pub now_agree : (ws ws₁ ws₂ : List ℕ) (n : ℕ) (es : List ℕ) → Now ws ws₁ n es → Now ws ws₂ n es → buffers_of ws₁ ≡ buffers_of ws₂
now_agree ws ws₁ ws₂ n es one two = one.state ∙ sym two.state

-- the same length, link number, counters and words of all buffers
pub record SameBook (ws₁ ws₂ : List ℕ) (links : ℕ) : Type 0 where
  pub lengths : length ws₁ ≡ length ws₂
  pub numbers : links_in ws₁ ≡ links_in ws₂
  pub counters : (i : ℕ) → 1 ≤ i → i ≤ links → counter_in ws₁ i ≡ counter_in ws₂ i
  pub words : (n : ℕ) → n < buffer_count links → word_of ws₁ n ≡ word_of ws₂ n

pub begun_agree : (ws ws₁ ws₂ : List ℕ) (links : ℕ) → Begun ws ws₁ links → Begun ws ws₂ links → SameBook ws₁ ws₂ links
begun_agree ws ws₁ ws₂ links one two = record {
  lengths = one.long ∙ sym two.long;
  numbers = one.number ∙ sym two.number;
  counters = λ i low high. one.counters i low high ∙ sym (two.counters i low high);
  words = λ n lt. one.buffers n lt ∙ sym (two.buffers n lt);
}
