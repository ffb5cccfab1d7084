-- Texts laid one behind another are one text.
use mathlib.Core.Path.{◌≡◌, refl, sym, ◌∙◌}
use mathlib.Core.List.{List, ◌++◌, append_assoc}
use Prim.Native.Nat.{ℕ, ◌+◌, ◌-◌, ◌<◌, ◌≤◌, ◌^◌}
use native.Mathlib.Omega.{arith}
use lib.ListN.{length, take, drop, length-append}
use lib.Seq.{length-take-le, take_at, drop_at, drop-drop}
use borrow.Rule.Slice.PartMut.{mid_of, put_mid, Post-is, mid_len}
use Rattle.digits.specs.Written.{written}
use Rattle.text.specs.Decimal.{places, decimal}
use Rattle.text.specs.Laid.{Laid}
use Rattle.text.proofs.DecimalLaws.{places_few, length_digits, written_ten}

-- one text, and another behind it
pub laid_behind : {one two before middle after : List ℕ} {at end₁ end₂ : ℕ} → at ≤ length before → Laid one at before middle end₁
    → Laid two end₁ middle after end₂ → Laid (one ++ two) at before after end₂
laid_behind {one} {two} {before} {middle} {after} {at} {end₁} h l m =
    let head : length (take at before ++ one) ≡ end₁ = simp (length-append, length-take-le at before h) (sym l.ends) in
    let front : take end₁ middle ≡ take at before ++ one = rw l.written (take_at (take at before ++ one) (drop (at + length one) before) end₁ head) in
    let past : drop end₁ middle ≡ drop (at + length one) before = rw l.written (drop_at (take at before ++ one) (drop (at + length one) before) end₁ head) in
    let back : drop (end₁ + length two) middle ≡ drop (at + length one + length two) before = sym (drop-drop (length two) end₁ middle) ∙ rw past (drop-drop (length two) (at + length one) before) in
    let all : at + length (one ++ two) ≡ at + length one + length two = simp length-append (omega arith) in
    record {
      ends = m.ends ∙ rw (all, l.ends) refl;
      written = m.written ∙ rw (all, front, back) (simp append_assoc);
    }

-- a field of as many bytes as a number has digits; its start is a number of its own, so that a wrong one is refused by its value
pub number_laid : (n at from end : ℕ) (before field : List ℕ) → n < 2 ^ 64 → at + 20 ≤ length before → from ≡ at → end ≡ from + places n
    → field ≡ written 10 (length (mid_of from (end - from) before)) n → Laid (decimal n) at before (put_mid from (end - from) before field) end
number_laid n at from end before field w h b e f =
    let many : length (mid_of from (end - from) before) ≡ places n = mid_len from end before (omega (arith, places_few n w)) ∙ omega arith in
    let all : at + length (decimal n) ≡ end = omega (arith, length_digits (places n) n) in
    record { ends = sym all; written = rw (f, many, written_ten, Post-is from end before (omega arith), all, b, append_assoc) refl }
