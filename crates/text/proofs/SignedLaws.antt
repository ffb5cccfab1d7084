-- Numbers with a sign: what is laid of them.
use mathlib.Core.Path.{◌≡◌, refl, sym, ap, ◌∙◌, subst}
use mathlib.Core.Bool.{true, false}
use mathlib.Core.List.{List, [], ◌∷◌}
use Prim.Native.Nat.{ℕ, ◌≤◌}
use lib.Dec.{T, leb-suc-zero}
use lib.ListN.{length}
use lib.IntN.{ℤ, pos, negsuc, nat_abs}
use lib.Signed.{lt_z}
use mir.Syntax.{w64}
use mir.Val.{SFits, to_z, of_z}
use mir.ValLaws.{to_z-of_z}
use Rattle.text.specs.Decimal.{decimal, signed}
use Rattle.text.specs.Laid.{Laid}
use Rattle.text.proofs.LaidLaws.{laid_behind}

signed_below : (z : ℤ) → lt_z z (pos 0) ≡ true → signed z ≡ 45 ∷ decimal (nat_abs z)
unfolding signed
signed_below (pos n) t = absurd (subst (λ b. T b) (sym t ∙ leb-suc-zero n) tt)
signed_below (negsuc n) t = refl

signed_above : (z : ℤ) → lt_z z (pos 0) ≡ false → signed z ≡ decimal (nat_abs z)
unfolding signed
signed_above (pos n) t = refl
signed_above (negsuc n) t = absurd (subst (λ b. T b) t tt)

module _ (z : ℤ) (f : SFits w64 z) {size : ℕ} (abs : size ≡ nat_abs (to_z w64 (of_z w64 z))) where
  -- what is written reads the same
  back : to_z w64 (of_z w64 z) ≡ z
  back = to_z-of_z w64 z f

  size_is : size ≡ nat_abs z
  size_is = abs ∙ ap nat_abs back

  -- below zero the sign, and behind it the number without it
  pub early_laid : {at behind end : ℕ} {before middle after : List ℕ} → lt_z (to_z w64 (of_z w64 z)) (pos 0) ≡ true → at ≤ length before → Laid (45 ∷ []) at before middle behind
      → Laid (decimal size) behind middle after end → Laid (signed z) at before after end
  early_laid {at} {behind} {end} {before} {middle} {after} early inside sign number =
      let text : signed z ≡ 45 ∷ decimal size = rw size_is (signed_below z (sym (ap (λ y. lt_z y (pos 0)) back) ∙ early)) in
      subst (λ t. Laid t at before after end) (sym text) (laid_behind inside sign number)

  -- else the number alone
  pub late_laid : {at end : ℕ} {before after : List ℕ} → lt_z (to_z w64 (of_z w64 z)) (pos 0) ≡ false → Laid (decimal size) at before after end → Laid (signed z) at before after end
  late_laid {at} {end} {before} {after} late number =
      let text : signed z ≡ decimal size = rw size_is (signed_above z (sym (ap (λ y. lt_z y (pos 0)) back) ∙ late)) in
      subst (λ t. Laid t at before after end) (sym text) number
