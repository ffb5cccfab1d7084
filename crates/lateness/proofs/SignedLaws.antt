-- Signed numbers of 64 bits, as code reads and writes them.
use Rattle.std.proofs.Common.{◌≡◌, ℕ, zero, suc, ◌+◌, ◌-◌, ◌%◌, ◌^◌, ◌*◌, ◌<◌, ◌≤◌, true, false, eqb, List, [], ◌∷◌, ℤ, pos, negsuc, ◌+ℤ◌, ◌-ℤ◌, nat_abs, sym, refl, ap, ◌∙◌, arith, w32, w64, SFits, to_z, of_z}
use lib.Signed.{mag, le_z}
use borrow.Author.Tests.{ne_eqb}
use mir.Val.{bool_byte}
use Rattle.std.proofs.Math.Facts.{to_z-of_z, to_z_pos}
use Rattle.lateness.specs.Clock.{turn, half, lateness_of, above_of, late_at}
use Rattle.lateness.specs.Ordered.{at_most}
use Rattle.lateness.specs.Pairs.{Lent}
use Rattle.lateness.specs.Reports.{hits, seen_of}
use Rattle.lateness.specs.declared.Seen.{Seen}
use Rattle.lateness.proofs.NumberLaws.{step_yes, step_no, at_most_all}
use Rattle.lateness.proofs.PairLaws.{from, lent_few, Passed}
use Rattle.lateness.proofs.ClockLaws.{lateness_is, small, in_clock, raised, above_short, late_in_clock, mag_sum}

pub fits_half : {z : ℤ} → mag z < half → SFits w64 z
fits_half h = small (omega arith)

-- ---- the wrapped difference, read with its sign and made wide

pub lateness_read : (due acting : ℕ) {y z : ℤ} → z ≡ to_z w32 (of_z w32 y) → y ≡ to_z w32 ((acting + (turn - due)) % turn) → mag y < half → mag z < 2 ^ 63 → due < turn → to_z w64 (of_z w64 z) ≡ lateness_of due acting
lateness_read due acting {y} wide read narrow short d = to_z-of_z (small short) ∙ wide ∙ to_z-of_z {w = w32} {z = y} (record { sfits = narrow }) ∙ read ∙ lateness_is due acting d

-- ---- exact hits

pub hit_is : (z : ℤ) → SFits w64 z → bool_byte (eqb (of_z w64 z) 0) ≡ hits (z ∷ [])
unfolding hits
hit_is (pos zero) f = refl
hit_is (pos (suc n)) f = ap bool_byte (ne_eqb (suc n) 0 (λ e. omega arith))
hit_is (negsuc n) f = ap bool_byte (ne_eqb (of_z w64 (negsuc n)) 0 (λ e. omega (arith, f.sfits)))

-- ---- counted from the earliest, and back

module _ (z : ℤ) (h : mag z < half) where
  raised_here : to_z w64 (of_z w64 z) -ℤ negsuc 2147483647 ≡ pos (above_of z)
  raised_here = rw (to_z-of_z (fits_half h)) (raised z h)

  pub raised_fits : SFits w64 (to_z w64 (of_z w64 z) -ℤ negsuc 2147483647)
  raised_fits = rw raised_here (small (omega (arith, above_short z h)))

  raised_back : to_z w64 (of_z w64 (to_z w64 (of_z w64 z) -ℤ negsuc 2147483647)) ≡ pos (above_of z)
  raised_back = to_z-of_z raised_fits ∙ raised_here

  pub raised_is : nat_abs (to_z w64 (of_z w64 (to_z w64 (of_z w64 z) -ℤ negsuc 2147483647))) ≡ above_of z
  raised_is = ap nat_abs raised_back

module _ {n : ℕ} (h : n < turn) where
  lowered : to_z w64 n +ℤ negsuc 2147483647 ≡ late_at n
  unfolding late_at
  lowered = ap (λ z. z +ℤ negsuc 2147483647) (to_z_pos w64 (omega arith))

  pub lowered_fits : SFits w64 (to_z w64 n +ℤ negsuc 2147483647)
  lowered_fits = rw lowered (fits_half (late_in_clock n h))

  pub lowered_is : to_z w64 (of_z w64 (to_z w64 n +ℤ negsuc 2147483647)) ≡ late_at n
  lowered_is = to_z-of_z lowered_fits ∙ lowered

-- ---- sums

module _ (y z : ℤ) (h : mag y < half) (k : mag z ≤ 4096 * half) where
  sum_here : to_z w64 (of_z w64 y) +ℤ to_z w64 (of_z w64 z) ≡ y +ℤ z
  sum_here = rw (to_z-of_z {z = y} (fits_half h), to_z-of_z {z = z} (small (omega arith))) refl

  pub sum_fits : SFits w64 (to_z w64 (of_z w64 y) +ℤ to_z w64 (of_z w64 z))
  sum_fits = rw sum_here (small (omega (arith, mag_sum y z)))

  pub sum_is : to_z w64 (of_z w64 (to_z w64 (of_z w64 y) +ℤ to_z w64 (of_z w64 z))) ≡ y +ℤ z
  sum_is = to_z-of_z sum_fits ∙ sum_here

-- ---- what a function of signed numbers gives back

pub of_two : (f : ℤ → ℤ → ℤ) (x y r : ℤ) → SFits w64 x → SFits w64 y → SFits w64 r → r ≡ f (to_z w64 (of_z w64 x)) (to_z w64 (of_z w64 y)) → to_z w64 (of_z w64 r) ≡ f x y
of_two f x y r fx fy fr e = to_z-of_z fr ∙ e ∙ rw (to_z-of_z fx, to_z-of_z fy) refl

-- ---- one more that does not exceed, or that does

module _ {r : ℤ} (v : ℤ) (fr : SFits w64 r) (x : ℤ) (xs : List ℤ) (n : ℕ) (e : r ≡ x) (count : n ≡ at_most v xs) where
  tested : le_z x v ≡ le_z (to_z w64 (of_z w64 r)) v
  tested = ap (λ z. le_z z v) (sym e ∙ sym (to_z-of_z fr))

  pub counted : le_z (to_z w64 (of_z w64 r)) v ≡ true → n + 1 ≡ at_most v (x ∷ xs)
  counted t = omega (arith, count, step_yes v x xs (tested ∙ t))

  pub passed_over : le_z (to_z w64 (of_z w64 r)) v ≡ false → n ≡ at_most v (x ∷ xs)
  passed_over t = count ∙ sym (step_no v x xs (tested ∙ t))

pub counted_few : (v : ℤ) {door n i : ℕ} {due acting doors : List ℕ} → Lent due acting doors → Passed (at_most v) door due acting doors i n → n ≤ 4096
counted_few v {door} {n} {i} {due} {acting} {doors} lent passed = omega (arith, passed.told, at_most_all v (from door i due acting doors), lent_few door i lent)

pub at_most_read : {v : ℤ} (xs : List ℤ) {n : ℕ} → SFits w64 v → n ≡ at_most (to_z w64 (of_z w64 v)) xs → n ≡ at_most v xs
at_most_read xs f e = e ∙ ap (λ v. at_most v xs) (to_z-of_z f)

pub late_small : (due acting : ℕ) {r : ℤ} → SFits w64 r → r ≡ lateness_of due acting → mag (to_z w64 (of_z w64 r)) < half
late_small due acting f e = rw (to_z-of_z f, e) (in_clock due acting)

pub seen_read : (xs : List ℤ) {r x : ℤ} {s : Seen} → SFits w64 r → r ≡ x → s ≡ seen_of (to_z w64 (of_z w64 r) ∷ xs) → s ≡ seen_of (x ∷ xs)
seen_read xs f e t = t ∙ ap (λ z. seen_of (z ∷ xs)) (to_z-of_z f ∙ e)
