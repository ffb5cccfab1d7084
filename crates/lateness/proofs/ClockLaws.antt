-- Lateness as a signed number: what it is on each side of half the clock, and that it stays within it.
use Rattle.std.proofs.Common.{◌≡◌, ℕ, suc, ◌+◌, ◌-◌, ◌%◌, ◌^◌, ◌<◌, ◌≤◌, leb, ◌⊎◌, ℤ, pos, negsuc, ◌+ℤ◌, ◌-ℤ◌, sym, refl, ap, ◌∙◌, inl, inr, ⊎_elim, arith, w32, w64, SFits, to_z}
use lib.IntN.{sub_ℕ}
use lib.Signed.{mag, le_z}
use mir.ValLaws.{to_z_pos, to_z-neg}
use Rattle.rules.proofs.Sizes.{by_leb, leb-false}
use Rattle.rules.proofs.Capacity.{leb-true}
use Rattle.lateness.specs.Clock.{turn, half, distance, lateness_of, above_of, late_at}

-- ---- signed numbers of 64 bits

pub small : {z : ℤ} → mag z < 2 ^ 63 → SFits w64 z
small h = record { sfits = h }

-- a difference of two numbers
pub less_early : (a b : ℕ) → a < b → sub_ℕ a b ≡ negsuc (b - suc a)
less_early a b h = rw (leb-true (suc a) b h) refl

pub less_late : (a b : ℕ) → b ≤ a → sub_ℕ a b ≡ pos (a - b)
less_late a b h = rw (leb-false (suc a) b (omega arith)) refl

pub under_or_not : (a b : ℕ) → (a < b) ⊎ (b ≤ a)
under_or_not a b = by_leb (suc a) b (λ t. (a < b) ⊎ (b ≤ a)) inl (λ h. inr (omega arith))

-- ---- lateness by the distance

pub forth : (due acting : ℕ) → distance due acting < half → lateness_of due acting ≡ pos (distance due acting)
unfolding lateness_of
forth due acting h = rw (leb-true (suc (distance due acting)) half h, lateness_of) refl

pub back : (due acting : ℕ) → half ≤ distance due acting → lateness_of due acting ≡ pos (distance due acting) -ℤ pos turn
unfolding lateness_of
back due acting h = rw (leb-false (suc (distance due acting)) half (omega arith), lateness_of) refl

pub distance_short : (due acting : ℕ) → distance due acting < turn
unfolding distance
distance_short due acting = omega arith

-- "from -2,147,483,648 to 2,147,483,647"
pub in_clock : (due acting : ℕ) → mag (lateness_of due acting) < half
in_clock due acting = ⊎_elim late early (under_or_not (distance due acting) half)
  where
    late : distance due acting < half → mag (lateness_of due acting) < half
    late h = rw (forth due acting h) h

    early : half ≤ distance due acting → mag (lateness_of due acting) < half
    early h = let s = distance_short due acting in rw (back due acting h, less_early (distance due acting) turn s) (omega (arith, s))

-- ---- as it is computed, from the wrapped difference

-- half a turn more than a number of 32 bits reads is a turn more than it reads from there on
read_early : (n : ℕ) → half ≤ n → n < turn → to_z w32 n ≡ negsuc (turn - suc n)
read_early n h s =
    let same : 2 ^ 32 - suc (turn - suc n) ≡ n = omega arith in
    ap (to_z w32) (sym same) ∙ to_z-neg w32 (turn - suc n) (omega arith)

as_read : (due acting : ℕ) → to_z w32 (distance due acting) ≡ lateness_of due acting
as_read due acting = ⊎_elim
    (λ h. to_z_pos w32 (distance due acting) h ∙ sym (forth due acting h))
    (λ h.
    let s = distance_short due acting in
    read_early (distance due acting) h s ∙ sym (back due acting h ∙ less_early (distance due acting) turn s))
    (under_or_not (distance due acting) half)

pub is_distance : (due acting : ℕ) → due < turn → (acting + (turn - due)) % turn ≡ distance due acting
unfolding distance
is_distance due acting small = let same : acting + (turn - due) ≡ acting + turn - due = omega arith in ap (λ n. n % turn) same

pub lateness_is : (due acting : ℕ) → due < turn → to_z w32 ((acting + (turn - due)) % turn) ≡ lateness_of due acting
lateness_is due acting short = ap (to_z w32) (is_distance due acting short) ∙ as_read due acting

-- ---- counted from the earliest

pub above_late : (n : ℕ) → above_of (late_at n) ≡ n
unfolding above_of late_at
above_late n = ⊎_elim
    (λ h. let e : above_of (negsuc (half - suc n)) ≡ n = omega arith in ap above_of (less_early n half h) ∙ e)
    (λ h. let e : above_of (pos (n - half)) ≡ n = omega arith in ap above_of (less_late n half h) ∙ e)
    (under_or_not n half)

pub raised : (z : ℤ) → mag z < half → z +ℤ pos half ≡ pos (above_of z)
unfolding above_of
raised (pos n) h = refl
raised (negsuc n) h = less_late half (suc n) h

pub late_above : (z : ℤ) → mag z < half → late_at (above_of z) ≡ z
unfolding above_of late_at
late_above (pos n) h = less_late (n + half) half (omega arith) ∙ ap pos (omega arith)
late_above (negsuc n) h = less_early (half - suc n) half (omega arith) ∙ ap negsuc (omega arith)

pub above_short : (z : ℤ) → mag z < half → above_of z < turn
unfolding above_of
above_short (pos n) h = omega arith
above_short (negsuc n) h = omega arith

-- the order is that of the numbers
pub above_order : (y z : ℤ) → mag y < half → mag z < half → le_z y z ≡ leb (above_of y) (above_of z)
unfolding above_of
above_order (pos a) (pos b) h k = by_leb a b (λ t. t ≡ leb (a + half) (b + half)) (λ l. sym (leb-true (a + half) (b + half) (omega arith))) (λ l. sym (leb-false (a + half) (b + half) (omega arith)))
above_order (pos a) (negsuc b) h k = sym (leb-false (a + half) (half - suc b) (omega arith))
above_order (negsuc a) (pos b) h k = sym (leb-true (half - suc a) (b + half) (omega arith))
above_order (negsuc a) (negsuc b) h k =
    by_leb b a (λ t. t ≡ leb (half - suc a) (half - suc b)) (λ l. sym (leb-true (half - suc a) (half - suc b) (omega arith))) (λ l. sym (leb-false (half - suc a) (half - suc b) (omega arith)))

pub late_in_clock : (n : ℕ) → n < turn → mag (late_at n) < half
unfolding late_at
late_in_clock n s = ⊎_elim (λ h. rw (less_early n half h) (omega arith)) (λ h. rw (less_late n half h) (omega arith)) (under_or_not n half)

-- ---- the only number within half the clock that leads from the due tick to the acting one

-- counted from the earliest, it is half the clock more than the distance, around the clock
above_distance : (due acting : ℕ) → above_of (lateness_of due acting) ≡ (distance due acting + half) % turn
unfolding above_of
above_distance due acting = ⊎_elim late early (under_or_not (distance due acting) half)
  where
    late : distance due acting < half → above_of (lateness_of due acting) ≡ (distance due acting + half) % turn
    late h = rw (forth due acting h) (omega arith)

    early : half ≤ distance due acting → above_of (lateness_of due acting) ≡ (distance due acting + half) % turn
    early h = let s = distance_short due acting in rw (back due acting h, less_early (distance due acting) turn s) (omega arith)

distance_forth : (due acting : ℕ) → due ≤ acting → acting < turn → distance due acting ≡ acting - due
unfolding distance
distance_forth due acting h a = omega arith

distance_around : (due acting : ℕ) → acting < due → due < turn → distance due acting ≡ acting + turn - due
unfolding distance
distance_around due acting h d = omega arith

-- half the clock more, once around at most
around : (n : ℕ) → n < turn → ((n + half) % turn ≡ n + half) ⊎ ((n + half) % turn + half ≡ n)
around n h = ⊎_elim (λ l. inl (omega arith)) (λ g. inr (omega arith)) (under_or_not n half)

pub leads : (due acting : ℕ) → due < turn → acting < turn → (due + above_of (lateness_of due acting)) % turn ≡ (acting + half) % turn
leads due acting d a =
    let above = above_distance due acting in
    ⊎_elim
    (λ h.
    let n = distance_around due acting h d in
    ⊎_elim (λ e. omega (arith, above, n, e)) (λ e. omega (arith, above, n, e)) (around (distance due acting) (distance_short due acting)))
    (λ h.
    let n = distance_forth due acting h a in
    ⊎_elim (λ e. omega (arith, above, n, e)) (λ e. omega (arith, above, n, e)) (around (distance due acting) (distance_short due acting)))
    (under_or_not acting due)

-- two numbers below a turn that lead from one tick to one tick are the same
same_lead : (due m n : ℕ) → m < turn → n < turn → (due + m) % turn ≡ (due + n) % turn → m ≡ n
same_lead due m n h k e = omega arith

pub only : (due acting : ℕ) (z : ℤ) → due < turn → acting < turn → mag z < half → (due + above_of z) % turn ≡ (acting + half) % turn → z ≡ lateness_of due acting
only due acting z d a h e =
    let l = lateness_of due acting in
    let same = same_lead due (above_of z) (above_of l) (above_short z h) (above_short l (in_clock due acting)) (e ∙ sym (leads due acting d a)) in
    sym (late_above z h) ∙ ap late_at same ∙ late_above l (in_clock due acting)

-- ---- sums

mag_less : (a b : ℕ) → mag (sub_ℕ a b) ≤ a + b
mag_less a b = ⊎_elim (λ h. rw (less_early a b h) (omega arith)) (λ h. rw (less_late a b h) (omega arith)) (under_or_not a b)

pub mag_sum : (y z : ℤ) → mag (y +ℤ z) ≤ mag y + mag z + 1
mag_sum (pos a) (pos b) = omega arith
mag_sum (pos a) (negsuc b) = omega (arith, mag_less a (suc b))
mag_sum (negsuc a) (pos b) = omega (arith, mag_less b (suc a))
mag_sum (negsuc a) (negsuc b) = omega arith
