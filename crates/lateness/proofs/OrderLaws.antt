-- The order of signed numbers.
use Rattle.std.proofs.Common.{◌≡◌, ℕ, ◌<◌, ◌≤◌, Bool, true, false, T, leb, ℤ, pos, negsuc, sym, refl, ap, ◌∙◌, subst, le_antisymm, arith, leb→le}
use lib.Dec.{nleb→lt}
use lib.Signed.{le_z}
use Rattle.rules.proofs.Capacity.{leb-true}

pub le_of : (a b : ℕ) → leb a b ≡ true → a ≤ b
le_of a b h = leb→le a b (rw h tt)

pub lt_of : (a b : ℕ) → leb a b ≡ false → b < a
lt_of a b h = nleb→lt a b (rw h tt)

pub clash : {P : Type 0} {t : Bool} → t ≡ true → t ≡ false → P
clash {P} {t} h k = absurd (subst (λ b. T b) (sym h ∙ k) tt)

-- a test goes one way or the other
pub by_test : {P : Type 0} (t : Bool) → (t ≡ true → P) → (t ≡ false → P) → P
by_test true f g = f refl
by_test false f g = g refl

pub refl_le : (x : ℤ) → le_z x x ≡ true
refl_le (pos a) = leb-true a a (omega arith)
refl_le (negsuc a) = leb-true a a (omega arith)

pub other_way : (x y : ℤ) → le_z x y ≡ false → le_z y x ≡ true
other_way (pos a) (pos b) h = leb-true b a (omega (arith, lt_of a b h))
other_way (pos a) (negsuc b) h = refl
other_way (negsuc a) (pos b) h = clash refl h
other_way (negsuc a) (negsuc b) h = leb-true a b (omega (arith, lt_of b a h))

pub le_through : (x y z : ℤ) → le_z x y ≡ true → le_z y z ≡ true → le_z x z ≡ true
le_through (pos a) (pos b) (pos c) h k = leb-true a c (omega (arith, le_of a b h, le_of b c k))
le_through (pos a) (pos b) (negsuc c) h k = k
le_through (pos a) (negsuc b) z h k = clash h refl
le_through (negsuc a) (pos b) (pos c) h k = refl
le_through (negsuc a) (pos b) (negsuc c) h k = clash k refl
le_through (negsuc a) (negsuc b) (pos c) h k = refl
le_through (negsuc a) (negsuc b) (negsuc c) h k = leb-true c a (omega (arith, le_of b a h, le_of c b k))

pub both_ways : (x y : ℤ) → le_z x y ≡ true → le_z y x ≡ true → x ≡ y
both_ways (pos a) (pos b) h k = ap pos (le_antisymm (le_of a b h) (le_of b a k))
both_ways (pos a) (negsuc b) h k = clash h refl
both_ways (negsuc a) (pos b) h k = clash k refl
both_ways (negsuc a) (negsuc b) h k = ap negsuc (le_antisymm (le_of a b k) (le_of b a h))

-- what is not above anything that the other is not above is the other
pub same_above : (x y : ℤ) → ((v : ℤ) → le_z x v ≡ le_z y v) → x ≡ y
same_above x y h = both_ways x y (h y ∙ refl_le y) (sym (h x) ∙ refl_le x)
