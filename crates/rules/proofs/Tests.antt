-- Tests one after the other: how to pass them.
use Prim.Native.Nat.{ℕ, zero, suc, ◌+◌, ◌≤◌, ◌<◌}
use mathlib.Core.Path.{◌≡◌, refl}
use mathlib.Core.Bool.{Bool, true, false}
use native.Mathlib.Omega.{arith}
use lib.Dec.{T}
use Rattle.rules.specs.Tests.{◌and◌, every}

-- a test that passes is true
pub truth : (b : Bool) → T b → b ≡ true
truth true h = refl
truth false h = absurd h

-- both pass
pub and_both : (a b : Bool) → T a → T b → T (a and b)
and_both true b p q = q
and_both false b p q = p

-- all that were tried pass
pub every_all : (test : ℕ → Bool) (lo n : ℕ) → ((j : ℕ) → lo ≤ j → j < lo + n → T (test j)) → T (every test lo n)
unfolding every
every_all test lo zero h = tt
every_all test lo (suc n) h = and_both (test lo) (every test (suc lo) n) (h lo (omega arith) (omega arith)) (every_all test (suc lo) n (λ j low high. h j (omega arith) (omega arith)))
