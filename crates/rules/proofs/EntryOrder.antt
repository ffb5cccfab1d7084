-- "Order is that of the whole word as a number: due tick, then door, then command."
use Prim.Native.Nat.{ℕ, ◌<◌}
use mathlib.Core.Path.{◌≡◌, refl}
use mathlib.Core.Logic.{◌⊎◌, inl, inr}
use native.Mathlib.Omega.{arith}
use native.Mathlib.Decide.{dec_lt}
use Rattle.rules.specs.declared.Rule.{Rule}
use Rattle.rules.specs.Entries.{tick, door, command, key_by}

-- the smaller tick; at equal ticks the smaller door; at equal doors the smaller command
abbrev pub Earlier : ℕ → ℕ → Type 0
Earlier e f = (tick e < tick f) ⊎ ((tick e ≡ tick f) × ((door e < door f) ⊎ ((door e ≡ door f) × (command e < command f))))

pub earlier_smaller : (rule : Rule) (e f : ℕ) → Earlier e f → key_by rule e < key_by rule f
unfolding tick door command key_by
earlier_smaller rule e f (inl t) = omega arith
earlier_smaller rule e f (inr (t, inl d)) = omega arith
earlier_smaller rule e f (inr (t, inr (d, c))) = omega arith

pub smaller_earlier : (rule : Rule) (e f : ℕ) → key_by rule e < key_by rule f → Earlier e f
unfolding tick door command key_by
smaller_earlier rule e f h = by_tick (dec_lt (tick e) (tick f))
  where
    by_door : tick e ≡ tick f → Dec (door e < door f) → (door e < door f) ⊎ ((door e ≡ door f) × (command e < command f))
    by_door t (yes d) = inl d
    by_door t (no d) = inr (omega arith, omega arith)

    by_tick : Dec (tick e < tick f) → Earlier e f
    by_tick (yes t) = inl t
    by_tick (no t) = let same : tick e ≡ tick f = omega arith in inr (same, by_door same (dec_lt (door e) (door f)))

-- no entry's key is below that of the number 0
pub least_key : (rule : Rule) → key_by rule 0 ≡ 0
unfolding key_by
least_key rule = refl

-- entries with the same key are the same
pub one_key : (rule : Rule) (e f : ℕ) → key_by rule e ≡ key_by rule f → e ≡ f
unfolding key_by
one_key rule e f same = same
