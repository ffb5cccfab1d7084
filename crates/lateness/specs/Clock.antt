-- "Lateness is signed, early is below zero, taken around the turning clock from -2,147,483,648 to 2,147,483,647, and a distance of exactly half the clock counts as early."
use Rattle.std.specs.Prelude.{ℕ, suc, ◌+◌, ◌-◌, ◌%◌, cond, ℤ, pos, negsuc, ◌-ℤ◌, nat_lt}

-- a turn of the clock, and half of one, in ticks
abbrev pub turn : ℕ
turn = 4294967296

abbrev pub half : ℕ
half = 2147483648

-- the ticks from the due tick on to the acting one, around the clock
unfoldable pub distance : ℕ → ℕ → ℕ
distance due acting = (acting + turn - due) % turn

-- less than half the clock is late, all else early by what is left of the turn
unfoldable pub lateness_of : ℕ → ℕ → ℤ
lateness_of due acting = cond (nat_lt (distance due acting) half) (pos (distance due acting)) (pos (distance due acting) -ℤ pos turn)

-- lateness counted from -2,147,483,648, and back
unfoldable pub above_of : ℤ → ℕ
above_of (pos n) = n + half
above_of (negsuc n) = half - suc n

unfoldable pub late_at : ℕ → ℤ
late_at n = pos n -ℤ pos half
