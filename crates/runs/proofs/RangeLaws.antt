-- What std's test of a range says.
use Rattle.std.proofs.Common.{◌≡◌, ℕ, ◌<◌, ◌≤◌, true, false, not, is_lt, nat_cmp, arith, rules, tests}
use Rattle.std.proofs.lemmas.Grind.{common_steps}

pub some_in_range : (start end : ℕ) → not (is_lt (nat_cmp start end)) ≡ false → start < end
some_in_range start end e = grind (arith, common_steps)

pub none_in_range : (start end : ℕ) → not (is_lt (nat_cmp start end)) ≡ true → end ≤ start
none_in_range start end e = search (rules, tests)
