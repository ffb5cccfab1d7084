-- Each level is part of the whole, and no more in all than five links cost.
use Rattle.std.proofs.Common.{◌≡◌, ap, ◌+◌, ◌*◌, ◌≤◌, ◌<◌, arith}
use native.Mathlib.Nat.{mul_comm}
use Rattle.rules.specs.Links.{capacity}
use Rattle.limits.proofs.SizeLaws.{k_few, risen_few}
use Rattle.limits.proofs.RisenLaws.{levels_first, NextLevel, next_level, levels_last}
use Rattle.limits.proofs.risen.Goals as goal

pub loop-levels-init : goal.loop-levels-init
loop-levels-init c = levels_first c.args.i (omega arith) c.height-levels.result c.height-levels.ensures

pub capacity-requires : goal.capacity-requires
capacity-requires c = (omega arith, omega arith, (next_level _ _ _ _ c.loop-levels.invariant (omega arith)).inner)

-- the level that the loop comes to
next : (c : goal.After-capacity) → let l = c.loop-levels in NextLevel c.args.i l.levels l.j l.total
next c = next_level _ _ _ _ c.loop-levels.invariant (omega arith)

-- with the capacity that was asked for
abbrev counted : (c : goal.After-capacity) → let l = c.loop-levels in l.j * c.capacity.result ≡ l.j * capacity c.args.i l.j
counted c = ap (λ n. c.loop-levels.j * n) c.capacity.ensures

few : (c : goal.After-capacity) → let l = c.loop-levels in
    (l.j * c.capacity.result ≤ 223488) × (l.total + l.j * c.capacity.result * l.levels ≤ 223488) × (l.j < 32)
few c =
    let n = next c in
    let i = c.args.i in
    let all = risen_few i (omega arith) (omega arith) in
    rw (counted c) (omega (arith, n.each, n.whole, all), omega (arith, n.whole, all), omega (arith, n.inner, k_few i (omega arith) (omega arith)))

pub overflow_mul-total : goal.overflow_mul-total
overflow_mul-total c = omega (arith, (few c).0)

pub overflow_mul-total-in-loop-levels : goal.overflow_mul-total-in-loop-levels
overflow_mul-total-in-loop-levels c = omega (arith, (few c).1)

pub overflow_add-total : goal.overflow_add-total
overflow_add-total c = omega (arith, (few c).1)

pub overflow_mul-j : goal.overflow_mul-j
overflow_mul-j c = omega (arith, (few c).2)

pub loop-levels-preserved : goal.loop-levels-preserved
loop-levels-preserved c = rw (counted c, mul_comm c.loop-levels.j 2) (next c).then

pub returns : goal.returns
returns c = levels_last _ _ _ _ c.loop-levels.invariant (omega arith)
