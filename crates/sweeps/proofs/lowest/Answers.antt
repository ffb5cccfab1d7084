use native.Mathlib.Omega.{arith}
use Rattle.buffers.proofs.CounterLaws.{has_counter}
use Rattle.sweeps.proofs.LowestLaws.{search_found, search_next, search_none}
use Rattle.sweeps.proofs.lowest.Goals as goal

pub counter-requires : goal.counter-requires
counter-requires c = has_counter _ _ c.requires.0 c.loop-i.invariant.low (omega (arith, c.requires.1))

pub returns-then-counter-k : goal.returns-then-counter-k
returns-then-counter-k c =
    (search_found _ _ _ c.loop-i.invariant (omega arith) _ _ _ c.counter.ensures c.at.ensures c.k.ensures c.requires.1 c.if-counter-k.true, omega arith)

pub loop-i-preserved : goal.loop-i-preserved
loop-i-preserved c = search_next _ _ _ c.loop-i.invariant (omega arith) _ _ _ c.counter.ensures c.at.ensures c.k.ensures (omega (arith, c.if-counter-k.false))

pub returns-else-counter-k : goal.returns-else-counter-k
returns-else-counter-k c =
    search_none _ _ _ (search_next _ _ _ c.loop-i.invariant (omega arith) _ _ _ c.counter.ensures c.at.ensures c.k.ensures (omega (arith, c.if-counter-k.false))) c.requires.1 (omega arith)
