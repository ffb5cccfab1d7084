-- Each link is part of the whole.
use Rattle.std.proofs.Common.{arith}
use Rattle.rules.proofs.Sizes.{k_some}
use Rattle.limits.proofs.LinkLaws.{links_first, link_added, links_last}
use Rattle.limits.proofs.longest_take.Goals as goal

pub loop-i-init : goal.loop-i-init
loop-i-init c = links_first _

pub capacity-requires : goal.capacity-requires
capacity-requires c = (omega arith, omega arith, k_some c.loop-i.i)

pub overflow_add-total : goal.overflow_add-total
overflow_add-total c = omega (arith, (link_added _ _ _ _ _ c.loop-i.invariant (omega arith) (omega arith) c.capacity.ensures c.risen.ensures).0)

pub overflow_add-total-in-loop-i : goal.overflow_add-total-in-loop-i
overflow_add-total-in-loop-i c = omega (arith, (link_added _ _ _ _ _ c.loop-i.invariant (omega arith) (omega arith) c.capacity.ensures c.risen.ensures).0)

pub loop-i-preserved : goal.loop-i-preserved
loop-i-preserved c = (link_added _ _ _ _ _ c.loop-i.invariant (omega arith) (omega arith) c.capacity.ensures c.risen.ensures).1

pub returns-2 : goal.returns-2
returns-2 c = links_last _ _ _ (link_added _ _ _ _ _ c.loop-i.invariant (omega arith) (omega arith) c.capacity.ensures c.risen.ensures).1 (omega arith)
