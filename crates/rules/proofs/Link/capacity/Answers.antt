-- `Link::capacity` answers by the rule: each arm is a level.
use native.Mathlib.Omega.{arith}
use Rattle.rules.specs.Tests.{every}
use Rattle.rules.specs.Links.{k}
use Rattle.rules.proofs.Table.{alike, size_at, below_end}
use Rattle.rules.proofs.Link.capacity.Goals as goal

pub returns-in-0-to-1-j : goal.returns-in-0-to-1-j
unfolding every alike k
returns-in-0-to-1-j c = size_at 2 0 2 tt c.requires (omega arith) (omega arith) (omega arith)

pub returns-in-2-to-3 : goal.returns-in-2-to-3
unfolding every alike k
returns-in-2-to-3 c = size_at 2 2 2 tt c.requires (omega arith) (omega arith) (omega arith)

pub returns-in_default-j : goal.returns-in_default-j
unfolding every alike k
returns-in_default-j c = size_at 2 4 4 tt c.requires (omega arith) (omega arith) (below_end 2 c.requires (omega arith))

pub returns-in-0-to-1-j-2 : goal.returns-in-0-to-1-j-2
unfolding every alike k
returns-in-0-to-1-j-2 c = size_at 3 0 2 tt c.requires (omega arith) (omega arith) (omega arith)

pub returns-in-2-to-3-j : goal.returns-in-2-to-3-j
unfolding every alike k
returns-in-2-to-3-j c = size_at 3 2 2 tt c.requires (omega arith) (omega arith) (omega arith)

pub returns-in-4-to-7 : goal.returns-in-4-to-7
unfolding every alike k
returns-in-4-to-7 c = size_at 3 4 4 tt c.requires (omega arith) (omega arith) (omega arith)

pub returns-in_default-j-2 : goal.returns-in_default-j-2
unfolding every alike k
returns-in_default-j-2 c = size_at 3 8 8 tt c.requires (omega arith) (omega arith) (below_end 3 c.requires (omega arith))

pub returns-in-0-to-1 : goal.returns-in-0-to-1
unfolding every alike k
returns-in-0-to-1 c = size_at 1 0 4 tt c.requires (omega arith) (omega arith) (below_end 1 c.requires (omega arith))

pub returns-in-0-to-1-j-3 : goal.returns-in-0-to-1-j-3
unfolding every alike k
returns-in-0-to-1-j-3 c = size_at 4 0 2 tt c.requires (omega arith) (omega arith) (omega arith)

pub returns-in-2-to-3-j-2 : goal.returns-in-2-to-3-j-2
unfolding every alike k
returns-in-2-to-3-j-2 c = size_at 4 2 2 tt c.requires (omega arith) (omega arith) (omega arith)

pub returns-in-4-to-7-j : goal.returns-in-4-to-7-j
unfolding every alike k
returns-in-4-to-7-j c = size_at 4 4 4 tt c.requires (omega arith) (omega arith) (omega arith)

pub returns-in-8-to-15 : goal.returns-in-8-to-15
unfolding every alike k
returns-in-8-to-15 c = size_at 4 8 8 tt c.requires (omega arith) (omega arith) (omega arith)

pub returns-in_default-j-3 : goal.returns-in_default-j-3
unfolding every alike k
returns-in_default-j-3 c = size_at 4 16 16 tt c.requires (omega arith) (omega arith) (below_end 4 c.requires (omega arith))
