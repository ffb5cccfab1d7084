-- The number of the buffer rises at each call, so that what is left of the numbers falls.
use Rattle.std.proofs.Common.{◌+◌, ◌-◌}
use Rattle.rules.specs.Links.{first, all_buffers}
use Rattle.order.proofs.+ordered.Given as goal

abbrev pub decreases-ordered : goal.decreases-ordered
decreases-ordered l = all_buffers - (first l.i + l.j)
