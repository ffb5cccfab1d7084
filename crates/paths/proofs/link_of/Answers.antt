-- Links above the number's own are passed; the last, link 1, has what is left.
use mathlib.Core.Path.{ap}
use native.Mathlib.Omega.{arith}
use Rattle.rules.specs.Links.{first}
use Rattle.paths.proofs.AlongLaws.{below_all, below_here, below_first}
use Rattle.paths.proofs.link_of.Goals as goal

pub loop-i-init : goal.loop-i-init
loop-i-init c = below_all c.requires

pub returns-then-first-n : goal.returns-then-first-n
returns-then-first-n c = below_here c.loop-i.invariant (omega (arith, c.first.ensures, ap first c.at.ensures))

pub returns : goal.returns
returns c = below_first c.requires c.loop-i.invariant (omega arith)
