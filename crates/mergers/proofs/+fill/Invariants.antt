-- `fill` calls itself on its inputs' mergers; the height below falls at each call.
use Rattle.std.proofs.Common.{◌-◌, ◌+◌}
use Rattle.rules.specs.Entries.{key_by}
use Rattle.rules.specs.Links.{first, capacity}
use Rattle.mergers.specs.Subtree.{subtree, height_below, first_input, second_input, second_link}
use Rattle.mergers.proofs.FillLaws.{Filling}
use Rattle.mergers.proofs.+fill.Given as goal

abbrev pub decreases-fill : goal.decreases-fill
decreases-fill l = height_below l.last l.i l.j

abbrev pub invariant-loop-filled : goal.invariant-loop-filled
invariant-loop-filled l =
    Filling (key_by l.rule) (first l.i + l.j) (capacity l.i l.j) (subtree l.last l.i (first_input l.j)) (subtree l.last (second_link l.i l.j) (second_input l.j)) l.initial.a l.a l.filled l.steps

abbrev pub decreases-loop-filled : goal.decreases-loop-filled
decreases-loop-filled l = l.v.room - l.filled
