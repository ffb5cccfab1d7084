-- The lines before that of so many links are laid.
use Rattle.std.proofs.Common.{◌≡◌, ◌+◌, ◌-◌, ◌*◌, ◌≤◌, length}
use Rattle.limits.specs.Lines.{lines_to}
use Rattle.limits.proofs.lay_lines.Given as goal

abbrev pub invariant-loop-links : goal.invariant-loop-links
invariant-loop-links l = (l.out ≡ lines_to (l.links - 1)) × (length l.out + 251 ≤ 251 * l.links)
