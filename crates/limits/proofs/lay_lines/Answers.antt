use Rattle.std.proofs.Common.{arith, ap, length}
use Rattle.limits.specs.Lines.{lines_to}
use Rattle.limits.proofs.FieldLaws.{one_more}
use Rattle.limits.proofs.lay_lines.Goals as goal

pub loop-links-init : goal.loop-links-init
unfolding lines_to
loop-links-init c = (c.new-out.ensures, omega (arith, ap length c.new-out.ensures))

pub loop-links-preserved : goal.loop-links-preserved
loop-links-preserved c = (one_more c.loop-links.links (omega arith) c.loop-links.invariant.0 c.lay_line.ensures.text, omega arith)
