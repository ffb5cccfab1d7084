use Rattle.std.proofs.Common.{arith}
use Rattle.lines.specs.Cutter.{kept}
use Rattle.lines.proofs.CutterLaws.{kept_decisive}
use Rattle.lines.proofs.WholeLaws.{keep_starts, keep_on, keep_ends}
use Rattle.lines.proofs.Cutter.keep.Goals as goal

pub loop-byte-init : goal.loop-byte-init
loop-byte-init c = keep_starts (kept c.args.self) c.args.bytes.now (kept_decisive c.args.self (omega arith))

pub loop-byte-preserved : goal.loop-byte-preserved
loop-byte-preserved c = keep_on (kept c.args.self) _ (kept c.loop-byte.so_far) (kept c.onward-so_far.result) _ (omega arith) c.loop-byte.invariant c.onward-so_far.ensures

pub returns : goal.returns
returns c = keep_ends (kept c.args.self) _ (kept c.loop-byte.so_far) _ _ c.min.ensures (omega arith) c.loop-byte.invariant
