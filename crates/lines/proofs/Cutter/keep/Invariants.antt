use Rattle.std.proofs.Common.{◌≡◌, ◌++◌, take}
use Rattle.lines.specs.Cutter.{decisive, kept}
use Rattle.lines.proofs.Cutter.keep.Given as goal

abbrev pub invariant-loop-byte : goal.invariant-loop-byte
invariant-loop-byte l = kept l.so_far ≡ decisive (kept l.initial.so_far ++ take l.byte-index l.byte-items)
