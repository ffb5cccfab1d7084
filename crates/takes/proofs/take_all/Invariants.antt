-- The loop keeps: so many takes are made as words of the work area are written.
use Rattle.std.proofs.Common.{take}
use Rattle.rules.specs.Entries.{key_by}
use Rattle.takes.proofs.EmptyLaws.{Emptying}
use Rattle.takes.proofs.take_all.Given as goal

abbrev pub invariant-loop-place : goal.invariant-loop-place
invariant-loop-place l = Emptying (key_by l.rule) l.fn.a l.last (take l.count l.fn.work) l.a l.place-items l.count l.place-index l.steps
