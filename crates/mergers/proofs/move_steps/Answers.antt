-- The first entries of one input move behind the output's last one.
use Rattle.std.proofs.Common.{arith}
use Rattle.mergers.proofs.MoveLaws.{moving_run, move_growing, move_dropping, move_dropped}
use Rattle.mergers.proofs.move_steps.Goals as goal

pub move_run-requires : goal.move_run-requires
move_run-requires c = moving_run _ _ _ _ _ _ c.requires _ (omega arith) _ _ c.entries-from.ensures.start c.entries-to.ensures.end

pub grow-requires : goal.grow-requires
grow-requires c = move_growing _ _ _ _ _ _ c.requires _ (omega arith) _ _ c.entries-from.ensures.start c.entries-to.ensures.end _ c.move_run.ensures

pub drop_front-requires : goal.drop_front-requires
drop_front-requires c = move_dropping _ _ _ _ _ _ c.requires _ (omega arith) _ _ c.entries-from.ensures.start c.entries-to.ensures.end _ c.move_run.ensures _ c.grow.ensures.now c.grow.ensures.word

pub returns-clause-ran : goal.returns-clause-ran
returns-clause-ran c = move_dropped _ _ _ _ _ _ c.requires _ (omega arith) _ _ c.entries-from.ensures.start c.entries-to.ensures.end _ c.move_run.ensures _ c.grow.ensures.now c.grow.ensures.word _ c.drop_front.ensures.now c.drop_front.ensures.word
