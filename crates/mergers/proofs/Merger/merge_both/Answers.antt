-- The inputs' entries are merged behind the output's last one, counted in there and dropped from the inputs.
use Rattle.std.proofs.Common.{◌≡◌, ◌+◌, ◌-◌, arith}
use Rattle.mergers.proofs.MoveLaws.{Found, stretches, run, both_growing, one_dropping, two_dropping, both_ran}
use Rattle.mergers.proofs.Merger.merge_both.Goals as goal

pub merge_run-moved-requires : goal.merge_run-moved-requires
merge_run-moved-requires c =
    let room : c.entries-to.result.end + c.args.room - c.entries-to.result.end ≡ c.args.room = omega arith in
    let f : Found _ _ _ _ _ _ _ _ c.requires _ _ _ _ _ _ = record { p_is = c.entries-one.ensures.start; p_end_is = c.entries-one.ensures.end; q_is = c.entries-two.ensures.start; q_end_is = c.entries-two.ensures.end; r_is = c.entries-to.ensures.end; room_is = room } in
    stretches f

pub grow-requires : goal.grow-requires
grow-requires c =
    let room : c.entries-to.result.end + c.args.room - c.entries-to.result.end ≡ c.args.room = omega arith in
    let f : Found _ _ _ _ _ _ _ _ c.requires _ _ _ _ _ _ = record { p_is = c.entries-one.ensures.start; p_end_is = c.entries-one.ensures.end; q_is = c.entries-two.ensures.start; q_end_is = c.entries-two.ensures.end; r_is = c.entries-to.ensures.end; room_is = room } in
    both_growing f _ _ _ c.merge_run-moved.ensures

pub drop_front-requires : goal.drop_front-requires
drop_front-requires c =
    let room : c.entries-to.result.end + c.args.room - c.entries-to.result.end ≡ c.args.room = omega arith in
    let f : Found _ _ _ _ _ _ _ _ c.requires _ _ _ _ _ _ = record { p_is = c.entries-one.ensures.start; p_end_is = c.entries-one.ensures.end; q_is = c.entries-two.ensures.start; q_end_is = c.entries-two.ensures.end; r_is = c.entries-to.ensures.end; room_is = room } in
    one_dropping f _ _ _ c.merge_run-moved.ensures _ c.grow.ensures.now c.grow.ensures.word

pub drop_front-requires-2 : goal.drop_front-requires-2
drop_front-requires-2 c =
    let room : c.entries-to.result.end + c.args.room - c.entries-to.result.end ≡ c.args.room = omega arith in
    let f : Found _ _ _ _ _ _ _ _ c.requires _ _ _ _ _ _ = record { p_is = c.entries-one.ensures.start; p_end_is = c.entries-one.ensures.end; q_is = c.entries-two.ensures.start; q_end_is = c.entries-two.ensures.end; r_is = c.entries-to.ensures.end; room_is = room } in
    two_dropping f _ _ _ c.merge_run-moved.ensures _ c.grow.ensures.now c.grow.ensures.word _ c.drop_front.ensures.now c.drop_front.ensures.word

pub returns-clause-value : goal.returns-clause-value
returns-clause-value c =
    let room : c.entries-to.result.end + c.args.room - c.entries-to.result.end ≡ c.args.room = omega arith in
    let f : Found _ _ _ _ _ _ _ _ c.requires _ _ _ _ _ _ = record { p_is = c.entries-one.ensures.start; p_end_is = c.entries-one.ensures.end; q_is = c.entries-two.ensures.start; q_end_is = c.entries-two.ensures.end; r_is = c.entries-to.ensures.end; room_is = room } in
    (run f _ _ _ c.merge_run-moved.ensures).steps

pub returns-clause-ran : goal.returns-clause-ran
returns-clause-ran c =
    let room : c.entries-to.result.end + c.args.room - c.entries-to.result.end ≡ c.args.room = omega arith in
    let f : Found _ _ _ _ _ _ _ _ c.requires _ _ _ _ _ _ = record { p_is = c.entries-one.ensures.start; p_end_is = c.entries-one.ensures.end; q_is = c.entries-two.ensures.start; q_end_is = c.entries-two.ensures.end; r_is = c.entries-to.ensures.end; room_is = room } in
    both_ran f _ _ _ c.merge_run-moved.ensures _ c.grow.ensures.now c.grow.ensures.word _ c.drop_front.ensures.now c.drop_front.ensures.word _ c.drop_front-2.ensures.now c.drop_front-2.ensures.word
