use Rattle.std.proofs.Common.{◌≤◌, arith, length, take}
use Rattle.std.proofs.lemmas.List.{length-take-le}
use Rattle.takes.proofs.EmptyLaws.{empty_start, found, empty_more, empty_all, total_small, steps_fit, whole_work}
use Rattle.takes.proofs.take_all.Goals as goal

pub loop-place-init : goal.loop-place-init
loop-place-init c = empty_start c.args.a.now c.args.last (take c.held_now-count.result c.args.work.now) _ c.requires.can c.held_now-count.ensures

pub unwrap-requires : goal.unwrap-requires
unwrap-requires c =
    let room : c.held_now-count.result ≤ length c.args.work.now = omega (arith, c.requires.room) in
    let long = length-take-le c.held_now-count.result c.args.work.now room in
    found _ _ _ _ _ _ _ _ c.loop-place.invariant (omega arith) (omega arith) _ _ _ c.take_one-taken.ensures

pub overflow_add-steps : goal.overflow_add-steps
overflow_add-steps c =
    let room : c.held_now-count.result ≤ length c.args.work.now = omega (arith, c.requires.room) in
    let long = length-take-le c.held_now-count.result c.args.work.now room in
    let small = total_small _ _ _ c.requires.can c.held_now-count.ensures in
    record { fits = omega (arith, steps_fit _ _ _ _ _ _ _ _ c.loop-place.invariant (omega arith) small _ _ _ c.take_one-taken.ensures) }

pub loop-place-preserved : goal.loop-place-preserved
loop-place-preserved c =
    let room : c.held_now-count.result ≤ length c.args.work.now = omega (arith, c.requires.room) in
    let long = length-take-le c.held_now-count.result c.args.work.now room in
    empty_more _ _ _ _ _ _ _ _ c.loop-place.invariant (omega arith) (omega arith) _ _ _ c.take_one-taken.ensures _ c.unwrap.ensures

pub returns : goal.returns
returns c =
    let room : c.held_now-count.result ≤ length c.args.work.now = omega (arith, c.requires.room) in
    let long = length-take-le c.held_now-count.result c.args.work.now room in
    whole_work _ _ _ _ (empty_all _ _ _ _ _ _ _ _ c.requires.can c.held_now-count.ensures c.loop-place.invariant (omega arith)) room
