use Rattle.std.proofs.Common.{arith}
use Rattle.buffers.proofs.ArrayLaws.{has}
use Rattle.takes.proofs.SumLaws.{sum_start, first_links, sum_more, sum_all_lem}
use Rattle.takes.proofs.held_now.Goals as goal

pub loop-n-init : goal.loop-n-init
loop-n-init c = sum_start c.args.a.now _

pub count-requires : goal.count-requires
count-requires c =
    let h = first_links c.args.a.now c.args.links _ _ c.requires.0 c.requires.1 c.at.ensures c.first-end.ensures in
    has c.args.a.now c.loop-n.n c.requires.0 (omega arith)

pub overflow_add-sum : goal.overflow_add-sum
overflow_add-sum c =
    let h = first_links c.args.a.now c.args.links _ _ c.requires.0 c.requires.1 c.at.ensures c.first-end.ensures in
    let more = sum_more c.args.a.now c.args.links _ c.loop-n.n c.loop-n.sum c.count.result h c.loop-n-test.true c.loop-n.invariant c.count.ensures in
    record { fits = omega arith }

pub loop-n-preserved : goal.loop-n-preserved
loop-n-preserved c =
    let h = first_links c.args.a.now c.args.links _ _ c.requires.0 c.requires.1 c.at.ensures c.first-end.ensures in
    sum_more c.args.a.now c.args.links _ c.loop-n.n c.loop-n.sum c.count.result h c.loop-n-test.true c.loop-n.invariant c.count.ensures

pub returns : goal.returns
returns c =
    let h = first_links c.args.a.now c.args.links _ _ c.requires.0 c.requires.1 c.at.ensures c.first-end.ensures in
    sum_all_lem c.args.a.now c.args.links _ c.loop-n.n _ h c.loop-n-test.false c.loop-n.invariant
