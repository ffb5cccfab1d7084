-- The runs' leading blocks are laid, then their rests are merged head by head.
use Rattle.std.proofs.Common.{◌≡◌, ◌-◌, true, false, length, take, get_or, min, arith, rules, tests, refl}
use Rattle.std.proofs.lemmas.Iterator.{YieldsList-from_slice}
use Rattle.rules.specs.Entries.{key_by}
use Rattle.runs.specs.Leads.{goes_before}
use Rattle.runs.proofs.LeadLaws.{lead_counted}
use Rattle.runs.proofs.LentLaws.{none_first, none_second, run_at, led_first, first_over, led_second, second_over, led_on}
use Rattle.runs.proofs.merge_until.Goals.{then-is_empty-via-then-is_empty, then-is_empty-via-else-is_empty+then-is_empty-2}
use Rattle.runs.proofs.merge_until.Goals as goal

pub returns-then-is_empty : goal.returns-then-is_empty
returns-then-is_empty c = elim c.then-is_empty.branch [
  | then-is_empty-via-then-is_empty w ↦ none_first _ _ _ _ (search (rules, tests))
  | then-is_empty-via-else-is_empty+then-is_empty-2 w ↦ none_second _ _ _ _ (search (rules, tests))
]

pub returns-then-i-n : goal.returns-then-i-n
unfolding goes_before
returns-then-i-n c =
    let s = c.args in
    let front = take c.min-n.result s.xs.now in
    let lead = lead_counted (key_by s.rule) _ true (get_or s.ys.now 0 0) front c.count-i.ensures.ran (YieldsList-from_slice front (cc)) c.take_while.ensures.closure c.take_while.ensures.done (λ x b q k. search (rules, tests)) in
    let b = led_first (key_by s.rule) s.xs.now s.ys.now s.out.now _ _ (search (rules, tests)) c.min-n.ensures lead in
    first_over _ (run_at _ c.lay.ensures b.1) c.min-n.ensures c.if-i-n.true

pub returns-then-j-m : goal.returns-then-j-m
unfolding goes_before
returns-then-j-m c =
    let s = c.args in
    let front = take c.min-n.result s.xs.now in
    let lead = lead_counted (key_by s.rule) _ true (get_or s.ys.now 0 0) front c.count-i.ensures.ran (YieldsList-from_slice front (cc)) c.take_while.ensures.closure c.take_while.ensures.done (λ x b q k. search (rules, tests)) in
    let b = led_first (key_by s.rule) s.xs.now s.ys.now s.out.now _ _ (search (rules, tests)) c.min-n.ensures lead in
    let r = run_at _ c.lay.ensures b.1 in
    let front-two = take c.min-m.result s.ys.now in
    let head-one = get_or s.xs.now c.count-i.result 0 in
    let lead-two = lead_counted (key_by s.rule) _ false head-one front-two c.count-j.ensures.ran (YieldsList-from_slice front-two (cc)) c.take_while-2.ensures.closure c.take_while-2.ensures.done (λ x b q k. search (rules, tests)) in
    let room : c.min-m.result ≡ min (length s.ys.now) (length s.out.now - c.count-i.result) = omega arith in
    let d = led_second _ r _ _ (omega arith) room lead-two in
    second_over _ (run_at _ c.lay-2.ensures d.1) room c.if-j-m.true

pub returns : goal.returns
unfolding goes_before
returns c =
    let s = c.args in
    let front = take c.min-n.result s.xs.now in
    let lead = lead_counted (key_by s.rule) _ true (get_or s.ys.now 0 0) front c.count-i.ensures.ran (YieldsList-from_slice front (cc)) c.take_while.ensures.closure c.take_while.ensures.done (λ x b q k. search (rules, tests)) in
    let b = led_first (key_by s.rule) s.xs.now s.ys.now s.out.now _ _ (search (rules, tests)) c.min-n.ensures lead in
    let r = run_at _ c.lay.ensures b.1 in
    let front-two = take c.min-m.result s.ys.now in
    let head-one = get_or s.xs.now c.count-i.result 0 in
    let lead-two = lead_counted (key_by s.rule) _ false head-one front-two c.count-j.ensures.ran (YieldsList-from_slice front-two (cc)) c.take_while-2.ensures.closure c.take_while-2.ensures.done (λ x b q k. search (rules, tests)) in
    let room : c.min-m.result ≡ min (length s.ys.now) (length s.out.now - c.count-i.result) = omega arith in
    let d = led_second _ r _ _ (omega arith) room lead-two in
    led_on _ _ _ (run_at _ c.lay-2.ensures d.1) _ _ _ _ refl c.merge_heads-more.ensures
