-- Those that go before the entry are counted, and moved before it.
use Rattle.std.proofs.Common.{◌+◌, true, rules, tests}
use Rattle.std.proofs.lemmas.Iterator.{YieldsList-from_slice}
use Rattle.rules.specs.Entries.{key_by}
use Rattle.runs.specs.Leads.{goes_before}
use Rattle.runs.specs.Promises.{stretch}
use Rattle.runs.proofs.LeadLaws.{lead_counted}
use Rattle.paths.proofs.PlacingLaws.{places}
use Rattle.paths.proofs.place_in.Goals as goal

pub returns : goal.returns
unfolding goes_before
returns c =
    let s = c.args in
    let run = stretch s.start (s.start + s.count) s.slots.now in
    let led = lead_counted (key_by s.rule) _ true s.entry run c.count-before.ensures.ran (YieldsList-from_slice run (cc)) c.take_while.ensures.closure c.take_while.ensures.done (λ x b q k. search (rules, tests)) in
    rw (c.copy_within-2.ensures.after, c.copy_within.ensures.after) (places (key_by s.rule) s.slots.now s.start s.count c.count-before.result s.entry c.requires led)
