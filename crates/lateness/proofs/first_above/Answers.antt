-- The library's place of the first, or the length.
use Rattle.std.proofs.Common.{◌<◌, ◌≤◌, sym, ◌∙◌, rules}
use Rattle.std.proofs.lemmas.Iterator.{index_from_first, IsFirst-from_position, YieldsList-from_slice}
use borrow.Author.Tests.{tests}
use Rattle.lateness.specs.Reports.{first_above}
use Rattle.lateness.proofs.CheckLaws.{above_none, above_here, above_later}
use Rattle.lateness.proofs.first_above.Goals as goal

pub returns : goal.returns
returns c =
    c.unwrap_or.ensures
    ∙ sym (index_from_first first_above (λ b. 2 < b) (λ b. b ≤ 2) above_none above_here above_later _ _
    (IsFirst-from_position _ _ _ (λ b. 2 < b) (λ b. b ≤ 2) c.position.ensures.ran (YieldsList-from_slice c.args.doors.now cc) (λ x q k. search (rules, tests)) (λ x q k. search (rules, tests))))
