use Rattle.std.proofs.Common.{sym, ap, ◌∙◌}
use Rattle.lateness.proofs.ReportLaws.{no_pairs}
use Rattle.lateness.proofs.Day.row.Goals as goal

pub returns-then-seen-eq0 : goal.returns-then-seen-eq0
returns-then-seen-eq0 c =
    let none = c.default.ensures in
    no_pairs _ (sym (ap (λ s. s.count) c.seen-seen.ensures.value) ∙ c.if-seen-eq0.true) none.0.0 none.0.1.0 none.0.1.1.0 none.0.1.1.1.0 none.0.1.1.1.1 none.1
