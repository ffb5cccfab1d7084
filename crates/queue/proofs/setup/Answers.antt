-- `setup` makes the fresh queue, or gives the first failing check.
use mathlib.Core.Path.{◌≡◌, ap, ◌∙◌}
use native.Mathlib.Omega.{arith}
use Rattle.rules.specs.Links.{words}
use Rattle.queue.proofs.SetupLaws.{too_few, too_many, too_short, setup_called, slots_kept}
use Rattle.queue.proofs.setup.Goals as goal
use Rattle.queue.proofs.setup.Goals.{then-links-lt1-via-then-links-lt1, then-links-lt1-via-else-links-lt1+then-links}

pub returns-then-links-lt1-clause-called : goal.returns-then-links-lt1-clause-called
returns-then-links-lt1-clause-called c =
    elim c.then-links-lt1.branch [
      | then-links-lt1-via-then-links-lt1 w ↦ too_few _ _ (omega arith)
      | then-links-lt1-via-else-links-lt1+then-links w ↦ too_many _ _ (omega arith)
    ]

pub returns-then-a-words-clause-called : goal.returns-then-a-words-clause-called
returns-then-a-words-clause-called c =
    let need : c.words.result ≡ words c.args.links = c.words.ensures ∙ ap words c.at.ensures in
    too_short _ _ (record { low = omega arith; high = omega arith }) (omega arith)

pub returns-clause-called : goal.returns-clause-called
returns-clause-called c =
    let need : c.words.result ≡ words c.args.links = c.words.ensures ∙ ap words c.at.ensures in
    rw (c.default.ensures.0, c.default.ensures.1.0, c.default.ensures.1.1) (setup_called _ _ _ (record { link = record { low = omega arith; high = omega arith }; enough = omega arith }) c.begin.ensures)

pub returns-clause-slots_kept : goal.returns-clause-slots_kept
returns-clause-slots_kept c = slots_kept _ _ _ (record { low = omega arith; high = omega arith }) c.begin.ensures
