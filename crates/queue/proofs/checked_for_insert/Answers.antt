-- `checked_for_insert` gives 5 where the last link's H are held.
use mathlib.Core.Path.{◌≡◌, ap, ◌∙◌}
use native.Mathlib.Omega.{arith}
use Rattle.rules.specs.Links.{most}
use Rattle.buffers.specs.Format.{links_in}
use Rattle.queue.proofs.CheckLaws.{handed_some}
use Rattle.queue.proofs.InsertCheckLaws.{insert_full}
use Rattle.queue.proofs.checked_for_insert.Goals as goal

pub returns-then-most-held : goal.returns-then-most-held
returns-then-most-held c =
    let H : c.most-most.result ≡ most (links_in c.args.a.now) = c.most-most.ensures ∙ ap most c.in_ok-last.ensures.last in
    insert_full _ _ _ c.in_ok-last.ensures.answer (omega arith) _ (handed_some c.weighed.result _ _ c.in_ok-held.ensures.value ∙ c.weighed.ensures) (omega arith) (omega arith)
