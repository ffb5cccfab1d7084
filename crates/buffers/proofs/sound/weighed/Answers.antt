use Rattle.std.proofs.Common.{sym, ap, ◌∙◌, arith}
use Rattle.rules.specs.Links.{most}
use Rattle.buffers.proofs.Exact.{no_such_link, insertion_full, insertion_wrong, links_broken, too_many, all_held_here}
use Rattle.buffers.proofs.sound.weighed.Goals.{then-inserted-gt-MOST_INSERTED-via-then-inserted-gt-MOST_INSERTED, then-inserted-gt-MOST_INSERTED-via-else-inserted-gt-MOST_INSERTED+then-not-right}
use Rattle.buffers.proofs.sound.weighed.Goals as goal

pub returns-then-l-lt1 : goal.returns-then-l-lt1
returns-then-l-lt1 c = no_such_link _ c.then-l-lt1.either

pub returns-then-inserted-gt-MOST_INSERTED : goal.returns-then-inserted-gt-MOST_INSERTED
returns-then-inserted-gt-MOST_INSERTED c =
    elim c.then-inserted-gt-MOST_INSERTED.branch [
      | then-inserted-gt-MOST_INSERTED-via-then-inserted-gt-MOST_INSERTED w ↦ insertion_full _ (record { low = c.if-l-lt1.false; high = c.if-l-gt-MOST.false }) _ _ c.of-insertion.ensures c.count-inserted.ensures (omega arith)
      | then-inserted-gt-MOST_INSERTED-via-else-inserted-gt-MOST_INSERTED+then-not-right w ↦ insertion_wrong _ (record { low = c.if-l-lt1.false; high = c.if-l-gt-MOST.false }) _ _ c.of-insertion.ensures c.count-inserted.ensures _ w.right.ensures w.if-not-right.true
    ]

pub links-requires : goal.links-requires
links-requires c = record { long = c.requires.long; number = record { low = c.if-l-lt1.false; high = c.if-l-gt-MOST.false } }

pub returns-in_err-held : goal.returns-in_err-held
returns-in_err-held c = c.from_residual.ensures ∙ links_broken _ (record { low = c.if-l-lt1.false; high = c.if-l-gt-MOST.false }) _ _ c.of-insertion.ensures c.count-inserted.ensures (sym c.right.ensures ∙ c.if-not-right.false) c.if-inserted-gt-MOST_INSERTED.false c.in_err-held.ensures

pub returns-then-most-held : goal.returns-then-most-held
returns-then-most-held c = too_many _ (record { low = c.if-l-lt1.false; high = c.if-l-gt-MOST.false }) _ _ c.of-insertion.ensures c.count-inserted.ensures (sym c.right.ensures ∙ c.if-not-right.false) c.if-inserted-gt-MOST_INSERTED.false _ _ c.in_ok-held.ensures (c.most.ensures ∙ ap most c.at.ensures) (omega arith)

pub returns : goal.returns
returns c = all_held_here _ (record { low = c.if-l-lt1.false; high = c.if-l-gt-MOST.false }) _ _ c.of-insertion.ensures c.count-inserted.ensures (sym c.right.ensures ∙ c.if-not-right.false) c.if-inserted-gt-MOST_INSERTED.false _ _ c.in_ok-held.ensures (c.most.ensures ∙ ap most c.at.ensures) (omega arith)
