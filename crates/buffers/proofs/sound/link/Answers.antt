use Rattle.buffers.proofs.LinkWeights.{skipped, ask_stores, no_stores, ask_mergers, merged}
use Rattle.buffers.proofs.sound.link.Goals as goal

pub returns-then-links-i : goal.returns-then-links-i
returns-then-links-i c = skipped _ _ _ _ c.requires c.if-links-i.true

pub stores-requires : goal.stores-requires
stores-requires c = ask_stores _ _ _ _ c.requires

pub returns-in_err-room : goal.returns-in_err-room
returns-in_err-room c = rw c.from_residual.ensures (no_stores _ _ _ _ c.requires c.if-links-i.false c.in_err-room.ensures)

pub mergers-requires : goal.mergers-requires
mergers-requires c = ask_mergers _ _ _ _ c.requires c.if-links-i.false _ _ c.in_ok-room.ensures

pub returns : goal.returns
returns c = merged _ _ _ _ c.requires c.if-links-i.false _ c.mergers.ensures
