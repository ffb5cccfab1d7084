use Rattle.std.proofs.Common.{◌∙◌}
use Rattle.frames.proofs.FrameLaws.{body_has_room}
use Rattle.frames.proofs.order_of.Goals as goal

pub returns : goal.returns
returns c = c.of.ensures ∙ body_has_room _ _ _ c.requires c.number.ensures
