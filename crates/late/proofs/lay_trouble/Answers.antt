use Rattle.text.specs.Bytes.{bytes}
use Rattle.late.proofs.LineLaws.{many_laid, no_pair_laid, above_laid}
use Rattle.late.proofs.lay_trouble.Goals as goal

pub returns-in-TooManyLines : goal.returns-in-TooManyLines
unfolding bytes
returns-in-TooManyLines c = many_laid c.new-out.ensures c.in-TooManyLines.is c.text.ensures

pub returns-in-NoPair : goal.returns-in-NoPair
unfolding bytes
returns-in-NoPair c = no_pair_laid c.new-out.ensures _ c.in-NoPair.is c.field.ensures.text c.text-in-NoPair.ensures

pub returns-in-DoorAbove : goal.returns-in-DoorAbove
unfolding bytes
returns-in-DoorAbove c = above_laid c.new-out.ensures _ c.in-DoorAbove.is c.field-in-DoorAbove.ensures.text c.text-in-DoorAbove.ensures
