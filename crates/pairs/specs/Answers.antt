-- What the code's answer stands for.
use Rattle.std.specs.Prelude.{Option, None, Some}
use Rattle.frames.specs.Answers.{Back, done, refused}
use Rattle.lateness.specs.Pairs as lateness
use Rattle.pairs.specs.declared.Pair.{Pair}

abbrev pub pair_back : Option Pair → Back lateness.Pair
pair_back (Some p) = done (record { due = p.due; acting = p.acting; door = p.door })
pair_back None = refused
