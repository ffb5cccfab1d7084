-- What the code's answers stand for.
use Rattle.std.specs.Prelude.{List, [], ◌∷◌, Option, Some, None, Result}
use Rattle.frames.specs.Answers.{Back, read_back}
use Rattle.frames.specs.declared.Order.{Order}
use Rattle.frames.specs.declared.NotAFrame.{NotAFrame}
use Rattle.lines.specs.Cutter.{Cut, Step, kept}
use Rattle.lines.specs.declared.Fed.{Fed}
use Rattle.lines.specs.declared.Next.{Next}

abbrev pub ended_back : Option (Result Order NotAFrame) → List (Back Order)
ended_back (Some read) = read_back read ∷ []
ended_back None = []

abbrev pub fed_back : Fed → Cut
fed_back r = record { keeps = kept r.cutter; orders = ended_back r.ended }

abbrev pub next_back : Next → Step
next_back r = record { at = r.at; cut = record { keeps = kept r.cutter; orders = ended_back r.ended } }
