-- What has been read has been heard, and nothing has been told.
use mathlib.Core.Path.{◌≡◌}
use mathlib.Core.List.{[]}
use Rattle.lines.specs.Cutter.{kept}
use Rattle.pairs.specs.Kept.{Kept}
use Rattle.late.specs.Runs.{day_state}
use Rattle.late.proofs.RunLaws.{Heard}
use Rattle.late.proofs.run.Given as goal

abbrev pub invariant-loop-turn : goal.invariant-loop-turn
invariant-loop-turn g l =
    let begun = day_state l.initial.day in
    record {
      begins : Kept [] begun;
      heard : Heard l._turn begun (g.R.Read.remaining l.fn.input) (g.R.Read.remaining l.input) (day_state l.day) (kept l.day.heard.cutter);
      output_kept : l.output ≡ l.fn.output;
      errors_kept : l.errors ≡ l.fn.errors;
    }
