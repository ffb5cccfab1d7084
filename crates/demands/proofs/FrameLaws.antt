-- Frames, from the contracts of their reader and writer.
use Prim.Native.Nat.{ℕ, ◌≤◌}
use mathlib.Core.Path.{◌≡◌, sym, ◌∙◌}
use mathlib.Core.List.{List, ◌++◌}
use lib.ListN.{length, take, drop}
use Rattle.frames.specs.Answers.{read_back}
use Rattle.frames.specs.Orders.{frame_of, writable, Fits}
use Rattle.frames.specs.Frames.{read_of}
use Rattle.frames.specs.Lines.{Laid}
use Rattle.frames.specs.declared.Order.{Order}
use Rattle.frames.specs.declared.NotAFrame.{NotAFrame}
use Rattle.std.specs.Prelude.{Result, Ok}
use Rattle.frames.proofs.AnswerLaws.{back_same}
use Rattle.frames.proofs.RoundTrip.{written_is_read, read_is_written}

-- the reader's promise, and the writer's
abbrev pub Reads : List ℕ → Result Order NotAFrame → Type 0
Reads line r = read_back r ≡ read_of line

abbrev pub Writes : Order → List ℕ → List ℕ → Result ℕ NotAFrame → Type 0
Writes o out out' r = Laid (writable o) (frame_of o) out out' r

pub read_back_lem : (o : Order) (out out' : List ℕ) (n : ℕ) (r : Result Order NotAFrame) → Fits o → Writes o out out' (Ok n) → Reads (take n out') r → r ≡ Ok o
read_back_lem o out out' n r f wrote reads = back_same r (Ok o) (reads ∙ written_is_read o out out' n f wrote)

pub write_back : (line : List ℕ) (o : Order) (out out' : List ℕ) (r : Result ℕ NotAFrame) → Reads line (Ok o) → length line ≤ length out → Writes o out out' r
    → (r ≡ Ok (length line)) × (out' ≡ line ++ drop (length line) out)
write_back line o out out' r reads room wrote =
    let w = read_is_written line o out out' r (sym reads) room wrote in
    (back_same r (Ok (length line)) w.0, w.1)
