-- A fill's contract determines the entries of every buffer and the steps: two outcomes that meet it agree.
use Prim.Native.Nat.{ℕ}
use mathlib.Core.Path.{◌≡◌, sym, ◌∙◌}
use mathlib.Core.List.{List}
use Rattle.rules.specs.Tree.{Tree}
use Rattle.rules.specs.Fill.{Filled}
use Rattle.buffers.specs.Format.{buffers_of}
use Rattle.mergers.specs.Fills.{Did}

pub did_agree : (ws ws₁ ws₂ : List ℕ) (t : Tree) (z : Filled) (steps₁ steps₂ : ℕ) → Did ws ws₁ t z steps₁ → Did ws ws₂ t z steps₂ → (buffers_of ws₁ ≡ buffers_of ws₂) × (steps₁ ≡ steps₂)
did_agree ws ws₁ ws₂ t z steps₁ steps₂ one two = (one.state ∙ sym two.state, one.count ∙ sym two.count)
