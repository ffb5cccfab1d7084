-- What refilling a path and laying out promise determines the entries of every buffer: two outcomes that meet it agree.
use Prim.Native.Nat.{ℕ}
use mathlib.Core.Path.{◌≡◌, sym, ◌∙◌}
use mathlib.Core.List.{List}
use Rattle.buffers.specs.Format.{buffers_of}
use Rattle.paths.specs.Refills.{Refilled}
use Rattle.paths.specs.Laying.{LaidOut}

pub refilled_agree : {key : ℕ → ℕ} (ws ws₁ ws₂ ns cs : List ℕ) (n : ℕ) (xs ys : List ℕ) → Refilled key ws ws₁ ns cs n xs ys → Refilled key ws ws₂ ns cs n xs ys → buffers_of ws₁ ≡ buffers_of ws₂
refilled_agree ws ws₁ ws₂ ns cs n xs ys one two = one.state ∙ sym two.state

pub laid_out_agree : (ws ws₁ ws₂ : List ℕ) (links : ℕ) (run : List ℕ) → LaidOut ws ws₁ links run → LaidOut ws ws₂ links run → buffers_of ws₁ ≡ buffers_of ws₂
laid_out_agree ws ws₁ ws₂ links run one two = one.state ∙ sym two.state
