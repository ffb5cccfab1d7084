-- What comes back says which case it was.
use mathlib.Core.Path.{◌≡◌, refl, ap, sym}
use mathlib.Core.Bool.{Bool, true, false, cond}
use mathlib.Core.List.{[], ◌∷◌}
use Prim.Native.Nat.{ℕ}
use native.Mathlib.Omega.{arith}
use Rattle.std.specs.Prelude.{Result, Ok, Err}
use Rattle.frames.specs.Answers.{Back, done, refused, back}
use Rattle.frames.specs.declared.NotAFrame.{NotAFrame}

module _ {A : Type 0} where
  pub done_same : {x y : A} → done x ≡ done y → x ≡ y
  done_same {x} {y} e = let v : x ∷ [] ≡ y ∷ [] = ap (λ (b : Back A). b.values) e in cc

  pub not_done : {P : Type 0} {x : A} → refused ≡ done x → P
  not_done e = let z : ◌≡◌ {A = ℕ} 10 0 = ap (λ (b : Back A). b.number) e in absurd (omega arith)

  pub by_test : {P : Type 0} (t : Bool) {x y : Back A} {a : A} → cond t x y ≡ done a → (t ≡ true → x ≡ done a → P) → (t ≡ false → y ≡ done a → P) → P
  by_test true e f g = f refl e
  by_test false e f g = g refl e

pub back_same : {A : Type 0} (r s : Result A NotAFrame) → back r ≡ back s → r ≡ s
back_same (Ok a) (Ok b) e = ap Ok (done_same e)
back_same (Ok a) (Err f) e = not_done (sym e)
back_same (Err f) (Ok b) e = not_done e
back_same (Err f) (Err g) e = refl
