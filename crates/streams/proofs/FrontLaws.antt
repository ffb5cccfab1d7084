-- The loop that writes: what it has written of some bytes, and what is left of them.
use mathlib.Core.Path.{◌≡◌, refl, sym, ap, ◌∙◌, subst}
use mathlib.Core.List.{List, ◌++◌, append_assoc}
use Prim.Native.Nat.{ℕ, ◌-◌}
use lib.ListN.{length, take, drop}
use lib.Seq.{take_at}
use Rattle.std.specs.Prelude.{Option}
use Rattle.std.specs.Io.KnownBytes.{Appends, Keeps}
use Rattle.std.proofs.KnownBytes.{Appends-trans, Appends-kept}
use Rattle.std.proofs.Common.{take-append-drop}
use Rattle.std.proofs.lemmas.List.{take_rest}
use Rattle.streams.specs.Fronts.{AppendsFront}

pub record Wrote (old new : Option (List ℕ)) (bytes rest : List ℕ) : Type 0 where
  pub done : List ℕ
  pub split : bytes ≡ done ++ rest
  pub appended : Appends old new done

module _ {old now : Option (List ℕ)} {bytes rest : List ℕ} (w : Wrote old now bytes rest) where
  pub some_more : {new : Option (List ℕ)} (n : ℕ) → Appends now new (take n rest) → Wrote old new bytes (take (length rest - n) (drop n rest))
  some_more n more = record {
    done = w.done ++ take n rest;
    split =
        w.split ∙ ap (λ (l : List ℕ). w.done ++ l) (sym (take-append-drop n rest)) ∙ sym (append_assoc w.done (take n rest) (drop n rest))
        ∙ ap (λ (l : List ℕ). (w.done ++ take n rest) ++ l) (sym (take_rest rest n));
    appended = Appends-trans _ _ _ _ _ w.appended more;
  }

  pub no_more : {new : Option (List ℕ)} → Keeps now new → Wrote old new bytes rest
  no_more kept = record { done = w.done; split = w.split; appended = Appends-kept _ _ _ _ w.appended kept }

  pub front : AppendsFront old now bytes
  front = (length w.done, subst (Appends old now) (sym (ap (take (length w.done)) w.split ∙ take_at w.done rest (length w.done) refl)) w.appended)
