-- How one buffer's ascent is found, entry by entry, and what it hands on.
use mathlib.Core.Path.{◌≡◌, refl, sym, ap, ◌∙◌}
use mathlib.Core.Bool.{true, false}
use mathlib.Core.List.{List, [], ◌∷◌}
use Prim.Native.Nat.{ℕ, zero, suc, ◌+◌, ◌-◌, ◌≤◌, ◌<◌}
use native.Mathlib.Omega.{arith}
use native.Mathlib.Numerals.{add-one}
use lib.Dec.{leb}
use lib.ListN.{length, get_or, drop, drop_of_length-le}
use lib.Seq.{drop-cons}
use Rattle.std.specs.Prelude.{unwrap_or, slice_get}
use Rattle.std.proofs.lemmas.Option.{unwrap_or-slice_get}
use Rattle.rules.specs.Tests.{◌and◌}
use Rattle.rules.specs.Order.{ascends, last_key}
use Rattle.order.specs.Walk.{last_entry}

-- ---- entry by entry

module _ (key : ℕ → ℕ) where
  ascends_cons : (low e : ℕ) (es : List ℕ) → ascends key low (e ∷ es) ≡ leb low (key e) and ascends key (key e) es
  unfolding ascends
  ascends_cons low e es = refl

  ascends_none : (low : ℕ) → ascends key low [] ≡ true
  unfolding ascends
  ascends_none low = refl

  -- the first i entries ascend, so that what is left decides
  abbrev pub Ascent : List ℕ → ℕ → ℕ → ℕ → Type 0
  Ascent es low last i = ascends key (key low) es ≡ ascends key (key last) (drop i es)

  module _ (es : List ℕ) (low last i : ℕ) (h : Ascent es low last i) where
    -- behind the last entry
    pub ascent_ends : length es ≤ i → true ≡ ascends key (key low) es
    ascent_ends over = sym (h ∙ ap (ascends key (key last)) (drop_of_length-le es over) ∙ ascends_none (key last))

    next_tested : i < length es → ascends key (key low) es ≡ leb (key last) (key (get_or es i 0)) and ascends key (key (get_or es i 0)) (drop (suc i) es)
    next_tested more = h ∙ ap (ascends key (key last)) (drop-cons es i 0 more) ∙ ascends_cons (key last) (get_or es i 0) (drop (suc i) es)

    -- the next entry is smaller than the last
    pub ascent_breaks : i < length es → leb (key last) (key (get_or es i 0)) ≡ false → false ≡ ascends key (key low) es
    ascent_breaks more t = sym (next_tested more ∙ rw t)

    -- or it is not
    pub ascent_goes_on : i < length es → leb (key last) (key (get_or es i 0)) ≡ true → Ascent es low (get_or es i 0) (i + 1)
    ascent_goes_on more t = rw add-one (next_tested more ∙ rw t)

  -- the key that is handed on is the last entry's
  pub last_key_lem : (low : ℕ) (es : List ℕ) → last_key key (key low) es ≡ key (last_entry low es)
  unfolding last_key last_entry
  last_key_lem low [] = refl
  last_key_lem low (e ∷ es) = last_key_lem e es

-- ---- the last entry

last_at : (low d : ℕ) (es : List ℕ) (m : ℕ) → length es ≡ suc m → last_entry low es ≡ get_or es m d
unfolding last_entry
last_at low d [] m e = absurd (omega arith)
last_at low d (x ∷ []) m e = let none : m ≡ 0 = omega arith in rw none
last_at low d (x ∷ y ∷ es) zero e = absurd (omega arith)
last_at low d (x ∷ y ∷ es) (suc m) e = last_at x d (y ∷ es) m (omega arith)

pub last_is : (low : ℕ) (es : List ℕ) → unwrap_or (slice_get es (length es - 1)) low ≡ last_entry low es
unfolding last_entry
last_is low [] = refl
last_is low (x ∷ es) =
    let e : suc (length es) - 1 ≡ length es = omega arith in
    unwrap_or-slice_get (x ∷ es) (length (x ∷ es) - 1) low ∙ ap (λ m. get_or (x ∷ es) m low) e ∙ sym (last_at low low (x ∷ es) (length es) refl)
