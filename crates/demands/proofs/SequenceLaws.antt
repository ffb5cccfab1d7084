-- Any sequence of calls with an accepted setup in it is a history from its last accepted setup on.
use Prim.Native.Nat.{ℕ}
use mathlib.Core.Path.{◌≡◌, refl, sym, ap, ◌∙◌}
use mathlib.Core.Bool.{Bool, true, false}
use mathlib.Core.List.{List, [], ◌∷◌}
use Rattle.rules.specs.Tests.{◌or◌}
use Rattle.demands.specs.Histories.{Call, begins, links_of, History, first, next, since, links, Sequence, none, more, has_setup, from_setup, between, meanwhile}
use Rattle.queue.proofs.CheckLaws.{unlike}

pub from_setup_lem : {ws ws' : List ℕ} {cs : List Call} → Sequence ws cs ws' → has_setup cs ≡ true → History (from_setup cs) ws'
from_setup_lem none e = absurd (unlike (sym e))
from_setup_lem (meanwhile ws₁ vs cs before same) e = between ws₁ vs (from_setup cs) (from_setup_lem before e) same
from_setup_lem (more ws₁ ws₂ c cs before made) e = go (begins c) refl e (from_setup_lem before)
  where
    go : (b : Bool) → begins c ≡ b → (b or has_setup cs) ≡ true → (has_setup cs ≡ true → History (from_setup cs) ws₁)
        → History (elim b [ true ↦ c ∷ [] | false ↦ c ∷ from_setup cs ]) ws₂
    go true b e h = first ws₁ ws₂ c b made
    go false b e h = next ws₁ ws₂ c (from_setup cs) (h e) made

-- the calls since then are the same
pub since_same : (cs : List Call) → since (from_setup cs) ≡ since cs
since_same [] = refl
since_same (c ∷ cs) = go (begins c) refl (since_same cs)
  where
    here : (b : Bool) (rest : List Call) → begins c ≡ b → since (c ∷ rest) ≡ elim b [ true ↦ [] | false ↦ c ∷ since rest ]
    here b rest e = ap (λ b. elim b as (λ b. List Call) [ true ↦ [] | false ↦ c ∷ since rest ]) e

    go : (b : Bool) → begins c ≡ b → since (from_setup cs) ≡ since cs
        → since (elim b [ true ↦ c ∷ [] | false ↦ c ∷ from_setup cs ]) ≡ elim b [ true ↦ [] | false ↦ c ∷ since cs ]
    go true e h = here true [] e
    go false e h = here false (from_setup cs) e ∙ ap (λ rest. c ∷ rest) h

-- and so are the links
pub links_same : (cs : List Call) → links (from_setup cs) ≡ links cs
links_same [] = refl
links_same (c ∷ cs) = go (begins c) refl (links_same cs)
  where
    here : (b : Bool) (rest : List Call) → begins c ≡ b → links (c ∷ rest) ≡ elim b [ true ↦ links_of c.order | false ↦ links rest ]
    here b rest e = ap (λ b. elim b as (λ b. ℕ) [ true ↦ links_of c.order | false ↦ links rest ]) e

    go : (b : Bool) → begins c ≡ b → links (from_setup cs) ≡ links cs
        → links (elim b [ true ↦ c ∷ [] | false ↦ c ∷ from_setup cs ]) ≡ elim b [ true ↦ links_of c.order | false ↦ links cs ]
    go true e h = here true [] e
    go false e h = here false (from_setup cs) e ∙ h
