-- The column "steps bound" of the document's table.
use Rattle.std.specs.Prelude.{ℕ, ◌+◌, ◌*◌, ◌≡◌, refl, [], ◌∷◌, get_or}
use Rattle.rules.specs.Links.{height, most}

-- so many steps for each accepted insert; the fifth is the championship box's
unfoldable pub per_insert : ℕ → ℕ
per_insert l = get_or (0 ∷ 2 ∷ 6 ∷ 13 ∷ 22 ∷ 33 ∷ []) l 0

-- and for each packing: H entries, each through every link and through the last link's merger
unfoldable pub per_packing : ℕ → ℕ
unfolding height most
per_packing l = (l + height l) * most l

-- for n accepted inserts and p packings
unfoldable pub steps_bound : ℕ → ℕ → ℕ → ℕ
unfolding per_insert per_packing
steps_bound l n p = per_insert l * n + per_packing l * p

-- "2n + 32P", "6n + 384P", "13n + 5,760P", "22n + 138,240P"
pub rows : (n p : ℕ) → (steps_bound 1 n p ≡ 2 * n + 32 * p) × (steps_bound 2 n p ≡ 6 * n + 384 * p) × (steps_bound 3 n p ≡ 13 * n + 5760 * p) × (steps_bound 4 n p ≡ 22 * n + 138240 * p)
unfolding steps_bound
rows n p = (refl, refl, refl, refl)
