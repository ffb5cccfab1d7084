-- The order rule, as a test that computes and as a statement.
use Rattle.std.specs.Prelude.{ℕ, Bool, List, [], ◌∷◌, leb}
use Rattle.std.proofs.Math.Bool.{true}
use Rattle.rules.specs.Tree.{Buffers, Tree, exhausted, buffer, merger, entries}
use Rattle.rules.specs.Take.{insertion}
use Rattle.rules.specs.Tests.{◌and◌}

module _ (key : ℕ → ℕ) where
  -- "each buffer ascends, equal neighbours allowed": from the key `low` on
  unfoldable pub ascends : ℕ → List ℕ → Bool
  ascends low [] = true
  ascends low (e ∷ es) = leb low (key e) and ascends (key e) es

  -- the key of the last entry; `low` where there is none
  unfoldable pub last_key : ℕ → List ℕ → ℕ
  last_key low [] = low
  last_key low (e ∷ es) = last_key (key e) es

  -- "no entry is smaller than one nearer the root on its way to A(1)": `low` is the largest key nearer the root
  unfoldable pub ordered : Tree → ℕ → Buffers → Bool
  unfolding ascends last_key entries
  ordered exhausted low bs = true
  ordered (buffer n c) low bs = ascends low (entries (buffer n c) bs)
  ordered (merger n c one two) low bs =
      let es = entries (merger n c one two) bs in
      ascends low es and ordered one (last_key low es) bs and ordered two (last_key low es) bs

  -- "I stands outside the tree."
  unfoldable pub in_order : Tree → Buffers → Bool
  unfolding ascends ordered insertion
  in_order tree bs = ascends 0 (insertion bs) and ordered tree 0 bs
