-- The entries at a run's front that go before the other's head, and what a joining of such runs comes to, computed.
use mathlib.Core.Path.{◌≡◌, refl}
use mathlib.Core.Bool.{true, false}
use mathlib.Core.List.{[], ◌∷◌}
use Rattle.rules.specs.declared.Rule.{Rule}
use Rattle.rules.specs.Entries.{key_by}
use Rattle.runs.specs.Until.{the_first, the_second, join_until_end}
use Rattle.runs.specs.Leads.{goes_before, leading}

-- equal entries go before the head where they are the first run's, and not where they are the second's
pub at_equality : (rule : Rule) → leading (key_by rule) true 5 (3 ∷ 5 ∷ 7 ∷ []) ≡ 2
unfolding leading goes_before key_by
at_equality rule = refl

pub strictly_below : (rule : Rule) → leading (key_by rule) false 5 (3 ∷ 5 ∷ 7 ∷ []) ≡ 1
unfolding leading goes_before key_by
strictly_below rule = refl

-- a run is looked through entry by entry, so its last one decides nothing
pub the_last_decides_nothing : (rule : Rule) → leading (key_by rule) true 5 (3 ∷ 9 ∷ 4 ∷ []) ≡ 1
unfolding leading goes_before key_by
the_last_decides_nothing rule = refl

-- "Where every entry of one run is below the first of the other, copy that run as one block and hand back the other."
pub first_laid_whole : (rule : Rule) → join_until_end (key_by rule) (1 ∷ 2 ∷ 5 ∷ []) (5 ∷ 6 ∷ []) ≡ record { laid = 1 ∷ 2 ∷ 5 ∷ []; run = the_second; rest = 5 ∷ 6 ∷ [] }
unfolding join_until_end key_by
first_laid_whole rule = refl

pub second_laid_whole : (rule : Rule) → join_until_end (key_by rule) (5 ∷ 6 ∷ []) (1 ∷ 4 ∷ 2 ∷ []) ≡ record { laid = 1 ∷ 4 ∷ 2 ∷ []; run = the_first; rest = 5 ∷ 6 ∷ [] }
unfolding join_until_end key_by
second_laid_whole rule = refl

-- at equal heads the second run is no block
pub equal_heads_merge : (rule : Rule) → join_until_end (key_by rule) (5 ∷ 6 ∷ []) (5 ∷ 2 ∷ []) ≡ record { laid = 5 ∷ 5 ∷ 2 ∷ []; run = the_first; rest = 6 ∷ [] }
unfolding join_until_end key_by
equal_heads_merge rule = refl
