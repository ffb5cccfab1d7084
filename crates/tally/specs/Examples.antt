-- Days of the rules' own calls, and their tallies, computed.
use Rattle.std.specs.Prelude.{◌≡◌, refl, true, ◌-◌, List, ◌∷◌, ◌++◌}
use Rattle.rules.specs.Answers.{Done}
use Rattle.rules.specs.Calls.{zeros}
use Rattle.rules.specs.Examples.{Order, setup_of, look_at, held_now, audit_it, inserts, takes}
use Rattle.tally.specs.declared.Call.TheVariants.{Insert}
use Rattle.tally.specs.declared.Tally.{Tally}
use Rattle.tally.specs.Day.{tally_of, nothing, largest, up_to_date}
use Rattle.tally.specs.Sums.{after_all}
use Rattle.tally.specs.Told.{calls}

-- one link, on an array of zeros
unfoldable pub day_of : List Order → Tally
unfolding calls after_all zeros
day_of orders = after_all nothing (calls 16 (setup_of 1 ∷ orders) (zeros 296))

-- "16 inserts, 8 takes, 8 inserts: the 24th insert packs, 16 steps; total 32"
packs : day_of (inserts 1 16 ++ takes 8 ++ inserts 17 8) ≡ tally_of 24 8 32 1
unfolding day_of inserts
packs = refl

-- "16 inserts are accepted, the 17th answers 5"
refuses : day_of (inserts 1 17) ≡ tally_of 16 0 0 0
unfolding day_of inserts
refuses = refl

-- the look makes the 16 steps that the take would have made; held and audit add nothing, and the ninth take is refused
looks : day_of (inserts 1 8 ++ look_at ∷ held_now ∷ audit_it ∷ takes 9) ≡ tally_of 8 8 16 0
unfolding day_of inserts
looks = refl

-- the steps would pass the largest value, the inserts have it already
stays : up_to_date (tally_of largest 0 (largest - 1) 0) Insert (record { answer = Done; steps = 2; packed = true }) ≡ tally_of largest 0 largest 1
unfolding up_to_date
stays = refl
