-- That there are histories: what is proved of every one is not about nothing.
use Rattle.std.specs.Prelude.{ℕ, ◌+◌, ◌≡◌, not, List, [], ◌∷◌, eqb}
use Rattle.rules.specs.Tests.{◌and◌}
use Rattle.rules.specs.Longest.{longest_take, longest_insert}
use Rattle.buffers.specs.Format.{count_of}
use Rattle.demands.specs.Histories.{Call, accepted, History, first, next, between, inserts, takes, once, packings}

-- "If I now has 8, .. sweep": an accepted insert, 7 in I before and none afterwards, that did not pack
abbrev pub sweeps : {cs : List Call} {ws : List ℕ} → History cs ws → ℕ
sweeps (first ws ws' c b made) = 0
sweeps (between ws vs cs before same) = sweeps before
sweeps (next ws ws' c cs before made) = once (eqb (inserts (c ∷ [])) 1 and not c.packed and eqb (count_of ws 0) 7 and eqb (count_of ws' 0) 0) + sweeps before

abbrev pub refusals : List Call → ℕ
refusals [] = 0
refusals (c ∷ cs) = once (not (accepted c)) + refusals cs

-- how many accepted takes, or accepted inserts, made so many steps
abbrev pub with_steps : (List Call → ℕ) → ℕ → List Call → ℕ
with_steps kind n [] = 0
with_steps kind n (c ∷ cs) = once (eqb (kind (c ∷ [])) 1 and eqb c.steps n) + with_steps kind n cs

-- calls that have a history, the words that they left, and what is in it
pub record Exists : Type 0 where
  pub calls : List Call
  pub left : List ℕ
  pub history : History calls left
  pub swept : sweeps history ≡ 2
  pub packed : packings calls ≡ 1
  pub refused : refusals calls ≡ 1
  -- a take and an insert that ran as long as they can
  pub longest_take : with_steps takes (longest_take 1) calls ≡ 1
  pub longest_insert : with_steps inserts (longest_insert 1) calls ≡ 1
