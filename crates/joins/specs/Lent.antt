-- What C gets of a joining, and of a part of one. Where out does not fit, no word is written and the number is 0.
use Rattle.std.specs.Prelude.{◌≡◌, Bool, cond, List, ℕ, ◌+◌, ◌-◌, leb, length}
use Rattle.rules.specs.Tests.{◌and◌}
use Rattle.rules.specs.Merge.{merged}
use Rattle.runs.specs.Until.{join_until_end}
use Rattle.runs.specs.Promises.{laid_at}

module _ (key : ℕ → ℕ) where
  -- out has room for both runs: what a joining lays, how many entries it hands back, and these, if rest has room for them
  pub record Joined (xs ys out out' rest rest' : List ℕ) (handed : ℕ) (done : Bool) : Type 0 where
    pub done_is : done ≡ leb (length xs + length ys) (length out)
    pub laid : out' ≡ cond done (laid_at out 0 (join_until_end key xs ys).laid) out
    pub many : handed ≡ cond done (length (join_until_end key xs ys).rest) 0
    pub words : rest' ≡ cond (done and leb handed (length rest)) (laid_at rest 0 (join_until_end key xs ys).rest) rest

  -- the runs have together at least as many entries as out has words: out is merged whole, and so many of its entries are the first run's
  pub record Parted (xs ys out out' : List ℕ) (first : ℕ) (done : Bool) : Type 0 where
    pub done_is : done ≡ leb (length out) (length xs + length ys)
    pub laid : out' ≡ cond done (merged key (length out) xs ys).out out
    pub many : first ≡ cond done (length xs - length (merged key (length out) xs ys).one) 0
