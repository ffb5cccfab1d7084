-- What a sweep or a packing leaves over has its place, and is what stands there afterwards.
use Prim.Native.Nat.{ℕ, ◌≤◌}
use mathlib.Core.Path.{◌≡◌}
use mathlib.Core.List.{[]}
use native.Mathlib.Omega.{arith}
use lib.ListN.{length, get_or}
use Rattle.rules.specs.Links.{k, number_of_s}
use Rattle.rules.specs.Queue.{Queue, counter, held}
use Rattle.rules.specs.Insert.{swept, packed}
use Rattle.rules.specs.Rest.{rest_of_sweep, rest_of_packing, HasPlace}
use Rattle.rules.proofs.Held.{held_split}
use Rattle.rules.proofs.BookLaws.{Kept}
use Rattle.rules.proofs.BookKept.{Shaped}
use Rattle.rules.proofs.SweepKept.{rest_fits, rest_laid}
use Rattle.rules.proofs.PackKept.{all_fit_lem, all_laid}

-- where the book rules hold but for I, which may have 8
module _ (q : Queue) (shape : Shaped q) (kept : Kept 8 q) where
  pub has_place : HasPlace q
  unfolding rest_of_sweep rest_of_packing
  has_place = record { of_sweep = rest_fits 8 q shape kept kept.few; of_packing = all_fit_lem 8 q shape kept }

  -- "The rest goes into S(i, c(i))"
  pub sweep_lays : (i : ℕ) → 1 ≤ i → i ≤ q.links → counter q i ≤ k i → length (get_or (swept i q).queue.buffers (number_of_s i (counter q i)) []) ≡ rest_of_sweep i q
  unfolding swept rest_of_sweep
  sweep_lays = rest_laid 8 q shape kept kept.few

  -- "All other buffers are empty.": what a packing lays is all that is held afterwards
  pub packing_lays : held (packed q).queue ≡ rest_of_packing q
  unfolding packed rest_of_packing
  packing_lays = omega (arith, held_split (packed q).queue, all_laid 8 q shape kept)
