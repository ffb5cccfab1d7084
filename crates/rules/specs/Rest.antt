-- What a sweep and a packing leave over, and the place that they have for it.
use Rattle.std.specs.Prelude.{ℕ, ◌≤◌, ◌≡◌, refl, true, List, [], ◌∷◌, map, length, replicate, ltb}
use Rattle.rules.specs.Tests.{◌and◌}
use Rattle.rules.specs.Links.{s, k, most}
use Rattle.rules.specs.Tree.{tree_of}
use Rattle.rules.specs.Take.{take_all}
use Rattle.rules.specs.Queue.{Queue, key_of, counter, held}
use Rattle.rules.specs.Sweep.{sweep_to}
use Rattle.rules.specs.Insert.{entered}
use Rattle.rules.specs.Book.{sound, plain_book}

-- "The rest goes into S(i, c(i))": how many entries a sweep to i leaves for it
unfoldable pub rest_of_sweep : ℕ → Queue → ℕ
unfolding sweep_to key_of counter
rest_of_sweep i q = (sweep_to (key_of q) i (counter q i) q.buffers).rest

-- "take everything out by repeated takes, then lay it in order": how many entries a packing has to lay
unfoldable pub rest_of_packing : Queue → ℕ
unfolding take_all tree_of key_of
rest_of_packing q = length (take_all (key_of q) (tree_of q.links) q.buffers).out

-- no sweep to a link with c(i) at most k(i) leaves more than s(i), and no packing more than H
pub record HasPlace (q : Queue) : Type 0 where
  pub of_sweep : (i : ℕ) → 1 ≤ i → i ≤ q.links → counter q i ≤ k i → rest_of_sweep i q ≤ s i
  pub of_packing : rest_of_packing q ≤ most q.links

-- ---- computed: on sound books a place is filled to its last slot

-- so many links, their counters, and so many equal entries in each buffer
unfoldable pub queue_with : ℕ → List ℕ → List ℕ → Queue
queue_with links counters counts = record { links = links; counters = counters; buffers = map (λ n. replicate n 5) counts }

-- a queue, how a sweep or a packing of it is counted once an entry is put in, and the slots of the place that it fills
pub record FilledPlace : Type 0 where
  pub queue : Queue
  pub rest : Queue → ℕ
  pub slots : ℕ

unfoldable pub filled_places : List FilledPlace
unfolding queue_with rest_of_sweep rest_of_packing
filled_places =
    -- S(1,1)
    record { queue = queue_with 1 (1 ∷ []) (7 ∷ 0 ∷ 0 ∷ 0 ∷ 0 ∷ []); rest = rest_of_sweep 1; slots = 8 }
    -- S(2,1)
    ∷ record { queue = queue_with 2 (3 ∷ 1 ∷ []) (7 ∷ 0 ∷ 0 ∷ 8 ∷ 8 ∷ 0 ∷ 0 ∷ 0 ∷ 0 ∷ 0 ∷ 0 ∷ 0 ∷ 0 ∷ []); rest = rest_of_sweep 2; slots = 24 }
    -- what A(1) has stays there
    ∷ record { queue = queue_with 2 (3 ∷ 1 ∷ []) (7 ∷ 7 ∷ 0 ∷ 8 ∷ 8 ∷ 0 ∷ 0 ∷ 0 ∷ 0 ∷ 0 ∷ 0 ∷ 0 ∷ 0 ∷ []); rest = rest_of_sweep 2; slots = 24 }
    -- S(1,1) and S(1,2) of a packing
    ∷ record { queue = queue_with 1 (3 ∷ []) (7 ∷ 8 ∷ 0 ∷ 0 ∷ 0 ∷ []); rest = rest_of_packing; slots = 16 }
    ∷ []

pub places_filled : map (λ x. x.rest (entered 5 x.queue)) filled_places ≡ map (λ x. x.slots) filled_places
unfolding filled_places entered
places_filled = refl

-- each has a sound book and is not full
pub places_sound : map (λ x. sound (plain_book x.queue) and ltb (held x.queue) (most x.queue.links)) filled_places ≡ replicate (length filled_places) true
unfolding filled_places sound plain_book held most
places_sound = refl
