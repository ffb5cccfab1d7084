-- Insert: the entry goes into I; eight in I are swept or packed.
use Rattle.std.specs.Prelude.{ℕ, suc, Bool, true, false, List, [], ◌∷◌, length, set, leb, ltb, eqb}
use Rattle.rules.specs.Links.{k}
use Rattle.rules.specs.Tree.{tree_of}
use Rattle.rules.specs.Take.{take_all, insertion}
use Rattle.rules.specs.Queue.{Queue, key_of, counter}
use Rattle.rules.specs.Sweep.{sweep_to, raised, laid_out, packed_counters}

-- "place the entry in I before the first larger one"
unfoldable pub placed : (ℕ → ℕ) → ℕ → List ℕ → List ℕ
placed key e [] = e ∷ []
placed key e (x ∷ xs) = elim (ltb (key e) (key x)) [ true ↦ e ∷ x ∷ xs | false ↦ x ∷ placed key e xs ]

-- "the lowest link with c(i) at most k(i)", from link i on; one past the last where there is none
unfoldable pub lowest : ℕ → List ℕ → ℕ
unfolding k
lowest i [] = i
lowest i (c ∷ cs) = elim (leb c (k i)) [ true ↦ i | false ↦ lowest (suc i) cs ]

-- an accepted insert: the queue afterwards, the steps, and whether it packed
pub record Inserted : Type 0 where
  pub queue : Queue
  pub steps : ℕ
  pub packed : Bool

unfoldable pub swept : ℕ → Queue → Inserted
unfolding sweep_to key_of counter raised
swept i q =
    let z = sweep_to (key_of q) i (counter q i) q.buffers in
    record { queue = record { links = q.links; counters = raised i q.counters; buffers = z.buffers }; steps = z.steps; packed = false }

-- "Pack: take everything out by repeated takes, then lay it in order"
unfoldable pub packed : Queue → Inserted
unfolding take_all tree_of key_of laid_out packed_counters
packed q =
    let z = take_all (key_of q) (tree_of q.links) q.buffers in
    record { queue = record { links = q.links; counters = packed_counters q.links (length z.out); buffers = laid_out q.links z.out }; steps = z.steps; packed = true }

-- the queue with the entry in I
unfoldable pub entered : ℕ → Queue → Queue
unfolding placed insertion key_of
entered e q = record { links = q.links; counters = q.counters; buffers = set q.buffers 0 (placed (key_of q) e (insertion q.buffers)) }

-- "If I now has 8, let i be the lowest link with c(i) at most k(i), and sweep to it; if none, pack."
unfoldable pub make_room : Queue → Inserted
unfolding insertion lowest swept packed
make_room q =
    elim (eqb (length (insertion q.buffers)) 8) [
      | false ↦ record { queue = q; steps = 0; packed = false }
      | true ↦
          let i = lowest 1 q.counters in
          elim (leb i q.links) [ true ↦ swept i q | false ↦ packed q ]
    ]

unfoldable pub inserted : ℕ → Queue → Inserted
unfolding make_room entered
inserted e q = make_room (entered e q)
