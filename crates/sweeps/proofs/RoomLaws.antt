-- Making room in I: nothing to do, a sweep, or a packing.
use Prim.Native.Nat.{ℕ, ◌≤◌, ◌<◌}
use mathlib.Core.Path.{◌≡◌, refl, sym, ap, ◌∙◌, subst}
use mathlib.Core.Logic.{◌≢◌}
use mathlib.Core.Bool.{Bool, true, false}
use mathlib.Core.List.{List}
use native.Mathlib.Omega.{arith}
use borrow.Author.Tests.{le-leb, lt-leb, eq-eqb, ne_eqb}
use lib.Dec.{leb, eqb}
use lib.ListN.{length}
use Rattle.rules.specs.declared.Rule.{Rule}
use Rattle.rules.specs.Take.{insertion}
use Rattle.rules.specs.Queue.{Queue}
use Rattle.rules.specs.Insert.{lowest, Inserted, swept, packed, make_room}
use Rattle.rules.specs.Calls.{queue_of}
use Rattle.buffers.specs.Format.{links_in, book_of, lent_of, buffer_of}
use Rattle.buffers.specs.Slots.{capacity_of}
use Rattle.buffers.specs.Post.{Inside, Has}
use Rattle.buffers.proofs.ArrayLaws.{buffer_length}
use Rattle.sweeps.specs.Room.{CanMakeRoom, MadeRoom}
use Rattle.takes.proofs.ReadyLaws.{insertion_has, insertion_is}

-- ---- the three cases of making room

abbrev nothing_made : Queue → Inserted
nothing_made q = record { queue = q; steps = 0; packed = false }

abbrev goal : Queue → ℕ
goal q = lowest 1 q.counters

room_when : (q : Queue) (a b : Bool) → eqb (length (insertion q.buffers)) 8 ≡ a → leb (goal q) q.links ≡ b
    → make_room q ≡ elim a [ false ↦ nothing_made q | true ↦ elim b [ true ↦ swept (goal q) q | false ↦ packed q ] ]
unfolding make_room
room_when q a b e f = λ x. elim (e x) [ false ↦ nothing_made q | true ↦ elim (f x) [ true ↦ swept (goal q) q | false ↦ packed q ] ]

room_none : (q : Queue) → length (insertion q.buffers) ≢ 8 → make_room q ≡ nothing_made q
room_none q differ = room_when q false (leb (goal q) q.links) (ne_eqb (length (insertion q.buffers)) 8 differ) refl

room_swept : (q : Queue) → length (insertion q.buffers) ≡ 8 → goal q ≤ q.links → make_room q ≡ swept (goal q) q
room_swept q eight there = room_when q true true (eq-eqb (length (insertion q.buffers)) 8 eight) (le-leb (goal q) q.links there)

room_packed : (q : Queue) → length (insertion q.buffers) ≡ 8 → q.links < goal q → make_room q ≡ packed q
room_packed q eight past = room_when q true false (eq-eqb (length (insertion q.buffers)) 8 eight) (lt-leb (goal q) q.links past)

-- ---- room over the array

module _ {rule : Rule} (ws work : List ℕ) (h : CanMakeRoom rule ws work) where
  abbrev q : Queue
  q = queue_of (lent_of ws)

  array : Inside ws
  array = h.moves.can.array

  pub counts_I : Has ws 0
  counts_I = insertion_has ws (links_in ws) h.moves.can

  I_long : length (insertion q.buffers) ≡ length (buffer_of ws 0)
  unfolding queue_of lent_of
  I_long = ap length (insertion_is ws (links_in ws) h.moves.can)

  pub room_there : (n : ℕ) → n ≡ length (buffer_of ws 0) → n < 8 → MadeRoom ws ws (make_room q) work work 0
  room_there n n_is less =
      rw (room_none q (omega (arith, I_long)))
      record {
        array = array;
        links = refl;
        queue_is = refl;
        made = refl;
        marks = h.moves.can.marks;
        mark_I = h.mark_I;
        long = refl;
        past = λ p far. refl;
        unused = λ p u. refl;
        work_long = refl;
        work_past = λ p far. refl;
      }

  pub packed_not : (n : ℕ) → n ≡ length (buffer_of ws 0) → n < 8 → false ≡ (make_room q).packed
  packed_not n n_is less = rw (room_none q (omega (arith, I_long)))

  I_full : (n : ℕ) → n ≡ length (buffer_of ws 0) → 8 ≤ n → length (insertion q.buffers) ≡ 8
  unfolding capacity_of
  I_full n n_is eight = omega (arith, I_long, buffer_length ws 0 counts_I, counts_I.fits)

  module _ (n : ℕ) (n_is : n ≡ length (buffer_of ws 0)) (eight : 8 ≤ n) (l : ℕ) (l_is : l ≡ links_in ws) where
    -- to a link that was found
    module _ (i : ℕ) (i_is : i ≡ lowest 1 (book_of ws).counters) (there : i ≤ l) where
      now_swept : make_room q ≡ swept i q
      unfolding queue_of lent_of
      now_swept = room_swept q (I_full n n_is eight) (omega (arith, i_is, l_is)) ∙ ap (λ m. swept m q) (sym i_is)

      pub swept_room : (ws' work' : List ℕ) (steps : ℕ) → MadeRoom ws ws' (swept i q) work work' steps → MadeRoom ws ws' (make_room q) work work' steps
      swept_room ws' work' steps z = subst (λ y. MadeRoom ws ws' y work work' steps) (sym now_swept) z

      pub swept_told : false ≡ (make_room q).packed
      unfolding swept
      swept_told = sym (ap (λ (y : Inserted). y.packed) now_swept)

    -- where none was
    module _ (past : l < lowest 1 (book_of ws).counters) where
      now_packed : make_room q ≡ packed q
      unfolding queue_of lent_of
      now_packed = room_packed q (I_full n n_is eight) (omega (arith, l_is))

      pub packed_room : (ws' work' : List ℕ) (steps : ℕ) → MadeRoom ws ws' (packed q) work work' steps → MadeRoom ws ws' (make_room q) work work' steps
      packed_room ws' work' steps z = subst (λ y. MadeRoom ws ws' y work work' steps) (sym now_packed) z

      pub packed_told : true ≡ (make_room q).packed
      unfolding packed
      packed_told = sym (ap (λ (y : Inserted). y.packed) now_packed)
