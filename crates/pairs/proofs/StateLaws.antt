-- A line more, case by case, and lines behind lines.
use mathlib.Core.Path.{◌≡◌, refl, ap, ◌∙◌}
use mathlib.Core.Bool.{Bool, true, false, cond}
use mathlib.Core.List.{List, [], ◌∷◌, ◌++◌}
use Prim.Native.Nat.{ℕ, ◌+◌, ◌<◌, ◌≤◌}
use native.Mathlib.Omega.{arith}
use lib.Dec.{ltb}
use lib.ListN.{set, length-set}
use borrow.Author.Tests.{lt-ltb, le-ltb}
use Rattle.std.specs.Option.{option_or}
use Rattle.std.specs.Prelude.{Option, Some}
use Rattle.frames.specs.Answers.{Back, done, refused}
use Rattle.lateness.specs.Pairs.{Pair}
use Rattle.pairs.specs.State.{State, Room, placed, too_many, one_more, lines_after}

module _ (s : State) (read : Back Pair) where
  pub more_over : {n : ℕ} {w : Option ℕ} → 4096 ≤ s.lines → n ≡ 4097 → w ≡ s.wrong → record { due = s.due; acting = s.acting; doors = s.doors; lines = n; wrong = w } ≡ one_more s read
  unfolding one_more
  more_over h e f = rw (e, f, le-ltb s.lines 4096 h) refl

  pub more_placed : s.lines < 4096 → placed s read.values ≡ one_more s read
  unfolding one_more
  more_placed h = rw (lt-ltb s.lines 4096 h) refl

  pub more_pair : {d a b at n : ℕ} {w : Option ℕ} → done (record { due = d; acting = a; door = b }) ≡ read → at ≡ s.lines → at < 4096 → n ≡ at + 1 → w ≡ s.wrong
      → record { due = set s.due at d; acting = set s.acting at a; doors = set s.doors at b; lines = n; wrong = w } ≡ one_more s read
  unfolding placed
  more_pair e p h g f = rw (g, f, p) (ap (λ (r : Back Pair). placed s r.values) e ∙ more_placed (omega arith))

  pub more_none : {n : ℕ} {w : Option ℕ} → refused ≡ read → s.lines < 4096 → n ≡ s.lines + 1 → w ≡ option_or s.wrong (Some n)
      → record { due = s.due; acting = s.acting; doors = s.doors; lines = n; wrong = w } ≡ one_more s read
  unfolding placed
  more_none e h g f = rw (g, f, g) (ap (λ (r : Back Pair). placed s r.values) e ∙ more_placed h)

pub lines_append : (s : State) (xs ys : List (Back Pair)) → lines_after s (xs ++ ys) ≡ lines_after (lines_after s xs) ys
unfolding lines_after
lines_append s [] ys = refl
lines_append s (x ∷ xs) ys = lines_append (one_more s x) xs ys

-- the arrays stay as long as they are

placed_room : (s : State) (values : List Pair) → Room s.due s.acting s.doors → Room (placed s values).due (placed s values).acting (placed s values).doors
unfolding placed
placed_room s [] room = room
placed_room s (p ∷ ps) room = record {
  due_long = simp length-set room.due_long;
  acting_long = simp length-set room.acting_long;
  doors_long = simp length-set room.doors_long;
}

more_room : (s : State) (read : Back Pair) → Room s.due s.acting s.doors → Room (one_more s read).due (one_more s read).acting (one_more s read).doors
unfolding one_more
more_room s read room = go (ltb s.lines 4096)
  where
    go : (t : Bool)
        → Room (cond t (placed s read.values) (too_many s)).due (cond t (placed s read.values) (too_many s)).acting (cond t (placed s read.values) (too_many s)).doors
    go true = placed_room s read.values room
    go false = room

pub lines_room : (s : State) (reads : List (Back Pair)) → Room s.due s.acting s.doors
    → Room (lines_after s reads).due (lines_after s reads).acting (lines_after s reads).doors
unfolding lines_after
lines_room s [] room = room
lines_room s (read ∷ reads) room = lines_room (one_more s read) reads (more_room s read room)
