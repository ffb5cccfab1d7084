-- Laws of merge steps inside one array.
use mathlib.Core.Path.{◌≡◌}
use mathlib.Core.Logic.{◌⊎◌, inl, inr}
use mathlib.Core.List.{List, ◌++◌}
use Prim.Native.Nat.{ℕ, ◌+◌, ◌≤◌, ◌<◌}
use native.Mathlib.Omega.{arith}
use native.Mathlib.Decide.{dec_le}
use lib.ListN.{length, take, drop, length-take, length-drop}
use Rattle.rules.specs.Merge.{merged}
use Rattle.runs.specs.Promises.{stretch, Apart, Beside, Stretches, Merges}
use Rattle.runs.proofs.LayingLaws.{length_stretch, lay_part}
use Rattle.runs.proofs.PromiseLaws.{merges_long}
use Rattle.runs.proofs.RunningLaws.{Running, merges, running_start, ended_first, ended_second, ended_room}

-- an input that has entries lies before or behind the room, if there is room
pub beside_room : (a : List ℕ) (out room from end : ℕ) → Apart from end out (out + room) → 0 < room → from < end → end ≤ length a
    → (before behind : ℕ) → before ≡ out → behind + (room + out) ≡ length a → Beside before room behind from end
beside_room a out room from end apart some has inside before behind e all = record { starts = omega arith; inside = omega arith; apart = rw e (go (dec_le end out) (dec_le (out + room) from)) }
  where
    go : Dec (end ≤ out) → Dec (out + room ≤ from) → (end ≤ out) ⊎ (out + room ≤ from)
    go (yes low) d = inl low
    go (no n) (yes high) = inr high
    go (no n) (no m) = absurd (meet (dec_le from out))
      where
        meet : Dec (from ≤ out) → ⊥
        meet (yes low) = apart out low (omega arith) (omega arith) (omega arith)
        meet (no high) = apart from (omega arith) has (omega arith) (omega arith)

module _ (key : ℕ → ℕ) where
  -- ---- an input that is empty from the start, or no room

  module _ (a : List ℕ) (out one one_end two two_end room : ℕ) (s : Stretches a out one one_end two two_end room) where
    start : Running key (stretch one one_end a) (stretch two two_end a) a a out room 0 0
    start = running_start key (stretch one one_end a) (stretch two two_end a) a out room (omega (arith, s.free))

    pub one_empty : one_end ≤ one → Merges key (stretch one one_end a) (stretch two two_end a) a a out room 0 0
    one_empty e = merges key start (ended_first key start (omega (arith, length_stretch a one one_end s.one_inside)))

    pub two_empty : two_end ≤ two → Merges key (stretch one one_end a) (stretch two two_end a) a a out room 0 0
    two_empty e = merges key start (ended_second key start (omega (arith, length_stretch a two two_end s.two_inside)))

    pub no_room : room ≡ 0 → Merges key (stretch one one_end a) (stretch two two_end a) a a out room 0 0
    no_room e = merges key start (ended_room key start (omega arith))

  -- ---- the room is lent, and what lies before and behind it

  pub merges_within : {xs ys xs' ys' a before part part' behind : List ℕ} {out room moved first : ℕ}
      → xs' ≡ xs → ys' ≡ ys → before ≡ take out a → part ≡ take room (drop out a) → behind ≡ drop room (drop out a) → out + room ≤ length a
      → Merges key xs' ys' part part' 0 (length part) moved first → Merges key xs ys a (before ++ (part' ++ behind)) out room moved first
  merges_within {xs} {ys} {a = a} {part' = part'} {out = out} {room} {moved} {first} ex ey eb ep ed free m =
      let long : length (take room (drop out a)) ≡ room = simp (length-take, length-drop) (omega arith) in
      let n : Merges key xs ys (take room (drop out a)) part' 0 room moved first = rw (ex, ey, ep, long) at m in
      let many : length (merged key moved xs ys).out ≡ moved = merges_long key n in
      rw (eb, ed)
      record {
        steps = n.steps;
        laid = lay_part a (merged key moved xs ys).out part' out room (omega (arith, n.within)) free n.laid;
        one = n.one;
        two = n.two;
        of_first = n.of_first;
        of_both = n.of_both;
        of_second = n.of_second;
        within = n.within;
      }
