-- Laws of two lent runs that are merged until one ends: what is handed back, and what a part is still filled with.
use mathlib.Core.Path.{◌≡◌, refl, sym, ap, ◌∙◌}
use mathlib.Core.Bool.{true, false}
use mathlib.Core.List.{List, []}
use mathlib.Core.Logic.{◌≢◌, ◌⊎◌, inl, inr}
use Prim.Native.Nat.{ℕ, ◌+◌, ◌-◌, ◌*◌, ◌≤◌, ◌<◌}
use native.Mathlib.Omega.{arith}
use native.Mathlib.Nat.{zero-add}
use denote.Ref.{Bor}
use lib.ListN.{length, take, drop, get_or, length-drop, drop_of_length-le}
use lib.Seq.{drop-cons, drop-drop, take_all}
use Rattle.rules.specs.Merge.{merged}
use Rattle.runs.specs.Until.{Which, the_first, the_second, pick, outlasts, until_end, join_until_end}
use Rattle.runs.specs.Leads.{leading}
use Rattle.runs.specs.Promises.{laid_at, EndOf, Joins, Parts, Merges}
use Rattle.runs.proofs.MergeLaws.{reached, merged_one, merged_two, until_no_first, until_no_second, until_split, until_enough}
use Rattle.runs.proofs.JoinLaws.{one_ended}
use Rattle.runs.proofs.LayingLaws.{Laying, laying_start, length_laid, to_the_end, lay_block, parts}
use Rattle.runs.proofs.LeadLaws.{first_block, second_block}
use Rattle.runs.proofs.PromiseLaws.{merges_long, merges_ended}

end_of : (part run : Bor (List ℕ)) (i : ℕ) → i ≤ length run.now → part.ref_ptr ≡ (run.ref_ptr.0, i * 8 + run.ref_ptr.1) → part.now ≡ drop i run.now → EndOf part run
end_of part run i h at e =
    let back : length run.now - length part.now ≡ i = rw (e, length-drop) (omega arith) in
    record { starts = rw back at; words = rw back e }

module _ (key : ℕ → ℕ) where
  -- ---- "Where every entry of one run is below the first of the other, copy that run as one block and hand back the other."

  none_left : (xs : List ℕ) → drop (length xs) xs ≡ []
  none_left xs = let past : length xs ≤ length xs = omega arith in drop_of_length-le xs past

  all_of : (xs : List ℕ) → take (length xs) xs ≡ xs
  all_of xs = take_all (length xs) xs (omega arith)

  pub first_whole : (xs ys : List ℕ) → 0 < length ys → leading key true (get_or ys 0 0) xs ≡ length xs → join_until_end key xs ys ≡ record { laid = xs; run = the_second; rest = ys }
  unfolding join_until_end pick outlasts
  first_whole xs ys has every =
      let b = first_block key (length xs) xs ys has (omega (arith, every)) in
      let block : merged key (length xs) xs ys ≡ reached xs [] ys = b.moved ∙ rw (all_of xs, none_left xs) in
      let made : until_end key xs ys ≡ length xs =
      until_split key (length xs) (length xs + length ys) xs ys (b.made (length xs + length ys) (omega arith)) ∙ rw (block, until_no_first) (omega arith) in
      let second : outlasts ys ≡ the_second = rw (drop-cons ys 0 0 has) in
      rw (made, block, second)

  pub second_whole : (xs ys : List ℕ) → 0 < length xs → leading key false (get_or xs 0 0) ys ≡ length ys → join_until_end key xs ys ≡ record { laid = ys; run = the_first; rest = xs }
  unfolding join_until_end pick outlasts
  second_whole xs ys has every =
      let b = second_block key (length ys) xs ys has (omega (arith, every)) in
      let block : merged key (length ys) xs ys ≡ reached ys xs [] = b.moved ∙ rw (all_of ys, none_left ys) in
      let made : until_end key xs ys ≡ length ys =
      until_split key (length ys) (length xs + length ys) xs ys (b.made (length xs + length ys) (omega arith)) ∙ rw (block, until_no_second) (omega arith) in
      rw (made, block)

  -- ---- a joining

  -- where out is long enough, one of the runs has ended
  module _ {xs ys out out' : List ℕ} {moved first : ℕ} (m : Merges key xs ys out out' 0 (length out) moved first) (room : until_end key xs ys ≤ length out) where
    all_made : moved ≡ until_end key xs ys
    all_made = m.steps ∙ until_enough key (length xs + length ys) xs ys (omega arith) (length out) room

    first_ended : moved - first < length ys → first ≡ length xs
    first_ended more = go (rw (← all_made) at (one_ended key xs ys))
      where
        go : ((merged key moved xs ys).one ≡ []) ⊎ ((merged key moved xs ys).two ≡ []) → first ≡ length xs
        go (inl e) = omega (arith, m.of_first, length-drop first xs, ap length (m.one ∙ e))
        go (inr e) = absurd (omega (arith, length-drop (moved - first) ys, ap length (m.two ∙ e)))

  joined : {xs ys out out' : List ℕ} {room moved first : ℕ} → Merges key xs ys out out' 0 room moved first → (run : Which) (rest : List ℕ) → moved ≡ until_end key xs ys
      → outlasts (merged key moved xs ys).two ≡ run → pick run (drop first xs) (drop (moved - first) ys) ≡ rest
      → join_until_end key xs ys ≡ record { laid = (merged key moved xs ys).out; run = run; rest = rest }
  unfolding join_until_end
  joined m run rest u o p = rw (← u, o, ← m.one, ← m.two, p)

  module _ {xs ys : Bor (List ℕ)} {out out' : List ℕ} {moved first : ℕ} (m : Merges key xs.now ys.now out out' 0 (length out) moved first)
      (room : until_end key xs.now ys.now ≤ length out) where
    -- the second run has ended
    pub joins_first : length ys.now ≤ moved - first → (rest : Bor (List ℕ)) → rest.ref_ptr ≡ (xs.ref_ptr.0, first * 8 + xs.ref_ptr.1)
        → rest.now ≡ take (length xs.now - first) (drop first xs.now) → Joins key xs ys out out' rest
    unfolding pick outlasts
    joins_first h rest at e =
        let none : (merged key moved xs.now ys.now).two ≡ [] = sym m.two ∙ drop_of_length-le ys.now h in
        let j = joined m the_first (drop first xs.now) (all_made m room) (ap outlasts none) refl in
        let is : rest.now ≡ drop first xs.now = e ∙ to_the_end xs.now first in
        record {
          laid = rw j m.laid;
          handed = rw j is;
          suffix = rw j (end_of rest xs first m.of_first at is);
          all = rw (j, merges_long key m, is, length-drop) (omega (arith, m.of_first, m.of_both, m.of_second));
        }

    -- the first run has ended
    pub joins_second : moved - first < length ys.now → (rest : Bor (List ℕ)) → rest.ref_ptr ≡ (ys.ref_ptr.0, (moved - first) * 8 + ys.ref_ptr.1)
        → rest.now ≡ take (length ys.now - (moved - first)) (drop (moved - first) ys.now) → Joins key xs ys out out' rest
    unfolding pick outlasts
    joins_second more rest at e =
        let some : outlasts (merged key moved xs.now ys.now).two ≡ the_second = rw (← m.two, drop-cons ys.now (moved - first) 0 more) in
        let j = joined m the_second (drop (moved - first) ys.now) (all_made m room) some refl in
        let is : rest.now ≡ drop (moved - first) ys.now = e ∙ to_the_end ys.now (moved - first) in
        record {
          laid = rw j m.laid;
          handed = rw j is;
          suffix = rw j (end_of rest ys (moved - first) m.of_second at is);
          all = rw (j, merges_long key m, is, length-drop) (omega (arith, first_ended m room more, m.of_both, m.of_second));
        }

  -- ---- a part

  module _ {xs ys out out' : List ℕ} {moved first : ℕ} (m : Merges key xs ys out out' 0 (length out) moved first) where
    so_far : Laying key xs ys out out' 0 moved first
    so_far = record {
      of_first = m.of_first;
      of_both = m.of_both;
      of_second = m.of_second;
      inside = omega (arith, m.within);
      sized = ap length m.laid ∙ length_laid out 0 (merged key moved xs ys).out (omega (arith, merges_long key m, m.within));
      one = sym m.one;
      two = sym m.two;
      laid = m.laid;
    }

    -- out is full
    pub parts_full : length out' - moved ≡ 0 → Parts key xs ys out out' first
    parts_full e = parts key xs ys out out' moved first so_far (omega (arith, so_far.sized))

    module _ (enough : length out ≤ length xs + length ys) (more : length out' - moved ≢ 0) where
      abbrev left : ℕ
      left = length out' - moved

      second_ended : first < length xs → length ys ≤ moved - first
      second_ended has = go (merges_ended key m)
        where
          go : (moved ≡ length out) ⊎ ((first ≡ length xs) ⊎ (moved - first ≡ length ys)) → length ys ≤ moved - first
          go (inl full) = absurd (omega (arith, so_far.sized))
          go (inr (inl e)) = absurd (omega arith)
          go (inr (inr e)) = omega arith

      pub first_inside : first < length xs → first + left ≤ length xs
      first_inside has = omega (arith, so_far.sized, second_ended has, m.of_second, m.of_both)

      pub second_inside : length xs ≤ first → moved - first + left ≤ length ys
      second_inside ended = omega (arith, so_far.sized, m.of_first, m.of_both, m.within)

      whole : (out'' block : List ℕ) {i : ℕ} → out'' ≡ laid_at out' moved block → Laying key xs ys out (laid_at out' (0 + moved) block) 0 (moved + left) i → Parts key xs ys out out'' i
      whole out'' block {i} e l =
          let at : out'' ≡ laid_at out' (0 + moved) block = e ∙ ap (λ k. laid_at out' k block) (sym (zero-add moved)) in
          parts key xs ys out out'' (moved + left) i (rw at l) (omega (arith, so_far.sized))

      -- the second run has ended: the rest comes from the first
      pub parts_first : first < length xs → (out'' : List ℕ) → out'' ≡ laid_at out' moved (take (first + left - first) (drop first xs)) → Parts key xs ys out out'' (first + left)
      parts_first has out'' e =
          let none : drop (moved - first) ys ≡ [] = drop_of_length-le ys (second_ended has) in
          let many : first + left - first ≡ left = omega arith in
          let still : moved + left - (first + left) ≡ moved - first = omega (arith, m.of_both) in
          let b : merged key left (drop first xs) (drop (moved - first) ys) ≡ reached (take left (drop first xs)) (drop (first + left) xs) (drop (moved + left - (first + left)) ys) =
          rw (still, none, ← drop-drop left first xs) (merged_one key left (drop first xs)) in
          whole out'' (take left (drop first xs)) (rw many at e) (lay_block key so_far left (first + left) (take left (drop first xs)) b (first_inside has) (omega (arith, m.of_both)) (omega (arith, still, m.of_second)) (omega (arith, so_far.sized, m.within)))

      -- the first run has ended: the rest comes from the second
      pub parts_second : length xs ≤ first → (out'' : List ℕ) → out'' ≡ laid_at out' moved (take (moved - first + left - (moved - first)) (drop (moved - first) ys)) → Parts key xs ys out out'' first
      parts_second ended out'' e =
          let none : drop first xs ≡ [] = drop_of_length-le xs ended in
          let many : moved - first + left - (moved - first) ≡ left = omega arith in
          let on : moved + left - first ≡ moved - first + left = omega (arith, m.of_both) in
          let b : merged key left (drop first xs) (drop (moved - first) ys) ≡ reached (take left (drop (moved - first) ys)) (drop first xs) (drop (moved + left - first) ys) =
          rw (on, none, ← drop-drop left (moved - first) ys) (merged_two key left (drop (moved - first) ys)) in
          whole out'' (take left (drop (moved - first) ys)) (rw many at e) (lay_block key so_far left first (take left (drop (moved - first) ys)) b m.of_first (omega (arith, m.of_both)) (omega (arith, on, second_inside ended)) (omega (arith, so_far.sized, m.within)))

  pub parts_none : (xs ys out : List ℕ) → length out ≡ 0 → Parts key xs ys out out 0
  parts_none xs ys out e = parts key xs ys out out 0 0 (laying_start key xs ys out 0 (omega arith)) (omega arith)
