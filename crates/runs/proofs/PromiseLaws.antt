-- What callers conclude from the promises, and that two outcomes which keep them agree.
use mathlib.Core.Path.{◌≡◌, sym, ap, ◌∙◌}
use mathlib.Core.List.{List, [], ◌++◌}
use mathlib.Core.Logic.{◌⊎◌, inl, inr}
use Prim.Native.Nat.{ℕ, ◌+◌, ◌-◌, ◌≤◌, ◌<◌}
use native.Mathlib.Omega.{arith}
use denote.Ref.{Bor}
use lib.ListN.{length, drop, length-drop}
use Rattle.rules.specs.Merge.{merged, join}
use Rattle.runs.specs.Until.{join_until_end}
use Rattle.runs.specs.Promises.{laid_at, stretch, Parts, Joins, Merges}
use Rattle.runs.proofs.MergeLaws.{reached, behind, merged_one, merged_two, merged_split, length_out, until_some, until_ends}
use Rattle.runs.proofs.LayingLaws.{laid_on, stretch_take, stretch_drop}
use Rattle.runs.proofs.JoinLaws.{join_split, join_whole}

-- a rest tells how many entries went before it
same_place : (xs : List ℕ) (i j : ℕ) → i ≤ length xs → j ≤ length xs → drop i xs ≡ drop j xs → i ≡ j
same_place xs i j hi hj e =
    let many : length xs - i ≡ length xs - j = sym (length-drop i xs) ∙ ap length e ∙ length-drop j xs in
    omega arith

module _ (key : ℕ → ℕ) where
  -- ---- part

  module _ {xs ys out out' : List ℕ} {r : ℕ} (p : Parts key xs ys out out' r) where
    -- the joined run is the part, and then the joined rests
    pub parts_join : join key xs ys ≡ out' ++ join key (drop r xs) (drop (length out - r) ys)
    parts_join = join_split key (length out) xs ys (omega arith) ∙ rw (p.laid, p.one, p.two)

    pub parts_on : (n : ℕ) → merged key (length out + n) xs ys ≡ behind out' (merged key n (drop r xs) (drop (length out - r) ys))
    parts_on n = merged_split key (length out) n xs ys ∙ rw (p.laid, p.one, p.two)

  pub parts_agree : {xs ys out out₁ out₂ : List ℕ} {r₁ r₂ : ℕ} → Parts key xs ys out out₁ r₁ → Parts key xs ys out out₂ r₂ → (out₁ ≡ out₂) × (r₁ ≡ r₂)
  parts_agree {xs} {r₁ = r₁} {r₂} p q = (p.laid ∙ sym q.laid, same_place xs r₁ r₂ p.of_first q.of_first (p.one ∙ sym q.one))

  -- ---- join

  pub joins_whole : {xs ys rest : Bor (List ℕ)} {out out' : List ℕ} → Joins key xs ys out out' rest → (join_until_end key xs.now ys.now).laid ++ rest.now ≡ join key xs.now ys.now
  joins_whole {xs} {ys} j = rw j.handed (join_whole key xs.now ys.now)

  -- the rest, laid behind what the joining laid, makes the joined run whole
  pub joins_laid : {xs ys rest : Bor (List ℕ)} {out out' : List ℕ} → Joins key xs ys out out' rest → (n : ℕ) → n ≡ length xs.now + length ys.now - length rest.now
      → length xs.now + length ys.now ≤ length out → laid_at out' n rest.now ≡ laid_at out 0 (join key xs.now ys.now)
  joins_laid {xs} {ys} {rest} {out} j n e room =
      ap (λ l. laid_at l n rest.now) j.laid
      ∙ laid_on out 0 (join_until_end key xs.now ys.now).laid rest.now n (omega (arith, j.all)) (omega arith)
      ∙ ap (laid_at out 0) (joins_whole j)

  pub joins_agree : {xs ys rest₁ rest₂ : Bor (List ℕ)} {out out₁ out₂ : List ℕ} → Joins key xs ys out out₁ rest₁ → Joins key xs ys out out₂ rest₂ → (out₁ ≡ out₂) × (rest₁.now ≡ rest₂.now) × (rest₁.ref_ptr ≡ rest₂.ref_ptr)
  joins_agree j k =
      let same = j.handed ∙ sym k.handed in
      (j.laid ∙ sym k.laid, same, j.suffix.starts ∙ rw same (sym k.suffix.starts))

  -- ---- merge_run

  module _ {xs ys a a' : List ℕ} {out room moved first : ℕ} (m : Merges key xs ys a a' out room moved first) where
    -- going on from where the steps end is going on from the start
    pub merges_on : (n : ℕ) → merged key (moved + n) xs ys ≡ behind (merged key moved xs ys).out (merged key n (drop first xs) (drop (moved - first) ys))
    merges_on n = merged_split key moved n xs ys ∙ rw (← m.one, ← m.two)

    pub merges_some : 0 < room → 0 < length xs → 0 < length ys → 0 < moved
    merges_some r a b = rw m.steps (until_some key room xs ys r a b)

    pub merges_long : length (merged key moved xs ys).out ≡ moved
    merges_long = length_out key moved xs ys (omega arith)

    -- the room is used up, or an input is empty
    pub merges_ended : (moved ≡ room) ⊎ ((first ≡ length xs) ⊎ (moved - first ≡ length ys))
    merges_ended = go (rw (← m.steps) at (until_ends key room xs ys))
      where
        go : (moved ≡ room) ⊎ (((merged key moved xs ys).one ≡ []) ⊎ ((merged key moved xs ys).two ≡ [])) → (moved ≡ room) ⊎ ((first ≡ length xs) ⊎ (moved - first ≡ length ys))
        go (inl e) = inl e
        go (inr (inl e)) = inr (inl (omega (arith, m.of_first, length-drop first xs, ap length (m.one ∙ e))))
        go (inr (inr e)) = inr (inr (omega (arith, m.of_second, length-drop (moved - first) ys, ap length (m.two ∙ e))))

  pub merges_agree : {xs ys a a₁ a₂ : List ℕ} {out room m₁ m₂ f₁ f₂ : ℕ} → Merges key xs ys a a₁ out room m₁ f₁ → Merges key xs ys a a₂ out room m₂ f₂ → (m₁ ≡ m₂) × (f₁ ≡ f₂) × (a₁ ≡ a₂)
  merges_agree {xs} {ys} {f₁ = f₁} {f₂} p q =
      let same = p.steps ∙ sym q.steps in
      (same, same_place xs f₁ f₂ p.of_first q.of_first (p.one ∙ rw same (sym q.one)), p.laid ∙ rw same (sym q.laid))

  -- ---- move_run: merge steps where the other input is empty

  pub one_moves : (a : List ℕ) (from end n : ℕ) → from + n ≤ end → merged key n (stretch from end a) [] ≡ reached (stretch from (from + n) a) (stretch (from + n) end a) []
  one_moves a from end n h = merged_one key n (stretch from end a) ∙ rw (stretch_take a from end n h, stretch_drop a from end n)

  pub two_moves : (a : List ℕ) (from end n : ℕ) → from + n ≤ end → merged key n [] (stretch from end a) ≡ reached (stretch from (from + n) a) [] (stretch (from + n) end a)
  two_moves a from end n h = merged_two key n (stretch from end a) ∙ rw (stretch_take a from end n h, stretch_drop a from end n)
