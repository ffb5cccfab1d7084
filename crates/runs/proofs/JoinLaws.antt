-- Laws of joining, for any order of the entries.
use mathlib.Core.Path.{◌≡◌, sym, ap, ◌∙◌}
use mathlib.Core.List.{List, [], ◌∷◌, ◌++◌}
use mathlib.Core.Logic.{◌⊎◌, inl, inr}
use Prim.Native.Nat.{ℕ, suc, ◌+◌, ◌≤◌}
use native.Mathlib.Omega.{arith}
use lib.ListN.{length}
use lib.Seq.{take_all}
use Rattle.std.proofs.lemmas.List.{nil_from_length}
use Rattle.rules.specs.Merge.{merged, join}
use Rattle.runs.specs.Until.{pick, outlasts, until_end, join_until_end}
use Rattle.runs.proofs.MergeLaws.{merged_split, merged_one, merged_two, length_out, conserved, until_most, until_ends}

module _ (key : ℕ → ℕ) where
  pub join_one : (xs : List ℕ) → join key xs [] ≡ xs
  unfolding join
  join_one xs = ap (λ m. m.out) (merged_one key (length xs + 0) xs) ∙ take_all (length xs + 0) xs (omega arith)

  pub join_two : (ys : List ℕ) → join key [] ys ≡ ys
  unfolding join
  join_two ys = ap (λ m. m.out) (merged_two key (0 + length ys) ys) ∙ take_all (0 + length ys) ys (omega arith)

  -- some merge steps, and then the joining of what they leave
  pub join_split : (t : ℕ) (xs ys : List ℕ) → t ≤ length xs + length ys → join key xs ys ≡ (merged key t xs ys).out ++ join key (merged key t xs ys).one (merged key t xs ys).two
  unfolding join
  join_split t xs ys h =
      let many : length xs + length ys ≡ t + (length (merged key t xs ys).one + length (merged key t xs ys).two) =
      omega (arith, conserved key t xs ys, length_out key t xs ys h) in
      ap (λ n. (merged key n xs ys).out) many ∙ ap (λ m. m.out) (merged_split key t (length (merged key t xs ys).one + length (merged key t xs ys).two) xs ys)

  rest_joined : (one two : List ℕ) → (one ≡ []) ⊎ (two ≡ []) → pick (outlasts two) one two ≡ join key one two
  unfolding pick outlasts
  rest_joined one [] e = sym (join_one one)
  rest_joined one (y ∷ ys) (inl e) = sym (ap (λ l. join key l (y ∷ ys)) e ∙ join_two (y ∷ ys))
  rest_joined one (y ∷ ys) (inr e) = absurd (let z : ◌≡◌ {A = ℕ} (suc (length ys)) 0 = ap length e in omega arith)

  -- where the steps end before all is moved, an input is empty
  pub one_ended : (xs ys : List ℕ) → ((merged key (until_end key xs ys) xs ys).one ≡ []) ⊎ ((merged key (until_end key xs ys) xs ys).two ≡ [])
  one_ended xs ys = go (until_ends key (length xs + length ys) xs ys)
    where
      t : ℕ
      t = until_end key xs ys

      go : (t ≡ length xs + length ys) ⊎ (((merged key t xs ys).one ≡ []) ⊎ ((merged key t xs ys).two ≡ [])) → ((merged key t xs ys).one ≡ []) ⊎ ((merged key t xs ys).two ≡ [])
      go (inl all) = inl (nil_from_length (merged key t xs ys).one (omega (arith, conserved key t xs ys, length_out key t xs ys (omega arith))))
      go (inr ended) = ended

  -- what is laid and the rest are the two runs joined
  pub join_whole : (xs ys : List ℕ) → (join_until_end key xs ys).laid ++ (join_until_end key xs ys).rest ≡ join key xs ys
  unfolding join_until_end
  join_whole xs ys =
      let m = merged key (until_end key xs ys) xs ys in
      ap (λ l. m.out ++ l) (rest_joined m.one m.two (one_ended xs ys)) ∙ sym (join_split (until_end key xs ys) xs ys (until_most key (length xs + length ys) xs ys))

  -- room enough for what is laid
  pub laid_most : (xs ys : List ℕ) → length (join_until_end key xs ys).laid ≤ length xs + length ys
  unfolding join_until_end
  laid_most xs ys = omega (arith, conserved key (until_end key xs ys) xs ys)

  pub laid_long : (xs ys : List ℕ) → length (join_until_end key xs ys).laid ≡ until_end key xs ys
  unfolding join_until_end
  laid_long xs ys = length_out key (until_end key xs ys) xs ys (until_most key (length xs + length ys) xs ys)
