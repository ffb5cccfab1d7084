-- One take over the array: A(1) is ready, and the smaller head leaves its buffer.
use Prim.Native.Nat.{ℕ, suc, ◌+◌, ◌≤◌, ◌<◌}
use mathlib.Core.Path.{◌≡◌, refl, sym, ap, ◌∙◌}
use mathlib.Core.Logic.{◌≢◌, ◌⊎◌, inl, inr, ⊎_elim}
use mathlib.Core.Bool.{Bool, true, false}
use mathlib.Core.List.{List, [], ◌∷◌}
use native.Mathlib.Omega.{arith}
use native.Mathlib.Decide.{dec_lt, ℕ_discrete}
use lib.Dec.{leb}
use lib.ListN.{length, get_or, drop, set, length-drop}
use lib.Seq.{set-get_or, set_comm, get_or-set_same, get_or-set_other}
use Rattle.takes.specs.declared.Source.{Source}
use Rattle.takes.specs.declared.Source.TheVariants.{First, Insertion}
use Rattle.std.specs.Prelude.{Option, Some, None}
use Rattle.rules.specs.Links.{first, buffer_count, book_words}
use Rattle.rules.specs.Tree.{Buffers, Tree, entries, put, links_from}
use Rattle.rules.specs.Merge.{Step, stop, move, merge_step}
use Rattle.rules.specs.Fill.{Filled}
use Rattle.rules.specs.Take.{ready, take_one, hand_out, insertion}
use Rattle.rules.proofs.Numbers.{Stands}
use Rattle.rules.proofs.Numbering.{links_range}
use Rattle.rules.proofs.Sizes.{first_one, first_mono}
use Rattle.buffers.specs.Format.{links_in, word_of, count_of, start_of, mark_of, count_in, mark_in, many, buffer_of, buffers_of}
use Rattle.buffers.specs.Post.{Has, Now, Kept, Word, Headed}
use Rattle.buffers.proofs.ArrayLaws.{has, buffer_length, buffers_at, buffers_length, only_word, only_kept, kept_links, kept_then}
use Rattle.mergers.specs.Fills.{MarksRight, StandsIn, Did}
use Rattle.mergers.proofs.RunLaws.{put_entries}
use Rattle.mergers.proofs.FillLaws.{in_stands, stands_in, top_put, top_stands, marks_less}
use Rattle.takes.specs.Heads.{source_of, head_in, CanTake, Took}
use Rattle.takes.proofs.ReadyLaws.{top_first, first_has, insertion_has, insertion_is, first_is, first_none, first_headed, insertion_headed}

-- ---- the step that the smaller head makes

pub neither_says : (key : ℕ → ℕ) (xs ys : List ℕ) → None ≡ source_of key xs ys → merge_step key xs ys ≡ stop
unfolding source_of merge_step
neither_says key [] [] e = refl
neither_says key (x ∷ xs) [] e = let z : ◌≡◌ {A = ℕ} 0 1 = cc in absurd (omega arith)
neither_says key [] (y ∷ ys) e = let z : ◌≡◌ {A = ℕ} 0 1 = cc in absurd (omega arith)
neither_says key (x ∷ xs) (y ∷ ys) e = go (leb (key x) (key y)) e
  where
    go : (b : Bool) → ◌≡◌ {A = Option Source} None (elim b [ true ↦ Some First | false ↦ Some Insertion ]) → elim b [ true ↦ move x xs (y ∷ ys) | false ↦ move y (x ∷ xs) ys ] ≡ stop
    go true e = let z : ◌≡◌ {A = ℕ} 0 1 = cc in absurd (omega arith)
    go false e = let z : ◌≡◌ {A = ℕ} 0 1 = cc in absurd (omega arith)

pub record Leaves (xs : List ℕ) (step : Step) (after : Step) : Type 0 where
  pub some : 0 < length xs
  pub steps : step ≡ after

pub first_says : (key : ℕ → ℕ) (xs ys : List ℕ) → Some First ≡ source_of key xs ys → Leaves xs (merge_step key xs ys) (move (get_or xs 0 0) (drop 1 xs) ys)
unfolding source_of merge_step
first_says key [] [] e = let z : ◌≡◌ {A = ℕ} 0 1 = cc in absurd (omega arith)
first_says key (x ∷ xs) [] e = record { some = omega arith; steps = refl }
first_says key [] (y ∷ ys) e = let z : ◌≡◌ {A = ℕ} 0 1 = cc in absurd (omega arith)
first_says key (x ∷ xs) (y ∷ ys) e = record { some = omega arith; steps = go (leb (key x) (key y)) e }
  where
    go : (b : Bool) → ◌≡◌ {A = Option Source} (Some First) (elim b [ true ↦ Some First | false ↦ Some Insertion ]) → elim b [ true ↦ move x xs (y ∷ ys) | false ↦ move y (x ∷ xs) ys ] ≡ move x xs (y ∷ ys)
    go true e = refl
    go false e = let z : ◌≡◌ {A = ℕ} 0 1 = cc in absurd (omega arith)

pub insertion_says : (key : ℕ → ℕ) (xs ys : List ℕ) → Some Insertion ≡ source_of key xs ys → Leaves ys (merge_step key xs ys) (move (get_or ys 0 0) xs (drop 1 ys))
unfolding source_of merge_step
insertion_says key [] [] e = let z : ◌≡◌ {A = ℕ} 0 1 = cc in absurd (omega arith)
insertion_says key (x ∷ xs) [] e = let z : ◌≡◌ {A = ℕ} 0 1 = cc in absurd (omega arith)
insertion_says key [] (y ∷ ys) e = record { some = omega arith; steps = refl }
insertion_says key (x ∷ xs) (y ∷ ys) e = record { some = omega arith; steps = go (leb (key x) (key y)) e }
  where
    go : (b : Bool) → ◌≡◌ {A = Option Source} (Some Insertion) (elim b [ true ↦ Some First | false ↦ Some Insertion ]) → elim b [ true ↦ move x xs (y ∷ ys) | false ↦ move y (x ∷ xs) ys ] ≡ move y (x ∷ xs) ys
    go true e = let z : ◌≡◌ {A = ℕ} 0 1 = cc in absurd (omega arith)
    go false e = refl

-- ---- after A(1) has been made ready

module _ (key : ℕ → ℕ) (ws : List ℕ) (last : ℕ) (h : CanTake ws last) (ws₁ : List ℕ) (steps : ℕ) (d : Did ws ws₁ (links_from 1 last) (ready key (links_from 1 last) (buffers_of ws)) steps) where
  abbrev t : Tree
  t = links_from 1 last

  abbrev bs₁ : Buffers
  bs₁ = buffers_of ws₁

  abbrev now : Filled
  now = ready key t (buffers_of ws)

  abbrev xs : List ℕ
  xs = entries t bs₁

  abbrev ys : List ℕ
  ys = insertion bs₁

  pub can_now : CanTake ws₁ last
  can_now = record { array = d.array; links = rw (kept_links d.kept) h.links; marks = d.marks }

  pub taken_is : (s : Step) → merge_step key xs ys ≡ s → take_one key t (buffers_of ws) ≡ hand_out t s now
  unfolding take_one
  taken_is s e = rw (← d.state, e)

  -- I stands outside the tree
  pub word_of_I : word_of ws₁ 0 ≡ word_of ws 0
  word_of_I = d.others 0 (insertion_has ws last h).below (λ s. let low = (links_range 1 last (omega arith) (in_stands 0 t s)).0 in absurd (omega (arith, first_one)))

  -- nothing is held there
  pub took_none : None ≡ source_of key xs ys → Took ws ws₁ last (take_one key t (buffers_of ws)) None steps
  unfolding hand_out
  took_none e =
      rw (taken_is stop (neither_says key xs ys e))
      record { array = d.array; out = refl; state = d.state; count = d.count; marks = d.marks; kept = d.kept; mark_of_I = ap mark_in word_of_I; fewer_in_I = rw word_of_I (omega arith); others = λ n lt differ out. d.others n lt out }

  stands_below : (m : ℕ) → Stands m t → m < many ws₁
  unfolding buffer_count
  stands_below m s =
      let high = (links_range 1 last (omega arith) s).1 in
      let most : first (1 + last) ≤ first (suc (links_in ws₁)) = first_mono (1 + last) (suc (links_in ws₁)) (omega arith) (omega (arith, can_now.links)) in
      omega arith

  module _ (n : ℕ) (of : Has ws₁ n) (ws₂ : List ℕ) (z : Now ws₁ ws₂ n (drop 1 (buffer_of ws₁ n))) (w : Word ws₂ n (mark_of ws₁ n) (start_of ws₁ n + 1)) where
    same_mark : (m : ℕ) → m < many ws₁ → Dec (m ≡ n) → mark_of ws₂ m ≡ mark_of ws₁ m
    same_mark m lt (yes e) = rw e w.mark
    same_mark m lt (no differ) = ap mark_in (only_word ws₁ ws₂ n of z.only m lt differ)

    no_longer : (m : ℕ) → Dec (m ≡ n) → length (get_or (buffers_of ws₂) m []) ≤ length (get_or (buffers_of ws₁) m [])
    no_longer m (yes e) =
        let lt : n < length (buffers_of ws₁) = rw (buffers_length ws₁) of.below in
        rw (e, z.state, get_or-set_same (buffers_of ws₁) n (drop 1 (buffer_of ws₁ n)) [] lt, buffers_at ws₁ n of.below) (simp length-drop (omega arith))
    no_longer m (no differ) = rw (z.state, get_or-set_other (buffers_of ws₁) n m (drop 1 (buffer_of ws₁ n)) [] differ) (omega arith)

    marks_dropped : MarksRight ws₂ t
    marks_dropped = marks_less t ws₁ ws₂ (λ m s. same_mark m (stands_below m s) (ℕ_discrete m n)) (λ m s. no_longer m (ℕ_discrete m n)) d.marks

    kept_both : Kept ws ws₂
    kept_both = kept_then d.kept (only_kept ws₁ ws₂ n of z.only)

    others_both : (n ≡ 0) ⊎ StandsIn n t → (m : ℕ) → m < many ws → m ≢ 0 → (StandsIn m t → ⊥) → word_of ws₂ m ≡ word_of ws m
    others_both inside m lt differ out =
        only_word ws₁ ws₂ n of z.only m (rw (kept_links d.kept) lt) (⊎_elim (λ e q. differ (q ∙ e)) (λ s q. out (rw q s)) inside) ∙ d.others m lt out

  -- A(1)'s head leaves it
  module _ (e : Some First ≡ source_of key xs ys) where
    says : Leaves xs (merge_step key xs ys) (move (get_or xs 0 0) (drop 1 xs) ys)
    says = first_says key xs ys e

    low : 1 ≤ last
    low = go (dec_lt 0 last)
      where
        go : Dec (0 < last) → 1 ≤ last
        go (yes some) = some
        go (no none) = absurd (omega (arith, says.some, ap length (first_none ws₁ last can_now (omega arith))))

    pub first_can : Headed ws₁ 1 (book_words + 8)
    first_can = first_headed ws₁ last can_now (omega (arith, says.some, ap length (first_is ws₁ last can_now low), buffer_length ws₁ 1 (first_has ws₁ last can_now)))

    pub took_first : (ws₂ : List ℕ) (entry : ℕ) → entry ≡ get_or (buffer_of ws₁ 1) 0 0 → Now ws₁ ws₂ 1 (drop 1 (buffer_of ws₁ 1)) → Word ws₂ 1 (mark_of ws₁ 1) (start_of ws₁ 1 + 1)
        → Took ws ws₂ last (take_one key t (buffers_of ws)) (Some entry) steps
    unfolding hand_out insertion
    took_first ws₂ entry q z w =
        let of = first_has ws₁ last can_now in
        let same : xs ≡ buffer_of ws₁ 1 = first_is ws₁ last can_now low in
        let top = top_first last low in
        let stored : set (put t (drop 1 xs) bs₁) 0 ys ≡ set bs₁ 1 (drop 1 (buffer_of ws₁ 1)) =
        ap (λ b. set b 0 ys) (top_put 1 t top (drop 1 xs) bs₁) ∙ set_comm bs₁ 1 0 (drop 1 xs) ys (omega arith) ∙ ap (λ b. set b 1 (drop 1 xs)) (set-get_or bs₁ 0 []) ∙ ap (λ l. set bs₁ 1 (drop 1 l)) same in
        rw (taken_is (move (get_or xs 0 0) (drop 1 xs) ys) says.steps)
        record {
          array = z.array;
          out = ap (λ v. v ∷ []) (q ∙ ap (λ l. get_or l 0 0) (sym same));
          state = z.state ∙ sym stored ∙ ap (λ b. set (put t (drop 1 xs) b) 0 ys) d.state;
          count = d.count;
          marks = marks_dropped 1 of ws₂ z w;
          kept = kept_both 1 of ws₂ z w;
          mark_of_I = ap mark_in (only_word ws₁ ws₂ 1 of z.only 0 (insertion_has ws₁ last can_now).below (omega arith) ∙ word_of_I);
          fewer_in_I = rw (only_word ws₁ ws₂ 1 of z.only 0 (insertion_has ws₁ last can_now).below (omega arith), word_of_I) (omega arith);
          others = others_both 1 of ws₂ z w (inr (stands_in (top_stands 1 t top)));
        }

  -- I's head leaves it
  module _ (e : Some Insertion ≡ source_of key xs ys) where
    says_I : Leaves ys (merge_step key xs ys) (move (get_or ys 0 0) xs (drop 1 ys))
    says_I = insertion_says key xs ys e

    pub insertion_can : Headed ws₁ 0 book_words
    insertion_can = insertion_headed ws₁ last can_now (omega (arith, says_I.some, ap length (insertion_is ws₁ last can_now), buffer_length ws₁ 0 (insertion_has ws₁ last can_now)))

    pub took_insertion : (ws₂ : List ℕ) (entry : ℕ) → entry ≡ get_or (buffer_of ws₁ 0) 0 0 → Now ws₁ ws₂ 0 (drop 1 (buffer_of ws₁ 0)) → Word ws₂ 0 (mark_of ws₁ 0) (start_of ws₁ 0 + 1)
        → Took ws ws₂ last (take_one key t (buffers_of ws)) (Some entry) steps
    unfolding hand_out
    took_insertion ws₂ entry q z w =
        let of = insertion_has ws₁ last can_now in
        let same : ys ≡ buffer_of ws₁ 0 = insertion_is ws₁ last can_now in
        let stored : set (put t xs bs₁) 0 (drop 1 ys) ≡ set bs₁ 0 (drop 1 (buffer_of ws₁ 0)) = ap (λ b. set b 0 (drop 1 ys)) (put_entries t bs₁) ∙ ap (λ l. set bs₁ 0 (drop 1 l)) same in
        rw (taken_is (move (get_or ys 0 0) xs (drop 1 ys)) says_I.steps)
        record {
          array = z.array;
          out = ap (λ v. v ∷ []) (q ∙ ap (λ l. get_or l 0 0) (sym same));
          state = z.state ∙ sym stored ∙ ap (λ b. set (put t xs b) 0 (drop 1 ys)) d.state;
          count = d.count;
          marks = marks_dropped 0 of ws₂ z w;
          kept = kept_both 0 of ws₂ z w;
          mark_of_I = w.mark ∙ ap mark_in word_of_I;
          fewer_in_I =
              let lt₂ : 0 < many ws₂ = rw (kept_links (only_kept ws₁ ws₂ 0 of z.only)) of.below in
              let now_I : count_of ws₂ 0 ≡ length (get_or (buffers_of ws₂) 0 []) = sym (ap length (buffers_at ws₂ 0 lt₂) ∙ buffer_length ws₂ 0 (has ws₂ 0 z.array lt₂)) in
              let was_I : count_of ws₁ 0 ≡ length (get_or (buffers_of ws₁) 0 []) = sym (ap length (buffers_at ws₁ 0 of.below) ∙ buffer_length ws₁ 0 of) in
              omega (arith, no_longer 0 of ws₂ z w 0 (yes refl), ap count_in word_of_I);
          others = others_both 0 of ws₂ z w (inl refl);
        }

-- ---- the head alone

module _ (key : ℕ → ℕ) (ws : List ℕ) (last : ℕ) (h : CanTake ws last) where
  abbrev one : List ℕ
  one = entries (links_from 1 last) (buffers_of ws)

  abbrev two : List ℕ
  two = insertion (buffers_of ws)

  pub head_none : None ≡ source_of key one two → None ≡ head_in (merge_step key one two)
  unfolding head_in
  head_none e = rw (neither_says key one two e)

  module _ (e : Some First ≡ source_of key one two) where
    a_link : 1 ≤ last
    a_link = go (dec_lt 0 last)
      where
        go : Dec (0 < last) → 1 ≤ last
        go (yes some) = some
        go (no none) = absurd (omega (arith, (first_says key one two e).some, ap length (first_none ws last h (omega arith))))

    pub first_head_can : Headed ws 1 (book_words + 8)
    first_head_can = first_headed ws last h (omega (arith, (first_says key one two e).some, ap length (first_is ws last h a_link), buffer_length ws 1 (first_has ws last h)))

    pub first_head : (r : ℕ) → r ≡ get_or (buffer_of ws 1) 0 0 → Some r ≡ head_in (merge_step key one two)
    unfolding head_in
    first_head r q = ap (λ n. Some n) (q ∙ ap (λ l. get_or l 0 0) (sym (first_is ws last h a_link))) ∙ ap head_in (sym (first_says key one two e).steps)

  module _ (e : Some Insertion ≡ source_of key one two) where
    pub insertion_head_can : Headed ws 0 book_words
    insertion_head_can = insertion_headed ws last h (omega (arith, (insertion_says key one two e).some, ap length (insertion_is ws last h), buffer_length ws 0 (insertion_has ws last h)))

    pub insertion_head : (r : ℕ) → r ≡ get_or (buffer_of ws 0) 0 0 → Some r ≡ head_in (merge_step key one two)
    unfolding head_in
    insertion_head r q = ap (λ n. Some n) (q ∙ ap (λ l. get_or l 0 0) (sym (insertion_is ws last h))) ∙ ap head_in (sym (insertion_says key one two e).steps)
