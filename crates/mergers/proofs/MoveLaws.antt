-- Entries laid behind the output's last one and counted in, and dropped from the inputs: what merge steps leave.
use Prim.Native.Nat.{ℕ, ◌+◌, ◌-◌, ◌≤◌, ◌<◌, min}
use mathlib.Core.Path.{◌≡◌, sym, ap, ◌∙◌}
use mathlib.Core.Logic.{◌≢◌}
use mathlib.Core.List.{List, [], ◌++◌}
use native.Mathlib.Omega.{arith}
use native.Mathlib.Decide.{ℕ_discrete}
use lib.ListN.{length, get_or, take, drop, set}
use lib.Seq.{take-take, length-take-le, get_or-set_other, set-get_or, set_comm}
use Rattle.rules.specs.Merge.{Merged, merged}
use Rattle.rules.specs.Tree.{Buffers}
use Rattle.buffers.specs.Slots.{capacity_of}
use Rattle.buffers.specs.Format.{word_of, count_of, start_of, mark_of, start_in, mark_in, many, head_of, buffer_of, buffers_of}
use Rattle.buffers.specs.Post.{Has, Now, Growing, Dropping, Word}
use Rattle.buffers.proofs.SlotLaws.{not_both}
use Rattle.buffers.proofs.ArrayLaws.{has, buffer_length, buffers_at, only_word, only_kept, kept_links, kept_then}
use Rattle.runs.specs.Promises.{laid_at, stretch, Apart, Moves, Stretches, Merges}
use Rattle.runs.proofs.MergeLaws.{reached, merged_one, merged_two}
use Rattle.runs.proofs.PromiseLaws.{merges_long}
use Rattle.mergers.specs.Post.{Moving, Merging, Ran, moved_by, merged_by}
use Rattle.mergers.proofs.AppendLaws.{laid, laid_only, laid_word, laid_has, laid_state, laid_counted}

-- ---- one buffer more has changed

module _ (ws ws' ws'' : List ℕ) (out x y x' y' : ℕ) (bs : Buffers) (r : Ran ws ws' out x y bs) (k : ℕ) (es : List ℕ) (h : Has ws' k) (z : Now ws' ws'' k es)
    (mark : mark_of ws'' k ≡ mark_of ws' k) (start : start_of ws'' out ≡ start_of ws' out)
    (others : (n : ℕ) → n ≢ out → n ≢ x' → n ≢ y' → (n ≢ x) × (n ≢ y) × (n ≢ k)) where
  same_many : many ws' ≡ many ws
  same_many = rw (kept_links r.kept)

  pub ran_more : Ran ws ws'' out x' y' (set bs k es)
  ran_more = record {
    array = z.array;
    state = z.state ∙ ap (λ b. set b k es) r.state;
    kept = kept_then r.kept (only_kept ws' ws'' k h z.only);
    marks = λ n lt. marked n (rw same_many lt) (ℕ_discrete n k) ∙ r.marks n lt;
    start = start ∙ r.start;
    words = λ n lt a b c. let o = others n a b c in only_word ws' ws'' k h z.only n (rw same_many lt) o.2 ∙ r.words n lt a o.0 o.1;
  }
    where
      marked : (n : ℕ) → n < many ws' → Dec (n ≡ k) → mark_of ws'' n ≡ mark_of ws' n
      marked n lt (yes e) = rw e mark
      marked n lt (no differ) = ap mark_in (only_word ws' ws'' k h z.only n lt differ)

-- ---- laid and counted in

module _ (ws : List ℕ) (out : ℕ) (h : Has ws out) (es : List ℕ) (m : ℕ) (long : length es ≡ m) (room : start_of ws out + count_of ws out + m ≤ capacity_of out)
    (ws₁ : List ℕ) (e₁ : ws₁ ≡ laid_at ws (head_of ws out + count_of ws out) es) where
  free : start_of ws out + count_of ws out + length es ≤ capacity_of out
  free = omega (arith, long, room)

  pub growing : Growing ws₁ out m
  growing = rw e₁ record { of = laid_has ws out es h free; room = rw (laid_word ws out es h free out h.small) room }

  laid_ran : Ran ws ws₁ out out out (buffers_of ws)
  laid_ran =
      rw e₁
      record {
        array = (laid_has ws out es h free).array;
        state = laid_state ws out es h free;
        kept = only_kept ws (laid ws out es h free) out h (laid_only ws out es h free);
        marks = λ n lt. ap mark_in (laid_word ws out es h free n (has ws n h.array lt).small);
        start = ap start_in (laid_word ws out es h free out h.small);
        words = λ n lt a b c. laid_word ws out es h free n (has ws n h.array lt).small;
      }

  counted : take (count_of ws₁ out + m) (drop (head_of ws₁ out) ws₁) ≡ buffer_of ws out ++ es
  counted = ap (λ k. take (count_of ws₁ out + k) (drop (head_of ws₁ out) ws₁)) (sym long) ∙ ap (λ l. take (count_of l out + length es) (drop (head_of l out) l)) e₁ ∙ laid_counted ws out es h free

  pub grown_ran : (ws₂ : List ℕ) → Now ws₁ ws₂ out (take (count_of ws₁ out + m) (drop (head_of ws₁ out) ws₁)) → Word ws₂ out (mark_of ws₁ out) (start_of ws₁ out)
      → Ran ws ws₂ out out out (set (buffers_of ws) out (buffer_of ws out ++ es))
  grown_ran ws₂ z w =
      ran_more ws ws₁ ws₂ out out out out out (buffers_of ws) laid_ran out (buffer_of ws out ++ es) growing.of (rw counted at z)
      w.mark w.start (λ n a b c. (a, b, a))

-- ---- dropped from an input

module _ (ws ws' : List ℕ) (out x y : ℕ) (bs : Buffers) (r : Ran ws ws' out x y bs) (k : ℕ) (h : Has ws k) (Apart_out : k ≢ out) (apart_x : k ≢ x) (apart_y : k ≢ y) where
  same_word : word_of ws' k ≡ word_of ws k
  same_word = r.words k h.below Apart_out apart_x apart_y

  pub still_has : Has ws' k
  still_has = has ws' k r.array (rw (kept_links r.kept) h.below)

  pub dropping : (m : ℕ) → m ≤ count_of ws k → Dropping ws' k m
  dropping m enough = record { of = still_has; enough = rw same_word enough }

  pub dropped_ran : (ws'' : List ℕ) (m : ℕ) (x' y' : ℕ) → ((n : ℕ) → n ≢ out → n ≢ x' → n ≢ y' → (n ≢ x) × (n ≢ y) × (n ≢ k)) → out < many ws
      → Now ws' ws'' k (drop m (buffer_of ws' k)) → Word ws'' k (mark_of ws' k) (start_of ws' k + m) → Ran ws ws'' out x' y' (set bs k (drop m (get_or bs k [])))
  dropped_ran ws'' m x' y' others lt z w =
      let same : buffer_of ws' k ≡ get_or bs k [] = sym (buffers_at ws' k still_has.below) ∙ ap (λ b. get_or b k []) r.state in
      let start : start_of ws'' out ≡ start_of ws' out = ap start_in (only_word ws' ws'' k still_has z.only out (rw (kept_links r.kept) lt) (λ e. Apart_out (sym e))) in
      ran_more ws ws' ws'' out x y x' y' bs r k (drop m (get_or bs k [])) still_has (rw same at z) w.mark start others

-- an input's entries and the output's free slots do not meet
pub input_apart : (ws : List ℕ) (out to room one from : ℕ) → Moving ws out to room one from → (p q : ℕ) → p ≡ head_of ws one → q ≡ head_of ws out + count_of ws out
    → (m r : ℕ) → m ≤ count_of ws one → r ≤ room → Apart p (p + m) q (q + r)
input_apart ws out to room one from h p q ep eq m r less small x a b c d =
    not_both out one x h.differ (omega arith) (omega (arith, h.free)) (omega arith) (omega (arith, h.input.of.fits))

-- ---- one input

module _ (ws : List ℕ) (out to room one from : ℕ) (h : Moving ws out to room one from) (m : ℕ) (m_is : m ≡ min room (length (buffer_of ws one))) where
  small : m ≤ room
  small = omega arith

  less : m ≤ count_of ws one
  less = omega (arith, buffer_length ws one h.input.of)

  pub moving_run : (p q : ℕ) → p ≡ head_of ws one → q ≡ head_of ws out + count_of ws out → Moves ws q p m
  moving_run p q ep eq = record {
    free = omega (arith, small, h.free, h.output.of.slots);
    inside = omega (arith, less, h.input.of.fits, h.input.of.slots);
    apart = input_apart ws out to room one from h p q ep eq m m less small;
  }

  abbrev pub moved : List ℕ
  moved = take m (buffer_of ws one)

  moved_long : length moved ≡ m
  moved_long = length-take-le m (buffer_of ws one) (omega arith)

  moved_room : start_of ws out + count_of ws out + m ≤ capacity_of out
  moved_room = omega (arith, small, h.free)

  -- what is copied is the input's first entries
  pub moved_is : (p : ℕ) → p ≡ head_of ws one → take m (drop p ws) ≡ moved
  unfolding buffer_of
  moved_is p e = rw e (sym (take-take m (count_of ws one) (drop (head_of ws one) ws) less))

  module _ (p q : ℕ) (ep : p ≡ head_of ws one) (eq : q ≡ head_of ws out + count_of ws out) (ws₁ : List ℕ) (e₁ : ws₁ ≡ laid_at ws q (stretch p (p + m) ws)) where
    laid_here : ws₁ ≡ laid_at ws (head_of ws out + count_of ws out) moved
    laid_here = let long : p + m - p ≡ m = omega arith in e₁ ∙ rw (long, moved_is p ep, eq)

    pub move_growing : Growing ws₁ out m
    move_growing = growing ws out h.output.of moved m moved_long moved_room ws₁ laid_here

    module _ (ws₂ : List ℕ) (z : Now ws₁ ws₂ out (take (count_of ws₁ out + m) (drop (head_of ws₁ out) ws₁))) (w : Word ws₂ out (mark_of ws₁ out) (start_of ws₁ out)) where
      grown : Ran ws ws₂ out out out (set (buffers_of ws) out (buffer_of ws out ++ moved))
      grown = grown_ran ws out h.output.of moved m moved_long moved_room ws₁ laid_here ws₂ z w

      pub move_dropping : Dropping ws₂ one m
      move_dropping = dropping ws ws₂ out out out (set (buffers_of ws) out (buffer_of ws out ++ moved)) grown one h.input.of (λ e. h.differ (sym e)) (λ e. h.differ (sym e)) (λ e. h.differ (sym e)) m less

      pub move_dropped : (ws₃ : List ℕ) → Now ws₂ ws₃ one (drop m (buffer_of ws₂ one)) → Word ws₃ one (mark_of ws₂ one) (start_of ws₂ one + m)
          → Ran ws ws₃ out one one (moved_by m ws out one)
      move_dropped ws₃ y v =
          let es = buffer_of ws out ++ moved in
          let same : get_or (set (buffers_of ws) out es) one [] ≡ buffer_of ws one =
          get_or-set_other (buffers_of ws) out one es [] (λ e. h.differ (sym e)) ∙ buffers_at ws one h.input.of.below in
          rw same at (dropped_ran ws ws₂ out out out (set (buffers_of ws) out es) grown one h.input.of (λ e. h.differ (sym e)) (λ e. h.differ (sym e)) (λ e. h.differ (sym e)) ws₃ m one one
          (λ n a b c. (a, a, b)) h.output.of.below y v)

-- ---- two inputs

module _ (ws : List ℕ) (out to room one from two other : ℕ) (h : Merging ws out to room one from two other) where
  -- where the code finds the inputs' entries, the output's end, and the room behind it
  pub record Found (p p_end q q_end r k : ℕ) : Type 0 where
    pub p_is : p ≡ head_of ws one
    pub p_end_is : p_end ≡ head_of ws one + count_of ws one
    pub q_is : q ≡ head_of ws two
    pub q_end_is : q_end ≡ head_of ws two + count_of ws two
    pub r_is : r ≡ head_of ws out + count_of ws out
    pub room_is : k ≡ room

module _ {ws : List ℕ} {out to room one from two other : ℕ} {h : Merging ws out to room one from two other} {p p_end q q_end r k : ℕ} (f : Found ws out to room one from two other h p p_end q q_end r k) where
  pub stretches : Stretches ws r p p_end q q_end k
  stretches = record {
    free = omega (arith, h.first.free, h.first.output.of.slots, f.r_is, f.room_is);
    one_starts = omega (arith, f.p_is, f.p_end_is);
    one_inside = omega (arith, f.p_end_is, h.first.input.of.fits, h.first.input.of.slots);
    two_starts = omega (arith, f.q_is, f.q_end_is);
    two_inside = omega (arith, f.q_end_is, h.second.input.of.fits, h.second.input.of.slots);
    one_apart = rw (f.p_end_is, ← f.p_is) (input_apart ws out to room one from h.first p r f.p_is f.r_is (count_of ws one) k (omega arith) (omega (arith, f.room_is)));
    two_apart = rw (f.q_end_is, ← f.q_is) (input_apart ws out to room two other h.second q r f.q_is f.r_is (count_of ws two) k (omega arith) (omega (arith, f.room_is)));
  }

  entries_found : (n x x_end : ℕ) → x ≡ head_of ws n → x_end ≡ head_of ws n + count_of ws n → stretch x x_end ws ≡ buffer_of ws n
  unfolding buffer_of
  entries_found n x x_end a b = let long : x_end - x ≡ count_of ws n = omega arith in rw (long, a)

  module _ {key : ℕ → ℕ} (ws₁ : List ℕ) (m g : ℕ) (found : Merges key (stretch p p_end ws) (stretch q q_end ws) ws ws₁ r k m g) where
    pub run : Merges key (buffer_of ws one) (buffer_of ws two) ws ws₁ r room m g
    run = rw (entries_found one p p_end f.p_is f.p_end_is, entries_found two q q_end f.q_is f.q_end_is, f.room_is) at found

    abbrev after : Merged
    after = merged key m (buffer_of ws one) (buffer_of ws two)

    laid_run : ws₁ ≡ laid_at ws (head_of ws out + count_of ws out) after.out
    laid_run = rw (← f.r_is) run.laid

    run_room : start_of ws out + count_of ws out + m ≤ capacity_of out
    run_room = omega (arith, run.within, h.first.free)

    pub both_growing : Growing ws₁ out m
    both_growing = growing ws out h.first.output.of after.out m (merges_long key run) run_room ws₁ laid_run

    module _ (ws₂ : List ℕ) (z₂ : Now ws₁ ws₂ out (take (count_of ws₁ out + m) (drop (head_of ws₁ out) ws₁))) (w₂ : Word ws₂ out (mark_of ws₁ out) (start_of ws₁ out)) where
      abbrev bs₂ : Buffers
      bs₂ = set (buffers_of ws) out (buffer_of ws out ++ after.out)

      ran₂ : Ran ws ws₂ out out out bs₂
      ran₂ = grown_ran ws out h.first.output.of after.out m (merges_long key run) run_room ws₁ laid_run ws₂ z₂ w₂

      not_one : one ≢ out
      not_one e = h.first.differ (sym e)

      not_two : two ≢ out
      not_two e = h.second.differ (sym e)

      pub one_dropping : Dropping ws₂ one g
      one_dropping = dropping ws ws₂ out out out bs₂ ran₂ one h.first.input.of not_one not_one not_one g (omega (arith, run.of_first, buffer_length ws one h.first.input.of))

      module _ (ws₃ : List ℕ) (z₃ : Now ws₂ ws₃ one (drop g (buffer_of ws₂ one))) (w₃ : Word ws₃ one (mark_of ws₂ one) (start_of ws₂ one + g)) where
        abbrev bs₃ : Buffers
        bs₃ = set bs₂ one after.one

        ran₃ : Ran ws ws₃ out one one bs₃
        ran₃ =
            let same : get_or bs₂ one [] ≡ buffer_of ws one = get_or-set_other (buffers_of ws) out one (buffer_of ws out ++ after.out) [] not_one ∙ buffers_at ws one h.first.input.of.below in
            let left : drop g (get_or bs₂ one []) ≡ after.one = rw same run.one in
            rw left at (dropped_ran ws ws₂ out out out bs₂ ran₂ one h.first.input.of not_one not_one not_one ws₃ g one one (λ n a b c. (a, a, b)) h.first.output.of.below z₃ w₃)

        two_not_one : two ≢ one
        two_not_one e = h.differ (sym e)

        pub two_dropping : Dropping ws₃ two (m - g)
        two_dropping = dropping ws ws₃ out one one bs₃ ran₃ two h.second.input.of not_two two_not_one two_not_one (m - g) (omega (arith, run.of_second, buffer_length ws two h.second.input.of))

        pub both_ran : (ws₄ : List ℕ) → Now ws₃ ws₄ two (drop (m - g) (buffer_of ws₃ two)) → Word ws₄ two (mark_of ws₃ two) (start_of ws₃ two + (m - g))
            → Ran ws ws₄ out one two (merged_by key m ws out one two)
        both_ran ws₄ z₄ w₄ =
            let same : get_or bs₃ two [] ≡ buffer_of ws two =
            get_or-set_other bs₂ one two after.one [] two_not_one ∙ get_or-set_other (buffers_of ws) out two (buffer_of ws out ++ after.out) [] not_two ∙ buffers_at ws two h.second.input.of.below in
            let left : drop (m - g) (get_or bs₃ two []) ≡ after.two = rw same run.two in
            rw left at (dropped_ran ws ws₃ out one one bs₃ ran₃ two h.second.input.of not_two two_not_one two_not_one ws₄ (m - g) one two (λ n a b c. (b, b, c)) h.first.output.of.below z₄ w₄)

-- ---- one of two inputs is empty

module _ (ws : List ℕ) (out to room one from two other : ℕ) (h : Merging ws out to room one from two other) where
  empty_kept : (k : ℕ) → Has ws k → k ≢ out → buffer_of ws k ≡ [] → (es : List ℕ) → set (set (buffers_of ws) out es) k [] ≡ set (buffers_of ws) out es
  empty_kept k of differ none es =
      let here : get_or (set (buffers_of ws) out es) k [] ≡ [] = get_or-set_other (buffers_of ws) out k es [] differ ∙ buffers_at ws k of.below ∙ none in
      rw (← here) (set-get_or (set (buffers_of ws) out es) k [])

  -- m entries of the second moved: as many merge steps, the first being empty
  pub second_alone : (key : ℕ → ℕ) (ws' : List ℕ) (m : ℕ) → buffer_of ws one ≡ [] → Ran ws ws' out two two (moved_by m ws out two) → Ran ws ws' out one two (merged_by key m ws out one two)
  second_alone key ws' m none r =
      let z : merged key m (buffer_of ws one) (buffer_of ws two) ≡ reached (take m (buffer_of ws two)) [] (drop m (buffer_of ws two)) = rw none (merged_two key m (buffer_of ws two)) in
      record {
        array = r.array;
        state = r.state ∙ rw z (ap (λ b. set b two (drop m (buffer_of ws two))) (sym (empty_kept one h.first.input.of (λ e. h.first.differ (sym e)) none (buffer_of ws out ++ take m (buffer_of ws two)))));
        kept = r.kept;
        marks = r.marks;
        start = r.start;
        words = λ n lt a b c. r.words n lt a c c;
      }

  pub first_alone : (key : ℕ → ℕ) (ws' : List ℕ) (m : ℕ) → buffer_of ws two ≡ [] → Ran ws ws' out one one (moved_by m ws out one) → Ran ws ws' out one two (merged_by key m ws out one two)
  first_alone key ws' m none r =
      let es = buffer_of ws out ++ take m (buffer_of ws one) in
      let z : merged key m (buffer_of ws one) (buffer_of ws two) ≡ reached (take m (buffer_of ws one)) (drop m (buffer_of ws one)) [] = rw none (merged_one key m (buffer_of ws one)) in
      record {
        array = r.array;
        state = r.state ∙ rw z (ap (λ b. set b one (drop m (buffer_of ws one))) (sym (empty_kept two h.second.input.of (λ e. h.second.differ (sym e)) none es))
            ∙ set_comm (set (buffers_of ws) out es) two one [] (drop m (buffer_of ws one)) (λ e. h.differ (sym e)));
        kept = r.kept;
        marks = r.marks;
        start = r.start;
        words = λ n lt a b c. r.words n lt a b b;
      }
