-- Filling over the array: what a turn of the loop leaves, and what is known where the loop begins and ends.
use Prim.Native.Nat.{ℕ, zero, suc, ◌+◌, ◌-◌, ◌≤◌, ◌<◌}
use mathlib.Core.Path.{◌≡◌, refl, sym, ap, ◌∙◌, subst}
use mathlib.Core.Logic.{◌≢◌, ◌⊎◌, inl, inr, ⊎_elim}
use mathlib.Core.Bool.{Bool, true, false}
use mathlib.Core.List.{List, [], ◌++◌}
use native.Mathlib.Omega.{arith}
use native.Mathlib.Decide.{dec_lt, ℕ_discrete}
use borrow.Author.Tests.{eq-eqb, ne_eqb}
use lib.ListN.{length, get_or, take, drop, set, length-append}
use lib.Seq.{set-get_or, set_out, get_or-set_same, get_or-set_other}
use Rattle.rules.specs.Tests.{◌and◌}
use Rattle.rules.specs.Merge.{Step, stop, move, Merged, merge_step, merged}
use Rattle.rules.specs.Tree.{Buffers, Tree, exhausted, buffer, merger, entries, put}
use Rattle.rules.specs.Fill.{Filled, untouched, if_empty, fill_room, fill}
use Rattle.rules.specs.Take.{held_in}
use Rattle.rules.proofs.Numbers.{Stands, itself, output, in_first, in_second, Outside, apart_back, Among, joint}
use Rattle.std.proofs.lemmas.List.{nil_from_length}
use Rattle.rules.proofs.Full.{Roomy}
use Rattle.rules.proofs.Contents.{Contents}
use Rattle.rules.proofs.Steps.{stepped}
use Rattle.rules.proofs.Frame.{frame_put, view_apart, view_set}
use Rattle.buffers.specs.Slots.{base}
use Rattle.buffers.specs.Format.{word_of, count_of, start_of, mark_of, count_in, start_in, mark_in, many, buffer_of, buffers_of}
use Rattle.buffers.specs.Post.{Inside, Now, Kept, Word}
use Rattle.buffers.proofs.ArrayLaws.{has, buffer_length, buffers_at, buffers_length, only_word, only_kept, kept_links, kept_then, kept_none}
use Rattle.runs.proofs.MergeLaws.{and_then, reached, merged_suc, merged_one, length_out}
use Rattle.mergers.specs.Moves.{run_length}
use Rattle.mergers.specs.Post.{wanted, Ran, seen_if, touched_if, turned_by}
use Rattle.mergers.specs.Fills.{MarksRight, StandsIn, Did}
use Rattle.mergers.proofs.RunLaws.{Shorter, shorter, skips, plus, filling, advanced, none_advanced, stored, stored_out}
use Rattle.mergers.proofs.TurnLaws.{refilled, Ready, refilled_frame, turn_law, ready_run, ready_stop, one_ready, two_ready, run_within, run_most, run_none}

-- ---- standing in a tree, as a statement and as a case

pub stands_in : {m : ℕ} {t : Tree} → Stands m t → StandsIn m t
stands_in itself = refl
stands_in output = inl refl
stands_in (in_first s) = inr (inl (stands_in s))
stands_in (in_second s) = inr (inr (stands_in s))

pub in_stands : (m : ℕ) (t : Tree) → StandsIn m t → Stands m t
in_stands m exhausted s = absurd s
in_stands m (buffer n c) s = rw s itself
in_stands m (merger n c one two) s = ⊎_elim (λ e. rw e output) (⊎_elim (λ p. in_first (in_stands m one p)) (λ p. in_second (in_stands m two p))) s

-- ---- the top of a tree

-- the buffer at the top has number m
abbrev pub IsTop : ℕ → Tree → Type 0
IsTop m exhausted = ⊥
IsTop m (buffer n c) = m ≡ n
IsTop m (merger n c one two) = m ≡ n

pub top_entries : (m : ℕ) (t : Tree) → IsTop m t → (bs : Buffers) → entries t bs ≡ get_or bs m []
unfolding entries
top_entries m exhausted top bs = absurd top
top_entries m (buffer n c) top bs = rw top
top_entries m (merger n c one two) top bs = rw top

pub top_put : (m : ℕ) (t : Tree) → IsTop m t → (es : List ℕ) (bs : Buffers) → put t es bs ≡ set bs m es
unfolding put
top_put m exhausted top es bs = absurd top
top_put m (buffer n c) top es bs = rw top
top_put m (merger n c one two) top es bs = rw top

pub top_stands : (m : ℕ) (t : Tree) → IsTop m t → Stands m t
top_stands m exhausted top = absurd top
top_stands m (buffer n c) top = rw top itself
top_stands m (merger n c one two) top = rw top output

-- ---- marks

held_mono : (t : Tree) (a b : Buffers) → ((m : ℕ) → Stands m t → length (get_or b m []) ≤ length (get_or a m [])) → held_in t b ≤ held_in t a
unfolding held_in
held_mono exhausted a b h = omega arith
held_mono (buffer n c) a b h = h n itself
held_mono (merger n c one two) a b h = omega (arith, h n output, held_mono one a b (λ m s. h m (in_first s)), held_mono two a b (λ m s. h m (in_second s)))

-- marks that were right stay right where nothing comes in
pub marks_less : (t : Tree) (ws ws' : List ℕ) → ((m : ℕ) → Stands m t → mark_of ws' m ≡ mark_of ws m)
    → ((m : ℕ) → Stands m t → length (get_or (buffers_of ws') m []) ≤ length (get_or (buffers_of ws) m [])) → MarksRight ws t → MarksRight ws' t
marks_less exhausted ws ws' same less r = tt
marks_less (buffer n c) ws ws' same less r = λ e.
    let l = held_mono (buffer n c) (buffers_of ws) (buffers_of ws') less in
    let z = r (sym (same n itself) ∙ e) in
    omega arith
marks_less (merger n c one two) ws ws' same less r = (
  λ e.
      let l = held_mono (merger n c one two) (buffers_of ws) (buffers_of ws') less in
      let z = r.0 (sym (same n output) ∙ e) in
      omega arith,
  marks_less one ws ws' (λ m s. same m (in_first s)) (λ m s. less m (in_first s)) r.1,
  marks_less two ws ws' (λ m s. same m (in_second s)) (λ m s. less m (in_second s)) r.2,
)

-- a marked buffer has nothing below
pub mark_says : (m : ℕ) (t : Tree) (ws : List ℕ) → IsTop m t → MarksRight ws t → mark_of ws m ≡ 1 → held_in t (buffers_of ws) ≡ 0
mark_says m exhausted ws top r e = absurd top
mark_says m (buffer n c) ws top r e = r (rw (← top) e)
mark_says m (merger n c one two) ws top r e = r.0 (rw (← top) e)

exhausted_held : (t : Tree) (bs : Buffers) → t ≡ exhausted → held_in t bs ≡ 0
unfolding held_in
exhausted_held t bs e = rw e

-- ---- an input is filled, or left alone

module _ (ws : List ℕ) (array : Inside ws) (n : ℕ) (lt : n < many ws) (t : Tree) (top : IsTop n t) where
  top_count : length (entries t (buffers_of ws)) ≡ count_of ws n
  top_count = ap length (top_entries n t top (buffers_of ws) ∙ buffers_at ws n lt) ∙ buffer_length ws n (has ws n array lt)

  -- an input that is not wanted has entries, or nothing stands in its tree
  not_wanted : wanted ws n ≡ false → MarksRight ws t → (0 < length (entries t (buffers_of ws))) ⊎ (held_in t (buffers_of ws) ≡ 0)
  not_wanted w marks = go (ℕ_discrete (count_of ws n) 0) (ℕ_discrete (mark_of ws n) 1)
    where
      go : Dec (count_of ws n ≡ 0) → Dec (mark_of ws n ≡ 1) → (0 < length (entries t (buffers_of ws))) ⊎ (held_in t (buffers_of ws) ≡ 0)
      go (no some) d = inl (omega (arith, top_count))
      go (yes none) (yes marked) = inr (mark_says n t ws top marks marked)
      go (yes none) (no free) =
          let yes_wanted : wanted ws n ≡ true = rw (eq-eqb (count_of ws n) 0 none, ne_eqb (mark_of ws n) 1 free) in
          let clash : ◌≡◌ {A = Bool} true false = sym yes_wanted ∙ w in
          let z : ◌≡◌ {A = ℕ} 0 1 = cc in
          absurd (omega arith)

  is_wanted : wanted ws n ≡ true → entries t (buffers_of ws) ≡ []
  is_wanted w = go (ℕ_discrete (count_of ws n) 0)
    where
      go : Dec (count_of ws n ≡ 0) → entries t (buffers_of ws) ≡ []
      go (yes none) = nil_from_length (entries t (buffers_of ws)) (top_count ∙ none)
      go (no some) =
          let not_so : wanted ws n ≡ false = rw (ne_eqb (count_of ws n) 0 some) in
          let clash : ◌≡◌ {A = Bool} true false = sym w ∙ not_so in
          let z : ◌≡◌ {A = ℕ} 0 1 = cc in
          absurd (omega arith)

-- nothing to do
pub did_nothing : (ws : List ℕ) (t : Tree) → Inside ws → MarksRight ws t → (z : Filled) → z ≡ untouched (buffers_of ws) → Did ws ws t z 0
unfolding untouched
did_nothing ws t array marks z e =
    rw e record { array = array; state = refl; count = refl; marks = marks; kept = kept_none ws; others = λ n lt out. refl }

-- the second input of a merger: in link i, or exhausted where that lies behind `last`
pub record Input (b : Bool) (n : ℕ) (t : Tree) : Type 0 where
  pub counts : b ≡ true → IsTop n t
  pub else_none : b ≡ false → t ≡ exhausted

module _ (key : ℕ → ℕ) (ws : List ℕ) (array : Inside ws) (n : ℕ) (t : Tree) (marks : MarksRight ws t) where
  pub left_alone : (b : Bool) → Input b n t → (b ≡ true → n < many ws) → b and wanted ws n ≡ false → Did ws ws t (refilled key t (buffers_of ws)) 0
  left_alone true input lt w =
      let top = input.counts refl in
      did_nothing ws t array marks (refilled key t (buffers_of ws)) (skips key t (buffers_of ws) (not_wanted ws array n (lt refl) t top w marks))
  left_alone false input lt w = did_nothing ws t array marks (refilled key t (buffers_of ws)) (skips key t (buffers_of ws) (inr (exhausted_held t (buffers_of ws) (input.else_none refl))))

  pub filled_now : (b : Bool) → Input b n t → (b ≡ true → n < many ws) → b and wanted ws n ≡ true → (ws' : List ℕ) (x : ℕ) → Did ws ws' t (fill key t (buffers_of ws)) x
      → Did ws ws' t (refilled key t (buffers_of ws)) x
  unfolding if_empty
  filled_now true input lt w ws' x did = rw (is_wanted ws array n (lt refl) t (input.counts refl) w) did
  filled_now false input lt w ws' x did = let z : ◌≡◌ {A = ℕ} 0 1 = cc in absurd (omega arith)

put_none : (t : Tree) (es : List ℕ) (bs : Buffers) → t ≡ exhausted → put t es bs ≡ bs
unfolding put
put_none t es bs e = rw e

-- ---- what merge steps leave is no longer

merged_less : (key : ℕ → ℕ) (m : ℕ) (xs ys : List ℕ) → (length (merged key m xs ys).one ≤ length xs) × (length (merged key m xs ys).two ≤ length ys)
unfolding merged
merged_less key zero xs ys = (omega arith, omega arith)
merged_less key (suc m) xs ys = rw (merged_suc key m xs ys) (go (merge_step key xs ys) (shorter key (stepped key xs ys)) (merged_less key m))
  where
    go : (s : Step) → Shorter xs ys s → ((xs ys : List ℕ) → (length (merged key m xs ys).one ≤ length xs) × (length (merged key m xs ys).two ≤ length ys))
        → (length (and_then s (merged key m)).one ≤ length xs) × (length (and_then s (merged key m)).two ≤ length ys)
    go stop less law = (omega arith, omega arith)
    go (move e xs' ys') less law = (omega (arith, (law xs' ys').0, less.0), omega (arith, (law xs' ys').1, less.1))

set_less : (bs : Buffers) (n : ℕ) (es : List ℕ) → length es ≤ length (get_or bs n []) → (m : ℕ) → length (get_or (set bs n es) m []) ≤ length (get_or bs m [])
set_less bs n es h m = go (ℕ_discrete m n) (dec_lt n (length bs))
  where
    go : Dec (m ≡ n) → Dec (n < length bs) → length (get_or (set bs n es) m []) ≤ length (get_or bs m [])
    go (no differ) d = rw (get_or-set_other bs n m es [] differ) (omega arith)
    go (yes e) (yes lt) = rw (e, get_or-set_same bs n es [] lt) h
    go (yes e) (no past) = let out : length bs ≤ n = omega arith in rw (set_out bs n es out) (omega arith)

put_less : (t : Tree) (es : List ℕ) (bs : Buffers) → length es ≤ length (entries t bs) → (m : ℕ) → length (get_or (put t es bs) m []) ≤ length (get_or bs m [])
unfolding put entries
put_less exhausted es bs h m = omega arith
put_less (buffer n c) es bs h m = set_less bs n es h m
put_less (merger n c one two) es bs h m = set_less bs n es h m

module _ (n c : ℕ) (one two : Tree) (bs : Buffers) (among : Among (merger n c one two) (length bs)) (out xs ys : List ℕ) (less_one : length xs ≤ length (entries one bs)) (less_two : length ys ≤ length (entries two bs)) where
  pub stored_less : (m : ℕ) → m ≢ n → length (get_or (stored n one two out xs ys bs) m []) ≤ length (get_or bs m [])
  unfolding stored
  stored_less m differ =
      let first = set bs n out in
      let e₁ : entries one first ≡ entries one bs = ap (λ (v : Contents one). v.0) (view_set one n (joint among).out_one out bs) in
      let e₂ : entries two (put one xs first) ≡ entries two bs =
      ap (λ (v : Contents two). v.0) (view_apart (apart_back (joint among).apart) (frame_put one xs first) ∙ view_set two n (joint among).out_two out bs) in
      let p₁ = put_less one xs first (rw e₁ less_one) m in
      let p₂ = put_less two ys (put one xs first) (rw e₂ less_two) m in
      omega (arith, ap length (get_or-set_other bs n m out [] differ))

-- ---- one merger

-- where filling stands: so many entries in the output, so many steps made; the rest of the filling, from here, is the rest of the rules'
pub record Filling (key : ℕ → ℕ) (n c : ℕ) (one two : Tree) (ws₀ ws : List ℕ) (filled steps : ℕ) : Type 0 where
  pub array : Inside ws
  pub kept : Kept ws₀ ws
  pub others : (m : ℕ) → m < many ws₀ → (StandsIn m (merger n c one two) → ⊥) → word_of ws m ≡ word_of ws₀ m
  pub count : count_of ws n ≡ filled
  pub start : start_of ws n ≡ 0
  pub mark : mark_of ws n ≡ 0
  pub marks_one : MarksRight ws one
  pub marks_two : MarksRight ws two
  pub within : filled ≤ c
  pub law : fill key (merger n c one two) (buffers_of ws₀) ≡ plus steps (filling key n c one two (c - filled) (buffers_of ws))

-- words that are the same have the same marks, and the same buffers the same lengths
marks_same : (t : Tree) (ws ws' : List ℕ) → ((m : ℕ) → Stands m t → word_of ws' m ≡ word_of ws m) → ((m : ℕ) → Stands m t → get_or (buffers_of ws') m [] ≡ get_or (buffers_of ws) m [])
    → MarksRight ws t → MarksRight ws' t
marks_same t ws ws' words same r = marks_less t ws ws' (λ m s. ap mark_in (words m s)) (λ m s. rw (same m s) (omega arith)) r

module _ (n c : ℕ) (one two : Tree) (ws₀ : List ℕ) (among₀ : Among (merger n c one two) (many ws₀)) where
  below₀ : (m : ℕ) → Stands m (merger n c one two) → m < many ws₀
  below₀ m s = among₀.less m s

  -- the output starts again at its first slot
  pub begin : {key : ℕ → ℕ} → Inside ws₀ → (ws : List ℕ) → count_of ws₀ n ≡ 0 → MarksRight ws₀ (merger n c one two) → Now ws₀ ws n (take 0 (drop (base n) ws₀)) → Word ws n 0 0 → Filling key n c one two ws₀ ws 0 0
  unfolding fill
  begin {key} array₀ ws none marks z w =
      let h = has ws₀ n array₀ (below₀ n output) in
      let empty : buffer_of ws₀ n ≡ [] = nil_from_length (buffer_of ws₀ n) (buffer_length ws₀ n h ∙ none) in
      let top : get_or (buffers_of ws₀) n [] ≡ [] = buffers_at ws₀ n (below₀ n output) ∙ empty in
      let state : buffers_of ws ≡ buffers_of ws₀ = z.state ∙ ap (set (buffers_of ws₀) n) (sym top) ∙ set-get_or (buffers_of ws₀) n [] in
      let links = kept_links (only_kept ws₀ ws n h z.only) in
      let lt : n < many ws = rw links (below₀ n output) in
      let words : (m : ℕ) → m ≢ n → m < many ws₀ → word_of ws m ≡ word_of ws₀ m = λ m differ low. only_word ws₀ ws n h z.only m low differ in
      record {
        array = z.array;
        kept = only_kept ws₀ ws n h z.only;
        others = λ m low out. words m (λ e. out (inl e)) low;
        count = sym (buffer_length ws n (has ws n z.array lt)) ∙ ap length (sym (buffers_at ws n lt) ∙ ap (λ bs. get_or bs n []) state ∙ top);
        start = w.start;
        mark = w.mark;
        marks_one = marks_same one ws₀ ws (λ m s. words m (λ e. (joint among₀).out_one (rw e at s)) (below₀ m (in_first s))) (λ m s. ap (λ bs. get_or bs m []) state) marks.1;
        marks_two = marks_same two ws₀ ws (λ m s. words m (λ e. (joint among₀).out_two (rw e at s)) (below₀ m (in_second s))) (λ m s. ap (λ bs. get_or bs m []) state) marks.2;
        within = omega arith;
        law =
            let f = filling key n c one two (c - 0) (buffers_of ws₀) in
            let none_more : f.steps ≡ 0 + f.steps = omega arith in
            rw (top, state) (λ i. record { buffers = f.buffers; steps = none_more i });
      }

  -- nothing but the output's start place and mark has changed
  pub begin_state : Inside ws₀ → (ws : List ℕ) → count_of ws₀ n ≡ 0 → Now ws₀ ws n (take 0 (drop (base n) ws₀)) → buffers_of ws ≡ buffers_of ws₀
  begin_state array₀ ws none z =
      let h = has ws₀ n array₀ (below₀ n output) in
      let top : get_or (buffers_of ws₀) n [] ≡ [] = buffers_at ws₀ n (below₀ n output) ∙ nil_from_length (buffer_of ws₀ n) (buffer_length ws₀ n h ∙ none) in
      z.state ∙ ap (set (buffers_of ws₀) n) (sym top) ∙ set-get_or (buffers_of ws₀) n []

  -- filling the first input does not touch the second
  pub beside : (key : ℕ → ℕ) {ws ws_a : List ℕ} {x : ℕ} → many ws ≡ many ws₀ → Did ws ws_a one (refilled key one (buffers_of ws)) x → MarksRight ws two → MarksRight ws_a two
  beside key {ws} {ws_a} same a marks =
      marks_same two ws ws_a (λ m s. a.others m (rw same (below₀ m (in_second s))) (λ r. (joint among₀).apart m (in_stands m one r) s))
      (λ m s. ap (λ bs. get_or bs m []) a.state ∙ (refilled_frame key one (buffers_of ws)).same m (λ r. (joint among₀).apart m r s)) marks

  -- both inputs have been filled where they were empty
  module _ {key : ℕ → ℕ} (roomy_one : Roomy one) (roomy_two : Roomy two) {ws ws_a ws_b : List ℕ} {filled steps x y : ℕ} (f : Filling key n c one two ws₀ ws filled steps) (more : filled < c)
      (a : Did ws ws_a one (refilled key one (buffers_of ws)) x) (b : Did ws_a ws_b two (refilled key two (buffers_of ws_a)) y) where
    same_many : many ws ≡ many ws₀
    same_many = rw (kept_links f.kept)

    same_many_a : many ws_a ≡ many ws₀
    same_many_a = rw (kept_links a.kept, kept_links f.kept)

    long : length (buffers_of ws) ≡ many ws₀
    long = buffers_length ws ∙ same_many

    among : Among (merger n c one two) (length (buffers_of ws))
    among = rw long among₀

    first_is : buffers_of ws_a ≡ (refilled key one (buffers_of ws)).buffers
    first_is = a.state

    pub now_is : buffers_of ws_b ≡ (refilled key two (refilled key one (buffers_of ws)).buffers).buffers
    now_is = b.state ∙ ap (λ bs. (refilled key two bs).buffers) first_is

    pub ready_one : Ready one (buffers_of ws_b)
    ready_one = rw now_is (one_ready key n c one two roomy_one roomy_two (buffers_of ws) among)

    pub ready_two : Ready two (buffers_of ws_b)
    ready_two = rw now_is (two_ready key n c one two roomy_one roomy_two (buffers_of ws) among)

    out_one : StandsIn n one → ⊥
    out_one s = (joint among₀).out_one (in_stands n one s)

    out_two : StandsIn n two → ⊥
    out_two s = (joint among₀).out_two (in_stands n two s)

    word_same : word_of ws_b n ≡ word_of ws n
    word_same = b.others n (rw same_many_a (below₀ n output)) out_two ∙ a.others n (rw same_many (below₀ n output)) out_one

    steps_are : x + y ≡ (refilled key one (buffers_of ws)).steps + (refilled key two (refilled key one (buffers_of ws)).buffers).steps
    steps_are = let q : y ≡ (refilled key two (refilled key one (buffers_of ws)).buffers).steps = b.count ∙ ap (λ bs. (refilled key two bs).steps) first_is in omega (arith, a.count)

    pub refilled_both : Filling key n c one two ws₀ ws_b filled (steps + x + y)
    refilled_both = record {
      array = b.array;
      kept = kept_then f.kept (kept_then a.kept b.kept);
      others = λ m lt out.
          b.others m (rw same_many_a lt) (λ s. out (inr (inr s))) ∙ a.others m (rw same_many lt) (λ s. out (inr (inl s))) ∙ f.others m lt out;
      count = ap count_in word_same ∙ f.count;
      start = ap start_in word_same ∙ f.start;
      mark = ap mark_in word_same ∙ f.mark;
      marks_one =
          marks_same one ws_a ws_b (λ m s. b.others m (rw same_many_a (below₀ m (in_first s))) (λ r. (joint among₀).apart m s (in_stands m two r)))
          (λ m s. ap (λ bs. get_or bs m []) b.state ∙ (refilled_frame key two (buffers_of ws_a)).same m ((joint among₀).apart m s)) a.marks;
      marks_two = b.marks;
      within = f.within;
      law = f.law ∙ ap (plus steps) (turned (c - filled) (omega arith)) ∙ regroup (filling key n c one two (c - filled) (buffers_of ws_b));
    }
      where
        turned : (room : ℕ) → 0 < room → filling key n c one two room (buffers_of ws) ≡ plus (x + y) (filling key n c one two room (buffers_of ws_b))
        turned zero some = absurd (omega arith)
        turned (suc room) some = rw (steps_are, now_is) (turn_law key n c one two roomy_one roomy_two (buffers_of ws) among room)

        regroup : (z : Filled) → plus steps (plus (x + y) z) ≡ plus (steps + x + y) z
        regroup z = let e : steps + (x + y + z.steps) ≡ steps + x + y + z.steps = omega arith in λ i. record { buffers = z.buffers; steps = e i }

  -- a run of merge steps has been made
  module _ {key : ℕ → ℕ} (roomy_one : Roomy one) (roomy_two : Roomy two) (n₁ n₂ : ℕ) (b : Bool) (top_one : IsTop n₁ one) (input_two : Input b n₂ two) {ws : List ℕ} {filled steps : ℕ} (f : Filling key n c one two ws₀ ws filled steps)
      (ready_one : Ready one (buffers_of ws)) (ready_two : Ready two (buffers_of ws)) where
    many_r : many ws ≡ many ws₀
    many_r = rw (kept_links f.kept)

    among_r : Among (merger n c one two) (length (buffers_of ws))
    among_r = rw (buffers_length ws, many_r) among₀

    below_r : (m : ℕ) → Stands m (merger n c one two) → m < many ws
    below_r m s = rw many_r (below₀ m s)

    one_seen : buffer_of ws n₁ ≡ entries one (buffers_of ws)
    one_seen = sym (top_entries n₁ one top_one (buffers_of ws) ∙ buffers_at ws n₁ (below_r n₁ (in_first (top_stands n₁ one top_one))))

    two_seen : (b : Bool) → Input b n₂ two → seen_if b (buffer_of ws n₂) ≡ entries two (buffers_of ws)
    unfolding entries
    two_seen true input = let top = input.counts refl in sym (top_entries n₂ two top (buffers_of ws) ∙ buffers_at ws n₂ (below_r n₂ (in_second (top_stands n₂ two top))))
    two_seen false input = rw (input.else_none refl)

    out_seen : buffer_of ws n ≡ get_or (buffers_of ws) n []
    out_seen = sym (buffers_at ws n (below_r n output))

    turned_is : (b : Bool) → Input b n₂ two → (m : ℕ) → turned_by key b m ws n n₁ n₂ ≡ advanced key n c one two m (buffers_of ws)
    unfolding advanced stored
    turned_is true input m =
        let top = input.counts refl in
        let z = merged key m (entries one (buffers_of ws)) (entries two (buffers_of ws)) in
        let up = set (buffers_of ws) n (get_or (buffers_of ws) n [] ++ z.out) in
        rw (one_seen, two_seen true input, out_seen)
        (sym (top_put n₂ two top z.two (put one z.one up) ∙ ap (λ bs. set bs n₂ z.two) (top_put n₁ one top_one z.one up)))
    turned_is false input m =
        let xs = entries one (buffers_of ws) in
        let z : merged key m xs (entries two (buffers_of ws)) ≡ reached (take m xs) (drop m xs) [] = rw (← two_seen false input) (merged_one key m xs) in
        let up = set (buffers_of ws) n (get_or (buffers_of ws) n [] ++ take m xs) in
        rw (one_seen, out_seen, z) (sym (put_none two [] (put one (drop m xs) up) (input.else_none refl) ∙ top_put n₁ one top_one (drop m xs) up))

    -- so many entries more in the output, and as many steps
    module _ (m : ℕ) (length_is : m ≡ run_length key (c - filled) (buffer_of ws n₁) (seen_if b (buffer_of ws n₂))) {ws' : List ℕ} (r : Ran ws ws' n n₁ (touched_if b n₁ n₂) (turned_by key b m ws n n₁ n₂)) where
      run_is : m ≡ run_length key (c - filled) (entries one (buffers_of ws)) (entries two (buffers_of ws))
      run_is = rw (← one_seen, ← two_seen b input_two) length_is

      abbrev after : Merged
      after = merged key m (entries one (buffers_of ws)) (entries two (buffers_of ws))

      state_is : buffers_of ws' ≡ stored n one two (get_or (buffers_of ws) n [] ++ after.out) after.one after.two (buffers_of ws)
      unfolding advanced
      state_is = r.state ∙ turned_is b input_two m

      many_r' : many ws' ≡ many ws₀
      many_r' = rw (kept_links r.kept) many_r

      less : (k : ℕ) → k ≢ n → length (get_or (buffers_of ws') k []) ≤ length (get_or (buffers_of ws) k [])
      less k differ =
          let q = merged_less key m (entries one (buffers_of ws)) (entries two (buffers_of ws)) in
          rw state_is (stored_less n c one two (buffers_of ws) among_r (get_or (buffers_of ws) n [] ++ after.out) after.one after.two q.0 q.1 k differ)

      pub within_room : m ≤ c - filled
      within_room = rw run_is (run_within key (c - filled) (entries one (buffers_of ws)) (entries two (buffers_of ws)))

      out_long : length after.out ≡ m
      out_long = length_out key m (entries one (buffers_of ws)) (entries two (buffers_of ws)) (rw run_is (run_most key (c - filled) (entries one (buffers_of ws)) (entries two (buffers_of ws))))

      now_long : count_of ws' n ≡ filled + m
      now_long =
          let lt : n < many ws' = rw many_r' (below₀ n output) in
          let before : length (get_or (buffers_of ws) n []) ≡ filled = ap length (buffers_at ws n (below_r n output)) ∙ buffer_length ws n (has ws n f.array (below_r n output)) ∙ f.count in
          let here : get_or (buffers_of ws') n [] ≡ get_or (buffers_of ws) n [] ++ after.out =
          ap (λ bs. get_or bs n []) state_is ∙ stored_out n c one two (buffers_of ws) among_r (get_or (buffers_of ws) n [] ++ after.out) after.one after.two in
          sym (buffer_length ws' n (has ws' n r.array lt)) ∙ ap length (sym (buffers_at ws' n lt) ∙ here) ∙ simp length-append (omega (arith, out_long))

      marks_in : (t : Tree) → Outside n t → ((k : ℕ) → Stands k t → k < many ws) → MarksRight ws t → MarksRight ws' t
      marks_in t out below marks = marks_less t ws ws' (λ k s. r.marks k (below k s)) (λ k s. less k (λ e. out (rw e at s))) marks

      pub run_made : Filling key n c one two ws₀ ws' (filled + m) (steps + m)
      run_made = record {
        array = r.array;
        kept = kept_then f.kept r.kept;
        others = λ k lt out. r.words k (rw many_r lt) (λ e. out (inl e)) (not_one k out) (not_touched k out b input_two) ∙ f.others k lt out;
        count = now_long;
        start = r.start ∙ f.start;
        mark = r.marks n (below_r n output) ∙ f.mark;
        marks_one = marks_in one (joint among₀).out_one (λ k s. below_r k (in_first s)) f.marks_one;
        marks_two = marks_in two (joint among₀).out_two (λ k s. below_r k (in_second s)) f.marks_two;
        within = omega (arith, within_room, f.within);
        law = f.law ∙ ap (plus steps) gone_on ∙ regroup (filling key n c one two (c - (filled + m)) (buffers_of ws'));
      }
        where
          not_one : (k : ℕ) → (StandsIn k (merger n c one two) → ⊥) → k ≢ n₁
          not_one k out e = out (inr (inl (subst (λ (x : ℕ). StandsIn x one) (sym e) (stands_in (top_stands n₁ one top_one)))))

          not_touched : (k : ℕ) → (StandsIn k (merger n c one two) → ⊥) → (b : Bool) → Input b n₂ two → k ≢ touched_if b n₁ n₂
          not_touched k out true input e = out (inr (inr (subst (λ (x : ℕ). StandsIn x two) (sym e) (stands_in (top_stands n₂ two (input.counts refl))))))
          not_touched k out false input e = not_one k out e

          gone_on : filling key n c one two (c - filled) (buffers_of ws) ≡ plus m (filling key n c one two (c - (filled + m)) (buffers_of ws'))
          gone_on =
              let left : c - filled - m ≡ c - (filled + m) = omega arith in
              let here : buffers_of ws' ≡ advanced key n c one two m (buffers_of ws) = r.state ∙ turned_is b input_two m in
              rw (here, ← left) (ready_run key n c one two roomy_one roomy_two (c - filled) (buffers_of ws) among_r ready_one ready_two m run_is within_room)

          regroup : (z : Filled) → plus steps (plus m z) ≡ plus (steps + m) z
          regroup z = let e : steps + (m + z.steps) ≡ steps + m + z.steps = omega arith in λ i. record { buffers = z.buffers; steps = e i }

      -- no step was made: filling stops, with nothing left below
      module _ (none : m ≡ 0) (more : filled < c) where
        both_empty : (room : ℕ) → 0 < room → m ≡ run_length key room (entries one (buffers_of ws)) (entries two (buffers_of ws)) → (entries one (buffers_of ws) ≡ []) × (entries two (buffers_of ws) ≡ [])
        both_empty zero some e = absurd (omega arith)
        both_empty (suc room) some e = run_none key room (entries one (buffers_of ws)) (entries two (buffers_of ws)) (sym e ∙ none)

        empties : (entries one (buffers_of ws) ≡ []) × (entries two (buffers_of ws) ≡ [])
        empties = both_empty (c - filled) (omega arith) run_is

        pub unmoved : buffers_of ws' ≡ buffers_of ws
        unmoved = r.state ∙ turned_is b input_two m ∙ rw none (none_advanced key n c one two (buffers_of ws) among_r)

        pub stopped : fill key (merger n c one two) (buffers_of ws₀) ≡ plus (steps + m) (untouched (buffers_of ws'))
        stopped =
            let e : steps + m ≡ steps = omega arith in
            rw (e, unmoved) (f.law ∙ ap (plus steps) (ready_stop key n c one two roomy_one roomy_two (c - filled) (buffers_of ws) empties.0 empties.1 ready_one ready_two))

        pub none_in_one : held_in one (buffers_of ws') ≡ 0
        none_in_one = rw unmoved (ready_one (rw empties.0 refl))

        pub none_in_two : held_in two (buffers_of ws') ≡ 0
        none_in_two = rw unmoved (ready_two (rw empties.1 refl))

  -- ---- filling has ended

  module _ {key : ℕ → ℕ} {ws : List ℕ} {filled steps : ℕ} (f : Filling key n c one two ws₀ ws filled steps) where
    -- with an entry in the output it needs no mark
    pub done : fill key (merger n c one two) (buffers_of ws₀) ≡ plus steps (untouched (buffers_of ws)) → Did ws₀ ws (merger n c one two) (fill key (merger n c one two) (buffers_of ws₀)) steps
    unfolding untouched
    done e = record {
      array = f.array;
      state = sym (ap (λ z. z.buffers) e);
      count = let q : (fill key (merger n c one two) (buffers_of ws₀)).steps ≡ steps + 0 = ap (λ z. z.steps) e in omega arith;
      marks = (λ marked. absurd (omega (arith, f.mark)), f.marks_one, f.marks_two);
      kept = f.kept;
      others = f.others;
    }

    -- the output is full
    pub done_full : c ≤ filled → Did ws₀ ws (merger n c one two) (fill key (merger n c one two) (buffers_of ws₀)) steps
    unfolding fill_room
    done_full h = let e : c - filled ≡ 0 = omega arith in done (f.law ∙ rw e)

    -- nothing was found: the output gets the mark
    pub done_none : (ws' : List ℕ) → filled ≡ 0 → fill key (merger n c one two) (buffers_of ws₀) ≡ plus steps (untouched (buffers_of ws)) → held_in one (buffers_of ws) ≡ 0 → held_in two (buffers_of ws) ≡ 0
        → Now ws ws' n [] → Did ws₀ ws' (merger n c one two) (fill key (merger n c one two) (buffers_of ws₀)) steps
    unfolding untouched held_in
    done_none ws' none e held_one held_two z =
        let lt : n < many ws = rw (kept_links f.kept) (below₀ n output) in
        let h = has ws n f.array lt in
        let empty : get_or (buffers_of ws) n [] ≡ [] = buffers_at ws n lt ∙ nil_from_length (buffer_of ws n) (buffer_length ws n h ∙ f.count ∙ none) in
        let same : buffers_of ws' ≡ buffers_of ws = z.state ∙ ap (set (buffers_of ws) n) (sym empty) ∙ set-get_or (buffers_of ws) n [] in
        let kept = kept_then f.kept (only_kept ws ws' n h z.only) in
        let words : (m : ℕ) → m ≢ n → m < many ws₀ → word_of ws' m ≡ word_of ws m = λ m differ low. only_word ws ws' n h z.only m (rw (kept_links f.kept) low) differ in
        let sums : length (get_or (buffers_of ws) n []) + (held_in one (buffers_of ws) + held_in two (buffers_of ws)) ≡ 0 = rw empty (omega arith) in
        record {
          array = z.array;
          state = same ∙ sym (ap (λ z. z.buffers) e);
          count = let q : (fill key (merger n c one two) (buffers_of ws₀)).steps ≡ steps + 0 = ap (λ z. z.steps) e in omega arith;
          marks = (
            λ marked. rw same sums,
            marks_same one ws ws' (λ m s. words m (λ q. (joint among₀).out_one (rw q at s)) (below₀ m (in_first s))) (λ m s. ap (λ bs. get_or bs m []) same) f.marks_one,
            marks_same two ws ws' (λ m s. words m (λ q. (joint among₀).out_two (rw q at s)) (below₀ m (in_second s))) (λ m s. ap (λ bs. get_or bs m []) same) f.marks_two,
          );
          kept = kept;
          others = λ m low out. words m (λ q. out (inl q)) low ∙ f.others m low out;
        }
