-- The calls: what the checks say of the array, and what an accepted call leaves.
use Prim.Native.Nat.{ℕ, zero, suc, ◌+◌, ◌≤◌, ◌<◌}
use mathlib.Core.Path.{◌≡◌, refl, sym, ap, ◌∙◌, subst}
use mathlib.Core.Logic.{◌≢◌}
use mathlib.Core.Bool.{Bool, true, false}
use mathlib.Core.List.{List, [], ◌∷◌, map}
use native.Mathlib.Omega.{arith}
use borrow.Author.Tests.{le-leb, eq-eqb}
use lib.Dec.{T, T_not, ltb}
use lib.ListN.{length, get_or}
use Rattle.std.specs.Prelude.{Option, Some, None, Result, Ok, Err, IsErrAnd}
use Rattle.std.specs.Option.{option_to_list, unwrap_or}
use Rattle.rules.specs.declared.Done as code
use Rattle.rules.specs.declared.Refusal.{Refusal}
use Rattle.rules.specs.Answers.{Answer, Done, BookBroken, NoneHeld, OrderBroken, number_of, is_done, answer_as}
use Rattle.rules.specs.declared.Rule.{Rule}
use Rattle.rules.specs.Entries.{key_by}
use Rattle.rules.specs.Links.{from, words}
use Rattle.rules.specs.Tree.{Buffers, Tree, entries, tree_of, links_from}
use Rattle.rules.specs.Merge.{Step, stop, move, merge_step}
use Rattle.rules.specs.Fill.{Filled}
use Rattle.rules.specs.Take.{Taken, take_one, ready, hand_out, insertion}
use Rattle.rules.specs.Queue.{Queue, key_of, held}
use Rattle.rules.specs.Order.{in_order}
use Rattle.rules.specs.Book.{sound}
use Rattle.rules.specs.Calls.{Lent, Outcome, Check, ◌else◌, first_failing, refused, unless, array_checks, take_checks, queue_of, with_buffers, the_entry, take, look, held_call, audit}
use Rattle.rules.proofs.Sizes.{book_in_words}
use Rattle.rules.proofs.Tests.{truth}
use Rattle.rules.proofs.Takes.{hand_steps}
use Rattle.rules.proofs.BookLaws as rules
use Rattle.rules.proofs.BookKept.{take_kept, look_kept}
use Rattle.rules.proofs.Accepted.{Long, MayTake, take_cases}
use Rattle.buffers.specs.Format.{links_in, rule_in, count_of, mark_of, mark_in, counter_in, many, book_of, lent_of, buffers_of}
use Rattle.buffers.specs.Post.{Inside, Unused, Kept}
use Rattle.buffers.proofs.ArrayLaws.{kept_links, kept_unused}
use Rattle.buffers.proofs.KeyLaws.{key_given}
use Rattle.buffers.proofs.SlotLaws.{some}
use Rattle.buffers.proofs.RuleLaws.{sound_rules}
use Rattle.buffers.proofs.Exact.{sound_inside, count_is, mark_is}
use Rattle.mergers.specs.Fills.{MarksRight, Did}
use Rattle.takes.specs.Heads.{CanTake, Took, head_in}
use Rattle.queue.specs.Calls.{Called, Gives}
use Rattle.queue.proofs.CheckLaws.{refuses, not_done, handed_on, unlike, Holding, early, each_holds, late, long_says}
use Rattle.takes.proofs.HandLaws.{taken_is, word_of_I}
use Rattle.queue.proofs.BookLaws.{describes, shaped, marks_right_lem, sound_after}

-- ---- answers

-- where no check fails, the call is done
pub accepted_is : (failing : Answer) (q : Queue) (o : Outcome) → is_done failing ≡ true → unless failing q o ≡ o
unfolding unless
accepted_is failing q o e = subst (λ b. elim b [ true ↦ o | false ↦ refused failing q ] ≡ o) (sym e) refl

-- where one fails, it is refused
pub refused_is : (failing : Answer) (q : Queue) (o : Outcome) → is_done failing ≡ false → unless failing q o ≡ refused failing q
unfolding unless
refused_is failing q o e = subst (λ b. elim b [ true ↦ o | false ↦ refused failing q ] ≡ refused failing q) (sym e) refl

-- ---- an array and its checks

module _ (ws : List ℕ) where
  abbrev lent : Lent
  lent = lent_of ws

  abbrev q : Queue
  q = queue_of (lent_of ws)

  -- the checks that every call but setup makes
  abbrev common : Answer
  common = first_failing (array_checks (lent_of ws) ((sound (book_of ws) else BookBroken) ∷ []))

  abbrev none_held : List Check
  none_held = (ltb 0 (held (queue_of (lent_of ws))) else NoneHeld) ∷ []

  abbrev book_check : List Check
  book_check = (sound (book_of ws) else BookBroken) ∷ []

  -- x is what they answer
  pub refused_before : (x : Answer) → x ≡ common → number_of x ≢ 0 → (others : List Check) → x ≡ first_failing (array_checks (lent_of ws) ((sound (book_of ws) else BookBroken) ∷ others))
  unfolding array_checks
  refused_before x x_is differ others = early (array_checks (lent_of ws) book_check) others x x_is differ

  pub refused_early : (r : Refusal) → answer_as r ≡ common → answer_as r ≡ first_failing (take_checks (lent_of ws))
  unfolding take_checks lent_of
  refused_early r r_is = refused_before (answer_as r) r_is (refuses r) none_held

  module _ (none_fails : Done ≡ common) where
    common_hold : Holding (array_checks (lent_of ws) book_check)
    unfolding array_checks is_done
    common_hold = each_holds (array_checks (lent_of ws) book_check) (refl, (refl, (refl, (refl, tt)))) none_fails

    pub passed_all : (others : List Check) → first_failing (array_checks (lent_of ws) ((sound (book_of ws) else BookBroken) ∷ others)) ≡ first_failing others
    unfolding array_checks
    passed_all others = late (array_checks (lent_of ws) book_check) others common_hold

    passed : first_failing (take_checks (lent_of ws)) ≡ first_failing none_held
    unfolding take_checks lent_of
    passed = passed_all none_held

    pub may_hold : Long (lent_of ws) × T (sound (lent_of ws).book)
    unfolding lent_of
    may_hold = let h = long_says ws book_check common_hold in (h.0, h.1.0)

  -- the array as the document wants it
  module _ (long : Long (lent_of ws)) (right : T (sound (lent_of ws).book)) where
    pub book_right : sound (book_of ws) ≡ true
    unfolding lent_of
    book_right = truth (sound (book_of ws)) right

    pub inside : Inside ws
    unfolding lent_of book_of
    inside = sound_inside ws book_right long.enough

    pub can_take : CanTake ws (links_in ws)
    unfolding tree_of
    can_take = record { array = inside; links = omega arith; marks = marks_right_lem ws inside book_right }

    pub kept_now : rules.Kept 7 (queue_of (lent_of ws))
    unfolding lent_of
    kept_now = rules.sound_says (book_of ws) (queue_of (lent_of ws)) (describes ws inside) right

    -- I's mark says that it is empty
    pub insertion_mark : mark_of ws 0 ≡ 1 → count_of ws 0 ≡ 0
    insertion_mark e =
        let below : 0 < many ws = omega (arith, some inside.link) in
        sym (count_is ws 0 below) ∙ (sound_rules (book_of ws) book_right).mark_i (mark_is ws 0 below ∙ eq-eqb (mark_of ws 0) 1 e)

  -- ---- where no check fails

  abbrev taken : Taken
  taken = take_one (key_of (queue_of (lent_of ws))) (tree_of (queue_of (lent_of ws)).links) (queue_of (lent_of ws)).buffers

  abbrev take_accepted : Outcome
  take_accepted = record { answer = Done; word = the_entry taken.out; steps = taken.steps; packed = false; queue = with_buffers (queue_of (lent_of ws)) taken.buffers }

  take_is : is_done (first_failing (take_checks (lent_of ws))) ≡ true → take (lent_of ws) ≡ take_accepted
  unfolding take
  take_is e = accepted_is (first_failing (take_checks (lent_of ws))) (queue_of (lent_of ws)) take_accepted e

  pub done_is : is_done Done ≡ true
  unfolding is_done
  done_is = refl

  pub may_take : is_done (first_failing (take_checks (lent_of ws))) ≡ true → MayTake (lent_of ws)
  unfolding refused
  may_take e =
      take_cases (lent_of ws) (λ o. T (is_done o.answer) → MayTake (lent_of ws)) (λ answer r t. absurd (T_not (is_done answer) r.not_done t)) (λ m t. m)
      (subst T (sym (ap (λ (o : Outcome). is_done o.answer) (take_is e) ∙ done_is)) tt)

  abbrev look_accepted : Outcome
  look_accepted =
      record { answer = Done; word = the_entry taken.out; steps = taken.steps; packed = false; queue = with_buffers (queue_of (lent_of ws)) (ready (key_of (queue_of (lent_of ws))) (tree_of (queue_of (lent_of ws)).links) (queue_of (lent_of ws)).buffers).buffers }

  look_is : is_done (first_failing (take_checks (lent_of ws))) ≡ true → look (lent_of ws) ≡ look_accepted
  unfolding look
  look_is e = accepted_is (first_failing (take_checks (lent_of ws))) (queue_of (lent_of ws)) look_accepted e

  abbrev held_accepted : Outcome
  held_accepted = record { answer = Done; word = held (queue_of (lent_of ws)); steps = 0; packed = false; queue = queue_of (lent_of ws) }

  held_is : is_done common ≡ true → held_call (lent_of ws) ≡ held_accepted
  unfolding held_call lent_of
  held_is e = accepted_is common (queue_of (lent_of ws)) held_accepted e

-- ---- a queue after a change of buffers

pub each_same : {A : Type 0} (f g : ℕ → A) (i n : ℕ) → ((m : ℕ) → m < i + n → f m ≡ g m) → map f (from i n) ≡ map g (from i n)
unfolding from
each_same f g i zero same = refl
each_same f g i (suc n) same = λ p. same i (omega arith) p ∷ each_same f g (suc i) n (λ m lt. same m (omega arith)) p

pub same_queue : (ws ws' : List ℕ) (bs : Buffers) → Inside ws → Kept ws ws' → buffers_of ws' ≡ bs → queue_of (lent_of ws') ≡ with_buffers (queue_of (lent_of ws)) bs
unfolding queue_of lent_of book_of with_buffers
same_queue ws ws' bs array kept e =
    let links = kept_links kept in
    let counters : map (counter_in ws') (from 1 (links_in ws')) ≡ map (counter_in ws) (from 1 (links_in ws)) =
    rw links (each_same (counter_in ws') (counter_in ws) 1 (links_in ws) (λ m lt. kept.front m (omega (arith, array.link.high)))) in
    λ p. record { links = links p; counters = counters p; buffers = e p }

-- ---- outcomes

-- "Every refusal changes nothing"
pub refused_called : (ws : List ℕ) (o : Outcome) (x : Answer) → is_done x ≡ false → o ≡ refused x (queue_of (lent_of ws)) → Called ws ws o x 0 0 false
unfolding refused
refused_called ws o x f e =
    record {
      number_is = sym (ap (λ (z : Outcome). number_of z.answer) e);
      word_is = sym (ap (λ (z : Outcome). z.word) e);
      steps_are = sym (ap (λ (z : Outcome). z.steps) e);
      packed_is = sym (ap (λ (z : Outcome). z.packed) e);
      long = refl;
      past = λ p h. refl;
      unused = λ p u. refl;
      refused = λ g. refl;
      queue_is = λ g. absurd (unlike (sym g ∙ f));
      sound_is = λ g. absurd (unlike (sym g ∙ f));
    }

-- whatever the call: the first failing check is its answer
pub refusal_called : (ws : List ℕ) (failing : Answer) (accepted : Outcome) (x : Answer) → x ≡ failing → is_done x ≡ false → Called ws ws (unless failing (queue_of (lent_of ws)) accepted) x 0 0 false
refusal_called ws failing accepted x e f =
    refused_called ws (unless failing (queue_of (lent_of ws)) accepted) x f (refused_is failing (queue_of (lent_of ws)) accepted (ap is_done (sym e) ∙ f) ∙ ap (λ z. refused z (queue_of (lent_of ws))) (sym e))

-- the same of a call's result that hands the refusal on
pub called_on : {ws : List ℕ} {o : Outcome} (z : Result code.Done Refusal) (r : Refusal) → IsErrAnd z (λ y. y ≡ r) → Called ws ws o (answer_as r) 0 0 false → Gives ws ws o z
called_on (Ok done) r h called = absurd h
called_on {ws} {o} (Err y) r h called = subst (λ y. Called ws ws o (answer_as y) 0 0 false) (sym h) called

-- "every accepted call leaves a book that keeps all book rules"
pub accepted_called : (ws ws' : List ℕ) (o accepted : Outcome) (word steps : ℕ) (packed : Bool) → o ≡ accepted → accepted.answer ≡ Done → word ≡ accepted.word → steps ≡ accepted.steps → packed ≡ accepted.packed
    → queue_of (lent_of ws') ≡ accepted.queue → sound (book_of ws') ≡ true → length ws' ≡ length ws → ((p : ℕ) → words (links_in ws') ≤ p → get_or ws' p 0 ≡ get_or ws p 0)
    → ((p : ℕ) → Unused (links_in ws') p → get_or ws' p 0 ≡ get_or ws p 0) → Called ws ws' o Done word steps packed
accepted_called ws ws' o accepted word steps packed e a w s p q b long past unused =
    subst (λ z. Called ws ws' z Done word steps packed) (sym e)
    record { number_is = ap number_of (sym a); word_is = w; steps_are = s; packed_is = p; long = long; past = past; unused = unused; refused = λ g. absurd (unlike (sym (done_is ws) ∙ g)); queue_is = λ g. q; sound_is = λ g. b }

the_one : (entry : Option ℕ) (out : List ℕ) → option_to_list entry ≡ out → unwrap_or entry 0 ≡ the_entry out
unfolding the_entry
the_one (Some e) out same = ap the_entry same
the_one None out same = ap the_entry same

head_out : (t : Tree) (step : Step) (now : Filled) → the_entry (hand_out t step now).out ≡ unwrap_or (head_in step) 0
unfolding the_entry hand_out head_in
head_out t stop now = refl
head_out t (move e xs ys) now = refl

module _ (ws : List ℕ) where
  pub take_refused : (x : Answer) → x ≡ first_failing (take_checks (lent_of ws)) → number_of x ≢ 0 → Called ws ws (take (lent_of ws)) x 0 0 false
  unfolding take
  take_refused x x_is differ = refusal_called ws (first_failing (take_checks (lent_of ws))) (take_accepted ws) x x_is (not_done x differ)

  pub look_refused : (x : Answer) → x ≡ first_failing (take_checks (lent_of ws)) → number_of x ≢ 0 → Called ws ws (look (lent_of ws)) x 0 0 false
  unfolding look
  look_refused x x_is differ = refusal_called ws (first_failing (take_checks (lent_of ws))) (look_accepted ws) x x_is (not_done x differ)

  module _ (none_fails : Done ≡ first_failing (take_checks (lent_of ws))) where
    all_hold : is_done (first_failing (take_checks (lent_of ws))) ≡ true
    all_hold = ap is_done (sym none_fails) ∙ done_is ws

    may : MayTake (lent_of ws)
    may = may_take ws all_hold

    can_all : CanTake ws (links_in ws)
    can_all = can_take ws may.long may.holds

    -- the book is sound afterwards
    module _ (ws' : List ℕ) (array : Inside ws') (kept : Kept ws ws') (marks : MarksRight ws' (links_from 1 (links_in ws))) (mark_of_I : mark_of ws' 0 ≡ mark_of ws 0) (fewer_in_I : count_of ws' 0 ≤ count_of ws 0) where
      sound_still : rules.Kept 7 (queue_of (lent_of ws')) → sound (book_of ws') ≡ true
      unfolding tree_of
      sound_still k =
          sound_after ws' array k (rw (kept_links kept) marks)
          (λ e. let none = insertion_mark ws may.long may.holds (sym mark_of_I ∙ e) in omega (arith, fewer_in_I))

    pub take_some_words : 0 < length ws
    unfolding lent_of
    take_some_words = omega (arith, may.long.shortest, book_in_words 1)

    -- l is what the call has read as link number
    module _ (l : ℕ) (l_is : l ≡ links_in ws) where
      pub may_can : CanTake ws l
      may_can = rw l_is can_all

      -- and rule what it has read as rule: what was done by it is done by the queue's own key
      module _ {rule : Rule} (rule_is : rule ≡ rule_in ws) where
        over : (P : (ℕ → ℕ) → ℕ → Type 0) → P (key_by rule) l → P (key_of (queue_of (lent_of ws))) (links_in ws)
        over P p = subst (λ k. P k (links_in ws)) (sym (key_given ws rule_is)) (subst (P (key_by rule)) l_is p)

        pub take_called : (ws' : List ℕ) (entry : Option ℕ) (steps : ℕ) → Took ws ws' l (take_one (key_by rule) (links_from 1 l) (buffers_of ws)) entry steps
            → Called ws ws' (take (lent_of ws)) Done (unwrap_or entry 0) steps false
        unfolding tree_of queue_of lent_of book_of
        take_called ws' entry steps took =
            let z = over (λ k l. Took ws ws' l (take_one k (links_from 1 l) (buffers_of ws)) entry steps) took in
            let o = take_is ws all_hold in
            let array = inside ws may.long may.holds in
            let after : queue_of (lent_of ws') ≡ with_buffers (queue_of (lent_of ws)) (taken ws).buffers = same_queue ws ws' (taken ws).buffers array z.kept z.state in
            let k = take_kept 7 (queue_of (lent_of ws)) (shaped ws array) (kept_now ws may.long may.holds) in
            accepted_called ws ws' (take (lent_of ws)) (take_accepted ws) (unwrap_or entry 0) steps false o
            refl
            (the_one entry (taken ws).out z.out)
            z.count
            refl
            after
            (sound_still ws' z.array z.kept z.marks z.mark_of_I z.fewer_in_I (subst (rules.Kept 7) (sym after) k))
            z.kept.long
            (λ p h. z.kept.past p (rw (kept_links z.kept) at h))
            (λ p u. kept_unused z.kept p (rw (kept_links z.kept) at u))

        pub look_called : (ws' : List ℕ) (head : Option ℕ) (steps : ℕ) → Did ws ws' (links_from 1 l) (ready (key_by rule) (links_from 1 l) (buffers_of ws)) steps
            → head ≡ head_in (merge_step (key_by rule) (entries (links_from 1 l) (buffers_of ws')) (insertion (buffers_of ws'))) → Called ws ws' (look (lent_of ws)) Done (unwrap_or head 0) steps false
        unfolding tree_of queue_of lent_of book_of
        look_called ws' head steps did said =
            let d = over (λ k l. Did ws ws' (links_from 1 l) (ready k (links_from 1 l) (buffers_of ws)) steps) did in
            let w = over (λ k l. head ≡ head_in (merge_step k (entries (links_from 1 l) (buffers_of ws')) (insertion (buffers_of ws')))) said in
            let o = look_is ws all_hold in
            let array = inside ws may.long may.holds in
            let t = links_from 1 (links_in ws) in
            let key = key_of (queue_of (lent_of ws)) in
            let now = ready key t (buffers_of ws) in
            let step = merge_step key (entries t (buffers_of ws')) (insertion (buffers_of ws')) in
            let same : taken ws ≡ hand_out t step now = taken_is key ws (links_in ws) can_all ws' steps d step refl in
            let I_word = word_of_I key ws (links_in ws) can_all ws' steps d in
            let after : queue_of (lent_of ws') ≡ with_buffers (queue_of (lent_of ws)) now.buffers = same_queue ws ws' now.buffers array d.kept d.state in
            let k = look_kept 7 (queue_of (lent_of ws)) (shaped ws array) (kept_now ws may.long may.holds) in
            accepted_called ws ws' (look (lent_of ws)) (look_accepted ws) (unwrap_or head 0) steps false o
            refl
            (ap (λ h. unwrap_or h 0) w ∙ sym (head_out t step now) ∙ sym (ap (λ (z : Taken). the_entry z.out) same))
            (d.count ∙ sym (hand_steps t step now) ∙ sym (ap (λ (z : Taken). z.steps) same))
            refl
            after
            (sound_still ws' d.array d.kept d.marks (ap mark_in I_word) (rw I_word (omega arith)) (subst (rules.Kept 7) (sym after) k))
            d.kept.long
            (λ p h. d.kept.past p (rw (kept_links d.kept) at h))
            (λ p u. kept_unused d.kept p (rw (kept_links d.kept) at u))

-- ---- held and audit, and the checks of take and look

module _ (ws : List ℕ) where
  pub held_refused : (x : Answer) → x ≡ common ws → number_of x ≢ 0 → Called ws ws (held_call (lent_of ws)) x 0 0 false
  unfolding held_call lent_of
  held_refused x x_is differ = refusal_called ws (common ws) (held_accepted ws) x x_is (not_done x differ)

  abbrev in_order_lem : Bool
  in_order_lem = in_order (key_of (queue_of (lent_of ws))) (tree_of (queue_of (lent_of ws)).links) (queue_of (lent_of ws)).buffers

  abbrev audit_checks : List Check
  audit_checks = array_checks (lent_of ws) ((sound (book_of ws) else BookBroken) ∷ (in_order_lem else OrderBroken) ∷ [])

  abbrev audit_accepted : Outcome
  audit_accepted = record { answer = Done; word = 0; steps = 0; packed = false; queue = queue_of (lent_of ws) }

  audit_refusal : (x : Answer) → x ≡ first_failing audit_checks → is_done x ≡ false → Called ws ws (audit (lent_of ws)) x 0 0 false
  unfolding audit lent_of
  audit_refusal x e f = refusal_called ws (first_failing audit_checks) audit_accepted x e f

  pub audit_refused : (x : Answer) → x ≡ common ws → number_of x ≢ 0 → Called ws ws (audit (lent_of ws)) x 0 0 false
  audit_refused x x_is differ = audit_refusal x (refused_before ws x x_is differ ((in_order_lem else OrderBroken) ∷ [])) (not_done x differ)

  module _ (none_fails : Done ≡ common ws) where
    book_holds : is_done (common ws) ≡ true
    book_holds = ap is_done (sym none_fails) ∙ done_is ws

    may_now : Long (lent_of ws) × T (sound (lent_of ws).book)
    may_now = may_hold ws none_fails

    pub held_inside : Inside ws
    held_inside = inside ws may_now.0 may_now.1

    module _ (n : ℕ) (n_is : n ≡ held (queue_of (lent_of ws))) where
      pub held_called : Called ws ws (held_call (lent_of ws)) Done n 0 false
      held_called =
          let o = held_is ws book_holds in
          accepted_called ws ws (held_call (lent_of ws)) (held_accepted ws) n 0 false o
          refl
          n_is
          refl refl refl
          (book_right ws may_now.0 may_now.1)
          refl
          (λ p h. refl)
          (λ p u. refl)

      last_check : (b : Bool) → ltb 0 n ≡ b → first_failing (take_checks (lent_of ws)) ≡ elim b [ true ↦ Done | false ↦ NoneHeld ]
      unfolding first_failing
      last_check b e = passed ws none_fails ∙ ap (λ m. first_failing ((ltb 0 m else NoneHeld) ∷ [])) (sym n_is) ∙ ap (λ t. first_failing ((t else NoneHeld) ∷ [])) e

      -- "6 | nothing held"
      pub none_is : n ≡ 0 → NoneHeld ≡ first_failing (take_checks (lent_of ws))
      none_is e = sym (last_check false (ap (ltb 0) e))

      pub some_is : n ≢ 0 → Done ≡ first_failing (take_checks (lent_of ws))
      some_is differ = sym (last_check true (go n differ))
        where
          go : (m : ℕ) → m ≢ 0 → ltb 0 m ≡ true
          go zero d = absurd (d refl)
          go (suc m) d = le-leb 1 (suc m) (omega arith)

    module _ {rule : Rule} (rule_is : rule ≡ rule_in ws) (t : Bool) (t_is : t ≡ in_order (key_by rule) (tree_of (links_in ws)) (buffers_of ws)) where
      audit_answer : first_failing audit_checks ≡ elim t [ true ↦ Done | false ↦ OrderBroken ]
      unfolding first_failing queue_of lent_of book_of
      audit_answer =
          let by_rule : t ≡ in_order_lem = t_is ∙ ap (λ k. in_order k (tree_of (links_in ws)) (buffers_of ws)) (sym (key_given ws rule_is)) in
          passed_all ws none_fails ((in_order_lem else OrderBroken) ∷ []) ∙ ap (λ b. first_failing ((b else OrderBroken) ∷ [])) (sym by_rule)

      pub audit_called : t ≡ true → Called ws ws (audit (lent_of ws)) Done 0 0 false
      unfolding audit lent_of
      audit_called e =
          let all : first_failing audit_checks ≡ Done = audit_answer ∙ ap (λ b. elim b [ true ↦ Done | false ↦ OrderBroken ]) e in
          let o : audit (lent_of ws) ≡ audit_accepted = accepted_is (first_failing audit_checks) (queue_of (lent_of ws)) audit_accepted (ap is_done all ∙ done_is ws) in
          accepted_called ws ws (audit (lent_of ws)) audit_accepted 0 0 false o
          refl refl refl refl refl
          (book_right ws may_now.0 may_now.1)
          refl
          (λ p h. refl)
          (λ p u. refl)

      -- "9 | order broken"
      pub order_broken : t ≡ false → Called ws ws (audit (lent_of ws)) OrderBroken 0 0 false
      unfolding is_done
      order_broken e = audit_refusal OrderBroken (sym (audit_answer ∙ ap (λ b. elim b [ true ↦ Done | false ↦ OrderBroken ]) e)) refl

-- what the checks of take and look search by
pub ruleset of_take = (handed_on, refused_early, none_is, some_is)
