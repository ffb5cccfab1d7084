-- An insert over the array: the entry is in I, room is made where I then has 8, and all is as the rules say.
use Prim.Native.Nat.{ℕ, suc, ◌+◌, ◌-◌, ◌≤◌, ◌<◌}
use mathlib.Core.Path.{◌≡◌, refl, sym, ap, ◌∙◌, subst}
use mathlib.Core.Logic.{◌≢◌}
use mathlib.Core.Bool.{Bool, true, false}
use mathlib.Core.List.{List, []}
use native.Mathlib.Omega.{arith}
use lib.Dec.{T, T_not}
use lib.ListN.{length, set}
use lib.Seq.{get_or-set_other}
use Rattle.rules.specs.declared.Rule.{Rule}
use Rattle.rules.specs.Answers.{Answer, Done, is_done, number_of}
use Rattle.rules.specs.Entries.{key_by}
use Rattle.rules.specs.Links.{k, number_of_s, buffer_count, words}
use Rattle.rules.specs.Tree.{links_from, tree_of}
use Rattle.rules.specs.Queue.{Queue, counter, held}
use Rattle.rules.specs.Book.{sound}
use Rattle.rules.specs.Insert.{placed, lowest, Inserted, entered, make_room, inserted}
use Rattle.rules.specs.Calls.{Outcome, queue_of, with_buffers, first_failing, insert_checks, refused, insert}
use Rattle.rules.proofs.Numbers.{Stands}
use Rattle.rules.proofs.Sizes.{first_one}
use Rattle.rules.proofs.Numbering.{links_range, tree_range, s_stands}
use Rattle.rules.proofs.Held.{held_split}
use Rattle.rules.proofs.PathCounts.{lowest_is}
use Rattle.rules.proofs.BookLaws as rules
use Rattle.rules.proofs.BookKept.{Shaped}
use Rattle.rules.proofs.RestLaws.{has_place}
use Rattle.rules.proofs.InsertLaws.{now_kept, inserted_kept}
use Rattle.rules.proofs.Accepted.{MayInsert, insert_call_cases}
use Rattle.buffers.specs.Format.{links_in, counter_in, rule_in, mark_in, many, book_of, lent_of, buffer_of, buffers_of}
use Rattle.buffers.specs.Post.{Inside, Has, Now, Kept, Word}
use Rattle.buffers.proofs.ArrayLaws.{each_at, buffer_length, buffers_at, only_word, only_kept, kept_links, kept_unused}
use Rattle.buffers.proofs.KeyLaws.{key_given, rule_kept}
use Rattle.mergers.proofs.FillLaws.{marks_less}
use Rattle.paths.specs.Placing.{Placing}
use Rattle.paths.proofs.SlotsLaws.{placing}
use Rattle.takes.specs.Heads.{CanTake}
use Rattle.queue.specs.Calls.{Called, WorkKept}
use Rattle.sweeps.specs.Room.{CanMove, CanSweep, CanMakeRoom, MadeRoom}
use Rattle.takes.proofs.ReadyLaws.{insertion_has, insertion_is}
use Rattle.queue.proofs.BookLaws.{shaped, sound_after}
use Rattle.queue.proofs.CheckLaws.{not_done}
use Rattle.queue.proofs.CallLaws.{done_is, accepted_is, refusal_called, accepted_called, inside, can_take, kept_now, same_queue}

-- ---- where the book rules hold but for I, a sweep may be made to the lowest link

module _ {rule : Rule} (ws work : List ℕ) (moves : CanMove rule ws work) (kept : rules.Kept 8 (queue_of (lent_of ws))) where
  abbrev p : Queue
  p = queue_of (lent_of ws)

  abbrev i : ℕ
  i = lowest 1 (queue_of (lent_of ws)).counters

  low : 1 ≤ i
  low = (lowest_is 1 p.counters).low

  module _ (there : i ≤ links_in ws) where
    shape : Shaped p
    shape = shaped ws moves.can.array

    there_q : i ≤ p.links
    unfolding queue_of lent_of book_of
    there_q = there

    read : counter p i ≡ counter_in ws i
    unfolding counter queue_of lent_of book_of
    read = let e : 1 + (i - 1) ≡ i = omega (arith, low) in each_at (counter_in ws) 1 (links_in ws) (i - 1) 0 (omega (arith, low)) ∙ ap (counter_in ws) e

    unspent : counter p i ≤ k i
    unfolding counter
    unspent = (lowest_is 1 p.counters).has (i - 1) (omega (arith, low)) (omega (arith, low, there_q, shape.counters))

    store_below : number_of_s i (counter p i) < many ws
    store_below = (tree_range (links_in ws) (s_stands (links_in ws) i (counter p i) low there (kept.each i low there_q).counter_low unspent)).1

    store_empty : buffer_of ws (number_of_s i (counter_in ws i)) ≡ []
    unfolding queue_of lent_of
    store_empty = rw read at (sym (buffers_at ws (number_of_s i (counter p i)) store_below) ∙ (kept.each i low there_q).unused (counter p i) (omega arith) unspent)

    pub lowest_sweeps : CanSweep rule ws i work
    lowest_sweeps =
        record {
          moves = moves;
          low = low;
          there = there;
          counted = rw read at (kept.each i low there_q).counter_low;
          unspent = rw read at unspent;
          empty = store_empty;
          fits = (has_place p shape kept).of_sweep i low there_q unspent;
        }

-- ---- the insert

module _ (ws work : List ℕ) (entry : ℕ) where
  abbrev before : Queue
  before = queue_of (lent_of ws)

  abbrev checks : Answer
  checks = first_failing (insert_checks (length work) entry (lent_of ws))

  abbrev accepted : Outcome
  accepted = record { answer = Done; word = 0; steps = (inserted entry (queue_of (lent_of ws))).steps; packed = (inserted entry (queue_of (lent_of ws))).packed; queue = (inserted entry (queue_of (lent_of ws))).queue }

  insert_is : is_done checks ≡ true → insert (length work) entry (lent_of ws) ≡ accepted
  unfolding insert
  insert_is e = accepted_is checks before accepted e

  pub insert_refused : (x : Answer) → x ≡ checks → number_of x ≢ 0 → Called ws ws (insert (length work) entry (lent_of ws)) x 0 0 false
  unfolding insert
  insert_refused x x_is differ = refusal_called ws checks accepted x x_is (not_done x differ)

  pub work_refused : (x : Answer) → WorkKept (links_in ws) x work work
  work_refused x = record { long = refl; past = λ p far. refl; refused = λ e. refl }

  may_insert : is_done checks ≡ true → MayInsert (length work) entry (lent_of ws)
  unfolding refused
  may_insert e =
      insert_call_cases (lent_of ws) (λ o. T (is_done o.answer) → MayInsert (length work) entry (lent_of ws)) (λ answer r t. absurd (T_not (is_done answer) r.not_done t)) (length work) entry (λ m t. m)
      (subst T (sym (ap (λ (o : Outcome). is_done o.answer) (insert_is e) ∙ done_is ws)) tt)

  module _ (none_fails : Done ≡ checks) where
    all_hold : is_done checks ≡ true
    all_hold = ap is_done (sym none_fails) ∙ done_is ws

    may : MayInsert (length work) entry (lent_of ws)
    may = may_insert all_hold

    array_in : Inside ws
    array_in = inside ws may.long may.holds

    can : CanTake ws (links_in ws)
    can = can_take ws may.long may.holds

    kept_seven : rules.Kept 7 before
    kept_seven = kept_now ws may.long may.holds

    of_I : Has ws 0
    of_I = insertion_has ws (links_in ws) can

    pub places : Placing ws
    unfolding queue_of lent_of
    places = placing ws array_in (omega (arith, kept_seven.few, ap length (insertion_is ws (links_in ws) can), buffer_length ws 0 of_I))

    module _ {rule : Rule} (rule_is : rule ≡ rule_in ws) (ws₁ : List ℕ) (n : Now ws ws₁ 0 (placed (key_by rule) entry (buffer_of ws 0))) (w : Word ws₁ 0 0 0) where
      kept₁ : Kept ws ws₁
      kept₁ = only_kept ws ws₁ 0 of_I n.only

      links₁ : links_in ws₁ ≡ links_in ws
      links₁ = kept_links kept₁

      queue₁ : queue_of (lent_of ws₁) ≡ entered entry before
      unfolding entered queue_of lent_of book_of with_buffers
      queue₁ =
          same_queue ws ws₁ (set (buffers_of ws) 0 (placed (key_by rule) entry (buffer_of ws 0))) array_in kept₁ n.state
          ∙ (λ x. with_buffers (queue_of (lent_of ws)) (set (buffers_of ws) 0 (placed (sym (key_given ws rule_is) x) entry (sym (insertion_is ws (links_in ws) can) x))))

      kept_eight : rules.Kept 8 (queue_of (lent_of ws₁))
      kept_eight = subst (rules.Kept 8) (sym queue₁) (now_kept entry before (shaped ws array_in) kept_seven may.not_full)

      other : {m : ℕ} → Stands m (links_from 1 (links_in ws)) → (0 < m) × (m < many ws)
      unfolding buffer_count
      other st = let r = links_range 1 (links_in ws) (omega arith) st in let e : 1 + links_in ws ≡ suc (links_in ws) = omega arith in (omega (arith, r.0, first_one), rw e at r.1)

      can₁ : CanTake ws₁ (links_in ws₁)
      can₁ =
          record {
            array = n.array;
            links = omega arith;
            marks = rw links₁ (
                marks_less (links_from 1 (links_in ws)) ws ws₁ (λ m s. ap mark_in (only_word ws ws₁ 0 of_I n.only m (other s).1 (omega (arith, (other s).0))))
                (λ m s. rw (n.state, get_or-set_other (buffers_of ws) 0 m (placed (key_by rule) entry (buffer_of ws 0)) [] (omega (arith, (other s).0))) (omega arith)) can.marks
                );
          }

      moves₁ : CanMove rule ws₁ work
      unfolding held queue_of lent_of book_of
      moves₁ =
          record {
            ruled = rule_is ∙ sym (rule_kept kept₁);
            can = can₁;
            few = omega (arith, held_split (queue_of (lent_of ws₁)), kept_eight.at_most);
            room = rw links₁ may.room;
          }

      pub makes_room : CanMakeRoom rule ws₁ work
      unfolding queue_of lent_of
      makes_room =
          record {
            moves = moves₁;
            mark_I = λ e. absurd (omega (arith, w.mark));
            sweeps = λ there. lowest_sweeps ws₁ work moves₁ kept_eight there;
          }

      module _ (ws₂ work₂ : List ℕ) (steps : ℕ) (packs : Bool) (z : MadeRoom ws₁ ws₂ (make_room (queue_of (lent_of ws₁))) work work₂ steps) (packs_is : packs ≡ (make_room (queue_of (lent_of ws₁))).packed) where
        outcome_is : make_room (queue_of (lent_of ws₁)) ≡ inserted entry before
        unfolding inserted
        outcome_is = ap make_room queue₁

        queue₂ : queue_of (lent_of ws₂) ≡ (inserted entry before).queue
        queue₂ = z.queue_is ∙ ap (λ (y : Inserted). y.queue) outcome_is

        sound₂ : sound (book_of ws₂) ≡ true
        unfolding tree_of
        sound₂ = sound_after ws₂ z.array (subst (rules.Kept 7) (sym queue₂) (inserted_kept entry before (shaped ws array_in) kept_seven may.not_full)) z.marks z.mark_I

        pub insert_called : Called ws ws₂ (insert (length work) entry (lent_of ws)) Done 0 steps packs
        insert_called =
            let o = insert_is all_hold in
            accepted_called ws ws₂ (insert (length work) entry (lent_of ws)) accepted 0 steps packs o
            refl refl
            (z.made ∙ ap (λ (y : Inserted). y.steps) outcome_is)
            (packs_is ∙ ap (λ (y : Inserted). y.packed) outcome_is)
            queue₂
            sound₂
            (z.long ∙ kept₁.long)
            (λ p far. let same : words (links_in ws₂) ≤ p = far in z.past p (rw z.links at far) ∙ kept₁.past p (rw links₁ at (rw z.links at far)))
            (λ p u. z.unused p (rw z.links at u) ∙ kept_unused kept₁ p (rw links₁ at (rw z.links at u)))

        pub work_kept : WorkKept (links_in ws) Done work work₂
        unfolding is_done
        work_kept = record { long = z.work_long; past = λ p far. z.work_past p (rw links₁ far); refused = λ e. absurd (subst T e tt) }
