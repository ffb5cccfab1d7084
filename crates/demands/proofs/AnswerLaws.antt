-- What the calls of a history answer: nothing that can be done is refused.
use Prim.Native.Nat.{ℕ, ◌+◌, ◌≤◌, ◌<◌}
use mathlib.Core.Path.{◌≡◌, sym, ap, ◌∙◌, subst}
use mathlib.Core.Logic.{◌⊎◌, inl, inr}
use mathlib.Core.Bool.{true, false}
use mathlib.Core.List.{List}
use native.Mathlib.Omega.{arith}
use native.Mathlib.Decide.{dec_lt}
use lib.Dec.{T, eqb}
use Rattle.rules.specs.Answers.{Answer, Done, WorkShort, Full, NoneHeld, DoorAbove, is_done}
use Rattle.rules.specs.Entries.{door}
use Rattle.rules.specs.Links.{most_links, most, words}
use Rattle.rules.specs.Tree.{tree_of}
use Rattle.rules.specs.Take.{insertion}
use Rattle.rules.specs.Queue.{Queue, key_of, held}
use Rattle.rules.specs.Order.{in_order}
use Rattle.rules.specs.Book.{is_link_number}
use Rattle.rules.specs.Calls.{queue_of}
use Rattle.rules.specs.Examples.{Order, insert_of, take_it, look_at, held_now, audit_it, call}
use Rattle.rules.proofs.Weight.{sum_of, one_if}
use Rattle.rules.proofs.Full.{no_entries}
use Rattle.rules.proofs.TakeLaws.{none_weighs}
use Rattle.rules.proofs.Held.{held_split}
use Rattle.rules.proofs.History.{Fine, since_fine, since_ordered}
use Rattle.buffers.specs.Format.{links_in, book_of, lent_of}
use Rattle.queue.proofs.AgreeLaws.{the_answer}
use Rattle.demands.specs.Histories.{Call, Made, accepted, History, since, links, put_in, taken_out, inserts, takes, times, StillHeld}
use Rattle.demands.specs.Exact.{Enough, WorkEnough, Sound, Answers, work_short, door_above, full, insert_done, take_done, look_done, held_done, audit_done, none_to_take, none_to_see}
use Rattle.rules.proofs.Tests.{truth}
use Rattle.rules.specs.Tests.{every}
use Rattle.rules.proofs.Table.{at_least}
use Rattle.rules.proofs.BoundLaws.{is_link}
use Rattle.queue.proofs.CheckLaws.{unlike}
use Rattle.demands.proofs.CallLaws.{times_held, held_word}
use Rattle.demands.proofs.HistoryLaws.{stands}
use Rattle.demands.proofs.SmallestLaws.{times_held_lem, number_held}
use Rattle.demands.proofs.ExactLaws.{exactly}

-- ---- any call on any array

module _ (ws ws' : List ℕ) (c : Call) (made : Made ws c ws') where
  -- the answer is r exactly when the table says so
  pub made_exactly : (r : Answer) → (c.answer ≡ r → Answers c.work (lent_of ws) c.order r) × (Answers c.work (lent_of ws) c.order r → c.answer ≡ r)
  made_exactly r =
      let e = exactly c.work (lent_of ws) c.order r in
      (λ is. e.0 (sym (the_answer made.called) ∙ is), λ s. the_answer made.called ∙ e.1 s)

-- ---- in a history

enough_words : (l : ℕ) → T (is_link_number l) → (1 ≤ l) × (l ≤ most_links) × (words 1 ≤ words l)
unfolding every words
enough_words l number = let link = is_link l number in (link.low, link.high, at_least words (words 1) tt link)

-- nothing held, and nothing weighs
none_times : (q : Queue) → held q ≡ 0 → (v : ℕ) → times_held v q ≡ 0
none_times q none v =
    let split = held_split q in
    let i = no_entries (insertion q.buffers) (omega arith) in
    omega (arith, ap (sum_of (λ e. one_if (eqb v e))) i, none_weighs (λ d e. one_if (eqb v e)) (tree_of q.links) 0 q.buffers (omega arith))

some_held : (q : Queue) (v : ℕ) → 0 < times_held v q → 0 < held q
some_held q v some = go (dec_lt 0 (held q))
  where
    go : Dec (0 < held q) → 0 < held q
    go (yes h) = h
    go (no n) = absurd (omega (arith, none_times q (omega arith) v))

module _ {cs : List Call} {ws : List ℕ} (h : History cs ws) where
  abbrev q : Queue
  q = queue_of (lent_of ws)

  fine : Fine (links cs) q
  fine = since_fine (links cs) (stands h).number (stands h).goes

  same_links : links_in ws ≡ links cs
  unfolding queue_of lent_of book_of
  same_links = fine.same

  pub enough : Enough (lent_of ws)
  unfolding lent_of book_of
  enough =
      let s = stands h in
      let e = enough_words (links cs) s.number in
      rw same_links (record { shortest = omega (arith, e.2, s.long); one = e.0; few = e.1; its_own = s.long })

  pub book_sound : (work : ℕ) (order : Order) → WorkEnough work order (lent_of ws) → Sound work order (lent_of ws)
  unfolding lent_of
  book_sound work order w = record { enough = enough; work_enough = w; holds = (stands h).holds }

  -- what is still held is held in the array
  still : (v : ℕ) → StillHeld v (since cs) → 0 < held q
  still v s = some_held q v (omega (arith, times_held_lem h v))

  empty : held q ≡ 0 → (v : ℕ) → times v (taken_out (since cs)) ≡ times v (put_in (since cs))
  empty none v = omega (arith, times_held_lem h v, none_times q none v)

  in_order_lem : in_order (key_of q) (tree_of (links_in ws)) q.buffers ≡ true
  unfolding queue_of lent_of book_of
  in_order_lem = truth (in_order (key_of q) (tree_of (links_in ws)) q.buffers) (since_ordered (links cs) (stands h).number (stands h).goes)

  -- as many out as in: each entry exactly as often
  pub all_out : takes (since cs) ≡ inserts (since cs) → (v : ℕ) → times v (taken_out (since cs)) ≡ times v (put_in (since cs))
  all_out e v = empty (omega (arith, number_held h)) v

  -- never more than H
  pub at_most : inserts (since cs) ≤ takes (since cs) + most (links cs)
  at_most = omega (arith, number_held h, fine.kept.at_most, held_split q, ap most fine.same)

  -- the next call
  module _ (ws' : List ℕ) (c : Call) (made : Made ws c ws') where
    -- its answer is what the table says
    told : (order : Order) (r : Answer) → c.order ≡ order → Answers c.work (lent_of ws) order r → c.answer ≡ r
    told order r is s = (made_exactly ws ws' c made r).1 (subst (λ order. Answers c.work (lent_of ws) order r) (sym is) s)

    pub take_answers : c.order ≡ take_it → (0 < held q → c.answer ≡ Done) × (held q ≡ 0 → c.answer ≡ NoneHeld)
    take_answers is =
        let so = book_sound c.work take_it tt in
        (λ some. told take_it Done is (take_done so some), λ none. told take_it NoneHeld is (none_to_take so none))

    pub look_answers : c.order ≡ look_at → (0 < held q → c.answer ≡ Done) × (held q ≡ 0 → c.answer ≡ NoneHeld)
    look_answers is =
        let so = book_sound c.work look_at tt in
        (λ some. told look_at Done is (look_done so some), λ none. told look_at NoneHeld is (none_to_see so none))

    -- a take of what is still held is accepted
    pub take_accepted : c.order ≡ take_it → (v : ℕ) → StillHeld v (since cs) → c.answer ≡ Done
    take_accepted is v s = (take_answers is).0 (still v s)

    pub look_accepted : c.order ≡ look_at → (v : ℕ) → StillHeld v (since cs) → c.answer ≡ Done
    look_accepted is v s = (look_answers is).0 (still v s)

    -- all has come out, exactly as often as it was put in, and the answer is 6
    abbrev EmptyNow : Type 0
    EmptyNow = (c.answer ≡ NoneHeld) × ((v : ℕ) → times v (taken_out (since cs)) ≡ times v (put_in (since cs)))

    -- a take or look is refused only there
    only_empty : (0 < held q → c.answer ≡ Done) × (held q ≡ 0 → c.answer ≡ NoneHeld) → accepted c ≡ false → EmptyNow
    unfolding is_done
    only_empty answers refusal = go (dec_lt 0 (held q))
      where
        go : Dec (0 < held q) → EmptyNow
        go (yes some) = absurd (unlike (sym (ap is_done (answers.0 some)) ∙ refusal))
        go (no n) = let none : held q ≡ 0 = omega arith in (answers.1 none, empty none)

    pub refused_empty : c.order ≡ take_it → accepted c ≡ false → EmptyNow
    refused_empty is = only_empty (take_answers is)

    pub refused_look : c.order ≡ look_at → accepted c ≡ false → EmptyNow
    refused_look is = only_empty (look_answers is)

    -- held says how many were put in and not handed out
    pub held_counts : c.order ≡ held_now → (c.answer ≡ Done) × (takes (since cs) + c.word ≡ inserts (since cs))
    unfolding call is_done
    held_counts is =
        let done : c.answer ≡ Done = told held_now Done is (held_done (book_sound c.work held_now tt)) in
        let same = ap (λ order. call c.work order (lent_of ws)) is in
        let d = subst T (ap is_done (sym done ∙ the_answer made.called ∙ ap (λ o. o.answer) same)) tt in
        let word : c.word ≡ held q = made.called.word_is ∙ ap (λ o. o.word) same ∙ held_word (lent_of ws) d in
        (done, omega (arith, number_held h))

    -- an audit finds nothing
    pub audit_done_now : c.order ≡ audit_it → c.answer ≡ Done
    unfolding queue_of lent_of book_of
    audit_done_now is = told audit_it Done is (audit_done (book_sound c.work audit_it tt) in_order_lem)

    -- an insert that has its work area and a known door is accepted while fewer than H are held
    pub insert_accepted : (entry : ℕ) → c.order ≡ insert_of entry → most (links cs) ≤ c.work → door entry ≤ 2 → inserts (since cs) < takes (since cs) + most (links cs) → c.answer ≡ Done
    unfolding lent_of book_of
    insert_accepted entry is room low less =
        let room' : most (links_in ws) ≤ c.work = rw same_links room in
        let so = book_sound c.work (insert_of entry) room' in
        let fewer : held q < most (links_in ws) = omega (arith, ap most same_links, number_held h) in
        told (insert_of entry) Done is (insert_done entry so low fewer)

    -- without its work area it is refused with 3, else for its door with 7
    pub insert_short : (entry : ℕ) → c.order ≡ insert_of entry → c.work < most (links cs) → c.answer ≡ WorkShort
    unfolding lent_of book_of
    insert_short entry is short =
        let short' : c.work < most (links_in ws) = rw same_links short in
        told (insert_of entry) WorkShort is (work_short entry enough short')

    pub insert_door : (entry : ℕ) → c.order ≡ insert_of entry → most (links cs) ≤ c.work → 2 < door entry → c.answer ≡ DoorAbove
    unfolding lent_of book_of
    insert_door entry is room above =
        let room' : most (links_in ws) ≤ c.work = rw same_links room in
        told (insert_of entry) DoorAbove is (door_above entry (book_sound c.work (insert_of entry) room') above)

    -- and refused with 5 where H are held
    pub insert_full : (entry : ℕ) → c.order ≡ insert_of entry → most (links cs) ≤ c.work → door entry ≤ 2 → inserts (since cs) ≡ takes (since cs) + most (links cs) → c.answer ≡ Full
    unfolding lent_of book_of
    insert_full entry is room low all =
        let room' : most (links_in ws) ≤ c.work = rw same_links room in
        let so = book_sound c.work (insert_of entry) room' in
        let all' : most (links_in ws) ≤ held q = omega (arith, ap most same_links, number_held h) in
        told (insert_of entry) Full is (full entry so low all')

    -- why an insert is refused
    pub refused_insert : (entry : ℕ) → c.order ≡ insert_of entry → accepted c ≡ false
        → (c.work < most (links cs)) ⊎ (2 < door entry) ⊎ (inserts (since cs) ≡ takes (since cs) + most (links cs))
    unfolding is_done
    refused_insert entry is refusal = go (dec_lt c.work (most (links cs))) (dec_lt 2 (door entry)) (dec_lt (inserts (since cs)) (takes (since cs) + most (links cs)))
      where
        go : Dec (c.work < most (links cs)) → Dec (2 < door entry) → Dec (inserts (since cs) < takes (since cs) + most (links cs))
            → (c.work < most (links cs)) ⊎ (2 < door entry) ⊎ (inserts (since cs) ≡ takes (since cs) + most (links cs))
        go (yes short) d f = inl short
        go (no long) (yes above) f = inr (inl above)
        go (no long) (no low) (no many) = inr (inr (omega (arith, at_most)))
        go (no long) (no low) (yes few) = absurd (unlike (sym (ap is_done (insert_accepted entry is (omega arith) (omega arith) few)) ∙ refusal))
