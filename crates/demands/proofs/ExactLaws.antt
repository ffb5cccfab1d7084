-- Each call answers each number exactly when the document says.
use Prim.Native.Nat.{ℕ, ◌≤◌, ◌<◌}
use mathlib.Core.Path.{◌≡◌, refl, sym, ap, ◌∙◌, subst}
use mathlib.Core.Logic.{inl, inr}
use mathlib.Core.Bool.{Bool, true, false}
use mathlib.Core.List.{List, [], ◌∷◌}
use native.Mathlib.Omega.{arith}
use borrow.Author.Tests.{leb-true, leb-false, ltb-true, ltb-false, le-leb, lt-leb, lt-ltb, le-ltb}
use lib.Dec.{T, leb, ltb}
use Rattle.rules.specs.Answers.{Answer, Done, NoSuchLinks, ArrayShort, WorkShort, BookBroken, Full, NoneHeld, DoorAbove, OrderBroken, NotAFrame, is_done}
use Rattle.rules.specs.Entries.{door}
use Rattle.rules.specs.Links.{most, words, most_links}
use Rattle.rules.specs.Tree.{tree_of}
use Rattle.rules.specs.Queue.{Queue, key_of, held}
use Rattle.rules.specs.Order.{in_order}
use Rattle.rules.specs.Book.{is_link_number, sound}
use Rattle.rules.specs.Calls.{Lent, Outcome, Check, ◌else◌, first_failing, refused, unless, array_checks, take_checks, queue_of, setup, insert_checks, insert, take, look, held_call, audit}
use Rattle.rules.specs.Examples.{Order, setup_of, insert_of, take_it, look_at, held_now, audit_it, call}
use Rattle.demands.specs.Histories.{is_setup}
use Rattle.demands.specs.Exact.{NoLinkNumber, Enough, WorkEnough, Sound, Answers, no_links, setup_short, short, short_for_its_links, work_short, no_number, broken, full, none_to_take, none_to_see, door_above, disordered, setup_done, insert_done, take_done, look_done, held_done, audit_done}

-- ---- checks

module _ (refusal : Answer) (checks : List Check) where
  passes : {holds : Bool} → holds ≡ true → first_failing ((holds else refusal) ∷ checks) ≡ first_failing checks
  unfolding first_failing
  passes e = rw e refl

  fails : {holds : Bool} → holds ≡ false → first_failing ((holds else refusal) ∷ checks) ≡ refusal
  unfolding first_failing
  fails e = rw e refl

  by_check : (P : Answer → Type 0) (holds : Bool) → (holds ≡ true → P (first_failing checks)) → (holds ≡ false → P refusal) → P (first_failing ((holds else refusal) ∷ checks))
  unfolding first_failing
  by_check P true yes_case no_case = yes_case refl
  by_check P false yes_case no_case = no_case refl

-- ---- the answer is that of the first check that fails

is_done_lem : (x : Answer) → is_done x ≡ true → x ≡ Done
unfolding is_done
is_done_lem Done e = refl
is_done_lem NoSuchLinks e = absurd (subst T (sym e) tt)
is_done_lem ArrayShort e = absurd (subst T (sym e) tt)
is_done_lem WorkShort e = absurd (subst T (sym e) tt)
is_done_lem BookBroken e = absurd (subst T (sym e) tt)
is_done_lem Full e = absurd (subst T (sym e) tt)
is_done_lem NoneHeld e = absurd (subst T (sym e) tt)
is_done_lem DoorAbove e = absurd (subst T (sym e) tt)
is_done_lem OrderBroken e = absurd (subst T (sym e) tt)
is_done_lem NotAFrame e = absurd (subst T (sym e) tt)

unless_answers : (failing : Answer) (q : Queue) (accepted : Outcome) → accepted.answer ≡ Done → (unless failing q accepted).answer ≡ failing
unfolding unless refused
unless_answers failing q accepted done = go (is_done failing) refl
  where
    go : (b : Bool) → is_done failing ≡ b → (elim b as (λ b. Outcome) [ true ↦ accepted | false ↦ refused failing q ]).answer ≡ failing
    go true e = done ∙ sym (is_done_lem failing e)
    go false e = refl

-- "Checks run: setup 1, 2; all others: 2 (296 words), 4 (link number), 2 (its L), then insert 3, 4, 7, 5 [..]; take and look 4, 6; held 4; audit 4, 9."
pub checks_of : ℕ → Order → Lent → List Check
checks_of work (setup_of l) a = (is_link_number l else NoSuchLinks) ∷ (leb (words l) a.length else ArrayShort) ∷ []
checks_of work (insert_of entry) a = insert_checks work entry a
checks_of work take_it a = take_checks a
checks_of work look_at a = take_checks a
checks_of work held_now a = array_checks a ((sound a.book else BookBroken) ∷ [])
checks_of work audit_it a = array_checks a ((sound a.book else BookBroken) ∷ (in_order (key_of (queue_of a)) (tree_of a.book.links) a.buffers else OrderBroken) ∷ [])

pub answer_is : (work : ℕ) (order : Order) (a : Lent) → (call work order a).answer ≡ first_failing (checks_of work order a)
unfolding call setup insert take take_checks look held_call audit checks_of queue_of
answer_is work (setup_of l) a = unless_answers (first_failing (checks_of work (setup_of l) a)) (queue_of a) _ refl
answer_is work (insert_of entry) a = unless_answers (first_failing (checks_of work (insert_of entry) a)) (queue_of a) _ refl
answer_is work take_it a = unless_answers (first_failing (checks_of work take_it a)) (queue_of a) _ refl
answer_is work look_at a = unless_answers (first_failing (checks_of work look_at a)) (queue_of a) _ refl
answer_is work held_now a = unless_answers (first_failing (checks_of work held_now a)) (queue_of a) _ refl
answer_is work audit_it a = unless_answers (first_failing (checks_of work audit_it a)) (queue_of a) _ refl

-- ---- "links not 1 to 4"

module _ (l : ℕ) where
  number_holds : 1 ≤ l → l ≤ most_links → is_link_number l ≡ true
  unfolding is_link_number
  number_holds one few = rw (le-leb 1 l one, le-leb l most_links few) refl

  number_fails : NoLinkNumber l → is_link_number l ≡ false
  unfolding is_link_number
  number_fails (inl less) = rw (lt-leb 1 l less) refl
  number_fails (inr more) = let one : 1 ≤ l = omega arith in rw (le-leb 1 l one, lt-leb l most_links more) refl

  by_number : (P : Type 0) → (b : Bool) → is_link_number l ≡ b → (b ≡ true → 1 ≤ l → l ≤ most_links → P) → (b ≡ false → NoLinkNumber l → P) → P
  unfolding is_link_number
  by_number P b is yes_case no_case = go (leb 1 l) (leb l most_links) refl refl
    where
      go : (x y : Bool) → leb 1 l ≡ x → leb l most_links ≡ y → P
      go false y ex ey = no_case (sym is ∙ rw ex refl) (inl (leb-false 1 l ex))
      go true false ex ey = no_case (sym is ∙ rw (ex, ey) refl) (inr (leb-false l most_links ey))
      go true true ex ey = yes_case (sym is ∙ rw (ex, ey) refl) (leb-true 1 l ex) (leb-true l most_links ey)

-- ---- the checks that all calls but setup begin with

module _ (a : Lent) (checks : List Check) where
  abbrev third : List Check
  third = (leb (words a.book.links) a.length else ArrayShort) ∷ checks

  abbrev second : List Check
  second = (is_link_number a.book.links else BookBroken) ∷ third

  array_passes : Enough a → first_failing (array_checks a checks) ≡ first_failing checks
  unfolding array_checks words
  array_passes e =
      passes ArrayShort second (le-leb (words 1) a.length e.shortest)
      ∙ passes BookBroken third (number_holds a.book.links e.one e.few)
      ∙ passes ArrayShort checks (le-leb (words a.book.links) a.length e.its_own)

  array_short : a.length < words 1 → first_failing (array_checks a checks) ≡ ArrayShort
  unfolding array_checks words
  array_short less = fails ArrayShort second (lt-leb (words 1) a.length less)

  array_no_number : words 1 ≤ a.length → NoLinkNumber a.book.links → first_failing (array_checks a checks) ≡ BookBroken
  unfolding array_checks words
  array_no_number long other = passes ArrayShort second (le-leb (words 1) a.length long) ∙ fails BookBroken third (number_fails a.book.links other)

  array_short_for : words 1 ≤ a.length → 1 ≤ a.book.links → a.book.links ≤ most_links → a.length < words a.book.links → first_failing (array_checks a checks) ≡ ArrayShort
  unfolding array_checks words
  array_short_for long one few less =
      passes ArrayShort second (le-leb (words 1) a.length long)
      ∙ passes BookBroken third (number_holds a.book.links one few)
      ∙ fails ArrayShort checks (lt-leb (words a.book.links) a.length less)

  -- each call but setup, once for all
  by_array : (work : ℕ) (order : Order) → is_setup order ≡ false → (Enough a → Answers work a order (first_failing checks)) → Answers work a order (first_failing (array_checks a checks))
  unfolding array_checks words
  by_array work order other rest =
      let P = Answers work a order in
      let l = a.book.links in
      by_check ArrayShort second P (leb (words 1) a.length)
      (λ long. by_check BookBroken third P (is_link_number l)
      (λ number. by_number l (P (first_failing third)) true number
      (λ e one few. by_check ArrayShort checks P (leb (words l) a.length)
      (λ own. rest (record { shortest = leb-true (words 1) a.length long; one = one; few = few; its_own = leb-true (words l) a.length own }))
      (λ own. short_for_its_links order other (leb-true (words 1) a.length long) one few (leb-false (words l) a.length own)))
      (λ e none. absurd (subst T e tt)))
      (λ number. by_number l (P BookBroken) false number
      (λ e one few. absurd (subst T (sym e) tt))
      (λ e none. no_number order other (leb-true (words 1) a.length long) none)))
      (λ long. short order other (leb-false (words 1) a.length long))

-- ---- each call has an answer of the table

module _ (work : ℕ) (a : Lent) where
  abbrev Says : Order → Answer → Type 0
  Says order = Answers work a order

  abbrev H : ℕ
  H = most a.book.links

  abbrev count : ℕ
  count = held (queue_of a)

  says_setup : (l : ℕ) → Says (setup_of l) (first_failing (checks_of work (setup_of l) a))
  unfolding checks_of first_failing insert_checks take_checks queue_of
  says_setup l =
      let P = Says (setup_of l) in
      let last = (leb (words l) a.length else ArrayShort) ∷ [] in
      by_check NoSuchLinks last P (is_link_number l)
      (λ number. by_number l (P (first_failing last)) true number
      (λ e one few. by_check ArrayShort [] P (leb (words l) a.length)
      (λ own. setup_done l one few (leb-true (words l) a.length own))
      (λ own. setup_short l one few (leb-false (words l) a.length own)))
      (λ e none. absurd (subst T e tt)))
      (λ number. by_number l (P NoSuchLinks) false number (λ e one few. absurd (subst T (sym e) tt)) (λ e none. no_links l none))

  says_insert : (entry : ℕ) → Says (insert_of entry) (first_failing (checks_of work (insert_of entry) a))
  unfolding checks_of first_failing insert_checks take_checks queue_of
  says_insert entry =
      let order = insert_of entry in
      let P = Says order in
      let c₄ = (ltb count H else Full) ∷ [] in
      let c₃ = (leb (door entry) 2 else DoorAbove) ∷ c₄ in
      let c₂ = (sound a.book else BookBroken) ∷ c₃ in
      by_array a ((leb H work else WorkShort) ∷ c₂) work order refl (λ enough.
      by_check WorkShort c₂ P (leb H work)
      (λ w. let room = leb-true H work w in
      by_check BookBroken c₃ P (sound a.book)
      (λ holds. let so : Sound work order a = record { enough = enough; work_enough = room; holds = holds } in
      by_check DoorAbove c₄ P (leb (door entry) 2)
      (λ d. let low = leb-true (door entry) 2 d in
      by_check Full [] P (ltb count H) (λ f. insert_done entry so low (ltb-true count H f)) (λ f. full entry so low (ltb-false count H f)))
      (λ d. door_above entry so (leb-false (door entry) 2 d)))
      (λ holds. broken order refl enough room holds))
      (λ w. work_short entry enough (leb-false H work w)))

  -- the calls without a work area: the book's check, and those behind it
  by_book : (order : Order) → is_setup order ≡ false → WorkEnough work order a → (behind : List Check) → (Sound work order a → Says order (first_failing behind))
      → Says order (first_failing (array_checks a ((sound a.book else BookBroken) ∷ behind)))
  by_book order other room behind further =
      by_array a ((sound a.book else BookBroken) ∷ behind) work order other (λ enough.
      by_check BookBroken behind (Says order) (sound a.book)
      (λ holds. further (record { enough = enough; work_enough = room; holds = holds }))
      (λ holds. broken order other enough room holds))

  -- "take and look 4, 6"
  by_held : (order : Order) → is_setup order ≡ false → WorkEnough work order a → (Sound work order a → 0 < count → Says order Done) → (Sound work order a → count ≡ 0 → Says order NoneHeld)
      → Says order (first_failing (take_checks a))
  unfolding take_checks first_failing
  by_held order other room some none =
      by_book order other room ((ltb 0 count else NoneHeld) ∷ []) (λ so.
      by_check NoneHeld [] (Says order) (ltb 0 count) (λ e. some so (ltb-true 0 count e)) (λ e. none so (omega (arith, ltb-false 0 count e))))

  says : (order : Order) → Says order (first_failing (checks_of work order a))
  unfolding checks_of first_failing
  says (setup_of l) = says_setup l
  says (insert_of entry) = says_insert entry
  says take_it = by_held take_it refl tt take_done none_to_take
  says look_at = by_held look_at refl tt look_done none_to_see
  says held_now = by_book held_now refl tt [] held_done
  says audit_it =
      let order = in_order (key_of (queue_of a)) (tree_of a.book.links) a.buffers in
      by_book audit_it refl tt ((order else OrderBroken) ∷ []) (λ so. by_check OrderBroken [] (Says audit_it) order (audit_done so) (disordered so))

  -- ---- and no other

  -- the checks behind those of the array
  rest : Order → List Check
  rest (setup_of l) = []
  rest (insert_of entry) =
      (leb H work else WorkShort) ∷ (sound a.book else BookBroken) ∷ (leb (door entry) 2 else DoorAbove) ∷ (ltb count H else Full) ∷ []
  rest take_it = (sound a.book else BookBroken) ∷ (ltb 0 count else NoneHeld) ∷ []
  rest look_at = (sound a.book else BookBroken) ∷ (ltb 0 count else NoneHeld) ∷ []
  rest held_now = (sound a.book else BookBroken) ∷ []
  rest audit_it = (sound a.book else BookBroken) ∷ (in_order (key_of (queue_of a)) (tree_of a.book.links) a.buffers else OrderBroken) ∷ []

  splits : (order : Order) → is_setup order ≡ false → checks_of work order a ≡ array_checks a (rest order)
  unfolding checks_of rest insert_checks take_checks queue_of
  splits (setup_of l) e = absurd (subst T e tt)
  splits (insert_of entry) e = refl
  splits take_it e = refl
  splits look_at e = refl
  splits held_now e = refl
  splits audit_it e = refl

  broken_rest : (order : Order) → is_setup order ≡ false → WorkEnough work order a → sound a.book ≡ false → first_failing (rest order) ≡ BookBroken
  unfolding rest first_failing
  broken_rest (setup_of l) e w s = absurd (subst T e tt)
  broken_rest (insert_of entry) e w s = rw (le-leb H work w, s) refl
  broken_rest take_it e w s = rw s refl
  broken_rest look_at e w s = rw s refl
  broken_rest held_now e w s = rw s refl
  broken_rest audit_it e w s = rw s refl

  first_is : (order : Order) → is_setup order ≡ false → Enough a → first_failing (checks_of work order a) ≡ first_failing (rest order)
  first_is order other e = ap first_failing (splits order other) ∙ array_passes a (rest order) e

  only : {order : Order} {r : Answer} → Says order r → first_failing (checks_of work order a) ≡ r
  unfolding checks_of rest first_failing
  only (no_links l none) = rw (number_fails l none) refl
  only (setup_short l one few less) = rw (number_holds l one few, lt-leb (words l) a.length less) refl
  only (short order other less) = ap first_failing (splits order other) ∙ array_short a (rest order) less
  only (short_for_its_links order other long one few less) = ap first_failing (splits order other) ∙ array_short_for a (rest order) long one few less
  only (work_short entry e less) = first_is (insert_of entry) refl e ∙ rw (lt-leb H work less) refl
  only (no_number order other long none) = ap first_failing (splits order other) ∙ array_no_number a (rest order) long none
  only (broken order other e w s) = first_is order other e ∙ broken_rest order other w s
  only (full entry so d f) = first_is (insert_of entry) refl so.enough ∙ rw (le-leb H work so.work_enough, so.holds, le-leb (door entry) 2 d, le-ltb count H f) refl
  only (none_to_take so none) = first_is take_it refl so.enough ∙ rw (so.holds, none) refl
  only (none_to_see so none) = first_is look_at refl so.enough ∙ rw (so.holds, none) refl
  only (door_above entry so d) = first_is (insert_of entry) refl so.enough ∙ rw (le-leb H work so.work_enough, so.holds, lt-leb (door entry) 2 d) refl
  only (disordered so e) = first_is audit_it refl so.enough ∙ rw (so.holds, e) refl
  only (setup_done l one few own) = rw (number_holds l one few, le-leb (words l) a.length own) refl
  only (insert_done entry so d f) = first_is (insert_of entry) refl so.enough ∙ rw (le-leb H work so.work_enough, so.holds, le-leb (door entry) 2 d, lt-ltb count H f) refl
  only (take_done so some) = first_is take_it refl so.enough ∙ rw (so.holds, lt-ltb 0 count some) refl
  only (look_done so some) = first_is look_at refl so.enough ∙ rw (so.holds, lt-ltb 0 count some) refl
  only (held_done so) = first_is held_now refl so.enough ∙ rw so.holds refl
  only (audit_done so e) = first_is audit_it refl so.enough ∙ rw (so.holds, e) refl

  -- the answer stands in the table, and what stands in the table is the answer
  pub exactly : (order : Order) (r : Answer) → ((call work order a).answer ≡ r → Answers work a order r) × (Answers work a order r → (call work order a).answer ≡ r)
  exactly order r = (λ e. subst (Answers work a order) (sym (answer_is work order a) ∙ e) (says order), λ s. answer_is work order a ∙ only s)
