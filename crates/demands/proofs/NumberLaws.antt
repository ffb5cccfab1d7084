-- One theorem for each number that a call is refused with: a call c, made on any words ws, answers it exactly when the document says.
use Prim.Native.Nat.{ℕ, ◌≤◌, ◌<◌}
use mathlib.Core.Path.{◌≡◌, refl, sym, subst}
use mathlib.Core.Logic.{◌⊎◌, inl, inr}
use mathlib.Core.Bool.{false}
use mathlib.Core.List.{List}
use Rattle.rules.specs.Answers.{Answer, NoSuchLinks, ArrayShort, WorkShort, BookBroken, Full, NoneHeld, DoorAbove, OrderBroken}
use Rattle.rules.specs.Entries.{door}
use Rattle.rules.specs.Links.{most_links, most, words}
use Rattle.rules.specs.Tree.{tree_of}
use Rattle.rules.specs.Queue.{key_of, held}
use Rattle.rules.specs.Order.{in_order}
use Rattle.rules.specs.Book.{sound}
use Rattle.rules.specs.Calls.{Lent, queue_of}
use Rattle.rules.specs.Examples.{Order, setup_of, insert_of, take_it, look_at, audit_it}
use Rattle.buffers.specs.Format.{lent_of}
use Rattle.demands.specs.Histories.{Call, Made, is_setup}
use Rattle.demands.specs.Exact.{NoLinkNumber, Enough, WorkEnough, Sound, Answers, no_links, setup_short, short, short_for_its_links, work_short, no_number, broken, full, none_to_take, none_to_see, door_above, disordered}
use Rattle.demands.proofs.AnswerLaws.{made_exactly}

-- ---- when

module _ (work : ℕ) (order : Order) (a : Lent) where
  abbrev L : ℕ
  L = a.book.links

  -- 1 | "setup: links not 1 to 4"
  abbrev pub WhenOne : Type 0
  WhenOne = (l : ℕ) × (order ≡ setup_of l) × NoLinkNumber l

  -- 2 | "array shorter than 296 words, or than its L needs": a setup's L is the one ordered, any other call's the book's
  abbrev pub WhenTwo : Type 0
  WhenTwo =
      ((l : ℕ) × (order ≡ setup_of l) × (1 ≤ l) × (l ≤ most_links) × (a.length < words l))
      ⊎ ((is_setup order ≡ false) × ((a.length < words 1) ⊎ ((words 1 ≤ a.length) × (1 ≤ L) × (L ≤ most_links) × (a.length < words L))))

  -- 3 | "insert: work area shorter than H"
  abbrev pub WhenThree : Type 0
  WhenThree = (e : ℕ) × (order ≡ insert_of e) × Enough a × (work < most L)

  -- 4 | "the book breaks a book rule": its link number, or another
  abbrev pub WhenFour : Type 0
  WhenFour = (is_setup order ≡ false) × (((words 1 ≤ a.length) × NoLinkNumber L) ⊎ (Enough a × WorkEnough work order a × (sound a.book ≡ false)))

  -- 5 | "insert: H entries held"
  abbrev pub WhenFive : Type 0
  WhenFive = (e : ℕ) × (order ≡ insert_of e) × Sound work (insert_of e) a × (door e ≤ 2) × (most L ≤ held (queue_of a))

  -- 6 | "take, look: none held"
  abbrev pub WhenSix : Type 0
  WhenSix = ((order ≡ take_it) × Sound work take_it a × (held (queue_of a) ≡ 0)) ⊎ ((order ≡ look_at) × Sound work look_at a × (held (queue_of a) ≡ 0))

  -- 7 | "insert: door above 2"
  abbrev pub WhenSeven : Type 0
  WhenSeven = (e : ℕ) × (order ≡ insert_of e) × Sound work (insert_of e) a × (2 < door e)

  -- 9 | "audit: book sound, order rule broken"
  abbrev pub WhenNine : Type 0
  WhenNine = (order ≡ audit_it) × Sound work audit_it a × (in_order (key_of (queue_of a)) (tree_of L) a.buffers ≡ false)

-- ---- the rows of the table

module _ (work : ℕ) (a : Lent) where
  at : {order order' : Order} (r : Answer) → order ≡ order' → Answers work a order' r → Answers work a order r
  at r e s = subst (λ order. Answers work a order r) (sym e) s

  one : {order : Order} → Answers work a order NoSuchLinks → WhenOne work order a
  one (no_links l none) = (l, refl, none)

  two : {order : Order} → Answers work a order ArrayShort → WhenTwo work order a
  two (setup_short l low high less) = inl (l, refl, low, high, less)
  two (short order other less) = inr (other, inl less)
  two (short_for_its_links order other long low high less) = inr (other, inr (long, low, high, less))

  two_back : {order : Order} → WhenTwo work order a → Answers work a order ArrayShort
  two_back (inl (l, e, low, high, less)) = at ArrayShort e (setup_short l low high less)
  two_back {order} (inr (other, inl less)) = short order other less
  two_back {order} (inr (other, inr (long, low, high, less))) = short_for_its_links order other long low high less

  three : {order : Order} → Answers work a order WorkShort → WhenThree work order a
  three (work_short e enough less) = (e, refl, enough, less)

  four : {order : Order} → Answers work a order BookBroken → WhenFour work order a
  four (no_number order other long none) = (other, inl (long, none))
  four (broken order other enough room breaks) = (other, inr (enough, room, breaks))

  four_back : {order : Order} → WhenFour work order a → Answers work a order BookBroken
  four_back {order} (other, inl (long, none)) = no_number order other long none
  four_back {order} (other, inr (enough, room, breaks)) = broken order other enough room breaks

  five : {order : Order} → Answers work a order Full → WhenFive work order a
  five (full e so low all) = (e, refl, so, low, all)

  six : {order : Order} → Answers work a order NoneHeld → WhenSix work order a
  six (none_to_take so none) = inl (refl, so, none)
  six (none_to_see so none) = inr (refl, so, none)

  six_back : {order : Order} → WhenSix work order a → Answers work a order NoneHeld
  six_back (inl (e, so, none)) = at NoneHeld e (none_to_take so none)
  six_back (inr (e, so, none)) = at NoneHeld e (none_to_see so none)

  seven : {order : Order} → Answers work a order DoorAbove → WhenSeven work order a
  seven (door_above e so above) = (e, refl, so, above)

  nine : {order : Order} → Answers work a order OrderBroken → WhenNine work order a
  nine (disordered so breaks) = (refl, so, breaks)

-- ---- the numbers

module _ (ws ws' : List ℕ) (c : Call) (made : Made ws c ws') where
  abbrev a : Lent
  a = lent_of ws

  -- the call answers r exactly then
  abbrev Exactly : Answer → Type 0 → Type 0
  Exactly r When = (c.answer ≡ r → When) × (When → c.answer ≡ r)

  by_row : (r : Answer) (When : Type 0) → (Answers c.work a c.order r → When) → (When → Answers c.work a c.order r) → Exactly r When
  by_row r When there back = let e = made_exactly ws ws' c made r in (λ is. there (e.0 is), λ w. e.1 (back w))

  pub number_one : Exactly NoSuchLinks (WhenOne c.work c.order a)
  number_one = by_row NoSuchLinks (WhenOne c.work c.order a) (one c.work a) (λ w. at c.work a NoSuchLinks w.1 (no_links w.0 w.2))

  pub number_two : Exactly ArrayShort (WhenTwo c.work c.order a)
  number_two = by_row ArrayShort (WhenTwo c.work c.order a) (two c.work a) (two_back c.work a)

  pub number_three : Exactly WorkShort (WhenThree c.work c.order a)
  number_three = by_row WorkShort (WhenThree c.work c.order a) (three c.work a) (λ w. at c.work a WorkShort w.1 (work_short w.0 w.2 w.3))

  pub number_four : Exactly BookBroken (WhenFour c.work c.order a)
  number_four = by_row BookBroken (WhenFour c.work c.order a) (four c.work a) (four_back c.work a)

  pub number_five : Exactly Full (WhenFive c.work c.order a)
  number_five = by_row Full (WhenFive c.work c.order a) (five c.work a) (λ w. at c.work a Full w.1 (full w.0 w.2 w.3 w.4))

  pub number_six : Exactly NoneHeld (WhenSix c.work c.order a)
  number_six = by_row NoneHeld (WhenSix c.work c.order a) (six c.work a) (six_back c.work a)

  pub number_seven : Exactly DoorAbove (WhenSeven c.work c.order a)
  number_seven = by_row DoorAbove (WhenSeven c.work c.order a) (seven c.work a) (λ w. at c.work a DoorAbove w.1 (door_above w.0 w.2 w.3))

  pub number_nine : Exactly OrderBroken (WhenNine c.work c.order a)
  number_nine = by_row OrderBroken (WhenNine c.work c.order a) (nine c.work a) (λ w. at c.work a OrderBroken w.0 (disordered w.1 w.2))
