-- "Numbers that come back": each number with the document's "exactly when", for any array, work area and order.
use Rattle.std.specs.Prelude.{ℕ, ◌≤◌, ◌<◌, ◌≡◌, ◌⊎◌, true, false}
use Rattle.rules.specs.Answers.{Answer, Done, NoSuchLinks, ArrayShort, WorkShort, BookBroken, Full, NoneHeld, DoorAbove, OrderBroken}
use Rattle.rules.specs.Entries.{door}
use Rattle.rules.specs.Links.{most_links, most, words}
use Rattle.rules.specs.Tree.{tree_of}
use Rattle.rules.specs.Queue.{key_of, held}
use Rattle.rules.specs.Order.{in_order}
use Rattle.rules.specs.Book.{sound}
use Rattle.rules.specs.Calls.{Lent, queue_of}
use Rattle.rules.specs.Examples.{Order, setup_of, insert_of, take_it, look_at, held_now, audit_it}
use Rattle.demands.specs.Histories.{is_setup}

-- "links not 1 to 4"
abbrev pub NoLinkNumber : ℕ → Type 0
NoLinkNumber l = (l < 1) ⊎ (most_links < l)

-- "2 (296 words), 4 (link number), 2 (its L)" do not fail
pub record Enough (a : Lent) : Type 0 where
  pub shortest : words 1 ≤ a.length
  pub one : 1 ≤ a.book.links
  pub few : a.book.links ≤ most_links
  pub its_own : words a.book.links ≤ a.length

-- "insert 3, 4": an insert's work area is looked at before the book
abbrev pub WorkEnough : ℕ → Order → Lent → Type 0
WorkEnough work (insert_of entry) a = most a.book.links ≤ work
WorkEnough work (setup_of links) a = Unit {0}
WorkEnough work take_it a = Unit {0}
WorkEnough work look_at a = Unit {0}
WorkEnough work held_now a = Unit {0}
WorkEnough work audit_it a = Unit {0}

-- no check fails up to the book's, and the book keeps the book rules
pub record Sound (work : ℕ) (order : Order) (a : Lent) : Type 0 where
  pub enough : Enough a
  pub work_enough : WorkEnough work order a
  pub holds : sound a.book ≡ true

-- what an order answers on a lent array, with so many words of work area
pub data Answers (work : ℕ) (a : Lent) : Order → Answer → Type 0 where
  -- 1 | "setup: links not 1 to 4"
  no_links : (l : ℕ) → NoLinkNumber l → Answers work a (setup_of l) NoSuchLinks
  -- 2 | "array shorter than 296 words, or than its L needs"
  setup_short : (l : ℕ) → 1 ≤ l → l ≤ most_links → a.length < words l → Answers work a (setup_of l) ArrayShort
  short : (order : Order) → is_setup order ≡ false → a.length < words 1 → Answers work a order ArrayShort
  short_for_its_links : (order : Order) → is_setup order ≡ false → words 1 ≤ a.length → 1 ≤ a.book.links → a.book.links ≤ most_links → a.length < words a.book.links
      → Answers work a order ArrayShort
  -- 3 | "insert: work area shorter than H"
  work_short : (entry : ℕ) → Enough a → work < most a.book.links → Answers work a (insert_of entry) WorkShort
  -- 4 | "the book breaks a book rule": its link number, or another
  no_number : (order : Order) → is_setup order ≡ false → words 1 ≤ a.length → NoLinkNumber a.book.links → Answers work a order BookBroken
  broken : (order : Order) → is_setup order ≡ false → Enough a → WorkEnough work order a → sound a.book ≡ false → Answers work a order BookBroken
  -- 5 | "insert: H entries held"
  full : (entry : ℕ) → Sound work (insert_of entry) a → door entry ≤ 2 → most a.book.links ≤ held (queue_of a) → Answers work a (insert_of entry) Full
  -- 6 | "take, look: none held"
  none_to_take : Sound work take_it a → held (queue_of a) ≡ 0 → Answers work a take_it NoneHeld
  none_to_see : Sound work look_at a → held (queue_of a) ≡ 0 → Answers work a look_at NoneHeld
  -- 7 | "insert: door above 2"
  door_above : (entry : ℕ) → Sound work (insert_of entry) a → 2 < door entry → Answers work a (insert_of entry) DoorAbove
  -- 9 | "audit: book sound, order rule broken"
  disordered : Sound work audit_it a → in_order (key_of (queue_of a)) (tree_of a.book.links) a.buffers ≡ false → Answers work a audit_it OrderBroken
  -- 0 | "done"
  setup_done : (l : ℕ) → 1 ≤ l → l ≤ most_links → words l ≤ a.length → Answers work a (setup_of l) Done
  insert_done : (entry : ℕ) → Sound work (insert_of entry) a → door entry ≤ 2 → held (queue_of a) < most a.book.links → Answers work a (insert_of entry) Done
  take_done : Sound work take_it a → 0 < held (queue_of a) → Answers work a take_it Done
  look_done : Sound work look_at a → 0 < held (queue_of a) → Answers work a look_at Done
  held_done : Sound work held_now a → Answers work a held_now Done
  audit_done : Sound work audit_it a → in_order (key_of (queue_of a)) (tree_of a.book.links) a.buffers ≡ true → Answers work a audit_it Done
