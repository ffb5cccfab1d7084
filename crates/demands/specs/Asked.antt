-- Demands 2 and 3 and how long a call can run, asked of a list of calls, the latest first, by what was ordered, lent and answered: of calls that were made, of those that a session's lines tell, of those by the library.
use Rattle.std.specs.Prelude.{ℕ, ◌+◌, ◌/◌, ◌≤◌, ◌<◌, ◌≡◌, true, false, List, ◌∷◌, ◌++◌}
use Rattle.rules.specs.Answers.{Done, WorkShort, Full, NoneHeld, DoorAbove}
use Rattle.rules.specs.Entries.{door}
use Rattle.rules.specs.Links.{s, most_links, most}
use Rattle.rules.specs.Bounds.{steps_bound}
use Rattle.rules.specs.Longest.{longest_call}
use Rattle.rules.specs.Examples.{insert_of, take_it, look_at, held_now, audit_it, call}
use Rattle.buffers.specs.Format.{lent_of}
use Rattle.demands.specs.Histories.{Call, accepted, Sequence, has_setup, since, links, put_in, taken_out, inserts, takes, steps, times, StillHeld, Smallest}

-- each entry has come out as often as it was put in
abbrev AsOften : List Call → Type 0
AsOften now = (v : ℕ) → times v (taken_out now) ≡ times v (put_in now)

-- of a call after these calls, all since a setup of l links
pub record EachCall (c : Call) (earlier : List Call) (l : ℕ) : Type 0 where
  -- "After the last accepted setup, each take hands out the smallest entry put in and still held"
  pub take_smallest : c.order ≡ take_it → accepted c ≡ true → Smallest c.word earlier
  -- "Look does the same and removes nothing."
  pub look_smallest : c.order ≡ look_at → accepted c ≡ true → Smallest c.word earlier
  -- while something is still held, both are accepted
  pub take_accepted : c.order ≡ take_it → (v : ℕ) → StillHeld v earlier → c.answer ≡ Done
  pub look_accepted : c.order ≡ look_at → (v : ℕ) → StillHeld v earlier → c.answer ≡ Done
  -- "once the queue is empty, exactly as often": a take or look is refused only then, and with 6
  pub take_refused : c.order ≡ take_it → accepted c ≡ false → (c.answer ≡ NoneHeld) × AsOften earlier
  pub look_refused : c.order ≡ look_at → accepted c ≡ false → (c.answer ≡ NoneHeld) × AsOften earlier
  -- an insert with its work area and a known door is accepted while fewer than H are held
  pub insert_accepted : (e : ℕ) → c.order ≡ insert_of e → most l ≤ c.work → door e ≤ 2 → inserts earlier < takes earlier + most l → c.answer ≡ Done
  -- and refused for nothing else: without its work area with 3, else for its door with 7, else where H are held with 5
  pub insert_short : (e : ℕ) → c.order ≡ insert_of e → c.work < most l → c.answer ≡ WorkShort
  pub insert_door : (e : ℕ) → c.order ≡ insert_of e → most l ≤ c.work → 2 < door e → c.answer ≡ DoorAbove
  pub insert_full : (e : ℕ) → c.order ≡ insert_of e → most l ≤ c.work → door e ≤ 2 → inserts earlier ≡ takes earlier + most l → c.answer ≡ Full
  -- "held gives the count"
  pub held_count : c.order ≡ held_now → (c.answer ≡ Done) × (takes earlier + c.word ≡ inserts earlier)
  -- the order rule is never broken
  pub audit_done : c.order ≡ audit_it → c.answer ≡ Done

-- of the calls since a setup of l links
pub record Held (now : List Call) (l : ℕ) : Type 0 where
  -- "no entry comes out more often than it was put in"
  pub no_more : (v : ℕ) → times v (taken_out now) ≤ times v (put_in now)
  -- "once the queue is empty, exactly as often"
  pub exactly : takes now ≡ inserts now → AsOften now
  -- "A queue of L links (1 to 4) holds at most H = k(L) x s(L) entries."
  pub one : 1 ≤ l
  pub few : l ≤ most_links
  pub at_most : inserts now ≤ takes now + most l

-- of the same calls and p packings: "with n accepted inserts and P packings the steps total at most ..; P is at most n divided by s(L), rounded down"
pub record Bounded (now : List Call) (l p : ℕ) : Type 0 where
  pub bounded : steps now ≤ steps_bound l (inserts now) p
  pub few : p ≤ inserts now / s l

-- at any time after an accepted setup, of the calls since the last one and of its links
abbrev pub AtAnyTime : List Call → (List Call → ℕ → Type 0) → Type 0
AtAnyTime cs P = (later earlier : List Call) → cs ≡ later ++ earlier → has_setup earlier ≡ true → P (since earlier) (links earlier)

-- demand 2: of every call after an accepted setup, and at any time
pub record DemandTwo (cs : List Call) : Type 0 where
  pub each : (later : List Call) (c : Call) (earlier : List Call) → cs ≡ later ++ c ∷ earlier → has_setup earlier ≡ true → EachCall c (since earlier) (links earlier)
  pub always : AtAnyTime cs Held

-- demand 3's bound at any time, with as many packings as said
abbrev pub DemandThree : List Call → (List Call → ℕ → ℕ) → Type 0
DemandThree cs packed = AtAnyTime cs (λ now l. Bounded now l (packed now l))

-- demand 3: "the steps that each call reports are those of the rules", on the words that it found after these calls, from ws on
pub record Reports (ws : List ℕ) (c : Call) (earlier : List Call) : Type 0 where
  pub found : List ℕ
  pub calls : Sequence ws earlier found
  pub steps_are : c.steps ≡ (call c.work c.order (lent_of found)).steps

-- document 02, R-9: a call after an accepted setup runs no longer than a call on that many links can
abbrev pub NoLonger : List Call → Type 0
NoLonger cs = (later : List Call) (c : Call) (earlier : List Call) → cs ≡ later ++ c ∷ earlier → has_setup earlier ≡ true → c.steps ≤ longest_call c.order (links earlier)
