-- Orders one after the other, and the worked examples 1 to 9: one table under one statement, computed.
use Rattle.std.specs.Prelude.{ℕ, zero, suc, ◌+◌, ◌*◌, ◌^◌, ◌≡◌, refl, Bool, true, false, List, [], ◌∷◌, ◌++◌, map, length, replicate}
use Rattle.rules.specs.Answers.{number_of}
use Rattle.rules.specs.Entries.{tick}
use Rattle.rules.specs.Calls.{Lent, Outcome, setup, insert, take, look, held_call, audit, zeros, afterwards}

pub data Order : Type 0 where
  setup_of : ℕ → Order
  insert_of : ℕ → Order
  take_it : Order
  look_at : Order
  held_now : Order
  audit_it : Order

-- an order on a lent array, with so many words of work area
unfoldable pub call : ℕ → Order → Lent → Outcome
unfolding setup insert take look held_call audit
call work (setup_of links) a = setup links a
call work (insert_of entry) a = insert work entry a
call work take_it a = take a
call work look_at a = look a
call work held_now a = held_call a
call work audit_it a = audit a

-- what a call shows: number, word, steps, whether it packed, the counters, and how many entries each buffer has
pub record Shown : Type 0 where
  pub number : ℕ
  pub word : ℕ
  pub steps : ℕ
  pub packed : Bool
  pub counters : List ℕ
  pub counts : List ℕ

unfoldable pub shown : Outcome → Shown
shown o = record { number = number_of o.answer; word = o.word; steps = o.steps; packed = o.packed; counters = o.queue.counters; counts = map length o.queue.buffers }

-- what each of these orders shows, one after the other
unfoldable pub session : ℕ → List Order → Lent → List Shown
unfolding call shown afterwards
session work [] a = []
session work (order ∷ orders) a =
    let o = call work order a in
    let now = shown o in
    now ∷ session work orders (afterwards a o)

-- the same as numbers, one after the other
unfoldable pub everything_shown : Shown → List ℕ
everything_shown now = now.number ∷ now.word ∷ now.steps ∷ now.counters ++ now.counts

-- ---- the examples

-- what an example tells of its calls: the numbers other than 0, in order; the steps in all; and what the last call shows, its word as a tick
pub record Told : Type 0 where
  pub refusals : List ℕ
  pub total : ℕ
  pub last_tick : ℕ
  pub last_steps : ℕ
  pub last_packed : Bool
  pub counters : List ℕ
  pub counts : List ℕ

unfoldable pub nothing_yet : Told
nothing_yet = record { refusals = []; total = 0; last_tick = 0; last_steps = 0; last_packed = false; counters = []; counts = [] }

unfoldable pub noted : ℕ → List ℕ → List ℕ
noted zero numbers = numbers
noted (suc n) numbers = numbers ++ suc n ∷ []

unfoldable pub told : Told → List Shown → Told
unfolding noted tick
told t [] = t
told t (now ∷ rest) =
    told (record { refusals = noted now.number t.refusals; total = t.total + now.steps; last_tick = tick now.word; last_steps = now.steps; last_packed = now.packed; counters = now.counters; counts = now.counts }) rest

pub record Example : Type 0 where
  pub array_words : ℕ
  pub work_words : ℕ
  pub orders : List Order
  pub expected : Told

unfoldable pub outcome : Example → Told
unfolding told nothing_yet session zeros
outcome x = told nothing_yet (session x.work_words x.orders (zeros x.array_words))

-- "Entries are due ticks 1, 2, 3 .., door 0, command 0, in rising order.": n of them from tick t on
unfoldable pub inserts : ℕ → ℕ → List Order
inserts t zero = []
inserts t (suc n) = insert_of (t * 2 ^ 32) ∷ inserts (suc t) n

abbrev pub takes : ℕ → List Order
takes n = replicate n take_it

abbrev pub one : List Order → Told → Example
one orders expected = record { array_words = 296; work_words = 16; orders = setup_of 1 ∷ orders; expected = expected }

abbrev pub two : List Order → Told → Example
two orders expected = record { array_words = 536; work_words = 96; orders = setup_of 2 ∷ orders; expected = expected }

abbrev pub bare : ℕ → ℕ → List Order → Told → Example
bare array work orders expected = record { array_words = array; work_words = work; orders = orders; expected = expected }

-- refusals, total, and of the last call: tick, steps, packed, counters, counts (I, then A, B, inner buffers and S of each link)
abbrev pub tells : List ℕ → ℕ → ℕ → ℕ → Bool → List ℕ → List ℕ → Told
tells refusals total tick steps packed counters counts =
    record { refusals = refusals; total = total; last_tick = tick; last_steps = steps; last_packed = packed; counters = counters; counts = counts }

unfoldable pub table : List Example
unfolding inserts
table =
    -- "1. L=1, 8 inserts: S(1,1) has 8, c=2, 0 steps; the next take gives tick 1 in 16 steps."
    one (inserts 1 8) (tells [] 0 0 0 false (2 ∷ []) (0 ∷ 0 ∷ 0 ∷ 8 ∷ 0 ∷ []))
    ∷ one (inserts 1 8 ++ takes 1) (tells [] 16 1 16 false (2 ∷ []) (0 ∷ 7 ∷ 0 ∷ 0 ∷ 0 ∷ []))
    -- "2. L=1, 16 inserts are accepted, the 17th answers 5."
    ∷ one (inserts 1 16) (tells [] 0 0 0 false (3 ∷ []) (0 ∷ 0 ∷ 0 ∷ 8 ∷ 8 ∷ []))
    ∷ one (inserts 1 17) (tells (5 ∷ []) 0 0 0 false (3 ∷ []) (0 ∷ 0 ∷ 0 ∷ 8 ∷ 8 ∷ []))
    -- "3. L=1, 16 inserts, 8 takes, 8 inserts: the 24th insert packs, 16 steps; total 32; c=3."
    ∷ one (inserts 1 16 ++ takes 8 ++ inserts 17 8) (tells [] 32 0 16 true (3 ∷ []) (0 ∷ 0 ∷ 0 ∷ 8 ∷ 8 ∷ []))
    -- "4. L=2, 24 inserts: the last reports 32 steps, S(2,1) has 24, c=(1,2)."
    ∷ two (inserts 1 24) (tells [] 32 0 32 false (1 ∷ 2 ∷ []) (0 ∷ 0 ∷ 0 ∷ 0 ∷ 0 ∷ 0 ∷ 0 ∷ 0 ∷ 0 ∷ 24 ∷ 0 ∷ 0 ∷ 0 ∷ []))
    -- "5. L=2, 16 inserts, one take, 8 inserts: A(1) has 7, S(2,1) has 16."
    ∷ two (inserts 1 16 ++ takes 1 ++ inserts 17 8) (tells [] 32 0 16 false (1 ∷ 2 ∷ []) (0 ∷ 7 ∷ 0 ∷ 0 ∷ 0 ∷ 0 ∷ 0 ∷ 0 ∷ 0 ∷ 16 ∷ 0 ∷ 0 ∷ 0 ∷ []))
    -- "6. Fresh queue: take answers 6."
    ∷ one (takes 1) (tells (6 ∷ []) 0 0 0 false (1 ∷ []) (0 ∷ 0 ∷ 0 ∷ 0 ∷ 0 ∷ []))
    -- "7. Work area 15 words, L=1: 3. With 16: accepted."
    ∷ bare 296 15 (setup_of 1 ∷ inserts 1 1) (tells (3 ∷ []) 0 0 0 false (1 ∷ []) (0 ∷ 0 ∷ 0 ∷ 0 ∷ 0 ∷ []))
    ∷ bare 296 16 (setup_of 1 ∷ inserts 1 1) (tells [] 0 0 0 false (1 ∷ []) (1 ∷ 0 ∷ 0 ∷ 0 ∷ 0 ∷ []))
    -- "8. Array 295 words: 2. Zeros, 296 words: 4."
    ∷ bare 295 16 (setup_of 1 ∷ []) (tells (2 ∷ []) 0 0 0 false [] [])
    ∷ bare 295 16 (takes 1) (tells (2 ∷ []) 0 0 0 false [] [])
    ∷ bare 296 16 (takes 1) (tells (4 ∷ []) 0 0 0 false [] [])
    -- "9. Two equal entries come out twice, then 6."
    ∷ one (inserts 5 1 ++ inserts 5 1 ++ takes 1) (tells [] 0 5 0 false (1 ∷ []) (1 ∷ 0 ∷ 0 ∷ 0 ∷ 0 ∷ []))
    ∷ one (inserts 5 1 ++ inserts 5 1 ++ takes 2) (tells [] 0 5 0 false (1 ∷ []) (0 ∷ 0 ∷ 0 ∷ 0 ∷ 0 ∷ []))
    ∷ one (inserts 5 1 ++ inserts 5 1 ++ takes 3) (tells (6 ∷ []) 0 0 0 false (1 ∷ []) (0 ∷ 0 ∷ 0 ∷ 0 ∷ 0 ∷ []))
    ∷ []

pub examples : map outcome table ≡ map (λ x. x.expected) table
unfolding outcome table
examples = refl

-- the frame session of document 01: number, word and steps of each line
unfoldable pub answer_line : Shown → List ℕ
answer_line now = now.number ∷ now.word ∷ now.steps ∷ []

pub frame_session : map answer_line (session 960
    (setup_of 1 ∷ insert_of 0x0000000302000007 ∷ insert_of 0x0000000301000007 ∷ look_at ∷ take_it ∷ held_now ∷ take_it ∷ take_it ∷ insert_of 0x0000000303000000 ∷ []) (zeros 2628))
    ≡ (0 ∷ 0 ∷ 0 ∷ []) ∷ (0 ∷ 0 ∷ 0 ∷ []) ∷ (0 ∷ 0 ∷ 0 ∷ []) ∷ (0 ∷ 0x0000000301000007 ∷ 0 ∷ []) ∷ (0 ∷ 0x0000000301000007 ∷ 0 ∷ []) ∷ (0 ∷ 1 ∷ 0 ∷ [])
    ∷ (0 ∷ 0x0000000302000007 ∷ 0 ∷ []) ∷ (6 ∷ 0 ∷ 0 ∷ []) ∷ (7 ∷ 0 ∷ 0 ∷ []) ∷ []
unfolding answer_line session zeros
frame_session = refl

-- ""0004" answers 02; "02" before setup answers 04."
pub before_setup : map answer_line (session 960 (setup_of 4 ∷ take_it ∷ []) (zeros 2628)) ≡ (2 ∷ 0 ∷ 0 ∷ []) ∷ (4 ∷ 0 ∷ 0 ∷ []) ∷ []
unfolding answer_line session zeros
before_setup = refl
