-- "00 and one byte: setup. 01 and eight bytes, high byte first: insert. 02 take, 03 look, 04 held, 05 audit, alone."
use Rattle.std.specs.Prelude.{◌≡◌, Bool, true, cond, List, ◌++◌, ℕ, ◌^◌, ◌<◌, eqb, length}
use Rattle.frames.specs.Answers.{Back, done, refused}
use Rattle.frames.specs.Digits.{capital, digits}
use Rattle.frames.specs.Entries.{entry_of, word_of, entry_writable, EntryFits}
use Rattle.frames.specs.declared.Order.{Order}
use Rattle.frames.specs.declared.Order.TheVariants.{Setup, Insert, Take, Look, Held, Audit}

abbrev pub code_of : Order → ℕ
code_of (Setup links) = 0
code_of (Insert e) = 1
code_of Take = 2
code_of Look = 3
code_of Held = 4
code_of Audit = 5

-- the digits after a code, two a byte
abbrev pub width_of : ℕ → ℕ
width_of c = cond (eqb c 0) 2 (cond (eqb c 1) 16 0)

-- the number that they write
abbrev pub body_of : Order → ℕ
body_of (Setup links) = links
body_of (Insert e) = word_of e
body_of Take = 0
body_of Look = 0
body_of Held = 0
body_of Audit = 0

-- an order's line: its code and its body
abbrev pub frame_of : Order → List ℕ
frame_of o = digits 2 (code_of o) ++ digits (width_of (code_of o)) (body_of o)

-- the order that a code and a body make
unfoldable pub order_of : ℕ → ℕ → Back Order
order_of c n =
    cond (eqb c 0) (done (Setup n))
    (cond (eqb c 1) (done (Insert (entry_of n)))
    (cond (eqb c 2) (done Take)
    (cond (eqb c 3) (done Look)
    (cond (eqb c 4) (done Held)
    (cond (eqb c 5) (done Audit)
    refused)))))

-- "Every other order can be written."
abbrev pub writable : Order → Bool
writable (Setup links) = true
writable (Insert e) = entry_writable e
writable Take = true
writable Look = true
writable Held = true
writable Audit = true

-- an order as its enum holds it, each number in its type's range
abbrev pub Fits : Order → Type 0
Fits (Setup links) = links < 2 ^ 8
Fits (Insert e) = EntryFits e
Fits Take = Unit {0}
Fits Look = Unit {0}
Fits Held = Unit {0}
Fits Audit = Unit {0}

-- the digits after a code, as many as it says
pub record Body (c : ℕ) (ds : List ℕ) : Type 0 where
  pub hex : capital ds ≡ true
  pub long : length ds ≡ width_of c
