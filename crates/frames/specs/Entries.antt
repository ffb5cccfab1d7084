-- "Bits 32 to 63: due tick .. Bits 24 to 31: door, 0 both, 1 left, 2 right. Bits 0 to 23: command number"
use Rattle.std.specs.Prelude.{Bool, true, cond, ◌&&◌, ℕ, ◌+◌, ◌*◌, ◌/◌, ◌%◌, ◌^◌, ◌<◌, ltb, eqb}
use Rattle.frames.specs.declared.Door.{Door}
use Rattle.frames.specs.declared.Door.TheVariants.{Both, Left, Right, Other}
use Rattle.frames.specs.declared.Entry.{Entry}

-- "carries its door as one of three, or as a fourth, the byte itself"
abbrev pub door_of : ℕ → Door
door_of b = cond (eqb b 0) Both (cond (eqb b 1) Left (cond (eqb b 2) Right (Other b)))

abbrev pub byte_of : Door → ℕ
byte_of Both = 0
byte_of Left = 1
byte_of Right = 2
byte_of (Other b) = b

abbrev pub entry_of : ℕ → Entry
entry_of w = record { tick = w / 2 ^ 32; door = door_of (w / 2 ^ 24 % 2 ^ 8); command = w % 2 ^ 24 }

abbrev pub word_of : Entry → ℕ
word_of e = e.tick * 2 ^ 32 + byte_of e.door * 2 ^ 24 + e.command % 2 ^ 24

-- not "for a kept door byte of 2 or less"
abbrev pub door_writable : Door → Bool
door_writable Both = true
door_writable Left = true
door_writable Right = true
door_writable (Other b) = ltb 2 b

-- nor for "a command above 24 bits"
abbrev pub entry_writable : Entry → Bool
entry_writable e = ltb e.command (2 ^ 24) && door_writable e.door

-- an entry as a struct holds it, each number in its type's range
abbrev pub DoorFits : Door → Type 0
DoorFits Both = Unit {0}
DoorFits Left = Unit {0}
DoorFits Right = Unit {0}
DoorFits (Other b) = b < 2 ^ 8

abbrev pub EntryFits : Entry → Type 0
EntryFits e = (e.tick < 2 ^ 32) × DoorFits e.door
