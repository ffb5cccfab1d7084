-- An entry and its word.
use mathlib.Core.Path.{◌≡◌, refl, ap, sym, ◌∙◌}
use mathlib.Core.Bool.{Bool, true, false, cond}
use Prim.Native.Nat.{ℕ, ◌+◌, ◌*◌, ◌/◌, ◌%◌, ◌<◌, ◌^◌}
use native.Mathlib.Omega.{arith}
use lib.Dec.{ltb, eqb}
use borrow.Author.Tests.{lt-ltb, ltb-true, ne_eqb, eqb-true, eqb-false}
use Rattle.frames.specs.Entries.{door_of, byte_of, entry_of, word_of, door_writable, entry_writable, DoorFits, EntryFits}
use Rattle.frames.specs.declared.Door.{Door}
use Rattle.frames.specs.declared.Door.TheVariants.{Both, Left, Right, Other}
use Rattle.frames.specs.declared.Entry.{Entry}
use Rattle.frames.proofs.DigitLaws.{both_left, both_right}

byte_below : (d : Door) → DoorFits d → byte_of d < 2 ^ 8
byte_below Both f = omega arith
byte_below Left f = omega arith
byte_below Right f = omega arith
byte_below (Other b) f = f

door_byte : (d : Door) → door_writable d ≡ true → door_of (byte_of d) ≡ d
door_byte Both e = refl
door_byte Left e = refl
door_byte Right e = refl
door_byte (Other b) e =
    let h : 2 < b = ltb-true 2 b e in
    simp (ne_eqb b 0 (omega arith), ne_eqb b 1 (omega arith), ne_eqb b 2 (omega arith))

-- a byte that was read as a door
record Read (b : ℕ) (d : Door) : Type 0 where
  byte : byte_of d ≡ b
  keeps : door_writable d ≡ true
  fits : b < 2 ^ 8 → DoorFits d

byte_door : (b : ℕ) → Read b (door_of b)
byte_door b = go (eqb b 0) (eqb b 1) (eqb b 2) refl refl refl
  where
    go : (x y z : Bool) → eqb b 0 ≡ x → eqb b 1 ≡ y → eqb b 2 ≡ z → Read b (cond x Both (cond y Left (cond z Right (Other b))))
    go true y z p q r = record { byte = sym (eqb-true b 0 p); keeps = refl; fits = λ h. tt }
    go false true z p q r = record { byte = sym (eqb-true b 1 q); keeps = refl; fits = λ h. tt }
    go false false true p q r = record { byte = sym (eqb-true b 2 r); keeps = refl; fits = λ h. tt }
    go false false false p q r =
        let n0 : b ≡ 0 → ⊥ = eqb-false b 0 p in
        let n1 : b ≡ 1 → ⊥ = eqb-false b 1 q in
        let n2 : b ≡ 2 → ⊥ = eqb-false b 2 r in
        record { byte = refl; keeps = lt-ltb 2 b (omega arith); fits = λ h. h }

module _ (e : Entry) (f : EntryFits e) where
  pub word_below : word_of e < 2 ^ 64
  word_below = let b : byte_of e.door < 2 ^ 8 = byte_below e.door f.1 in omega arith

  pub entry_word : entry_writable e ≡ true → entry_of (word_of e) ≡ e
  entry_word c =
      let b = byte_of e.door in
      let hb : b < 2 ^ 8 = byte_below e.door f.1 in
      let hc : e.command < 2 ^ 24 = ltb-true e.command (2 ^ 24) (both_left (ltb e.command (2 ^ 24)) (door_writable e.door) c) in
      let k : door_writable e.door ≡ true = both_right (ltb e.command (2 ^ 24)) (door_writable e.door) c in
      let w = e.tick * 2 ^ 32 + b * 2 ^ 24 + e.command % 2 ^ 24 in
      let p : w / 2 ^ 32 ≡ e.tick = omega arith in
      let q : w / 2 ^ 24 % 2 ^ 8 ≡ b = omega arith in
      let r : w % 2 ^ 24 ≡ e.command = omega arith in
      λ i. record { tick = p i; door = (ap door_of q ∙ door_byte e.door k) i; command = r i }

module _ (w : ℕ) where
  door : Read (w / 2 ^ 24 % 2 ^ 8) (entry_of w).door
  door = byte_door (w / 2 ^ 24 % 2 ^ 8)

  pub word_entry : word_of (entry_of w) ≡ w
  word_entry = let b : byte_of (entry_of w).door ≡ w / 2 ^ 24 % 2 ^ 8 = door.byte in rw b (omega arith)

  pub entry_again_writable : entry_writable (entry_of w) ≡ true
  entry_again_writable = rw (lt-ltb (w % 2 ^ 24) (2 ^ 24) (omega arith), door.keeps) refl

  pub entry_fits : w < 2 ^ 64 → EntryFits (entry_of w)
  entry_fits h = (omega arith, door.fits (omega arith))
