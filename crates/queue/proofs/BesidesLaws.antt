-- What a call leaves of a work area: its length, and every word past H.
use Prim.Native.Nat.{ℕ, ◌≤◌}
use mathlib.Core.Path.{◌≡◌, ap}
use mathlib.Core.List.{List}
use lib.ListN.{length, get_or}
use Rattle.rules.specs.Answers.{Answer}
use Rattle.rules.specs.Links.{most}
use Rattle.rules.specs.Examples.{Order, setup_of, insert_of, take_it, look_at, held_now, audit_it}
use Rattle.buffers.specs.Format.{links_in}
use Rattle.queue.specs.Calls.{Besides}

-- the same words are as long as before, and none of them has changed
same_inside : (H : ℕ) (area left : List ℕ) → left ≡ area → (length left ≡ length area) × ((p : ℕ) → H ≤ p → get_or left p 0 ≡ get_or area p 0)
same_inside H area left e = (ap length e, λ p far. ap (λ (ws : List ℕ). get_or ws p 0) e)

pub besides_inside : (order : Order) (ws ws' area left : List ℕ) (answer : Answer) → Besides order ws ws' area left answer
    → (length left ≡ length area) × ((p : ℕ) → most (links_in ws) ≤ p → get_or left p 0 ≡ get_or area p 0)
besides_inside (setup_of links) ws ws' area left answer besides = same_inside (most (links_in ws)) area left besides.1
besides_inside (insert_of entry) ws ws' area left answer besides = (besides.long, besides.past)
besides_inside take_it ws ws' area left answer besides = same_inside (most (links_in ws)) area left besides
besides_inside look_at ws ws' area left answer besides = same_inside (most (links_in ws)) area left besides
besides_inside held_now ws ws' area left answer besides = same_inside (most (links_in ws)) area left besides.1
besides_inside audit_it ws ws' area left answer besides = same_inside (most (links_in ws)) area left besides.1
