-- Below the largest value the fields are plain sums; a field that has the largest value keeps it.
use mathlib.Core.Path.{◌≡◌, sym, ◌∙◌}
use Prim.Native.Nat.{ℕ, ◌+◌, ◌≤◌}
use mathlib.Core.List.{List, [], ◌∷◌}
use native.Mathlib.Omega.{arith}
use Rattle.tally.specs.declared.Call.{Call}
use Rattle.tally.specs.declared.Tally.{Tally}
use Rattle.tally.specs.Day.{Outcome, nothing, largest, plus, plus_each, added}
use Rattle.tally.specs.Sums.{after_all, sum_each, total, Within, Counted, EachCounted, EachKept}

-- ---- a field

pub plus_none : (field : ℕ) → field ≤ largest → plus field 0 ≡ field
plus_none field within = omega arith

pub plus_plus : (field one two : ℕ) → plus (plus field one) two ≡ plus field (one + two)
plus_plus field one two = omega arith

counted : (field more : ℕ) → Counted field more (plus field more)
counted field more = record { plain = λ h. omega arith; full = λ h. omega arith }

-- ---- a day

pub within : (tally more : Tally) → Within (plus_each tally more)
within tally more = record { inserts = omega arith; takes = omega arith; steps = omega arith; packings = omega arith }

same : {one two : Tally} → one.inserts ≡ two.inserts → one.takes ≡ two.takes → one.steps ≡ two.steps → one.packings ≡ two.packings → one ≡ two
same i t s p = λ j. record { inserts = i j; takes = t j; steps = s j; packings = p j }

plus_each_none : (tally : Tally) → Within tally → tally ≡ plus_each tally nothing
plus_each_none tally w =
    same (sym (plus_none tally.inserts w.inserts)) (sym (plus_none tally.takes w.takes))
    (sym (plus_none tally.steps w.steps)) (sym (plus_none tally.packings w.packings))

plus_each_plus_each : (tally one two : Tally) → plus_each (plus_each tally one) two ≡ plus_each tally (sum_each one two)
plus_each_plus_each tally one two =
    same (plus_plus tally.inserts one.inserts two.inserts) (plus_plus tally.takes one.takes two.takes)
    (plus_plus tally.steps one.steps two.steps) (plus_plus tally.packings one.packings two.packings)

-- however many the calls, the largest value has to be looked at only once
pub after_all_lem : (tally : Tally) (calls : List (Call × Outcome)) → Within tally → after_all tally calls ≡ plus_each tally (total calls)
unfolding after_all total
after_all_lem tally [] w = plus_each_none tally w
after_all_lem tally (c ∷ calls) w =
    let more = added c.0 c.1 in
    after_all_lem (plus_each tally more) calls (within tally more) ∙ plus_each_plus_each tally more (total calls)

pub each_counted : (tally : Tally) (calls : List (Call × Outcome)) → Within tally → EachCounted tally (total calls) (after_all tally calls)
each_counted tally calls w =
    let more = total calls in
    rw (after_all_lem tally calls w) (record {
      inserts = counted tally.inserts more.inserts;
      takes = counted tally.takes more.takes;
      steps = counted tally.steps more.steps;
      packings = counted tally.packings more.packings;
    })

-- where no sum passes the largest value, the tally after all calls has exactly the sums
pub plain_sums : (tally : Tally) (calls : List (Call × Outcome)) → Within (sum_each tally (total calls)) → after_all tally calls ≡ sum_each tally (total calls)
plain_sums tally calls h =
    let w : Within tally = record { inserts = omega (arith, h.inserts); takes = omega (arith, h.takes); steps = omega (arith, h.steps); packings = omega (arith, h.packings) } in
    let each = each_counted tally calls w in
    same (each.inserts.plain h.inserts) (each.takes.plain h.takes) (each.steps.plain h.steps) (each.packings.plain h.packings)

-- a saturated field stays, whatever is called
pub each_kept : (tally : Tally) (calls : List (Call × Outcome)) → Within tally → EachKept tally (after_all tally calls)
each_kept tally calls w =
    let each = each_counted tally calls w in
    record {
      inserts = λ h. each.inserts.full (omega arith);
      takes = λ h. each.takes.full (omega arith);
      steps = λ h. each.steps.full (omega arith);
      packings = λ h. each.packings.full (omega arith);
    }
