-- Below the largest value the tally's fields are the sums of the calls.
use Prim.Native.Nat.{ℕ}
use mathlib.Core.Path.{◌≡◌, refl, sym, ap, ◌∙◌}
use mathlib.Core.Bool.{Bool, true, false}
use mathlib.Core.List.{List, [], ◌∷◌}
use native.Mathlib.Omega.{arith}
use lib.ListN.{length, length-append}
use Rattle.rules.specs.Answers.{is_done}
use Rattle.rules.specs.Calls.{Lent}
use Rattle.rules.specs.Examples.{Order, setup_of, insert_of, take_it, look_at, held_now, audit_it, call}
use Rattle.buffers.specs.Format.{lent_of}
use Rattle.tally.specs.declared.Tally.{Tally}
use Rattle.tally.specs.Day.{tally_of, nothing, plus_each, added_if_done, added, up_to_date}
use Rattle.tally.specs.Day as tally
use Rattle.tally.specs.Sums.{Within}
use Rattle.tally.specs.Told.{call_of}
use Rattle.queue.proofs.AgreeLaws.{the_answer}
use Rattle.demands.specs.Histories.{Call, Made, accepted, begins, History, first, next, since, brought, handed, if_done, put_in, taken_out, once, between}
use Rattle.demands.specs.Tallies.{told_of, tally_after, sums}
use Rattle.demands.proofs.CallLaws.{refusal_plain, setup_steps, setup_unpacked, take_unpacked, look_unpacked, held_unpacked, audit_unpacked}

same : {one two : Tally} → one.inserts ≡ two.inserts → one.takes ≡ two.takes → one.steps ≡ two.steps → one.packings ≡ two.packings → one ≡ two
same i t s p = λ j. record { inserts = i j; takes = t j; steps = s j; packings = p j }

once_is : (b : Bool) → tally.once b ≡ once b
once_is true = refl
once_is false = refl

-- ---- what one call adds

-- an order, whether it was accepted, and what it reported
abbrev one_of : Order → Bool → ℕ → ℕ → Bool → Tally
one_of order done word made packed = tally_of (length (if_done done (brought order))) (length (if_done done (handed order word))) made (once packed)

module _ (work : ℕ) (a : Lent) where
  -- what an accepted call reports is what is added
  done_adds : (order : Order) (word made : ℕ) (packed : Bool) → made ≡ (call work order a).steps → packed ≡ (call work order a).packed
      → added_if_done (call_of order) made packed ≡ one_of order true word made packed
  unfolding call_of call
  done_adds (setup_of l) word made packed s p = same refl refl (sym (s ∙ setup_steps a l)) (sym (ap once (p ∙ setup_unpacked a l)))
  done_adds (insert_of entry) word made packed s p = same refl refl refl (once_is packed)
  done_adds take_it word made packed s p = same refl refl refl (sym (ap once (p ∙ take_unpacked a)))
  done_adds look_at word made packed s p = same refl refl refl (sym (ap once (p ∙ look_unpacked a)))
  done_adds held_now word made packed s p = same refl refl refl (sym (ap once (p ∙ held_unpacked a)))
  done_adds audit_it word made packed s p = same refl refl refl (sym (ap once (p ∙ audit_unpacked a)))

adds : (ws ws' : List ℕ) (c : Call) → Made ws c ws' → added (call_of c.order) (told_of c) ≡ one_of c.order (accepted c) c.word c.steps c.packed
unfolding added
adds ws ws' c made = go (accepted c) refl
  where
    go : (b : Bool) → accepted c ≡ b
        → (elim b as (λ b. Tally) [ true ↦ added_if_done (call_of c.order) c.steps c.packed | false ↦ nothing ]) ≡ one_of c.order b c.word c.steps c.packed
    go true e = done_adds c.work (lent_of ws) c.order c.word c.steps c.packed made.called.steps_are made.called.packed_is
    go false e =
        let plain = refusal_plain (lent_of ws) c.work c.order (ap is_done (sym (the_answer made.called)) ∙ e) in
        same refl refl (sym (made.called.steps_are ∙ plain.steps)) (sym (ap once (made.called.packed_is ∙ plain.packed)))

-- ---- calls one after the other

pub record MadeOne (c : Call) : Type 0 where
  pub ws : List ℕ
  pub ws' : List ℕ
  pub made : Made ws c ws'

-- each of these calls met its contract
abbrev pub EachMade : List Call → Type 0
EachMade [] = Unit {0}
EachMade (c ∷ cs) = MadeOne c × EachMade cs

pub history_made : {cs : List Call} {ws : List ℕ} → History cs ws → EachMade cs
history_made (first ws ws' c b made) = (record { ws = ws; ws' = ws'; made = made }, tt)
history_made (next ws ws' c cs h made) = (record { ws = ws; ws' = ws'; made = made }, history_made h)
history_made (between ws vs cs h same) = history_made h

pub since_made : (cs : List Call) → EachMade cs → EachMade (since cs)
since_made [] e = tt
since_made (c ∷ cs) e = go (begins c) (since_made cs e.1)
  where
    go : (b : Bool) → EachMade (since cs) → EachMade (elim b [ true ↦ [] | false ↦ c ∷ since cs ])
    go true rest = tt
    go false rest = (e.0, rest)

-- the largest value has to be looked at only once
pub tallied : (cs : List Call) → EachMade cs → tally_after cs ≡ plus_each nothing (sums cs)
unfolding up_to_date
tallied [] e = refl
tallied (c ∷ cs) e =
    let one = adds e.0.ws e.0.ws' c e.0.made in
    let rest = tallied cs e.1 in
    ap (plus_each (tally_after cs)) one ∙ ap (λ t. plus_each t (one_of c.order (accepted c) c.word c.steps c.packed)) rest
    ∙ same (omega (arith, length-append (if_done (accepted c) (brought c.order)) (put_in cs))) (omega (arith, length-append (if_done (accepted c) (handed c.order c.word)) (taken_out cs))) (omega arith) (omega arith)

pub tally_sums : (cs : List Call) → EachMade cs → Within (sums cs) → tally_after cs ≡ sums cs
tally_sums cs e w = tallied cs e ∙ same (omega (arith, w.inserts)) (omega (arith, w.takes)) (omega (arith, w.steps)) (omega (arith, w.packings))
