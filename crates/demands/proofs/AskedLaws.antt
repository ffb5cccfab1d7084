-- Demands 2 and 3 hold of any calls one after the other on one array, and none of them runs longer than its formula says.
use Prim.Native.Nat.{ℕ}
use mathlib.Core.Path.{◌≡◌, refl, ap, ◌∙◌, subst}
use native.Mathlib.Omega.{arith}
use lib.ListN.{length, drop}
use mathlib.Core.Bool.{true}
use mathlib.Core.List.{List, [], ◌∷◌, ◌++◌}
use Rattle.rules.proofs.History.{since_fine, packings_bound}
use Rattle.rules.proofs.BoundLaws.{few_steps, is_link}
use Rattle.rules.specs.Calls.{queue_of}
use Rattle.buffers.specs.Format.{links_in, lent_of}
use Rattle.demands.specs.Histories.{Call, Made, History, Sequence, none, more, has_setup, from_setup, since, links, packings, meanwhile}
use Rattle.demands.specs.Asked.{EachCall, Held, Bounded, AtAnyTime, DemandTwo, DemandThree, Reports, NoLonger}
use Rattle.demands.proofs.HistoryLaws.{stands}
use Rattle.demands.proofs.LongestLaws.{call_longest}
use Rattle.demands.proofs.SmallestLaws.{head_or, no_more, smallest_taken, smallest_seen}
use Rattle.demands.proofs.AnswerLaws.{all_out, at_most, take_accepted, look_accepted, refused_empty, refused_look, held_counts, audit_done_now, insert_accepted, insert_short, insert_door, insert_full}
use Rattle.demands.proofs.SequenceLaws.{from_setup_lem, since_same, links_same}

-- ---- demand 2

-- the next call of a history
second_next : {cs : List Call} {ws : List ℕ} → History cs ws → (c : Call) (ws' : List ℕ) → Made ws c ws' → EachCall c (since cs) (links cs)
second_next h c ws' made = record {
  take_smallest = smallest_taken h c ws' made;
  look_smallest = smallest_seen h c ws' made;
  take_accepted = take_accepted h ws' c made;
  look_accepted = look_accepted h ws' c made;
  take_refused = refused_empty h ws' c made;
  look_refused = refused_look h ws' c made;
  insert_accepted = insert_accepted h ws' c made;
  insert_short = insert_short h ws' c made;
  insert_door = insert_door h ws' c made;
  insert_full = insert_full h ws' c made;
  held_count = held_counts h ws' c made;
  audit_done = audit_done_now h ws' c made;
}

-- what was said of the calls from the last accepted setup on is said of all of them
pub from_last : (P : List Call → ℕ → Type 0) (cs : List Call) → P (since (from_setup cs)) (links (from_setup cs)) → P (since cs) (links cs)
from_last P cs p = subst (λ now. P now (links cs)) (since_same cs) (subst (λ l. P (since (from_setup cs)) l) (links_same cs) p)

-- the calls before a call, and the call
pub record Before (ws : List ℕ) (c : Call) (earlier : List Call) : Type 0 where
  pub ws₁ : List ℕ
  pub ws₂ : List ℕ
  pub calls : Sequence ws earlier ws₁
  pub made : Made ws₁ c ws₂

-- the calls up to some time
pub record UpTo (ws : List ℕ) (earlier : List Call) : Type 0 where
  pub left : List ℕ
  pub calls : Sequence ws earlier left

cut : {ws ws' : List ℕ} {cs : List Call} → Sequence ws cs ws' → (later earlier : List Call) → cs ≡ later ++ earlier → UpTo ws earlier
cut {ws} none [] earlier e = record { left = ws; calls = subst (λ cs. Sequence ws cs ws) e none }
cut none (d ∷ later) earlier e = absurd (omega (arith, ap length e))
cut {ws} (more ws₁ ws₂ c cs calls made) [] earlier e = record { left = ws₂; calls = subst (λ cs. Sequence ws cs ws₂) e (more ws₁ ws₂ c cs calls made) }
cut (more ws₁ ws₂ c cs calls made) (d ∷ later) earlier e = cut calls later earlier (ap (drop 1) e)
cut (meanwhile ws₁ vs cs calls same) later earlier e = cut calls later earlier e

pub up_to : {ws ws' : List ℕ} (later earlier : List Call) → Sequence ws (later ++ earlier) ws' → UpTo ws earlier
up_to later earlier calls = cut calls later earlier refl

last : {ws ws' : List ℕ} {cs : List Call} → Sequence ws cs ws' → (c : Call) (earlier : List Call) → cs ≡ c ∷ earlier → Before ws c earlier
unfolding head_or
last none c earlier e = absurd (omega (arith, ap length e))
last {ws} (more ws₁ ws₂ d cs calls made) c earlier e = record {
  ws₁ = ws₁;
  ws₂ = ws₂;
  calls = subst (λ cs. Sequence ws cs ws₁) (ap (drop 1) e) calls;
  made = subst (λ c. Made ws₁ c ws₂) (ap (head_or c) e) made;
}
last (meanwhile ws₁ vs cs calls same) c earlier e = last calls c earlier e

pub cut_at : {ws ws' : List ℕ} (later : List Call) (c : Call) (earlier : List Call) → Sequence ws (later ++ c ∷ earlier) ws' → Before ws c earlier
cut_at later c earlier calls = last (up_to later (c ∷ earlier) calls).calls c earlier refl

-- what holds at the end of every sequence of calls holds at any time
pub any_time : {ws ws' : List ℕ} (P : List Call → ℕ → Type 0) (cs : List Call) → Sequence ws cs ws' → ((left : List ℕ) (ds : List Call) → Sequence ws ds left → has_setup ds ≡ true → P (since ds) (links ds))
    → AtAnyTime cs P
any_time {ws} {ws'} P cs calls at_end later earlier e has =
    let u = up_to later earlier (subst (λ cs. Sequence ws cs ws') e calls) in
    at_end u.left earlier u.calls has

-- what holds of histories holds at the end of a sequence
ends_so : {ws ws' : List ℕ} (P : List Call → ℕ → Type 0) (cs : List Call) → Sequence ws cs ws' → has_setup cs ≡ true → (History (from_setup cs) ws' → P (since (from_setup cs)) (links (from_setup cs)))
    → P (since cs) (links cs)
ends_so P cs calls has so = from_last P cs (so (from_setup_lem calls has))

held_so : {ws : List ℕ} (cs : List Call) → History cs ws → Held (since cs) (links cs)
held_so cs h =
    let number = is_link (links cs) (stands h).number in
    record { no_more = no_more h; exactly = all_out h; one = number.low; few = number.high; at_most = at_most h }

pub sequence_held : {ws ws' : List ℕ} (cs : List Call) → Sequence ws cs ws' → has_setup cs ≡ true → Held (since cs) (links cs)
sequence_held cs calls has = ends_so Held cs calls has (held_so (from_setup cs))

pub sequence_two : {ws ws' : List ℕ} (cs : List Call) → Sequence ws cs ws' → DemandTwo cs
sequence_two {ws} {ws'} cs calls = record {
  each = λ later c earlier e has.
      let b = cut_at later c earlier (subst (λ cs. Sequence ws cs ws') e calls) in
      from_last (EachCall c) earlier (second_next (from_setup_lem b.calls has) c b.ws₂ b.made);
  always = any_time Held cs calls (λ left ds before has. sequence_held ds before has);
}

-- ---- demand 3

pub sequence_third : {ws ws' : List ℕ} (cs : List Call) → Sequence ws cs ws' → has_setup cs ≡ true → Bounded (since cs) (links cs) (packings (since cs))
sequence_third cs calls has =
    ends_so (λ now l. Bounded now l (packings now)) cs calls has (λ h. record {
      bounded = few_steps (links (from_setup cs)) (stands h).number (stands h).goes;
      few = packings_bound (links (from_setup cs)) (stands h).number (stands h).goes;
    })

pub sequence_three : {ws ws' : List ℕ} (cs : List Call) → Sequence ws cs ws' → DemandThree cs (λ now l. packings now)
sequence_three cs calls = any_time (λ now l. Bounded now l (packings now)) cs calls (λ left ds before has. sequence_third ds before has)

pub sequence_reports : {ws ws' : List ℕ} (cs : List Call) → Sequence ws cs ws' → (later : List Call) (c : Call) (earlier : List Call) → cs ≡ later ++ c ∷ earlier → Reports ws c earlier
sequence_reports {ws} {ws'} cs calls later c earlier e =
    let b = cut_at later c earlier (subst (λ cs. Sequence ws cs ws') e calls) in
    record { found = b.ws₁; calls = b.calls; steps_are = b.made.called.steps_are }

-- ---- how long a call can run

-- the links that a call finds are those of the setup
links_found : {cs : List Call} {ws : List ℕ} → History cs ws → links_in ws ≡ links cs
unfolding queue_of lent_of
links_found {cs} h = (since_fine (links cs) (stands h).number (stands h).goes).same

pub sequence_no_longer : {ws ws' : List ℕ} (cs : List Call) → Sequence ws cs ws' → NoLonger cs
sequence_no_longer cs calls later c earlier e has =
    let r = sequence_reports cs calls later c earlier e in
    let links_are : links_in r.found ≡ links earlier = links_found (from_setup_lem r.calls has) ∙ links_same earlier in
    omega (arith, r.steps_are, rw links_are at (call_longest r.found c.work c.order))
