-- Demands 2 and 3 hold of the calls that answer lines tell: sixteen digits of a word are enough after a setup, and they do not speak of packings.
use Prim.Native.Nat.{ℕ, ◌+◌, ◌/◌, ◌^◌, ◌≤◌, ◌<◌}
use mathlib.Core.Path.{◌≡◌, refl, sym, ap, ◌∙◌, subst}
use mathlib.Core.Bool.{Bool, true, false}
use mathlib.Core.List.{List, [], ◌∷◌, ◌++◌, map, flatten}
use native.Mathlib.Omega.{arith}
use native.Mathlib.Decide.{dec_lt}
use native.Mathlib.Nat.{mul-le-mul_left}
use borrow.Author.Tests.{eq-eqb}
use lib.Dec.{T, eqb, eqb→eq}
use lib.ListN.{length, drop}
use Rattle.rules.specs.Links.{s}
use Rattle.rules.specs.Tests.{◌or◌}
use Rattle.rules.specs.Bounds.{per_packing, steps_bound}
use Rattle.rules.specs.Longest.{longest_call}
use Rattle.rules.specs.Examples.{Order, setup_of, insert_of, take_it, look_at, held_now, audit_it, call}
use Rattle.rules.proofs.BoundLaws.{is_link}
use Rattle.buffers.specs.Weights.{broken}
use Rattle.buffers.proofs.LinkWeights.{most_small}
use Rattle.buffers.specs.Format.{lent_of}
use Rattle.frames.specs.Digits.{number, digits}
use Rattle.frames.proofs.DigitLaws.{number_digits}
use Rattle.lines.specs.Lines.{lines_of, orders_of}
use Rattle.sessions.specs.Runs.{Runs}
use Rattle.sessions.specs.Pieces.{Session}
use Rattle.sessions.proofs.SameAnswers.{session_answers}
use Rattle.demands.specs.Histories.{Call, accepted, begins, links_of, Sequence, none, has_setup, from_setup, since, links, brought, handed, if_done, put_in, taken_out, inserts, takes, once, packings, steps, times, StillHeld, Smallest}
use Rattle.demands.specs.Asked.{EachCall, Held, Bounded, AtAnyTime, DemandTwo, DemandThree, NoLonger}
use Rattle.demands.specs.Told.{seen, told, Tells, MadeSoFar, Packed, Reported}
use Rattle.demands.proofs.HistoryLaws.{stands}
use Rattle.demands.proofs.SmallestLaws.{head_or}
use Rattle.demands.proofs.AnswerLaws.{at_most}
use Rattle.demands.proofs.SequenceLaws.{from_setup_lem}
use Rattle.demands.proofs.AskedLaws.{from_last, Before, UpTo, up_to, cut_at, sequence_held, sequence_two, sequence_third, sequence_reports, sequence_no_longer}
use Rattle.demands.proofs.ToldLaws.{SmallOrder, EachSmall, lines_fit, TellsSoFar, run_tells, run_answers}

-- ---- the same setups, inserts and steps

since_seen : (cs : List Call) → since (map seen cs) ≡ map seen (since cs)
unfolding seen
since_seen [] = refl
since_seen (c ∷ cs) = go (begins c) (since_seen cs)
  where
    go : (b : Bool) → since (map seen cs) ≡ map seen (since cs) → elim b as (λ b. List Call) [ true ↦ [] | false ↦ seen c ∷ since (map seen cs) ] ≡ map seen (elim b [ true ↦ [] | false ↦ c ∷ since cs ])
    go true h = refl
    go false h = ap (λ now. seen c ∷ now) h

links_seen : (cs : List Call) → links (map seen cs) ≡ links cs
unfolding seen
links_seen [] = refl
links_seen (c ∷ cs) = ap (λ l. elim (begins c) as (λ b. ℕ) [ true ↦ links_of c.order | false ↦ l ]) (links_seen cs)

has_seen : (cs : List Call) → has_setup (map seen cs) ≡ has_setup cs
unfolding seen
has_seen [] = refl
has_seen (c ∷ cs) = ap (λ h. begins c or h) (has_seen cs)

put_seen : (cs : List Call) → put_in (map seen cs) ≡ put_in cs
unfolding seen
put_seen [] = refl
put_seen (c ∷ cs) = ap (λ es. if_done (accepted c) (brought c.order) ++ es) (put_seen cs)

steps_seen : (cs : List Call) → steps (map seen cs) ≡ steps cs
unfolding seen
steps_seen [] = refl
steps_seen (c ∷ cs) = ap (λ t. c.steps + t) (steps_seen cs)

-- ---- sixteen digits are enough

abbrev Small : List ℕ → Type 0
Small es = (v : ℕ) → 0 < times v es → v < 16 ^ 16

times_append : (v : ℕ) (es fs : List ℕ) → times v (es ++ fs) ≡ times v es + times v fs
times_append v [] fs = omega arith
times_append v (e ∷ es) fs = omega (arith, times_append v es fs)

both_small : (es fs : List ℕ) → Small es → Small fs → Small (es ++ fs)
both_small es fs one two v h =
    elim (dec_lt 0 (times v es)) [
      | yes g ↦ one v g
      | no g ↦ two v (omega (arith, times_append v es fs))
    ]

if_small : (b : Bool) (es : List ℕ) → Small es → Small (if_done b es)
if_small true es h = h
if_small false es h = λ v g. absurd (omega arith)

brought_small : (order : Order) → SmallOrder order → Small (brought order)
brought_small (setup_of links) h v g = absurd (omega arith)
brought_small (insert_of entry) h v g = go (eqb v entry) refl g
  where
    go : (b : Bool) → eqb v entry ≡ b → 0 < once b + 0 → v < 16 ^ 16
    go true e g = rw (eqb→eq v entry (subst T (sym e) tt)) h
    go false e g = absurd (omega arith)
brought_small take_it h v g = absurd (omega arith)
brought_small look_at h v g = absurd (omega arith)
brought_small held_now h v g = absurd (omega arith)
brought_small audit_it h v g = absurd (omega arith)

put_small : (cs : List Call) → EachSmall cs → Small (put_in cs)
put_small [] h = λ v g. absurd (omega arith)
put_small (c ∷ cs) h = both_small (if_done (accepted c) (brought c.order)) (put_in cs) (if_small (accepted c) (brought c.order) (brought_small c.order h.0)) (put_small cs h.1)

since_small : (cs : List Call) → EachSmall cs → EachSmall (since cs)
since_small [] h = tt
since_small (c ∷ cs) h = go (begins c) (since_small cs h.1)
  where
    go : (b : Bool) → EachSmall (since cs) → EachSmall (elim b [ true ↦ [] | false ↦ c ∷ since cs ])
    go true g = tt
    go false g = (h.0, g)

-- the last sixteen digits of a word
abbrev digits_of : ℕ → ℕ
digits_of w = number (digits 16 w)

all_again : (es : List ℕ) → Small es → map digits_of es ≡ es
all_again [] h = refl
all_again (e ∷ es) h =
    let first : e < 16 ^ 16 = h e (omega (arith, ap once (eq-eqb e e refl))) in
    let others : map digits_of es ≡ es = all_again es (λ v g. h v (omega arith)) in
    λ i. number_digits 16 e first i ∷ others i

out_seen : (cs : List Call) → taken_out (map seen cs) ≡ map digits_of (taken_out cs)
unfolding seen
out_seen [] = refl
out_seen (c ∷ cs) = go c.order (accepted c) (out_seen cs)
  where
    go : (order : Order) (b : Bool) → taken_out (map seen cs) ≡ map digits_of (taken_out cs)
        → if_done b (handed order (digits_of c.word)) ++ taken_out (map seen cs) ≡ map digits_of (if_done b (handed order c.word) ++ taken_out cs)
    go (setup_of links) true h = h
    go (setup_of links) false h = h
    go (insert_of entry) true h = h
    go (insert_of entry) false h = h
    go take_it true h = ap (λ es. digits_of c.word ∷ es) h
    go take_it false h = h
    go look_at true h = h
    go look_at false h = h
    go held_now true h = h
    go held_now false h = h
    go audit_it true h = h
    go audit_it false h = h

-- ---- demand 2

smallest_by : (e : ℕ) (cs ds : List Call) → put_in ds ≡ put_in cs → taken_out ds ≡ taken_out cs → Smallest e cs → Smallest e ds
smallest_by e cs ds i o z = record { held = rw (i, o) z.held; least = λ v h. z.least v (rw (i, o) at h) }

module _ (c : Call) (now : List Call) (l : ℕ) (small : Small (put_in now)) (outs : taken_out (map seen now) ≡ taken_out now) (fits : inserts now ≤ takes now + broken) where
  still : (v : ℕ) → StillHeld v (map seen now) → StillHeld v now
  still v h = rw (put_seen now, outs) at h

  smallest_seen : Smallest c.word now → Smallest (digits_of c.word) (map seen now)
  smallest_seen z =
      let enough : c.word < 16 ^ 16 = small c.word (omega (arith, z.held)) in
      subst (λ w. Smallest w (map seen now)) (sym (number_digits 16 c.word enough)) (smallest_by c.word now (map seen now) (put_seen now) outs z)

  as_often : ((v : ℕ) → times v (taken_out now) ≡ times v (put_in now)) → (v : ℕ) → times v (taken_out (map seen now)) ≡ times v (put_in (map seen now))
  as_often e v = ap (times v) outs ∙ e v ∙ sym (ap (times v) (put_seen now))

  second_seen : EachCall c now l → EachCall (seen c) (map seen now) l
  unfolding seen
  second_seen z = record {
    take_smallest = λ is done. smallest_seen (z.take_smallest is done);
    look_smallest = λ is done. smallest_seen (z.look_smallest is done);
    take_accepted = λ is v h. z.take_accepted is v (still v h);
    look_accepted = λ is v h. z.look_accepted is v (still v h);
    take_refused = λ is no. let e = z.take_refused is no in (e.0, as_often e.1);
    look_refused = λ is no. let e = z.look_refused is no in (e.0, as_often e.1);
    insert_accepted = λ e is work door less. z.insert_accepted e is work door (omega (arith, ap length (put_seen now), ap length outs));
    insert_short = z.insert_short;
    insert_door = z.insert_door;
    insert_full = λ e is work door all. z.insert_full e is work door (omega (arith, ap length (put_seen now), ap length outs));
    held_count = λ is.
        let e = z.held_count is in
        (e.0, omega (arith, ap length (put_seen now), ap length outs, e.1, number_digits 16 c.word (omega (arith, e.1))));
    audit_done = λ is. z.audit_done is;
  }

-- what is known of calls one after the other, an accepted setup among them
module _ {ws ws' : List ℕ} (cs : List Call) (calls : Sequence ws cs ws') (each_small : EachSmall cs) (has : has_setup cs ≡ true) where
  puts : Small (put_in (since cs))
  puts = put_small (since cs) (since_small cs each_small)

  outs : taken_out (map seen (since cs)) ≡ taken_out (since cs)
  outs = out_seen (since cs) ∙ all_again (taken_out (since cs)) (λ v g. puts v (omega (arith, (sequence_held cs calls has).no_more v)))

  fit : inserts (since cs) ≤ takes (since cs) + broken
  fit =
      let h = from_setup_lem calls has in
      from_last (λ now l. inserts now ≤ takes now + broken) cs (omega (arith, at_most h, most_small (is_link (links (from_setup cs)) (stands h).number)))

-- those told up to some time are calls up to some time, each as its line tells it
record Parted (cs earlier : List Call) : Type 0 where
  later' : List Call
  earlier' : List Call
  whole : cs ≡ later' ++ earlier'
  before : map seen earlier' ≡ earlier

parted : (cs later earlier : List Call) → map seen cs ≡ later ++ earlier → Parted cs earlier
parted cs [] earlier e = record { later' = []; earlier' = cs; whole = refl; before = e }
parted [] (d ∷ later) earlier e = absurd (omega (arith, ap length e))
parted (b ∷ cs) (d ∷ later) earlier e =
    let z = parted cs later earlier (ap (drop 1) e) in
    record { later' = b ∷ z.later'; earlier' = z.earlier'; whole = ap (λ cs. b ∷ cs) z.whole; before = z.before }

-- and a call among them is a call as its line tells it
record Split (cs : List Call) (c : Call) (earlier : List Call) : Type 0 where
  later' : List Call
  c' : Call
  earlier' : List Call
  whole : cs ≡ later' ++ c' ∷ earlier'
  same : seen c' ≡ c
  before : map seen earlier' ≡ earlier

split : (cs later : List Call) (c : Call) (earlier : List Call) → map seen cs ≡ later ++ c ∷ earlier → Split cs c earlier
unfolding head_or
split cs later c earlier e = let z = parted cs later (c ∷ earlier) e in first z.later' z.earlier' z.whole z.before
  where
    first : (later' rest : List Call) → cs ≡ later' ++ rest → map seen rest ≡ c ∷ earlier → Split cs c earlier
    first later' [] whole before = absurd (omega (arith, ap length before))
    first later' (b ∷ rest) whole before = record { later' = later'; c' = b; earlier' = rest; whole = whole; same = ap (head_or c) before; before = ap (drop 1) before }

small_before : (later earlier : List Call) → EachSmall (later ++ earlier) → EachSmall earlier
small_before [] earlier h = h
small_before (d ∷ later) earlier h = small_before later earlier h.1

-- what holds of the calls since the last setup, each as its line tells it
since_told : (P : List Call → ℕ → Type 0) (cs : List Call) → P (map seen (since cs)) (links cs) → P (since (map seen cs)) (links (map seen cs))
since_told P cs p = subst (λ now. P now (links (map seen cs))) (sym (since_seen cs)) (subst (P (map seen (since cs))) (sym (links_seen cs)) p)

held_seen : (now : List Call) (l : ℕ) → taken_out (map seen now) ≡ taken_out now → Held now l → Held (map seen now) l
held_seen now l outs z = record {
  no_more = λ v. omega (arith, ap (times v) outs, ap (times v) (put_seen now), z.no_more v);
  exactly = λ e v. ap (times v) outs ∙ z.exactly (sym (ap length outs) ∙ e ∙ ap length (put_seen now)) v ∙ sym (ap (times v) (put_seen now));
  one = z.one;
  few = z.few;
  at_most = omega (arith, z.at_most, ap length outs, ap length (put_seen now));
}

-- whatever packed, it was not more often than the bound says
more_packings : (l n p q : ℕ) → p ≤ q → steps_bound l n p ≤ steps_bound l n q
unfolding steps_bound
more_packings l n p q h = omega (arith, mul-le-mul_left (per_packing l) h)

third_told : (now : List Call) (l : ℕ) → Bounded now l (packings now) → Bounded (map seen now) l (packings now)
third_told now l z = record {
  bounded = subst (λ es. steps (map seen now) ≤ steps_bound l (length es) (packings now)) (sym (put_seen now)) (omega (arith, steps_seen now, z.bounded));
  few = subst (λ es. packings now ≤ length es / s l) (sym (put_seen now)) z.few;
}

third_seen : (now : List Call) (l : ℕ) → Bounded now l (packings now) → Bounded (map seen now) l (inserts (map seen now) / s l)
third_seen now l z = record {
  bounded =
      subst (λ es. steps (map seen now) ≤ steps_bound l (length es) (length es / s l)) (sym (put_seen now))
      (omega (arith, steps_seen now, z.bounded, more_packings l (inserts now) (packings now) (inserts now / s l) z.few));
  few = omega arith;
}

module _ {ws ws' : List ℕ} (cs : List Call) (calls : Sequence ws cs ws') (each_small : EachSmall cs) where
  -- what holds at the end of every sequence of calls, as told, holds of those told at any time
  any_time_told : (P : List Call → ℕ → Type 0) → ((left : List ℕ) (ds : List Call) → Sequence ws ds left → EachSmall ds → has_setup ds ≡ true → P (map seen (since ds)) (links ds)) → AtAnyTime (map seen cs) P
  any_time_told P at_end later earlier e has =
      let z = parted cs later earlier e in
      let f = z.earlier' in
      let had : has_setup f ≡ true = sym (has_seen f) ∙ ap has_setup z.before ∙ has in
      let smalls : EachSmall f = small_before z.later' f (subst EachSmall z.whole each_small) in
      let u : UpTo ws f = up_to z.later' f (subst (λ cs. Sequence ws cs ws') z.whole calls) in
      subst (λ earlier. P (since earlier) (links earlier)) z.before (since_told P f (at_end u.left f u.calls smalls had))

  each_seen : (later : List Call) (c : Call) (earlier : List Call) → map seen cs ≡ later ++ c ∷ earlier → has_setup earlier ≡ true → EachCall c (since earlier) (links earlier)
  each_seen later c earlier e has =
      let z = split cs later c earlier e in
      let f = z.earlier' in
      let had : has_setup f ≡ true = sym (has_seen f) ∙ ap has_setup z.before ∙ has in
      let smalls : EachSmall f = (small_before z.later' (z.c' ∷ f) (subst EachSmall z.whole each_small)).1 in
      let b : Before ws z.c' f = cut_at z.later' z.c' f (subst (λ cs. Sequence ws cs ws') z.whole calls) in
      let told : EachCall (seen z.c') (map seen (since f)) (links f) =
      second_seen z.c' (since f) (links f) (puts f b.calls smalls had) (outs f b.calls smalls had) (fit f b.calls smalls had)
      ((sequence_two cs calls).each z.later' z.c' f z.whole had) in
      subst (λ earlier. EachCall c (since earlier) (links earlier)) z.before
      (subst (λ c. EachCall c (since (map seen f)) (links (map seen f))) z.same (since_told (EachCall (seen z.c')) f told))

  pub seen_two : DemandTwo (map seen cs)
  seen_two = record {
    each = each_seen;
    always = any_time_told Held (λ left ds before smalls has. held_seen (since ds) (links ds) (outs ds before smalls has) (sequence_held ds before has));
  }

  pub seen_three : DemandThree (map seen cs) (λ now l. inserts now / s l)
  seen_three = any_time_told (λ now l. Bounded now l (inserts now / s l)) (λ left ds before smalls has. third_seen (since ds) (links ds) (sequence_third ds before has))

-- ---- a session

module _ {ws ws' work work' out : List ℕ} (pieces : List (List ℕ)) (session : Session (length work) ws work [] pieces ws' work' out) where
  abbrev input : List ℕ
  input = flatten pieces

  run : Runs (length work) ws work (orders_of input) ws' work' out
  run = session_answers pieces session

  so_far : TellsSoFar (length work) ws ws' work' (told (length work) input out)
  so_far = run_tells ws [] run (lines_fit (lines_of input)) (record { calls = []; sequence = none; tells = refl; small = tt; long = refl })

  pub session_tells : Tells (length work) ws ws' input out
  session_tells = record { calls = so_far.calls; made = so_far.sequence; tells = so_far.tells; answers = run_answers run refl }

  pub session_two : DemandTwo (told (length work) input out)
  session_two = subst DemandTwo (sym so_far.tells) (seen_two so_far.calls so_far.sequence so_far.small)

  pub session_three : DemandThree (told (length work) input out) (λ now l. inserts now / s l)
  session_three = subst (λ calls. DemandThree calls (λ now l. inserts now / s l)) (sym so_far.tells) (seen_three so_far.calls so_far.sequence so_far.small)

  -- ---- the calls behind the lines

  told_made : (later earlier : List Call) → told (length work) input out ≡ later ++ earlier → MadeSoFar ws earlier
  told_made later earlier e =
      let z = parted so_far.calls later earlier (sym so_far.tells ∙ e) in
      let u : UpTo ws z.earlier' = up_to z.later' z.earlier' (subst (λ cs. Sequence ws cs ws') z.whole so_far.sequence) in
      record { calls = z.earlier'; left = u.left; made = u.calls; tells = z.before }

  pub session_packed : (later earlier : List Call) → told (length work) input out ≡ later ++ earlier → has_setup earlier ≡ true → Packed ws earlier
  session_packed later earlier e has =
      let m = told_made later earlier e in
      let f = m.calls in
      let had : has_setup f ≡ true = sym (has_seen f) ∙ ap has_setup m.tells ∙ has in
      record {
        so_far = m;
        third = subst (λ earlier. Bounded (since earlier) (links earlier) (packings (since f))) m.tells (since_told (λ now l. Bounded now l (packings (since f))) f (third_told (since f) (links f) (sequence_third f m.made had)));
      }

  pub session_reports : (later : List Call) (c : Call) (earlier : List Call) → told (length work) input out ≡ later ++ c ∷ earlier → Reported ws c earlier
  unfolding seen
  session_reports later c earlier e =
      let z = split so_far.calls later c earlier (sym so_far.tells ∙ e) in
      let r = sequence_reports so_far.calls so_far.sequence z.later' z.c' z.earlier' z.whole in
      record {
        so_far = record { calls = z.earlier'; left = r.found; made = r.calls; tells = z.before };
        steps_are = subst (λ c. c.steps ≡ (call c.work c.order (lent_of r.found)).steps) z.same r.steps_are;
      }

  pub session_no_longer : NoLonger (told (length work) input out)
  unfolding seen
  session_no_longer later c earlier e has =
      let z = split so_far.calls later c earlier (sym so_far.tells ∙ e) in
      let had : has_setup z.earlier' ≡ true = sym (has_seen z.earlier') ∙ ap has_setup z.before ∙ has in
      let links_are : links z.earlier' ≡ links earlier = sym (links_seen z.earlier') ∙ ap links z.before in
      let n = sequence_no_longer so_far.calls so_far.sequence z.later' z.c' z.earlier' z.whole had in
      subst (λ c. c.steps ≤ longest_call c.order (links earlier)) z.same (rw links_are at n)
