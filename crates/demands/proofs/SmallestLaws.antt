-- Each take of a history hands out the smallest entry put in and still held, and no entry comes out more often than it was put in.
use Prim.Native.Nat.{ℕ, suc, ◌+◌, ◌≤◌}
use mathlib.Core.Path.{◌≡◌, refl, sym, ap, ◌∙◌, subst}
use mathlib.Core.Bool.{Bool, true, false}
use mathlib.Core.List.{List, [], ◌∷◌, ◌++◌}
use native.Mathlib.Omega.{arith}
use lib.Dec.{T, eqb}
use lib.ListN.{length}
use Rattle.rules.specs.Answers.{is_done}
use Rattle.rules.specs.Entries.{the_rule, key_by}
use Rattle.rules.specs.Tests.{◌and◌}
use Rattle.rules.specs.Tree.{tree_of}
use Rattle.rules.specs.Order.{in_order}
use Rattle.rules.specs.Queue.{Queue, rule_of, key_of, held}
use Rattle.rules.specs.Calls.{Lent, queue_of}
use Rattle.rules.specs.Examples.{Order, take_it, look_at, call}
use Rattle.rules.proofs.Weight.{sum_of_ones, one_if, times_of}
use Rattle.rules.proofs.EntryOrder.{Earlier, earlier_smaller, one_key}
use Rattle.rules.proofs.History.{Fine, since_fine, since_ordered}
use Rattle.buffers.specs.Format.{lent_of}
use Rattle.queue.proofs.AgreeLaws.{the_answer}
use Rattle.demands.specs.Histories.{Call, Made, accepted, is_setup, begins, History, first, next, since, links, brought, handed, if_done, put_in, taken_out, times, StillHeld, Smallest, between}
use Rattle.queue.proofs.CheckLaws.{unlike}
use Rattle.demands.proofs.CallLaws.{once_is, held_is, times_held, LeastHeld, least_taken, least_seen}
use Rattle.demands.proofs.HistoryLaws.{stands}

-- ---- a call in a history

-- the history before a call, and the words it was made on and left
pub record Before (c : Call) (earlier : List Call) : Type 0 where
  pub ws : List ℕ
  pub ws' : List ℕ
  pub history : History earlier ws
  pub made : Made ws c ws'

unfoldable pub head_or : Call → List Call → Call
head_or d [] = d
head_or d (c ∷ cs) = c

tail_of : List Call → List Call
tail_of [] = []
tail_of (c ∷ cs) = cs

not_empty : (later : List Call) (c : Call) (earlier : List Call) → [] ≡ later ++ c ∷ earlier → ⊥
not_empty [] c earlier e = let l : 0 ≡ suc (length earlier) = ap length e in omega arith
not_empty (d ∷ later) c earlier e = let l : 0 ≡ suc (length (later ++ c ∷ earlier)) = ap length e in omega arith

-- every call of a history but the setup that begins it was made after a history
find : {cs : List Call} {ws : List ℕ} → History cs ws → (later : List Call) (c : Call) (earlier : List Call) → cs ≡ later ++ c ∷ earlier → begins c ≡ false → Before c earlier
unfolding head_or tail_of
find (first ws ws' d b made) [] c earlier e n = let same : d ≡ c = ap (head_or d) e in absurd (unlike (sym b ∙ ap begins same ∙ n))
find (first ws ws' d b made) (x ∷ later) c earlier e n = absurd (not_empty later c earlier (ap tail_of e))
find (next ws ws' d cs h made) [] c earlier e n =
    record { ws = ws; ws' = ws'; history = subst (λ cs. History cs ws) (ap tail_of e) h; made = subst (λ c. Made ws c ws') (ap (head_or d) e) made }
find (next ws ws' d cs h made) (x ∷ later) c earlier e n = find h later c earlier (ap tail_of e) n
find (between ws vs cs h same) later c earlier e n = find h later c earlier e n

pub before : {ws : List ℕ} (later : List Call) (c : Call) (earlier : List Call) → History (later ++ c ∷ earlier) ws → begins c ≡ false → Before c earlier
before later c earlier h n = find h later c earlier refl n

-- ---- how often an entry is held

times_is : (v : ℕ) (es : List ℕ) → times v es ≡ times_of v es
times_is v [] = refl
times_is v (e ∷ es) = omega (arith, once_is (eqb v e), times_is v es)

-- every queue orders by the one rule
key_is : (q : Queue) → key_of q ≡ key_by the_rule
unfolding key_of rule_of the_rule
key_is q = refl

module _ {cs : List Call} {ws : List ℕ} (h : History cs ws) where
  abbrev q : Queue
  q = queue_of (lent_of ws)

  -- handed out, and held now, is put in
  pub times_held_lem : (v : ℕ) → times v (taken_out (since cs)) + times_held v q ≡ times v (put_in (since cs))
  times_held_lem v = omega (arith, (stands h).keeps (λ e. one_if (eqb v e)), times_is v (taken_out (since cs)), times_is v (put_in (since cs)))

  -- as many are held as were put in and not handed out
  pub number_held : length (taken_out (since cs)) + held q ≡ length (put_in (since cs))
  number_held = omega (arith, (stands h).keeps (λ e. 1), held_is q, sum_of_ones (taken_out (since cs)), sum_of_ones (put_in (since cs)))

  -- "no entry comes out more often than it was put in"
  pub no_more : (v : ℕ) → times v (taken_out (since cs)) ≤ times v (put_in (since cs))
  no_more v = omega (arith, times_held_lem v)

  -- a smallest entry of the queue is the smallest put in and still held
  smallest : (e : ℕ) → LeastHeld q e → Smallest e (since cs)
  smallest e h = record { held = omega (arith, h.there, times_held_lem e); least = λ v s. subst (λ key. key e ≤ key v) (key_is q) (h.least v (omega (arith, times_held_lem v))) }

  abbrev a : Lent
  a = lent_of ws

  fine : Fine (links cs) q
  fine = since_fine (links cs) (stands h).number (stands h).goes

  ordered : T (in_order (key_of q) (tree_of q.links) q.buffers)
  ordered = since_ordered (links cs) (stands h).number (stands h).goes

  -- the next call
  module _ (c : Call) (ws' : List ℕ) (made : Made ws c ws') where
    shown : (order : Order) → c.order ≡ order → accepted c ≡ true → (T (is_done (call c.work order a).answer) → LeastHeld q (call c.work order a).word) → Smallest c.word (since cs)
    shown order is done least =
        let o = call c.work order a in
        let same = ap (λ order. call c.work order a) is in
        let d : T (is_done o.answer) = subst T (sym done ∙ ap is_done (the_answer made.called ∙ ap (λ o. o.answer) same)) tt in
        subst (λ w. Smallest w (since cs)) (sym (made.called.word_is ∙ ap (λ o. o.word) same)) (smallest o.word (least d))

    pub smallest_taken : c.order ≡ take_it → accepted c ≡ true → Smallest c.word (since cs)
    unfolding call
    smallest_taken is done = shown take_it is done (least_taken a fine ordered)

    pub smallest_seen : c.order ≡ look_at → accepted c ≡ true → Smallest c.word (since cs)
    unfolding call
    smallest_seen is done = shown look_at is done (least_seen a fine ordered)

-- an order that is no setup begins nothing
pub no_setup : (c : Call) (order : Order) → c.order ≡ order → is_setup order ≡ false → begins c ≡ false
no_setup c order is other = ap (λ order. is_setup order and accepted c) is ∙ ap (λ b. b and accepted c) other

-- ---- a look, and the take behind it

-- there is but one smallest entry
one_smallest : (e f : ℕ) (cs ds : List Call) → put_in cs ≡ put_in ds → taken_out cs ≡ taken_out ds → Smallest e cs → Smallest f ds → e ≡ f
one_smallest e f cs ds i o one two = one_key the_rule e f (omega (arith, one.least f (rw (i, o) two.held), two.least e (rw (← i, ← o) one.held)))

-- a call that brings and hands out nothing adds nothing to either
none_either : (b : Bool) → if_done b [] ≡ []
none_either true = refl
none_either false = refl

since_next : (c : Call) (cs : List Call) → begins c ≡ false → since (c ∷ cs) ≡ c ∷ since cs
since_next c cs e = subst (λ b. elim b as (λ b. List Call) [ true ↦ [] | false ↦ c ∷ since cs ] ≡ c ∷ since cs) (sym e) refl

pub look_adds_none : (c : Call) (cs : List Call) → c.order ≡ look_at → (put_in (since (c ∷ cs)) ≡ put_in (since cs)) × (taken_out (since (c ∷ cs)) ≡ taken_out (since cs))
look_adds_none c cs is =
    let e = since_next c cs (no_setup c look_at is refl) in (
      ap put_in e ∙ ap (λ order. if_done (accepted c) (brought order) ++ put_in (since cs)) is ∙ ap (λ es. es ++ put_in (since cs)) (none_either (accepted c)),
      ap taken_out e ∙ ap (λ order. if_done (accepted c) (handed order c.word) ++ taken_out (since cs)) is ∙ ap (λ es. es ++ taken_out (since cs)) (none_either (accepted c)),
    )

-- the take hands out what the look has shown
pub taken_as_seen : (c d : Call) (cs : List Call) → d.order ≡ look_at → Smallest c.word (since (d ∷ cs)) → Smallest d.word (since cs) → c.word ≡ d.word
taken_as_seen c d cs is one two = let same = look_adds_none d cs is in one_smallest c.word d.word (since (d ∷ cs)) (since cs) same.0 same.1 one two

-- none that is still held comes earlier by tick, door and command
pub none_earlier : (e : ℕ) (cs : List Call) → Smallest e cs → (v : ℕ) → StillHeld v cs → Earlier v e → ⊥
none_earlier e cs s v still earlier = omega (arith, s.least v still, earlier_smaller the_rule v e earlier)
