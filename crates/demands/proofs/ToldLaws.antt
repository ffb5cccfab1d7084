-- A run of lines is a sequence of calls, lines answered 10 left out, and the answer lines tell of each call all but its packing.
use Prim.Native.Nat.{ℕ, ◌^◌, ◌<◌}
use mathlib.Core.Path.{◌≡◌, refl, sym, ap, ◌∙◌, subst}
use mathlib.Core.Bool.{false}
use mathlib.Core.List.{List, [], ◌∷◌, ◌++◌, map}
use native.Mathlib.Omega.{arith}
use native.Mathlib.Decide.{ℕ_discrete}
use lib.ListN.{length, take, drop}
use lib.Seq.{take_at, drop_at}
use Rattle.rules.specs.Answers.{NotAFrame, number_of, answer_of, is_done}
use Rattle.rules.specs.Calls as rules
use Rattle.rules.specs.Examples as orders
use Rattle.rules.proofs.AnswerLaws.{answer_again, answer_few, same_number}
use Rattle.frames.specs.Answers.{Back}
use Rattle.frames.specs.AnswerLine.{answer_line}
use Rattle.frames.specs.Digits.{number, digits}
use Rattle.frames.specs.Frames.{read_of}
use Rattle.frames.specs.Orders.{Fits}
use Rattle.frames.specs.declared.Order.{Order}
use Rattle.frames.specs.declared.Order.TheVariants.{Setup, Insert, Take, Look, Held, Audit}
use Rattle.frames.proofs.DigitLaws.{length_digits, capital_digits, number_digits, digits_number}
use Rattle.frames.proofs.EntryLaws.{word_below}
use Rattle.frames.proofs.OrderLaws.{Settled, order, none}
use Rattle.frames.proofs.FrameLaws.{read_settled}
use Rattle.frames.proofs.RoundTrip.{read_fits}
use Rattle.frames.proofs.Laying.{answer_long}
use Rattle.buffers.specs.Format.{lent_of}
use Rattle.sessions.specs.Runs as sessions
use Rattle.sessions.specs.Runs.{asked, order_call, values_call, After, Left, Runs, ends, goes}
use Rattle.sessions.proofs.RunLaws.{left_long}
use Rattle.demands.specs.Histories.{Call, Made, Sequence, more}
use Rattle.demands.specs.Exact.{Answers}
use Rattle.demands.specs.Told.{told_by, one_more, told_after, seen, AnswersLine, AnswersEach}
use Rattle.demands.proofs.AnswerLaws.{made_exactly}
use Rattle.demands.proofs.LongestLaws.{eight_digits}

-- ---- an answer line, read again

module _ (a w s : ℕ) where
  line_answer : take 2 (answer_line a w s) ≡ digits 2 a
  unfolding digits
  line_answer = refl

  line_word : take 16 (drop 2 (answer_line a w s)) ≡ digits 16 w
  unfolding digits
  line_word = refl

  line_steps : take 8 (drop 18 (answer_line a w s)) ≡ digits 8 s
  unfolding digits
  line_steps = refl

abbrev call_of : ℕ → Order → rules.Outcome → Call
call_of n o out = record { order = asked o; work = n; answer = out.answer; word = out.word; steps = out.steps; packed = out.packed }

line_tells : (n : ℕ) (o : Order) (out : rules.Outcome) → out.steps < 16 ^ 8 → told_by n o (sessions.answer_of out) ≡ seen (call_of n o out)
unfolding told_by seen
line_tells n o out few =
    let a = number_of out.answer in
    let small : a < 16 ^ 2 = omega (arith, answer_few out.answer) in
    let answers : answer_of (number (take 2 (sessions.answer_of out))) ≡ out.answer =
    ap (λ ds. answer_of (number ds)) (line_answer a out.word out.steps) ∙ ap answer_of (number_digits 2 a small) ∙ answer_again out.answer in
    let words : number (take 16 (drop 2 (sessions.answer_of out))) ≡ number (digits 16 out.word) = ap number (line_word a out.word out.steps) in
    let steps : number (take 8 (drop 18 (sessions.answer_of out))) ≡ out.steps = ap number (line_steps a out.word out.steps) ∙ number_digits 8 out.steps few in
    λ i. record { order = asked o; work = n; answer = answers i; word = words i; steps = steps i; packed = false }

-- digits that were read and written again are the same
digits_again : (k n : ℕ) → digits k (number (digits k n)) ≡ digits k n
digits_again k n = subst (λ m. digits m (number (digits k n)) ≡ digits k n) (length_digits k n) (digits_number (digits k n) (capital_digits k n))

line_again : (a w s : ℕ) → let line = answer_line a w s in line ≡ answer_line (number (take 2 line)) (number (take 16 (drop 2 line))) (number (take 8 (drop 18 line)))
line_again a w s =
    let answers : digits 2 a ≡ digits 2 (number (take 2 (answer_line a w s))) = sym (ap (λ ds. digits 2 (number ds)) (line_answer a w s) ∙ digits_again 2 a) in
    let words : digits 16 w ≡ digits 16 (number (take 16 (drop 2 (answer_line a w s)))) = sym (ap (λ ds. digits 16 (number ds)) (line_word a w s) ∙ digits_again 16 w) in
    let steps : digits 8 s ≡ digits 8 (number (take 8 (drop 18 (answer_line a w s)))) = sym (ap (λ ds. digits 8 (number ds)) (line_steps a w s) ∙ digits_again 8 s) in
    λ i. answers i ++ words i ++ steps i ++ (10 ∷ [])

-- ---- what frames bring

-- an order's entry is a word of 64 bits
abbrev pub SmallOrder : orders.Order → Type 0
SmallOrder (orders.setup_of links) = Unit {0}
SmallOrder (orders.insert_of entry) = entry < 16 ^ 16
SmallOrder orders.take_it = Unit {0}
SmallOrder orders.look_at = Unit {0}
SmallOrder orders.held_now = Unit {0}
SmallOrder orders.audit_it = Unit {0}

abbrev pub EachSmall : List Call → Type 0
EachSmall [] = Unit {0}
EachSmall (c ∷ cs) = SmallOrder c.order × EachSmall cs

abbrev FitsFirst : List Order → Type 0
FitsFirst [] = Unit {0}
FitsFirst (o ∷ os) = Fits o

abbrev EachFits : List (Back Order) → Type 0
EachFits [] = Unit {0}
EachFits (read ∷ reads) = FitsFirst read.values × EachFits reads

asked_small : (o : Order) → Fits o → SmallOrder (asked o)
asked_small (Setup links) f = tt
asked_small (Insert e) f = word_below e f
asked_small Take f = tt
asked_small Look f = tt
asked_small Held f = tt
asked_small Audit f = tt

line_fits : (l : List ℕ) → FitsFirst (read_of l).values
line_fits l = go (read_of l) (read_settled l) refl
  where
    go : (read : Back Order) → Settled read → read_of l ≡ read → FitsFirst read.values
    go read (order o) e = read_fits l o e
    go read none e = tt

pub lines_fit : (ls : List (List ℕ)) → EachFits (map read_of ls)
lines_fit [] = tt
lines_fit (l ∷ ls) = (line_fits l, lines_fit ls)

-- ---- a line more

-- calls on an array that was ws₀ at first and is ws now, of which these are told; the work area has n words
pub record TellsSoFar (n : ℕ) (ws₀ ws work : List ℕ) (told : List Call) : Type 0 where
  pub calls : List Call
  pub sequence : Sequence ws₀ calls ws
  pub tells : told ≡ map seen calls
  pub small : EachSmall calls
  pub long : length work ≡ n

one_more_lem : (n : ℕ) (ws₀ ws next work left : List ℕ) (values : List Order) (told : List Call) → After ws next (values_call n values (lent_of ws))
    → Left values ws next work left (values_call n values (lent_of ws)).answer → FitsFirst values → TellsSoFar n ws₀ ws work told
    → TellsSoFar n ws₀ next left (one_more n values (sessions.answer_of (values_call n values (lent_of ws))) told)
unfolding values_call order_call one_more is_done rules.refused
one_more_lem n ws₀ ws next work left [] told after leaves fits t = record {
  calls = t.calls;
  sequence = subst (Sequence ws₀ t.calls) (sym leaves.0) t.sequence;
  tells = t.tells;
  small = t.small;
  long = left_long [] ws next work left NotAFrame leaves ∙ t.long;
}
one_more_lem n ws₀ ws next work left (o ∷ os) told after leaves fits t =
    let out = orders.call n (asked o) (lent_of ws) in
    let c = call_of n o out in
    let made : Made ws c next = record { called = after; area = work; left = left; lent = t.long; besides = leaves } in
    record {
      calls = c ∷ t.calls;
      sequence = more ws next c t.calls t.sequence made;
      tells = λ i. line_tells n o out (eight_digits ws next c made) i ∷ t.tells i;
      small = (asked_small o fits, t.small);
      long = left_long (o ∷ os) ws next work left out.answer leaves ∙ t.long;
    }

-- ---- runs

-- the first answer line, and those behind it
first_line : (a w s : ℕ) (bytes : List ℕ) → take 27 (answer_line a w s ++ bytes) ≡ answer_line a w s
first_line a w s bytes = take_at (answer_line a w s) bytes 27 (answer_long a w s)

other_lines : (a w s : ℕ) (bytes : List ℕ) → drop 27 (answer_line a w s ++ bytes) ≡ bytes
other_lines a w s bytes = drop_at (answer_line a w s) bytes 27 (answer_long a w s)

pub run_tells : {n : ℕ} {ws work ws' work' bytes : List ℕ} {reads : List (Back Order)} (ws₀ : List ℕ) (told : List Call) → Runs n ws work reads ws' work' bytes → EachFits reads
    → TellsSoFar n ws₀ ws work told → TellsSoFar n ws₀ ws' work' (told_after n reads bytes told)
unfolding told_after
run_tells ws₀ told (ends ws work) fits t = t
run_tells {n} ws₀ told (goes ws work next left ws' work' read reads bytes after leaves run) fits t =
    let out = values_call n read.values (lent_of ws) in
    let line = sessions.answer_of out in
    let first = first_line (number_of out.answer) out.word out.steps bytes in
    let others = other_lines (number_of out.answer) out.word out.steps bytes in
    let now = one_more_lem n ws₀ ws next work left read.values told after leaves fits.0 t in
    subst (TellsSoFar n ws₀ ws' work') (λ i. told_after n reads (sym others i) (one_more n read.values (sym first i) told)) (run_tells ws₀ (one_more n read.values line told) run fits.1 now)

-- ---- the answer lines themselves

-- no row of the table answers 10
no_row : {work : ℕ} {a : rules.Lent} {order : orders.Order} → Answers work a order NotAFrame → ⊥
no_row z = elim z [ ]

-- so no call does
never_ten : (ws next : List ℕ) (c : Call) → Made ws c next → number_of c.answer < 10
never_ten ws next c made =
    elim (ℕ_discrete (number_of c.answer) 10) [
      | yes ten ↦ absurd (no_row ((made_exactly ws next c made NotAFrame).0 (same_number c.answer NotAFrame ten)))
      | no other ↦ omega (arith, answer_few c.answer)
    ]

line_answers : (n : ℕ) (ws next work left : List ℕ) (values : List Order) → After ws next (values_call n values (lent_of ws)) → Left values ws next work left (values_call n values (lent_of ws)).answer
    → length work ≡ n → AnswersLine values (sessions.answer_of (values_call n values (lent_of ws)))
unfolding values_call order_call rules.refused
line_answers n ws next work left [] after leaves long = refl
line_answers n ws next work left (o ∷ os) after leaves long =
    let out = orders.call n (asked o) (lent_of ws) in
    let made : Made ws (call_of n o out) next = record { called = after; area = work; left = left; lent = long; besides = leaves } in
    let a = number_of out.answer in
    let low : a < 10 = never_ten ws next (call_of n o out) made in
    let answers : number (take 2 (sessions.answer_of out)) ≡ a = ap number (line_answer a out.word out.steps) ∙ number_digits 2 a (omega arith) in
    (line_again a out.word out.steps, rw answers low)

-- of each line of a run
pub run_answers : {n : ℕ} {ws work ws' work' bytes : List ℕ} {reads : List (Back Order)} → Runs n ws work reads ws' work' bytes → length work ≡ n → AnswersEach reads bytes
run_answers (ends ws work) long = refl
run_answers {n} (goes ws work next left ws' work' read reads bytes after leaves run) long =
    let out = values_call n read.values (lent_of ws) in
    let first = first_line (number_of out.answer) out.word out.steps bytes in
    let others = other_lines (number_of out.answer) out.word out.steps bytes in (
      subst (AnswersLine read.values) (sym first) (line_answers n ws next work left read.values after leaves long),
      subst (AnswersEach reads) (sym others) (run_answers run (left_long read.values ws next work left out.answer leaves ∙ long)),
    )
