-- The three demands, the day tally and what document 02 asks besides, side by side. What a call, a history and its sums are: specs/Histories.antt. Each function's contract is a call that was made: MadeLaws.
use Prim.Native.Nat.{ℕ, ◌+◌, ◌*◌, ◌/◌, ◌^◌, ◌≤◌, ◌<◌}
use mathlib.Core.Path.{◌≡◌, refl}
use mathlib.Core.Logic.{◌⊎◌, ◌≢◌}
use mathlib.Core.Bool.{Bool, true, false}
use mathlib.Core.List.{List, [], ◌∷◌, ◌++◌, flatten}
use lib.ListN.{length, get_or, take, drop}
use Rattle.rules.specs.Answers.{Answer, Done, NoneHeld, number_of}
use Rattle.rules.specs.Entries.{door}
use Rattle.rules.specs.Links.{s, most_links, most, words}
use Rattle.rules.specs.Queue.{held}
use Rattle.rules.specs.Insert.{entered}
use Rattle.rules.specs.Rest.{HasPlace}
use Rattle.rules.specs.Book.{sound}
use Rattle.rules.specs.Calls.{queue_of}
use Rattle.rules.specs.Bounds.{steps_bound}
use Rattle.rules.specs.Longest.{longest_call}
use Rattle.rules.specs.Examples.{insert_of, take_it, look_at, held_now, audit_it, call}
use Rattle.rules.proofs.AnswerLaws as numbers
use Rattle.rules.proofs.EntryOrder.{Earlier}
use Rattle.rules.proofs.History.{packings_bound}
use Rattle.rules.proofs.BoundLaws.{few_steps, four_rows, is_link}
use Rattle.buffers.specs.Format.{links_in, book_of, lent_of}
use Rattle.buffers.specs.Post.{Unused}
use Rattle.queue.proofs.AgreeLaws.{Agree}
use Rattle.tally.specs.declared.Tally.{Tally}
use Rattle.tally.specs.Day.{nothing, plus_each}
use Rattle.tally.specs.Sums.{Within}
use Rattle.sessions.specs.Pieces.{Session, Fed}
use Rattle.sessions.proofs.FedLaws.{fed_session}
use Rattle.frames.specs.Orders.{Fits}
use Rattle.frames.specs.declared.Order.{Order}
use Rattle.frames.specs.declared.NotAFrame.{NotAFrame}
use Rattle.std.specs.Prelude.{Result, Ok}
use Rattle.demands.specs.Histories.{Call, Made, accepted, MadeSame, History, Sequence, has_setup, from_setup, since, links, put_in, taken_out, inserts, takes, packings, steps, times, StillHeld, Smallest}
use Rattle.demands.specs.Exact.{Answers}
use Rattle.demands.specs.Tallies.{tally_after, sums}
use Rattle.demands.specs.Unread.{SameUpTo}
use Rattle.demands.specs.Asked.{DemandTwo, DemandThree, Reports, NoLonger}
use Rattle.demands.specs.Told.{told, Tells, Packed, Reported}
use Rattle.demands.specs.Library as library
use Rattle.gorgalhut.specs.Framed.{FrameRead, FrameWritten}
use Rattle.gorgalhut.specs.Numbered as numbered
use Rattle.gorgalhut.proofs.NumberedLaws.{means_nothing}
use lib.IntN.{ℤ}
use lib.Signed.{le_z}
use native.Mathlib.Omega.{arith}
use Rattle.lateness.specs.Ordered.{at_most}
use Rattle.lateness.specs.Reports.{row_of}
use Rattle.lateness.proofs.NumberLaws.{least_such}
use Rattle.gorgalhut.specs.Timed.{timed_answer, timed_report}
use Rattle.gorgalhut.proofs.AgreeLaws.{timed_agree}
use Rattle.demands.specs.Punctual.{Timed}
use Rattle.demands.proofs.PunctualLaws.{row_told, told_row}
use Rattle.demands.specs.Existence.{Exists}
use Rattle.demands.proofs.HistoryLaws.{stands}
use Rattle.demands.proofs.SmallestLaws as smallest
use Rattle.demands.proofs.SmallestLaws.{before, no_setup}
use Rattle.demands.proofs.SequenceLaws.{from_setup_lem, since_same, links_same}
use Rattle.demands.proofs.AnswerLaws as answers
use Rattle.demands.proofs.PlaceLaws.{sound_has_place, insert_has_place}
use Rattle.demands.proofs.MadeLaws.{Nothing, area_inside, refused_nothing, made_agree}
use Rattle.demands.proofs.LongestLaws.{eight_digits, made_longest, taken_rows, inserted_rows}
use Rattle.demands.proofs.TallyLaws.{history_made, since_made, tallied, tally_sums}
use Rattle.demands.proofs.FrameLaws.{Reads, Writes, read_back_lem, write_back}
use Rattle.demands.proofs.UnreadLaws.{made_unread}
use Rattle.demands.proofs.Existence.{computed}
use Rattle.demands.proofs.AskedLaws.{sequence_two, sequence_three, sequence_reports, sequence_no_longer}
use Rattle.demands.proofs.LibraryLaws.{library_made, library_calls}
use Rattle.demands.proofs.LibraryFrameLaws.{library_read_back, library_write_back}
use Rattle.demands.proofs.SeenLaws.{session_tells, session_two, session_packed, session_three, session_reports, session_no_longer}

-- ---- demand 1: a call c on any words ws, which left the words ws'

module _ (ws ws' : List ℕ) (c : Call) (made : Made ws c ws') where
  -- "every call .. stays inside the lent memory": "Words past the stated length are never touched."
  pub inside_the_lent : (length ws' ≡ length ws) × ((p : ℕ) → words (links_in ws') ≤ p → get_or ws' p 0 ≡ get_or ws p 0)
  inside_the_lent = (made.called.long, made.called.past)

  -- nor is a word of the book that means nothing by the link number that the call leaves
  pub unused_untouched : (p : ℕ) → Unused (links_in ws') p → get_or ws' p 0 ≡ get_or ws p 0
  unused_untouched = made.called.unused

  -- and of the work area none past H
  pub inside_the_area : (length made.left ≡ length made.area) × ((p : ℕ) → most (links_in ws) ≤ p → get_or made.left p 0 ≡ get_or made.area p 0)
  inside_the_area = area_inside ws ws' c made

  -- "each refusal exactly when the document says": the table of numbers is `Answers`
  pub each_answer_exactly : (r : Answer) → (c.answer ≡ r → Answers c.work (lent_of ws) c.order r) × (Answers c.work (lent_of ws) c.order r → c.answer ≡ r)
  each_answer_exactly = answers.made_exactly ws ws' c made

  -- "a refusal changes nothing", the work area included
  pub refusal_changes_nothing : accepted c ≡ false → Nothing ws ws' made.area made.left c
  refusal_changes_nothing = refused_nothing ws ws' c made

-- "two outcomes meeting it agree"
pub outcomes_agree : (ws ws₁ ws₂ : List ℕ) (c d : Call) → c.order ≡ d.order → c.work ≡ d.work → Made ws c ws₁ → Made ws d ws₂
    → Agree ws₁ ws₂ c.answer d.answer c.word d.word c.steps d.steps c.packed d.packed
outcomes_agree = made_agree

-- "Words past the stated length are never touched": nothing that comes back depends on them, nor on a word of the book that means nothing
pub never_read : (ws vs ws' vs' : List ℕ) (c d : Call) → SameUpTo ws vs → c.order ≡ d.order → c.work ≡ d.work → Made ws c ws' → Made vs d vs' → MadeSame ws c d ws' vs'
never_read = made_unread

-- ---- document 02, R-10: what a sweep or a packing leaves over has its place, and answer 8 has gone

-- "no array with a sound book leads there": on an array long enough for its links, whose book is sound and that holds fewer than H, no sweep leaves more than s(i) entries for S(i, c(i)), and no packing lays more than H, whatever entry is put in
pub rest_has_its_place : (ws : List ℕ) → words (links_in ws) ≤ length ws → sound (book_of ws) ≡ true → held (queue_of (lent_of ws)) < most (links_in ws)
    → (entry : ℕ) → HasPlace (entered entry (queue_of (lent_of ws)))
rest_has_its_place = sound_has_place

-- so no insert leads there: one that is done finds such an array, and one that is refused moves nothing
pub each_insert_has_place : (ws ws' : List ℕ) (c : Call) → Made ws c ws' → (entry : ℕ) → c.order ≡ insert_of entry → c.answer ≡ Done → HasPlace (entered entry (queue_of (lent_of ws)))
each_insert_has_place = insert_has_place

-- "Eight is not given to anything else."
pub eight_given_to_none : (r : Answer) → number_of r ≢ 8
eight_given_to_none = numbers.eight_given_to_none

-- and the tally takes it for a number that means nothing
pub eight_adds_nothing : (tally : Tally) (call steps : ℕ) (packed : Bool) → (numbered.named call 8 ≡ false) × (numbered.tallied tally call 8 steps packed ≡ tally)
eight_adds_nothing = means_nothing 8 eight_given_to_none

-- ---- document 02, R-9: how long one call can run

-- "For every array whose book is sound, show that one take makes at most ..": on any words, in order or not, since a call that finds no sound book is refused and makes no step; a look and an insert too
pub each_call_no_longer : (ws ws' : List ℕ) (c : Call) → Made ws c ws' → c.steps ≤ longest_call c.order (links_in ws)
each_call_no_longer = made_longest

-- ".. 16 merge steps with one link, 224 with two and 2,396 with three"; "the formula's value for four": 23,500
pub each_take_by_rows : (ws ws' : List ℕ) (c : Call) → Made ws c ws' → (c.order ≡ take_it) ⊎ (c.order ≡ look_at)
    → (links_in ws ≡ 1 → c.steps ≤ 16) × (links_in ws ≡ 2 → c.steps ≤ 224) × (links_in ws ≡ 3 → c.steps ≤ 2396) × (links_in ws ≡ 4 → c.steps ≤ 23500)
each_take_by_rows = taken_rows

-- and an insert: 16, 352, 5,712 and 138,176
pub each_insert_by_rows : (ws ws' : List ℕ) (c : Call) → Made ws c ws' → (entry : ℕ) → c.order ≡ insert_of entry
    → (links_in ws ≡ 1 → c.steps ≤ 16) × (links_in ws ≡ 2 → c.steps ≤ 352) × (links_in ws ≡ 3 → c.steps ≤ 5712) × (links_in ws ≡ 4 → c.steps ≤ 138176)
each_insert_by_rows = inserted_rows

-- ---- demand 2: a call c in a history, after the calls `earlier` and before the calls `later`

module _ {ws : List ℕ} (later : List Call) (c : Call) (earlier : List Call) (h : History (later ++ c ∷ earlier) ws) where
  -- "After the last accepted setup, each take hands out the smallest entry put in and still held"
  pub each_take_the_smallest : c.order ≡ take_it → accepted c ≡ true → Smallest c.word (since earlier)
  each_take_the_smallest is done = let b = before later c earlier h (no_setup c take_it is refl) in smallest.smallest_taken b.history c b.ws' b.made is done

  -- "due tick, then door, then command": none still held comes before it
  pub each_take_the_earliest : c.order ≡ take_it → accepted c ≡ true → (v : ℕ) → StillHeld v (since earlier) → Earlier v c.word → ⊥
  each_take_the_earliest is done = smallest.none_earlier c.word (since earlier) (each_take_the_smallest is done)

  -- "Look does the same and removes nothing."
  pub each_look_the_smallest : c.order ≡ look_at → accepted c ≡ true → Smallest c.word (since earlier)
  each_look_the_smallest is done = let b = before later c earlier h (no_setup c look_at is refl) in smallest.smallest_seen b.history c b.ws' b.made is done

  -- a queue that refuses everything is shut out: while something is still held, takes and looks are accepted
  pub each_take_accepted : c.order ≡ take_it → (v : ℕ) → StillHeld v (since earlier) → c.answer ≡ Done
  each_take_accepted is = let b = before later c earlier h (no_setup c take_it is refl) in answers.take_accepted b.history b.ws' c b.made is

  pub each_look_accepted : c.order ≡ look_at → (v : ℕ) → StillHeld v (since earlier) → c.answer ≡ Done
  each_look_accepted is = let b = before later c earlier h (no_setup c look_at is refl) in answers.look_accepted b.history b.ws' c b.made is

  -- and so is an insert with its work area and a known door while fewer than H are held
  pub each_insert_accepted : (e : ℕ) → c.order ≡ insert_of e → most (links earlier) ≤ c.work → door e ≤ 2 → inserts (since earlier) < takes (since earlier) + most (links earlier) → c.answer ≡ Done
  each_insert_accepted e is = let b = before later c earlier h (no_setup c (insert_of e) is refl) in answers.insert_accepted b.history b.ws' c b.made e is

  -- it is refused for no other reason
  pub refused_insert_why : (e : ℕ) → c.order ≡ insert_of e → accepted c ≡ false
      → (c.work < most (links earlier)) ⊎ (2 < door e) ⊎ (inserts (since earlier) ≡ takes (since earlier) + most (links earlier))
  refused_insert_why e is = let b = before later c earlier h (no_setup c (insert_of e) is refl) in answers.refused_insert b.history b.ws' c b.made e is

  -- "once the queue is empty, exactly as often": a take is refused only then, and with 6
  pub refused_take_empty : c.order ≡ take_it → accepted c ≡ false → (c.answer ≡ NoneHeld) × ((v : ℕ) → times v (taken_out (since earlier)) ≡ times v (put_in (since earlier)))
  refused_take_empty is = let b = before later c earlier h (no_setup c take_it is refl) in answers.refused_empty b.history b.ws' c b.made is

  -- "held gives the count": of those put in and not handed out
  pub each_held_the_count : c.order ≡ held_now → (c.answer ≡ Done) × (takes (since earlier) + c.word ≡ inserts (since earlier))
  each_held_the_count is = let b = before later c earlier h (no_setup c held_now is refl) in answers.held_counts b.history b.ws' c b.made is

  -- the order rule is never broken
  pub each_audit_done : c.order ≡ audit_it → c.answer ≡ Done
  each_audit_done is = let b = before later c earlier h (no_setup c audit_it is refl) in answers.audit_done_now b.history b.ws' c b.made is

-- a take hands out what a look just before it has shown
pub take_after_look : {ws : List ℕ} (later : List Call) (c d : Call) (earlier : List Call) → History (later ++ c ∷ d ∷ earlier) ws
    → c.order ≡ take_it → accepted c ≡ true → d.order ≡ look_at → accepted d ≡ true → c.word ≡ d.word
take_after_look later c d earlier h takes_it done looks seen =
    let b = before later c (d ∷ earlier) h (no_setup c take_it takes_it refl) in
    smallest.taken_as_seen c d earlier looks (each_take_the_smallest later c (d ∷ earlier) h takes_it done) (each_look_the_smallest [] d earlier b.history looks seen)

-- "any sequence of calls on one array": where an accepted setup is among them, it is a history from the last one on, with the same calls and links since
pub sequences_are_histories : {ws ws' : List ℕ} (cs : List Call) → Sequence ws cs ws' → has_setup cs ≡ true
    → History (from_setup cs) ws' × (since (from_setup cs) ≡ since cs) × (links (from_setup cs) ≡ links cs)
sequences_are_histories cs calls has = (from_setup_lem calls has, since_same cs, links_same cs)

-- at the end of any history
module _ {ws : List ℕ} (cs : List Call) (h : History cs ws) where
  -- "no entry comes out more often than it was put in"
  pub out_no_more_than_in : (v : ℕ) → times v (taken_out (since cs)) ≤ times v (put_in (since cs))
  out_no_more_than_in = smallest.no_more h

  -- "once the queue is empty, exactly as often"
  pub out_exactly_as_in : takes (since cs) ≡ inserts (since cs) → (v : ℕ) → times v (taken_out (since cs)) ≡ times v (put_in (since cs))
  out_exactly_as_in = answers.all_out h

  -- "holds at most H = k(L) x s(L) entries"
  pub held_at_most : inserts (since cs) ≤ takes (since cs) + most (links cs)
  held_at_most = answers.at_most h

-- "A frame written and read again is the same frame, and the reverse."
pub frame_read_again : (o : Order) (out out' : List ℕ) (n : ℕ) (r : Result Order NotAFrame) → Fits o → Writes o out out' (Ok n) → Reads (take n out') r → r ≡ Ok o
frame_read_again = read_back_lem

pub frame_written_again : (line : List ℕ) (o : Order) (out out' : List ℕ) (r : Result ℕ NotAFrame) → Reads line (Ok o) → length line ≤ length out → Writes o out out' r
    → (r ≡ Ok (length line)) × (out' ≡ line ++ drop (length line) out)
frame_written_again = write_back

-- ---- demand 3

-- "the steps that each call reports are those of the rules"
pub steps_of_the_rules : (ws ws' : List ℕ) (c : Call) → Made ws c ws' → c.steps ≡ (call c.work c.order (lent_of ws)).steps
steps_of_the_rules ws ws' c made = made.called.steps_are

-- "steps, 8": on any array they have at most eight hexadecimal digits
pub steps_eight_digits : (ws ws' : List ℕ) (c : Call) → Made ws c ws' → c.steps < 16 ^ 8
steps_eight_digits ws ws' c made = eight_digits ws ws' c made

module _ {ws : List ℕ} (cs : List Call) (h : History cs ws) where
  -- "in any history with n accepted inserts and P packings the steps total at most ..": one theorem over the number of links
  pub steps_bounded : steps (since cs) ≤ steps_bound (links cs) (inserts (since cs)) (packings (since cs))
  steps_bounded = few_steps (links cs) (stands h).number (stands h).goes

  -- ".. 2n + 32P, 6n + 384P, 13n + 5,760P, 22n + 138,240P for one to four links"
  pub steps_by_rows : let n = inserts (since cs) in
      let p = packings (since cs) in
      let t = steps (since cs) in
      (links cs ≡ 1 → t ≤ 2 * n + 32 * p) × (links cs ≡ 2 → t ≤ 6 * n + 384 * p) × (links cs ≡ 3 → t ≤ 13 * n + 5760 * p) × (links cs ≡ 4 → t ≤ 22 * n + 138240 * p)
  steps_by_rows = four_rows (links cs) (inserts (since cs)) (packings (since cs)) (steps (since cs)) steps_bounded

  -- and there are no other links: "link number 1 to 4"
  pub no_other_links : (1 ≤ links cs) × (links cs ≤ most_links)
  no_other_links = let number = is_link (links cs) (stands h).number in (number.low, number.high)

  -- "P is at most n divided by s(L), rounded down"
  pub packings_few : packings (since cs) ≤ inserts (since cs) / s (links cs)
  packings_few = packings_bound (links cs) (stands h).number (stands h).goes

  -- ---- the day tally

  -- "below the largest value, the tally's fields are the history's sums"
  pub tally_the_sums : Within (sums cs) → tally_after cs ≡ sums cs
  tally_the_sums = tally_sums cs (history_made h)

  -- "A field that would pass its largest value becomes that value."
  pub tally_up_to_the_largest : tally_after cs ≡ plus_each nothing (sums cs)
  tally_up_to_the_largest = tallied cs (history_made h)

  -- a tally begun at the last accepted setup keeps demand 3's bound
  pub tally_bounded : Within (sums (since cs)) → let t = tally_after (since cs) in t.steps ≤ steps_bound (links cs) t.inserts t.packings
  tally_bounded w = rw (tally_sums (since cs) (since_made cs (history_made h)) w) steps_bounded

-- there are histories: a computed one has sweeps, a packing, a refusal, and with one link a take and an insert of 16 steps each, the most that there can be
pub histories_exist : Exists
histories_exist = computed

-- ---- demands 2 and 3 of any calls one after the other, as specs/Asked.antt asks them

module _ {ws ws' : List ℕ} (cs : List Call) (calls : Sequence ws cs ws') where
  pub calls_two : DemandTwo cs
  calls_two = sequence_two cs calls

  pub calls_three : DemandThree cs (λ now l. packings now)
  calls_three = sequence_three cs calls

  pub calls_report : (later : List Call) (c : Call) (earlier : List Call) → cs ≡ later ++ c ∷ earlier → Reports ws c earlier
  calls_report = sequence_reports cs calls

  pub calls_no_longer : NoLonger cs
  calls_no_longer = sequence_no_longer cs calls

-- what `run_piece` and `finish` promise, call after call, is a session
pub sessions_by_contracts : {ws ws' work work' out : List ℕ} (pieces : List (List ℕ)) → Fed ws work [] pieces ws' work' out → Session (length work) ws work [] pieces ws' work' out
sessions_by_contracts pieces = fed_session

-- ---- of the answer lines of a session: any input in any pieces, over any array and work area, and what came out

module _ {ws ws' work work' out : List ℕ} (pieces : List (List ℕ)) (session : Session (length work) ws work [] pieces ws' work' out) where
  -- a run of lines is a sequence of calls, lines that are no frame left out: these and no others are answered 10; of each call its line tells its answer, sixteen digits of its word and all of its steps
  pub lines_are_calls : Tells (length work) ws ws' (flatten pieces) out
  lines_are_calls = session_tells pieces session

  pub lines_two : DemandTwo (told (length work) (flatten pieces) out)
  lines_two = session_two pieces session

  -- P is the packings of the calls behind the lines
  pub lines_three : (later earlier : List Call) → told (length work) (flatten pieces) out ≡ later ++ earlier → has_setup earlier ≡ true → Packed ws earlier
  lines_three = session_packed pieces session

  -- by the lines alone, which do not tell of packings: with the most that there can be, n divided by s(L), rounded down
  pub lines_three_alone : DemandThree (told (length work) (flatten pieces) out) (λ now l. inserts now / s l)
  lines_three_alone = session_three pieces session

  pub lines_report : (later : List Call) (c : Call) (earlier : List Call) → told (length work) (flatten pieces) out ≡ later ++ c ∷ earlier → Reported ws c earlier
  lines_report = session_reports pieces session

  pub lines_no_longer : NoLonger (told (length work) (flatten pieces) out)
  lines_no_longer = session_no_longer pieces session

-- ---- of calls by the library, from what C gets back

-- each is a call that was made
pub library_call_made : {ws ws' : List ℕ} {c : Call} → library.Called ws c ws' → Made ws c ws'
library_call_made = library_made

module _ {ws ws' : List ℕ} (cs : List Call) (calls : library.Calls ws cs ws') where
  pub library_two : DemandTwo cs
  library_two = sequence_two cs (library_calls calls)

  pub library_three : DemandThree cs (λ now l. packings now)
  library_three = sequence_three cs (library_calls calls)

  pub library_reports : (later : List Call) (c : Call) (earlier : List Call) → cs ≡ later ++ c ∷ earlier → Reports ws c earlier
  library_reports = sequence_reports cs (library_calls calls)

  pub library_no_longer : NoLonger cs
  library_no_longer = sequence_no_longer cs (library_calls calls)

-- "A frame written and read again is the same frame, and the reverse."
pub library_frame_read_again : (kind value : ℕ) (out out' : List ℕ) (n number kind' value' : ℕ) → FrameWritten kind value out out' 0 n → FrameRead (take n out') number kind' value'
    → (number ≡ 0) × (kind' ≡ kind) × (value' ≡ value)
library_frame_read_again = library_read_back

pub library_frame_written_again : (line out out' : List ℕ) (kind value number n : ℕ) → FrameRead line 0 kind value → length line ≤ length out → FrameWritten kind value out out' number n
    → (number ≡ 0) × (n ≡ length line) × (out' ≡ line ++ drop (length line) out)
library_frame_written_again = library_write_back

-- ---- document 02, R-6: early and late, in whole ticks

-- "Refusals: 15 for more pairs, 7 for a door above 2, 15 first.": each answer is given exactly when its row says so, with the list that its row says, for any lists
pub each_report_exactly : (due acting doors : List ℕ) (report after : List ℤ) (n : ℕ)
    → ((n ≡ timed_answer due acting doors report) × (after ≡ timed_report due acting doors report) → Timed due acting doors report n after)
    × (Timed due acting doors report n after → (n ≡ timed_answer due acting doors report) × (after ≡ timed_report due acting doors report))
each_report_exactly due acting doors report after n = (λ told. told_row due acting doors report told, λ row. row_told due acting doors report row)

pub reports_agree : (due acting doors : List ℕ) (report one two : List ℤ) (n m : ℕ) → Timed due acting doors report n one → Timed due acting doors report m two → (n ≡ m) × (one ≡ two)
reports_agree due acting doors report one two n m first second =
    timed_agree due acting doors report one two n m (row_told due acting doors report first) (row_told due acting doors report second)

-- "the lower median": the least lateness that half of the pairs, rounded up, do not exceed
pub median_least : (xs : List ℤ) → 1 ≤ length xs
    → ((length xs + 1) / 2 ≤ at_most (row_of xs).median xs) × ((v : ℤ) → le_z (row_of xs).median v ≡ false → at_most v xs < (length xs + 1) / 2)
median_least xs some = least_such xs ((length xs + 1) / 2) (omega arith) (omega arith)
