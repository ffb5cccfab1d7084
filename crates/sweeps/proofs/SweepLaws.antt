-- A sweep over the array: each of its parts may be done, and together they are the rules' sweep.
use Prim.Native.Nat.{ℕ, zero, suc, ◌+◌, ◌-◌, ◌≤◌, ◌<◌}
use mathlib.Core.Path.{◌≡◌, sym, ap, ◌∙◌, subst}
use mathlib.Core.Logic.{inr}
use mathlib.Core.List.{List, [], ◌∷◌, ◌++◌, map}
use native.Mathlib.Omega.{arith}
use native.Mathlib.Decide.{dec_lt, ℕ_discrete}
use lib.ListN.{length, get_or, take, drop}
use lib.Seq.{ext_get_or, take_at, length-take-le}
use Rattle.std.proofs.lemmas.List.{length-map, take-take, drop-take}
use Rattle.rules.specs.declared.Rule.{Rule}
use Rattle.rules.specs.Entries.{key_by}
use Rattle.rules.specs.Links.{s, first, sum, most, from, buffer_count, book_words, LinkNumber}
use Rattle.rules.specs.Tree.{Buffers, k_merger, links_from, tree_of}
use Rattle.rules.specs.Take.{Taken, insertion, take_all}
use Rattle.rules.specs.Queue.{Queue, key_of, counter, held_from}
use Rattle.rules.specs.Sweep.{outputs, path_in_link, path, counts, run_along, sweep_to, raised}
use Rattle.rules.specs.Insert.{swept}
use Rattle.rules.specs.Rest.{rest_of_sweep}
use Rattle.rules.specs.Calls.{queue_of}
use Rattle.rules.proofs.Table.{k_in_book}
use Rattle.rules.proofs.Numbers.{Stands}
use Rattle.rules.proofs.Sizes.{first_mono, first_next, first_some, k_some}
use Rattle.rules.proofs.Numbering.{links_range, links_among, k_merger_range}
use Rattle.rules.proofs.Held.{held_from_lem, weight_from_append}
use Rattle.rules.proofs.Joins.{join_long}
use Rattle.rules.proofs.Paths.{link_way, path_in_link_is, from_b}
use Rattle.rules.proofs.PathCounts.{NotOn, not_on_append, raised_long, raised_before, raised_at, raised_behind}
use Rattle.rules.proofs.SweepLaws.{sweep_long, run_within, swept_insertion, swept_no_more, swept_lower}
use Rattle.buffers.specs.Format.{links_in, counter_in, mark_in, count_of, mark_of, word_of, many, book_of, lent_of, buffers_of}
use Rattle.buffers.specs.Post.{Inside, Kept}
use Rattle.buffers.specs.Counters.{HasCounter, CounterPut}
use Rattle.buffers.proofs.SlotLaws.{behind_book, in_words, some}
use Rattle.buffers.proofs.ArrayLaws.{has, length_each, each_at, buffer_length, buffers_at, buffers_length, kept_links, kept_unused, unused_behind}
use Rattle.buffers.proofs.KeyLaws.{key_given}
use Rattle.buffers.proofs.CounterLaws.{has_counter, put_word, put_inside, put_buffers}
use Rattle.mergers.specs.Fills.{MarksRight}
use Rattle.mergers.proofs.FillLaws.{in_stands}
use Rattle.runs.specs.Promises.{laid_at, stretch}
use Rattle.runs.proofs.LayingLaws.{length_laid, laid_outside, laid_there}
use Rattle.paths.specs.declared.Step.{Step}
use Rattle.paths.specs.Way.{numbers_of, counts_of, Ends, PathIs}
use Rattle.paths.specs.Along.{Noting, Noted, Copied, Gathering, along_from}
use Rattle.paths.specs.Refills.{Refilling, Refilled}
use Rattle.paths.proofs.WayLaws.{path_long}
use Rattle.paths.proofs.CallLaws.{path_on, along_link, last_number, refilling, refilled_state}
use Rattle.takes.specs.Emptying.{CanEmpty, TookAll}
use Rattle.sweeps.specs.Room.{CanSweep, MadeRoom}
use Rattle.takes.proofs.EmptyLaws.{all_held}
use Rattle.sweeps.proofs.MarkLaws.{marks_fewer, marks_behind, all_taken, all_first, all_second, not_on_taken, Clear, AsBefore, marks_way, marks_through}

-- the first buffers hold no more than all
pub held_part : (m n : ℕ) (bs : Buffers) → m ≤ n → held_from 0 m bs ≤ held_from 0 n bs
held_part m n bs less =
    let e : m + (n - m) ≡ n = omega arith in
    omega (arith, held_from_lem 0 m bs, rw e at (held_from_lem 0 (m + (n - m)) bs), rw e at (weight_from_append (λ e. 1) 0 m (n - m) bs))

-- a number of a link is none of the outputs before it
behind_outputs : (p a m : ℕ) → 0 < a → first (a + p) ≤ m → NotOn m (outputs a p)
unfolding outputs
behind_outputs zero a m here low = tt
behind_outputs (suc p) a m here low =
    let e : a + suc p ≡ suc a + p = omega arith in
    let f : first (suc a + p) ≤ m = rw e at low in
    (λ same. absurd (omega (arith, first_mono (suc a) (suc a + p) (omega arith) (omega arith), first_next a here, k_some a)), behind_outputs p (suc a) m (omega arith) f)

-- ---- counters

-- "c(i) rises by one and c(1) .. c(i-1) become 1", word by word
module _ (f g : ℕ → ℕ) (i l : ℕ) (low : 1 ≤ i) (high : i ≤ l) (before : (m : ℕ) → 1 ≤ m → m < i → g m ≡ 1) (at : g i ≡ suc (f i)) (behind : (m : ℕ) → i < m → m ≤ l → g m ≡ f m) where
  pub raised_words : map g (from 1 l) ≡ raised i (map f (from 1 l))
  raised_words =
      ext_get_or 0 (map g (from 1 l)) (raised i (map f (from 1 l))) (length_each g 1 l ∙ sym (raised_long i (map f (from 1 l)) ∙ length_each f 1 l))
      (λ x under. let less : x < l = omega (arith, length_each g 1 l) in each_at g 1 l x 0 less ∙ go x less (dec_lt (1 + x) i) (ℕ_discrete (1 + x) i))
    where
      cs : List ℕ
      cs = map f (from 1 l)

      go : (x : ℕ) → x < l → Dec (1 + x < i) → Dec (1 + x ≡ i) → g (1 + x) ≡ get_or (raised i (map f (from 1 l))) x 0
      go x less (yes sooner) d = before (1 + x) (omega arith) sooner ∙ sym (raised_before i (map f (from 1 l)) x (omega arith) (omega (arith, length_each f 1 l)))
      go x less (no not_sooner) (yes e) = ap g e ∙ at ∙ ap (λ m. suc (f m)) (sym e) ∙ ap suc (sym (each_at f 1 l x 0 less)) ∙ sym (raised_at i (map f (from 1 l)) x (omega arith) (omega (arith, length_each f 1 l)))
      go x less (no not_sooner) (no differ) = behind (1 + x) (omega arith) (omega arith) ∙ sym (each_at f 1 l x 0 less) ∙ sym (raised_behind i (map f (from 1 l)) x (omega arith))

-- ---- with c(i) as it was read, and the path's numbers as they are after noting

pub path_by : {i j c r r' : ℕ} {ns ns' : List ℕ} → c ≡ j → ns' ≡ ns → r' ≡ r → PathIs i c ns r → PathIs i j ns' r'
path_by e numbers length p = rw (numbers, length, ← e) p

pub put_by : {ws ws' : List ℕ} {i j c : ℕ} → c ≡ j → CounterPut ws ws' i (c + 1) → CounterPut ws ws' i (j + 1)
put_by {ws} {ws'} {i} e u = subst (λ n. CounterPut ws ws' i (n + 1)) e u

-- ---- the sweep

module _ {rule : Rule} (ws : List ℕ) (i : ℕ) (work : List ℕ) (h : CanSweep rule ws i work) where
  abbrev links : ℕ
  links = links_in ws

  abbrev j : ℕ
  j = counter_in ws i

  abbrev bs : Buffers
  bs = buffers_of ws

  abbrev q : Queue
  q = queue_of (lent_of ws)

  abbrev key : ℕ → ℕ
  key = key_by rule

  -- what the emptying brings, and the run along the path
  abbrev z : Taken
  z = take_all (key_by rule) (links_from 1 (i - 1)) (buffers_of ws)

  abbrev along : List ℕ
  along = run_along (path_in_link i (counter_in ws i)) (take_all (key_by rule) (links_from 1 (i - 1)) (buffers_of ws)).buffers

  array : Inside ws
  array = h.moves.can.array

  link : LinkNumber i
  link = record { low = h.low; high = omega (arith, h.there, array.link.high) }

  pub counter_small : j ≤ book_words
  counter_small = omega (arith, h.unspent, k_in_book link)

  pub counter_there : HasCounter ws i
  counter_there = has_counter ws i array h.low h.there

  pub ends : Ends i j
  ends = record { link = link; low = h.counted; high = h.unspent; few = omega (arith, k_in_book link) }

  -- c(i) as the rules read it
  counter_q : counter q i ≡ j
  unfolding counter queue_of lent_of book_of
  counter_q = let e : 1 + (i - 1) ≡ i = omega (arith, h.low) in each_at (counter_in ws) 1 (links_in ws) (i - 1) 0 (omega (arith, h.low, h.there)) ∙ ap (counter_in ws) e

  -- the rules' own sweep is by the rule that is given
  same_sweep : sweep_to (key_of q) i (counter q i) q.buffers ≡ sweep_to key i j bs
  unfolding queue_of lent_of
  same_sweep = λ x. sweep_to (key_given ws h.moves.ruled x) i (counter_q x) bs

  whole : (i - 1) + suc (links - i) ≡ links
  whole = omega (arith, h.low, h.there)

  at_i : 1 + (i - 1) ≡ i
  at_i = omega (arith, h.low)

  as_many : buffer_count links ≤ length bs
  as_many = omega (arith, buffers_length ws)

  room_left : LinkNumber links → buffer_count (i - 1) ≤ buffer_count links
  unfolding buffer_count
  room_left l = first_mono (suc (i - 1)) (suc links) (omega arith) (omega (arith, h.low, h.there))

  pub can_empty : CanEmpty ws (i - 1) work
  can_empty =
      record {
        can = record {
          array = array;
          links = omega (arith, h.there);
          marks = marks_fewer (i - 1) 1 (suc (links - i)) ws (rw whole h.moves.can.marks);
        };
        room = omega (arith, held_part (buffer_count (i - 1)) (buffer_count links) bs (room_left array.link), h.moves.few, h.moves.room);
      }

  -- both runs fit
  both_fit : length along + length z.out ≤ most links
  unfolding tree_of
  both_fit =
      omega (
        arith,
        join_long key along z.out,
        run_within key links i j h.low h.there h.counted h.unspent bs as_many,
        all_held ws links h.moves.can,
        h.moves.few,
      )

  rest_fits : (sweep_to key i j bs).rest ≤ s i
  unfolding rest_of_sweep
  rest_fits = subst (λ z. z.rest ≤ s i) same_sweep h.fits

  long_run : length along + length z.out ≡ sum (counts (path i j) bs) + (sweep_to key i j bs).rest
  long_run = sym (join_long key along z.out) ∙ sweep_long key links i j h.low h.there h.counted h.unspent bs as_many

  pub notes : (steps : List Step) (r : ℕ) → PathIs i j (numbers_of steps) r → Noting ws (numbers_of steps) r (counts_of steps)
  notes steps r p =
      let as_many = length-map steps (λ (step : Step). step.count) ∙ sym (length-map steps (λ (step : Step). step.buffer)) in
      record { path = path_on link j h.counted h.unspent p ws array h.there; room = as_many ∙ p.long }

  module _ (ns : List ℕ) (r : ℕ) (p : PathIs i j ns r) where
    module _ (ws₁ work₁ : List ℕ) (count steps : ℕ) (t : TookAll ws ws₁ (i - 1) z work work₁ count steps) where
      there₁ : i ≤ links_in ws₁
      there₁ = rw (kept_links t.kept) h.there

      work₁-long : length work₁ ≡ length work
      work₁-long = ap length t.out ∙ length_laid work 0 z.out (omega (arith, both_fit, h.moves.room))

      pub counter_stays : (ws₂ : List ℕ) → Inside ws₂ → Kept ws₁ ws₂ → HasCounter ws₂ i
      counter_stays ws₂ inside kept = let e : links_in ws₂ ≡ links = kept_links kept ∙ kept_links t.kept in has_counter ws₂ i inside h.low (rw e h.there)

      along_is : along_from ws₁ ns (i - 1) r ≡ along
      along_is = along_link link j h.counted h.unspent p ws₁ ∙ ap (run_along (path_in_link i j)) t.state

      pub gathers : Gathering ws₁ ns (i - 1) r work₁ count
      gathers =
          record {
            path = path_on link j h.counted h.unspent p ws₁ t.can.array there₁;
            inside = omega (arith, p.many, path_long link j h.counted h.unspent);
            room = omega (arith, ap length along_is, t.all, both_fit, h.moves.room, work₁-long);
          }

      module _ (work₂ : List ℕ) (m : ℕ) (g : Copied (along_from ws₁ ns (i - 1) r) work₁ work₂ count m) where
        end_is : m ≡ length along
        end_is = g.many ∙ ap length along_is

        laid₂ : work₂ ≡ laid_at work₁ count along
        laid₂ = g.laid ∙ ap (laid_at work₁ count) along_is

        inside₁ : count + length along ≤ length work₁
        inside₁ = omega (arith, t.all, both_fit, h.moves.room, work₁-long)

        pub work₂-long : length work₂ ≡ length work
        work₂-long = ap length laid₂ ∙ length_laid work₁ count along inside₁ ∙ work₁-long

        second_run : drop count (take (count + m) work₂) ≡ along
        second_run =
            let e : count + m - count ≡ m = omega arith in
            let there : stretch count (count + length along) work₂ ≡ along = rw laid₂ (laid_there work₁ count along (omega (arith, inside₁))) in
            drop-take count m work₂ ∙ ap (λ n. take n (drop count work₂)) (sym e) ∙ ap (λ n. stretch count (count + n) work₂) end_is ∙ there

        first_run : take count (take (count + m) work₂) ≡ z.out
        first_run =
            take-take count (count + m) work₂ (omega arith)
            ∙ ap (take count) laid₂ ∙ take_at (take count work₁) (along ++ drop (count + length along) work₁) count (length-take-le count work₁ (omega (arith, inside₁)))
            ∙ ap (take count) t.out ∙ take_at z.out (drop (0 + length z.out) work) count (sym t.all)

        -- the work area up to there, split where the emptied run ends
        module _ (cs : List ℕ) (noted : Noted ws ns r cs) (front back : List ℕ) (front_is : front ≡ take count (take (count + m) work₂)) (back_is : back ≡ drop count (take (count + m) work₂)) where
          pub refills : Refilling ws₁ ns cs r back front
          refills =
              rw (front_is, back_is, second_run, first_run)
              (refilling link j h.counted h.unspent p array h.there noted h.empty ws₁ along z.out t.can.array there₁ (omega (arith, long_run)) (omega (arith, long_run, rest_fits)))

          module _ (ws₂ : List ℕ) (f : Refilled key ws₁ ws₂ ns cs r back front) where
            links₂ : links_in ws₂ ≡ links
            links₂ = kept_links f.kept ∙ kept_links t.kept

            module _ (ws₃ : List ℕ) (u : CounterPut ws₂ ws₃ i (j + 1)) where
              links₃ : links_in ws₃ ≡ links
              links₃ = u.zeroth ∙ links₂

              buffers₃ : buffers_of ws₃ ≡ (sweep_to key i j bs).buffers
              unfolding sweep_to
              buffers₃ =
                  put_buffers (counter_stays ws₂ f.array f.kept) u ∙ refilled_state link j h.counted h.unspent p array h.there noted f
                  ∙ rw (front_is, back_is, second_run, first_run, t.state)

              same_counter : (n : ℕ) → n < 8 → counter_in ws₂ n ≡ counter_in ws n
              same_counter n less = f.kept.front n less ∙ t.kept.front n less

              counters₃ : map (counter_in ws₃) (from 1 (links_in ws₃)) ≡ raised i (map (counter_in ws) (from 1 links))
              counters₃ =
                  ap (λ l. map (counter_in ws₃) (from 1 l)) links₃
                  ∙ raised_words (counter_in ws) (counter_in ws₃) i links h.low h.there u.before (u.at ∙ omega arith)
                  (λ n behind within. u.behind n behind ∙ same_counter n (omega (arith, array.link.high)))

              queue₃ : queue_of (lent_of ws₃) ≡ (swept i q).queue
              unfolding swept queue_of lent_of book_of
              queue₃ = λ x. record { links = links₃ x; counters = counters₃ x; buffers = (buffers₃ ∙ sym (ap (λ z. z.buffers) same_sweep)) x }

              mark₃ : (n : ℕ) → mark_of ws₃ n ≡ mark_of ws₂ n
              mark₃ n = ap mark_in (put_word (counter_stays ws₂ f.array f.kept) u n)

              cleared : Clear ws ws₃ (path i j)
              cleared = subst (Clear ws ws₃) p.is (all_taken (λ n. mark_of ws₃ n ≡ 0) r ns (omega (arith, p.few, p.long)) (λ x less. mark₃ (get_or ns x 0) ∙ (f.words x less).mark))

              -- the buffers of the links from i on that are not on the path are as they were
              as_before : (n : ℕ) → Stands n (links_from i (suc (links - i))) → NotOn n (first i ∷ from_b i j) → AsBefore ws ws₃ n
              unfolding path buffer_count
              as_before n st off =
                  let range = links_range i (suc (links - i)) h.low st in
                  let last : i + suc (links - i) ≡ suc links = omega (arith, h.there) in
                  let less : n < many ws = rw last at range.1 in
                  let begins : first (1 + (i - 1)) ≤ n = rw at_i range.0 in
                  let off_path : NotOn n (path i j) = not_on_append n (outputs 1 (i - 1)) (path_in_link i j) (behind_outputs (i - 1) 1 n (omega arith) begins) (subst (NotOn n) (sym (path_in_link_is i j h.low h.counted h.unspent)) off) in
                  let other = not_on_taken n r ns (omega (arith, p.few, p.long)) (subst (NotOn n) (sym p.is) off_path) in
                  let word : word_of ws₃ n ≡ word_of ws n =
                  put_word (counter_stays ws₂ f.array f.kept) u n ∙ f.others n (rw (kept_links t.kept) less) other
                  ∙ t.others n less (λ e. absurd (omega (arith, range.0, first_some i h.low))) (λ b. absurd (omega (arith, rw at_i at (links_range 1 (i - 1) (omega arith) (in_stands n (links_from 1 (i - 1)) b)).1, range.0))) in (
                    ap mark_in word,
                    rw buffers₃ (swept_no_more key links i j h.low h.there h.counted h.unspent bs as_many n
                        (λ e. other (r - 1) (omega (arith, p.many, path_long link j h.counted h.unspent)) (e ∙ sym (last_number link j h.counted h.unspent p)))),
                  )

              nothing_below : (b : ℕ) → 1 ≤ b → b < 1 + (i - 1) → (n : ℕ) → Stands n (k_merger b) → get_or (buffers_of ws₃) n [] ≡ []
              nothing_below b low less n st =
                  let range = k_merger_range b low st in
                  rw buffers₃ (swept_lower key links i j h.low h.there h.counted h.unspent bs as_many b low (omega arith) n range.0 range.1)

              marks₃ : MarksRight ws₃ (links_from 1 (links_in ws₃))
              unfolding path buffer_count
              marks₃ =
                  let rest = suc (links - i) in
                  let old : MarksRight ws (links_from i rest) = rw at_i at (marks_behind (i - 1) 1 rest ws (rw whole h.moves.can.marks)) in
                  let last : i + suc (links - i) ≡ suc links = omega (arith, h.there) in
                  let among = links_among i rest (first (suc links)) h.low (rw last (omega arith)) in
                  let in_link : Clear ws ws₃ (first i ∷ from_b i j) = subst (Clear ws ws₃) (path_in_link_is i j h.low h.counted h.unspent) (all_second (λ n. mark_of ws₃ n ≡ 0) (outputs 1 (i - 1)) (path_in_link i j) cleared) in
                  let here : MarksRight ws₃ (links_from i rest) = marks_way ws ws₃ (link_way i j h.low h.counted h.unspent (links - i)) among in_link as_before old in
                  let all = marks_through ws ws₃ (i - 1) 1 rest (omega arith) (all_first (λ n. mark_of ws₃ n ≡ 0) (outputs 1 (i - 1)) (path_in_link i j) cleared) nothing_below (rw at_i here) in
                  rw links₃ (rw whole at all)

              -- I is empty
              none_in_I : count_of ws₃ 0 ≡ 0
              unfolding insertion
              none_in_I =
                  let array₃ = put_inside (counter_stays ws₂ f.array f.kept) u in
                  let less : 0 < many ws₃ = omega (arith, some array₃.link) in
                  sym (ap length (buffers_at ws₃ 0 less) ∙ buffer_length ws₃ 0 (has ws₃ 0 array₃ less))
                  ∙ ap (λ b. length (get_or b 0 [])) buffers₃ ∙ ap length (swept_insertion key links i j h.low h.there h.counted h.unspent bs as_many)

              pub made_room : MadeRoom ws ws₃ (swept i q) work work₂ steps
              unfolding swept sweep_to queue_of lent_of
              made_room =
                  record {
                    array = put_inside (counter_stays ws₂ f.array f.kept) u;
                    links = links₃;
                    queue_is = queue₃;
                    made = t.made ∙ sym (ap (λ z. z.steps) same_sweep);
                    marks = marks₃;
                    mark_I = λ e. none_in_I;
                    long = u.long ∙ f.kept.long ∙ t.kept.long;
                    past = λ x far. u.behind x (omega (arith, link.high, in_words array.link 0 (omega (arith, some array.link)), behind_book 0))
                        ∙ f.kept.past x (rw (kept_links t.kept) far) ∙ t.kept.past x far;
                    unused = λ x n. u.behind x (unused_behind i h.there (omega (arith, link.high)) n) ∙ kept_unused f.kept x (rw (kept_links t.kept) n) ∙ kept_unused t.kept x n;
                    work_long = work₂-long;
                    work_past = λ x far. ap (λ w. get_or w x 0) laid₂ ∙ laid_outside work₁ count along x inside₁ (inr (omega (arith, t.all, both_fit)))
                        ∙ ap (λ w. get_or w x 0) t.out ∙ laid_outside work 0 z.out x (omega (arith, both_fit, h.moves.room)) (inr (omega (arith, both_fit)));
                  }
