-- Packing: all is taken out, laid into the S of the last link, and counted there.
use Prim.Native.Nat.{ℕ, suc, ◌+◌, ◌-◌, ◌/◌, ◌≤◌, ◌<◌}
use mathlib.Core.Path.{◌≡◌, sym, ap, ◌∙◌, subst}
use mathlib.Core.Logic.{inr}
use mathlib.Core.Bool.{true}
use mathlib.Core.List.{List, [], ◌∷◌, ◌++◌, map}
use native.Mathlib.Omega.{arith}
use native.Mathlib.Decide.{dec_lt}
use native.Mathlib.Nat.{div-eq_of_lt-le}
use Rattle.std.specs.Int.{div_ceil}
use Rattle.std.proofs.lemmas.Grind.{div_ceil_times}
use native.Mathlib.Numerals.{add-one}
use lib.ListN.{length, get_or, take, drop, replicate, length-append, length-replicate, get_or-replicate, get_or-append}
use lib.Seq.{ext_get_or, get_or_at, take-append_seam, length-take-le}
use Rattle.rules.specs.declared.Rule.{Rule}
use Rattle.rules.specs.Entries.{key_by}
use Rattle.rules.specs.Links.{from, s, buffer_count, most, LinkNumber}
use Rattle.rules.specs.Tree.{links_from, tree_of}
use Rattle.rules.specs.Take.{take_all}
use Rattle.rules.specs.Queue.{key_of, held_from}
use Rattle.rules.specs.Sweep.{laid_out, packed_counters}
use Rattle.rules.specs.Insert.{Inserted, packed}
use Rattle.rules.specs.Calls.{queue_of}
use Rattle.rules.proofs.Sizes.{s_least}
use Rattle.rules.proofs.Numbering.{tree_roomy, tree_range}
use Rattle.rules.proofs.TakeLaws.{take_all_empties}
use Rattle.rules.proofs.BookKept.{beside_tree}
use Rattle.buffers.specs.Format.{links_in, counter_in, mark_in, mark_of, many, book_of, lent_of, buffers_of}
use Rattle.buffers.specs.Post.{Kept}
use Rattle.buffers.specs.Counters.{HasCounter, CounterPut}
use Rattle.buffers.proofs.SlotLaws.{words_end, behind_book, some}
use Rattle.buffers.proofs.ArrayLaws.{length_each, each_at, buffers_length, kept_links, kept_then, kept_unused, unused_behind}
use Rattle.buffers.proofs.KeyLaws.{key_given}
use Rattle.buffers.proofs.CounterLaws.{has_counter, put_word, put_inside, put_buffers}
use Rattle.mergers.specs.Fills.{MarksRight}
use Rattle.runs.proofs.LayingLaws.{length_laid, laid_outside}
use Rattle.paths.specs.Laying.{LaidOut}
use Rattle.takes.specs.Heads.{CanTake}
use Rattle.takes.specs.Emptying.{TookAll}
use Rattle.sweeps.specs.Room.{CanPack, MadeRoom}
use Rattle.takes.proofs.EmptyLaws.{all_held}
use Rattle.sweeps.proofs.MarkLaws.{unmarked}

-- ---- the counters

-- "c(L) is one more than the number of S used; the others are 1."
counters_are : (f : ℕ → ℕ) (links n : ℕ) → 1 ≤ links → f links ≡ suc ((n + (s links - 1)) / s links) → ((m : ℕ) → 1 ≤ m → m < links → f m ≡ 1) → map f (from 1 links) ≡ packed_counters links n
unfolding packed_counters
counters_are f links n low last before =
    ext_get_or 0 (map f (from 1 links)) (ones ++ end ∷ []) (length_each f 1 links ∙ all_long)
    (λ m lt. let less : m < links = omega (arith, length_each f 1 links) in each_at f 1 links m 0 less ∙ go m less (dec_lt m (links - 1)))
  where
    end : ℕ
    end = suc ((n + (s links - 1)) / s links)

    ones : List ℕ
    ones = replicate (links - 1) 1

    ones_long : length ones ≡ links - 1
    ones_long = length-replicate (links - 1) 1

    all_long : links ≡ length (ones ++ end ∷ [])
    all_long = omega (arith, length-append ones (end ∷ []), ones_long)

    go : (m : ℕ) → m < links → Dec (m < links - 1) → f (1 + m) ≡ get_or (ones ++ end ∷ []) m 0
    go m less (yes lt) = before (1 + m) (omega arith) (omega arith) ∙ sym (get_or-append ones (end ∷ []) 0 m (omega (arith, ones_long)) ∙ get_or-replicate (links - 1) m 1 0 lt)
    go m less (no past) =
        let here : 1 + m ≡ links = omega arith in
        ap f here ∙ last ∙ sym (get_or_at ones end [] 0 m (omega (arith, ones_long)))

-- the library's rounding up is the rules'
rounded_up : (n size : ℕ) → 1 ≤ size → div_ceil n size ≡ (n + (size - 1)) / size
rounded_up n size least =
    let up = div_ceil_times n size least in
    sym (div-eq_of_lt-le size (omega (arith, up.1)) (omega (arith, up.0)))

-- ---- the rules' packing, in links of the array

abbrev packed_in : (ℕ → ℕ) → List ℕ → ℕ → Inserted
packed_in key ws links =
    let z = take_all key (links_from 1 links) (buffers_of ws) in
    record { queue = record { links = links; counters = packed_counters links (length z.out); buffers = laid_out links z.out }; steps = z.steps; packed = true }

packed_is : (key : ℕ → ℕ) (ws : List ℕ) (links : ℕ) → key_of (queue_of (lent_of ws)) ≡ key → links_in ws ≡ links → packed (queue_of (lent_of ws)) ≡ packed_in key ws links
unfolding packed tree_of queue_of lent_of book_of
packed_is key ws links by of = λ x. packed_in (by x) ws (of x)

-- ---- all is taken out

module _ {rule : Rule} {ws : List ℕ} {links : ℕ} {work : List ℕ} (h : CanPack rule ws links work) where
  abbrev key : ℕ → ℕ
  key = key_by rule

  link : LinkNumber links
  link = subst LinkNumber h.of h.moves.can.array.link

  can_take_all : CanTake ws links
  can_take_all = subst (CanTake ws) h.of h.moves.can

  few_held : held_from 0 (buffer_count links) (buffers_of ws) ≤ most links
  few_held = subst (λ l. held_from 0 (buffer_count l) (buffers_of ws) ≤ most l) h.of h.moves.few

  room_for_most : most links ≤ length work
  room_for_most = subst (λ l. most l ≤ length work) h.of h.moves.room

  abbrev out : List ℕ
  out = (take_all key (links_from 1 links) (buffers_of ws)).out

  out_held : length out ≡ held_from 0 (buffer_count links) (buffers_of ws)
  unfolding tree_of
  out_held =
      let enough : buffer_count links ≤ length (buffers_of ws) = omega (arith, buffers_length ws, ap buffer_count h.of) in
      (take_all_empties key (tree_roomy links) (buffers_of ws) (beside_tree links (buffers_of ws) enough)).1 ∙ sym (all_held ws links can_take_all)

  module _ {ws₁ work₁ : List ℕ} {count steps : ℕ} (z : TookAll ws ws₁ links (take_all key (links_from 1 links) (buffers_of ws)) work work₁ count steps) where
    pub pack_few : count ≤ most links
    pack_few = omega (arith, z.all, out_held, few_held)

    pub pack_work_long : length work₁ ≡ length work
    pack_work_long = ap length z.out ∙ length_laid work 0 out (omega (arith, z.all, pack_few, room_for_most))

    pub pack_inside : count ≤ length work₁
    pack_inside = omega (arith, pack_few, room_for_most, pack_work_long)

    pub pack_counted : count ≡ length (take count work₁)
    pack_counted = sym (length-take-le count work₁ pack_inside)

    -- the beginning of the work area is what came out
    run_is : take count work₁ ≡ out
    run_is = ap (take count) z.out ∙ ap (λ n. take n (out ++ drop (0 + length out) work)) z.all ∙ take-append_seam out (drop (0 + length out) work)

    work_past : (p : ℕ) → most links ≤ p → get_or work₁ p 0 ≡ get_or work p 0
    work_past p past = ap (λ w. get_or w p 0) z.out ∙ laid_outside work 0 out p (omega (arith, z.all, pack_few, room_for_most)) (inr (omega (arith, z.all, pack_few)))

    -- ---- sizes

    module _ {j size : ℕ} (j_is : j ≡ links) (size_is : size ≡ s j) where
      size_now : size ≡ s links
      size_now = size_is ∙ ap s j_is

      pub pack_size : 1 ≤ size
      pack_size = omega (arith, size_now, s_least links link.low)

    -- ---- laid out and counted

    module _ {ws₂ : List ℕ} (l : LaidOut ws₁ ws₂ links (take count work₁)) where
      kept : Kept ws ws₂
      kept = kept_then z.kept l.kept

      links_now : links_in ws₂ ≡ links
      links_now = kept_links kept ∙ h.of

      pub pack_counter : HasCounter ws₂ links
      pack_counter = has_counter ws₂ links l.array link.low (omega (arith, links_now))

      module _ {j size : ℕ} (j_is : j ≡ links) (size_is : size ≡ s j) {ws₃ : List ℕ} (c : CounterPut ws₂ ws₃ links (div_ceil count size + 1)) where
        links_then : links_in ws₃ ≡ links
        links_then = c.zeroth ∙ links_now

        used_is : div_ceil count size + 1 ≡ suc ((length out + (s links - 1)) / s links)
        used_is = add-one (div_ceil count size) ∙ ap suc (rounded_up count size (pack_size j_is size_is)) ∙ (λ i. suc ((z.all i + (size_now j_is size_is i - 1)) / size_now j_is size_is i))

        counters_then : map (counter_in ws₃) (from 1 (links_in ws₃)) ≡ packed_counters links (length out)
        counters_then = ap (λ n. map (counter_in ws₃) (from 1 n)) links_then ∙ counters_are (counter_in ws₃) links (length out) link.low (c.at ∙ used_is) c.before

        buffers_then : buffers_of ws₃ ≡ laid_out links out
        buffers_then = put_buffers pack_counter c ∙ l.state ∙ ap (laid_out links) run_is

        queue_then : queue_of (lent_of ws₃) ≡ (packed_in key ws links).queue
        unfolding queue_of lent_of book_of
        queue_then = λ i. record { links = links_then i; counters = counters_then i; buffers = buffers_then i }

        no_mark : (m : ℕ) → m < many ws₃ → mark_of ws₃ m ≡ 0
        no_mark m lt =
            let same : many ws₃ ≡ many ws₁ = ap buffer_count (c.zeroth ∙ kept_links l.kept) in
            ap mark_in (put_word pack_counter c m) ∙ (l.words m (omega arith)).mark

        marks_then : MarksRight ws₃ (links_from 1 (links_in ws₃))
        unfolding tree_of
        marks_then = unmarked ws₃ (tree_of (links_in ws₃)) (λ m st. no_mark m (tree_range (links_in ws₃) st).1)

        pub pack_made : MadeRoom ws ws₃ (packed (queue_of (lent_of ws))) work work₁ steps
        pack_made =
            let as_ruled = packed_is key ws links (key_given ws h.moves.ruled) h.of in
            record {
              array = put_inside pack_counter c;
              links = c.zeroth ∙ kept_links kept;
              queue_is = queue_then ∙ sym (ap (λ (r : Inserted). r.queue) as_ruled);
              made = z.made ∙ sym (ap (λ (r : Inserted). r.steps) as_ruled);
              marks = marks_then;
              mark_I = λ e. absurd (omega (arith, no_mark 0 (omega (arith, some (put_inside pack_counter c).link))));
              long = c.long ∙ kept.long;
              past = λ p far. c.behind p (omega (arith, link.high, far, words_end h.moves.can.array.link, behind_book (buffer_count (links_in ws)))) ∙ kept.past p far;
              unused = λ p n. c.behind p (unused_behind links (omega (arith, h.of)) (omega (arith, link.high)) n) ∙ kept_unused kept p n;
              work_long = pack_work_long;
              work_past = λ p far. work_past p (subst (λ l. most l ≤ p) h.of far);
            }
