-- Emptying by repeated takes: what the loop keeps.
use Prim.Native.Nat.{ℕ, zero, suc, ◌+◌, ◌*◌, ◌≤◌, ◌<◌}
use mathlib.Core.Path.{◌≡◌, refl, sym, ap, ◌∙◌, subst}
use mathlib.Core.List.{List, [], ◌∷◌, ◌++◌, append_assoc, append-nil}
use native.Mathlib.Omega.{arith}
use native.Mathlib.Nat.{add_assoc, add-zero, zero-add}
use native.Mathlib.Numerals.{add-one}
use lib.ListN.{length, get_or, set, take, drop, length-append}
use Rattle.rules.specs.Links.{first, buffer_count, book_words, LinkNumber}
use Rattle.rules.specs.Tree.{Buffers, Tree, links_from, tree_of, entries}
use Rattle.rules.specs.Fill.{Filled, untouched, fill}
use Rattle.rules.specs.Merge.{merge_step}
use Rattle.rules.specs.Take.{Taken, take_one, takes, take_all, ready, insertion}
use Rattle.rules.specs.Queue.{held, held_from}
use Rattle.rules.proofs.Held.{held_split}
use Rattle.rules.proofs.Takes.{hand_steps, Beside, ready_cases}
use Rattle.rules.proofs.TakeLaws.{held_all, take_one_lem, take_held}
use Rattle.rules.proofs.BookKept.{beside_tree}
use Rattle.rules.proofs.Numbers.{Among}
use Rattle.rules.proofs.Full.{Roomy}
use Rattle.rules.proofs.Table.{in_link, k_least}
use Rattle.rules.proofs.Numbering.{tree_roomy, links_among}
use Rattle.rules.proofs.Sizes.{first_mono}
use Rattle.buffers.specs.Format.{links_in, count_of, many, buffers_of}
use Rattle.buffers.specs.Post.{Inside}
use Rattle.buffers.proofs.SlotLaws.{few}
use Rattle.buffers.proofs.ArrayLaws.{has, buffer_length, buffers_at, buffers_length, kept_links, kept_none, kept_then}
use Rattle.mergers.proofs.BoundLaws.{steps_few}
use Rattle.runs.specs.Promises.{laid_at}
use Rattle.runs.proofs.LayingLaws.{laid_none, laid_more, laid_whole, length_laid}
use Rattle.takes.specs.Heads.{CanTake, Took}
use Rattle.std.specs.Prelude.{Option, Some, None, IsSome, option_to_list}
use Rattle.takes.proofs.SumLaws.{held_more}
use Rattle.takes.proofs.ReadyLaws.{tree_is}
use Rattle.takes.specs.Emptying.{TookAll}
use Rattle.std.proofs.lemmas.List.{length-take-le}

-- ---- one take more, at the end

abbrev and_then : Taken → Taken → Taken
and_then one two = record { out = one.out ++ two.out; buffers = two.buffers; steps = one.steps + two.steps }

module _ (key : ℕ → ℕ) (t : Tree) where
  takes_more : (n : ℕ) (bs : Buffers) → takes key t (suc n) bs ≡ and_then (takes key t n bs) (take_one key t (takes key t n bs).buffers)
  unfolding takes
  takes_more zero bs = let one = take_one key t bs in λ i. record { out = append-nil one.out i; buffers = one.buffers; steps = (add-zero one.steps ∙ sym (zero-add one.steps)) i }
  takes_more (suc n) bs =
      let one = take_one key t bs in
      let rest = takes key t n one.buffers in
      let last = take_one key t rest.buffers in
      ap (and_then one) (takes_more n one.buffers)
      ∙ (λ i. record { out = sym (append_assoc one.out rest.out last.out) i; buffers = last.buffers; steps = sym (add_assoc one.steps rest.steps last.steps) i })

-- ---- what a take over the array may make

none_made : (key : ℕ → ℕ) (bs : Buffers) → (fill key (links_from 1 0) bs).steps ≤ 4000000000
unfolding fill links_from
none_made key bs = omega arith

one_add : (n : ℕ) → 1 + n ≡ suc n
one_add n = omega arith

one_more : (last : ℕ) → first (1 + last) ≡ buffer_count last
unfolding buffer_count
one_more last = ap first (one_add last)

tree_roomy_first : (last : ℕ) → Roomy (links_from 1 last)
unfolding tree_of
tree_roomy_first last = tree_roomy last

module _ (ws : List ℕ) (last : ℕ) (h : CanTake ws last) where
  abbrev t : Tree
  t = links_from 1 last

  buffers_in : buffer_count last ≤ many ws
  unfolding buffer_count
  buffers_in = first_mono (suc last) (suc (links_in ws)) (omega arith) (omega (arith, h.links))

  beside : Beside t (length (buffers_of ws))
  unfolding tree_of
  beside = beside_tree last (buffers_of ws) (omega (arith, buffers_in, buffers_length ws))

  module _ (key : ℕ → ℕ) where
    fill_few : (fill key t (buffers_of ws)).steps ≤ 4000000000
    fill_few = go last refl
      where
        go : (n : ℕ) → last ≡ n → (fill key (links_from 1 last) (buffers_of ws)).steps ≤ 4000000000
        go zero e = rw e (none_made key (buffers_of ws))
        go (suc n) e =
            let one : LinkNumber 1 = record { low = omega arith; high = omega arith } in
            let among : Among (links_from 1 last) (many ws) = links_among 1 last (many ws) (omega arith) (rw (one_more last) buffers_in) in
            subst (λ u. (fill key u (buffers_of ws)).steps ≤ 4000000000) (tree_is last)
            (steps_few key ws h.array last (in_link one (omega (arith, k_least one))) (omega arith) (omega (arith, h.links, h.array.link.high)) (subst (λ u. Among u (many ws)) (sym (tree_is last)) among))

    ready_few : (ready key t (buffers_of ws)).steps ≤ 4000000000
    unfolding untouched
    ready_few = ready_cases key t (buffers_of ws) (λ (z : Filled). z.steps ≤ 4000000000) (omega arith) fill_few

    pub take_few : (take_one key t (buffers_of ws)).steps ≤ 4000000000
    unfolding take_one
    take_few = let now = ready key t (buffers_of ws) in rw (hand_steps t (merge_step key (entries t now.buffers) (insertion now.buffers)) now) ready_few

  -- all that stands in I and in the first links
  pub all_held : held_from 0 (buffer_count last) (buffers_of ws) ≡ held_all t (buffers_of ws)
  unfolding held tree_of
  all_held = held_split (record { links = last; counters = []; buffers = buffers_of ws })

-- ---- the loop

pub record Emptying (key : ℕ → ℕ) (ws₀ : List ℕ) (last : ℕ) (work₀ ws work : List ℕ) (total n steps : ℕ) : Type 0 where
  pub so_far : TookAll ws₀ ws last (takes key (links_from 1 last) n (buffers_of ws₀)) work₀ work n steps
  pub left : n + held_all (links_from 1 last) (buffers_of ws) ≡ total
  pub few : steps ≤ 4000000000 * n

pub empty_start : {key : ℕ → ℕ} (ws : List ℕ) (last : ℕ) (work : List ℕ) (total : ℕ) → CanTake ws last → total ≡ held_from 0 (buffer_count last) (buffers_of ws) → Emptying key ws last work ws work total 0 0
unfolding takes
empty_start ws last work total h e =
    record {
      so_far = record { can = h; state = refl; out = laid_none work 0; all = refl; made = refl; kept = kept_none ws; others = λ n lt differ out. refl };
      left = omega (arith, all_held ws last h);
      few = omega arith;
    }

was_found : (o : Option ℕ) (out : List ℕ) → option_to_list o ≡ out → length out ≡ 1 → IsSome o
was_found (Some entry) out e l = refl
was_found None out e l = absurd (omega (arith, ap length e))

pub work_long : {key : ℕ → ℕ} (ws₀ : List ℕ) (last : ℕ) (work₀ ws work : List ℕ) (total n steps : ℕ) → Emptying key ws₀ last work₀ ws work total n steps → total ≤ length work₀ → length work ≡ length work₀
work_long {key} ws₀ last work₀ ws work total n steps h room =
    let out = (takes key (links_from 1 last) n (buffers_of ws₀)).out in
    ap length h.so_far.out ∙ length_laid work₀ 0 out (omega (arith, h.so_far.all, h.left))

module _ {key : ℕ → ℕ} (ws₀ : List ℕ) (last : ℕ) (work₀ ws work : List ℕ) (total n steps : ℕ) (h : Emptying key ws₀ last work₀ ws work total n steps) (before : n < total) (room : total ≤ length work₀) where
  abbrev tree : Tree
  tree = links_from 1 last

  abbrev so : Taken
  so = takes key tree n (buffers_of ws₀)

  pub place_in : n < length work
  place_in = omega (arith, work_long ws₀ last work₀ ws work total n steps h room)

  alone : length (take_one key tree (buffers_of ws)).out ≡ 1
  alone = take_one_lem key (tree_roomy_first last) (buffers_of ws) (beside ws last h.so_far.can) (omega (arith, h.left))

  pub found : (ws' : List ℕ) (o : Option ℕ) (made : ℕ) → Took ws ws' last (take_one key tree (buffers_of ws)) o made → IsSome o
  found ws' o made z = was_found o (take_one key tree (buffers_of ws)).out z.out alone

  pub empty_more : (ws' : List ℕ) (o : Option ℕ) (made : ℕ) → Took ws ws' last (take_one key tree (buffers_of ws)) o made → (entry : ℕ) → o ≡ Some entry → Emptying key ws₀ last work₀ ws' (set work n entry) total (n + 1) (steps + made)
  empty_more ws' o made z entry is =
      let can = h.so_far.can in
      let one = take_one key tree (buffers_of ws) in
      let came : one.out ≡ entry ∷ [] = sym z.out ∙ ap option_to_list is in
      let now : takes key tree (n + 1) (buffers_of ws₀) ≡ and_then so one =
      ap (λ m. takes key tree m (buffers_of ws₀)) (add-one n) ∙ takes_more key tree n (buffers_of ws₀) ∙ ap (λ bs. and_then so (take_one key tree bs)) (sym h.so_far.state) in
      record {
        so_far = rw now record {
          can = record { array = z.array; links = rw (kept_links z.kept) can.links; marks = z.marks };
          state = z.state;
          out = ap (λ w. set w n entry) h.so_far.out ∙ laid_more work₀ 0 so.out n entry (omega (arith, h.so_far.all)) (omega arith) ∙ ap (λ l. laid_at work₀ 0 (so.out ++ l)) (sym came);
          all = simp length-append (omega (arith, h.so_far.all, alone));
          made = omega (arith, h.so_far.made, z.count);
          kept = kept_then h.so_far.kept z.kept;
          others = λ m lt differ out. z.others m (rw (kept_links h.so_far.kept) lt) differ out ∙ h.so_far.others m lt differ out;
        };
        left = omega (arith, h.left, take_held key tree (buffers_of ws) (beside ws last can), alone, ap (held_all tree) z.state);
        few = omega (arith, h.few, z.count, take_few ws last can key);
      }

pub empty_all : {key : ℕ → ℕ} (ws₀ : List ℕ) (last : ℕ) (work₀ ws work : List ℕ) (total n steps : ℕ) → CanTake ws₀ last → total ≡ held_from 0 (buffer_count last) (buffers_of ws₀) → Emptying key ws₀ last work₀ ws work total n steps → total ≤ n
    → TookAll ws₀ ws last (take_all key (links_from 1 last) (buffers_of ws₀)) work₀ work total steps
unfolding take_all
empty_all {key} ws₀ last work₀ ws work total n steps can e h past =
    let end : n ≡ total = omega (arith, h.left) in
    let all : total ≡ held_all (links_from 1 last) (buffers_of ws₀) = e ∙ all_held ws₀ last can in
    subst (λ m. TookAll ws₀ ws last (takes key (links_from 1 last) m (buffers_of ws₀)) work₀ work total steps) all
    (subst (λ m. TookAll ws₀ ws last (takes key (links_from 1 last) m (buffers_of ws₀)) work₀ work m steps) end h.so_far)

-- all of the work area, where its first words alone were written
pub whole_work : {ws ws' : List ℕ} {last : ℕ} {z : Taken} (work first : List ℕ) (count steps : ℕ) → TookAll ws ws' last z (take count work) first count steps → count ≤ length work → TookAll ws ws' last z work (first ++ drop count work) count steps
whole_work {z = z} work first count steps h room = record {
  can = h.can;
  state = h.state;
  out = ap (λ l. l ++ drop count work) (h.out ∙ laid_whole (take count work) z.out (sym h.all ∙ sym (length-take-le count work room))) ∙ ap (λ n. z.out ++ drop n work) (h.all ∙ sym (zero-add (length z.out)));
  all = h.all;
  made = h.made;
  kept = h.kept;
  others = h.others;
}

-- ---- few enough for 64 bits

held_small : (ws : List ℕ) → Inside ws → (n : ℕ) → n ≤ many ws → held_from 0 n (buffers_of ws) ≤ 65535 * n
unfolding held_from
held_small ws array zero h = omega arith
held_small ws array (suc n) h =
    let lt : n < many ws = omega arith in
    let here : length (get_or (buffers_of ws) n []) ≡ count_of ws n = ap length (buffers_at ws n lt) ∙ buffer_length ws n (has ws n array lt) in
    omega (arith, held_small ws array n (omega arith), subst (λ m. held_from 0 m (buffers_of ws) ≡ held_from 0 n (buffers_of ws) + length (get_or (buffers_of ws) n [])) (add-one n) (held_more n (buffers_of ws)))

pub total_small : (ws : List ℕ) (last total : ℕ) → CanTake ws last → total ≡ held_from 0 (buffer_count last) (buffers_of ws) → total ≤ 65535 * book_words
total_small ws last total h e = omega (arith, held_small ws h.array (buffer_count last) (buffers_in ws last h), buffers_in ws last h, few h.array.link)

pub steps_fit : {key : ℕ → ℕ} (ws₀ : List ℕ) (last : ℕ) (work₀ ws work : List ℕ) (total n steps : ℕ) → Emptying key ws₀ last work₀ ws work total n steps → n < total → total ≤ 65535 * book_words
    → (ws' : List ℕ) (o : Option ℕ) (made : ℕ) → Took ws ws' last (take_one key (links_from 1 last) (buffers_of ws)) o made → steps + made ≤ 4000000000 * (65535 * book_words)
steps_fit {key} ws₀ last work₀ ws work total n steps h before small ws' o made z = omega (arith, h.few, z.count, take_few ws last h.so_far.can key)
