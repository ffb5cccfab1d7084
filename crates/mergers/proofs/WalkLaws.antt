-- The walk down the tree: what is known in `fill` from the places of a merger's output and inputs.
use Prim.Native.Nat.{ℕ, zero, suc, ◌+◌, ◌-◌, ◌≤◌, ◌<◌}
use mathlib.Core.Path.{◌≡◌, refl, sym, ap, ◌∙◌, subst}
use mathlib.Core.Logic.{◌≢◌}
use mathlib.Core.Bool.{Bool, true, false}
use mathlib.Core.List.{List, []}
use native.Mathlib.Omega.{arith}
use native.Mathlib.Decide.{dec_lt, ℕ_discrete}
use borrow.Author.Tests.{le-leb, leb-true, leb-false, ne_eqb}
use lib.Dec.{leb}
use lib.ListN.{take, drop}
use Rattle.rules.specs.Tests.{◌and◌}
use Rattle.rules.specs.Links.{k, first, capacity, buffer_count, most_links, LinkNumber, InLink}
use Rattle.rules.specs.Tree.{Tree, exhausted, merger}
use Rattle.rules.specs.Fill.{Filled, untouched, fill}
use Rattle.rules.proofs.Heights.{height_falls}
use Rattle.rules.proofs.Numbers.{Stands, output, in_first, in_second, Among, joint}
use Rattle.rules.proofs.Full.{Roomy, over}
use Rattle.buffers.specs.Slots.{base, capacity_of}
use Rattle.buffers.specs.Format.{links_in, count_of, start_of, many, buffer_of, buffers_of}
use Rattle.buffers.specs.Post.{Has, Now, Word, Laying, Emptied}
use Rattle.buffers.proofs.SlotLaws.{capacity_is}
use Rattle.buffers.proofs.ArrayLaws.{has, kept_links, kept_then, kept_none}
use Rattle.mergers.specs.Moves.{run_length}
use Rattle.mergers.specs.Subtree.{subtree, height_below, first_input, second_input, second_link}
use Rattle.mergers.specs.Post.{wanted, wanted_in, Placed, Fed, Moving, Turning, Ran, seen_if, touched_if, turned_by}
use Rattle.mergers.specs.Fills.{MarksRight, CanFill, Did}
use Rattle.mergers.proofs.SubtreeLaws.{fed_by_none, fed_by_two, past_last, part_among, part_roomy, first_spot, second_spot}
use Rattle.mergers.proofs.TurnLaws.{refilled, Ready}
use Rattle.mergers.proofs.RunLaws.{plus, filling}
use Rattle.mergers.proofs.BoundLaws.{steps_few}
use Rattle.mergers.proofs.FillLaws.{IsTop, top_stands, Input, Filling, did_nothing, left_alone, filled_now, begin, begin_state, beside, refilled_both, ready_one, ready_two, run_made, within_room, stopped, none_in_one, none_in_two, done, done_full, done_none}

-- S(i,j): no merger feeds it, and nothing is done
pub leaf_did : (key : ℕ → ℕ) (ws : List ℕ) (last i j : ℕ) → CanFill ws last i j → k i ≤ j → Did ws ws (subtree last i j) (fill key (subtree last i j) (buffers_of ws)) 0
unfolding fill
leaf_did key ws last i j h low =
    did_nothing ws (subtree last i j) h.array h.marks (fill key (subtree last i j) (buffers_of ws)) (rw (fed_by_none last h.place low))

-- the top of the tree below a buffer is that buffer
pub part_top : (last : ℕ) {i j : ℕ} → InLink i j → i ≤ last → IsTop (first i + j) (subtree last i j)
part_top last {i} {j} h low = go (dec_lt j (k i))
  where
    go : Dec (j < k i) → IsTop (first i + j) (subtree last i j)
    go (yes above) = rw (fed_by_two last h.link low j above) refl
    go (no beyond) = rw (fed_by_none last h (omega arith)) refl

-- a wanted input is empty
pub wanted_none : (ws : List ℕ) (n : ℕ) → wanted ws n ≡ true → count_of ws n ≡ 0
wanted_none ws n w = go (ℕ_discrete (count_of ws n) 0)
  where
    go : Dec (count_of ws n ≡ 0) → count_of ws n ≡ 0
    go (yes none) = none
    go (no some) =
        let no_more : wanted ws n ≡ false = rw (ne_eqb (count_of ws n) 0 some) in
        let clash : ◌≡◌ {A = Bool} true false = sym w ∙ no_more in
        let z : ◌≡◌ {A = ℕ} 0 1 = cc in
        absurd (omega arith)

pub and_first : (a b : Bool) → a and b ≡ true → a ≡ true
and_first true b e = refl
and_first false b e = e

pub and_second : (a b : Bool) → a and b ≡ true → b ≡ true
and_second true b e = e
and_second false b e = let z : ◌≡◌ {A = ℕ} 0 1 = cc in absurd (omega arith)

-- what is known past the settling: where the output and the inputs are
pub record Began (ws₀ ws₁ : List ℕ) (last i j n at room n₁ at₁ p n₂ at₂ q s : ℕ) : Type 0 where
  pub pre : CanFill ws₀ last i j
  pub above : j < k i
  pub out : Placed i j n at
  pub room_is : room ≡ capacity i j
  pub one : Placed i (first_input j) n₁ at₁
  pub p_is : p ≡ first_input j
  pub two : Placed (second_link i j) (second_input j) n₂ at₂
  pub q_is : q ≡ second_input j
  pub s_is : s ≡ second_link i j
  pub settled : Now ws₀ ws₁ n (take 0 (drop (base n) ws₀))
  pub word : Word ws₁ n 0 0

module _ (key : ℕ → ℕ) {ws₀ ws₁ : List ℕ} {last i j n at room n₁ at₁ p n₂ at₂ q s : ℕ} (g : Began ws₀ ws₁ last i j n at room n₁ at₁ p n₂ at₂ q s) where
  abbrev link : LinkNumber i
  link = g.pre.place.link

  abbrev c : ℕ
  c = capacity i j

  abbrev t₁ : Tree
  t₁ = subtree last i (first_input j)

  abbrev t₂ : Tree
  t₂ = subtree last (second_link i j) (second_input j)

  abbrev t : Tree
  t = merger (first i + j) c t₁ t₂

  tree_is : subtree last i j ≡ t
  tree_is = fed_by_two last link g.pre.counts j g.above

  among₀ : Among t (many ws₀)
  among₀ = subst (λ (u : Tree). Among u (many ws₀)) tree_is (part_among last (links_in ws₀) g.pre.place g.pre.counts g.pre.links)

  roomy : Roomy t
  roomy = subst Roomy tree_is (part_roomy last g.pre.place g.pre.counts)

  roomy_one : Roomy t₁
  roomy_one = roomy_of roomy
    where
      roomy_of : {m d : ℕ} {a b : Tree} → Roomy (merger m d a b) → Roomy a
      roomy_of (over some x y) = x

  roomy_two : Roomy t₂
  roomy_two = roomy_of roomy
    where
      roomy_of : {m d : ℕ} {a b : Tree} → Roomy (merger m d a b) → Roomy b
      roomy_of (over some x y) = y

  last_few : last ≤ most_links
  last_few = omega (arith, g.pre.links, g.pre.array.link.high)

  fed : Fed i j
  fed = record { inside = g.pre.place; above = g.above }

  pub one_in : InLink i (first_input j)
  one_in = (first_spot fed).inside link.high

  pub two_in : second_link i j ≤ last → InLink (second_link i j) (second_input j)
  two_in low = (second_spot fed).inside (omega (arith, last_few))

  top_one : IsTop (first i + first_input j) t₁
  top_one = part_top last one_in g.pre.counts

  -- the second input counts, or lies behind the last link
  input_two : Input (leb (second_link i j) last) (first (second_link i j) + second_input j) t₂
  input_two = record {
    counts = λ e. let low : second_link i j ≤ last = leb-true (second_link i j) last e in part_top last (two_in low) low;
    else_none = λ e. behind j (leb-false (second_link i j) last e);
  }
    where
      behind : (j : ℕ) → last < second_link i j → subtree last (second_link i j) (second_input j) ≡ exhausted
      behind zero h = past_last last (suc i) h
      behind (suc j) h = absurd (omega (arith, g.pre.counts))

  numbers : n ≡ first i + j
  numbers = g.out.number

  -- ---- where the loop begins

  f₀ : Filling key (first i + j) c t₁ t₂ ws₀ ws₁ 0 0
  f₀ =
      begin (first i + j) c t₁ t₂ ws₀ among₀ g.pre.array ws₁ g.pre.none (subst (λ (u : Tree). MarksRight ws₀ u) tree_is g.pre.marks)
      (rw numbers at g.settled) (rw numbers at g.word)

  state₀ : buffers_of ws₁ ≡ buffers_of ws₀
  state₀ = begin_state (first i + j) c t₁ t₂ ws₀ among₀ g.pre.array ws₁ g.pre.none (rw numbers at g.settled)

  links₁ : links_in ws₁ ≡ links_in ws₀
  links₁ = kept_links f₀.kept

  among₁ : Among t (many ws₁)
  among₁ = rw links₁ among₀

  pub loop_begins : Filling key (first i + j) c t₁ t₂ ws₁ ws₁ 0 0
  loop_begins = record {
    array = f₀.array;
    kept = kept_none ws₁;
    others = λ m lt out. refl;
    count = f₀.count;
    start = f₀.start;
    mark = f₀.mark;
    marks_one = f₀.marks_one;
    marks_two = f₀.marks_two;
    within = f₀.within;
    law = rw state₀ (rw state₀ at f₀.law);
  }

  -- what was done from there is done from the start
  pub from_start : {ws' : List ℕ} {steps : ℕ} → Did ws₁ ws' t (fill key t (buffers_of ws₁)) steps → Did ws₀ ws' (subtree last i j) (fill key (subtree last i j) (buffers_of ws₀)) steps
  from_start d =
      rw tree_is
      record {
        array = d.array;
        state = rw (← state₀) d.state;
        count = rw (← state₀) d.count;
        marks = d.marks;
        kept = kept_then f₀.kept d.kept;
        others = λ m lt out. d.others m (rw links₁ lt) out ∙ f₀.others m lt out;
      }

  -- ---- in the loop

  module _ {ws : List ℕ} {filled steps : ℕ} (f : Filling key (first i + j) c t₁ t₂ ws₁ ws filled steps) where
    links_now : links_in ws ≡ links_in ws₀
    links_now = kept_links f.kept ∙ links₁

    stands_below : (m : ℕ) → Stands m t → m < many ws
    stands_below m s = rw links_now (among₀.less m s)

    pub out_has : Has ws n
    out_has = rw numbers (has ws (first i + j) f.array (stands_below (first i + j) output))

    pub one_has : Has ws n₁
    one_has = rw g.one.number (has ws (first i + first_input j) f.array (stands_below (first i + first_input j) (in_first (top_stands (first i + first_input j) t₁ top_one))))

    pub two_has : second_link i j ≤ last → Has ws n₂
    two_has low =
        let top = part_top last (two_in low) low in
        rw g.two.number (has ws (first (second_link i j) + second_input j) f.array (stands_below (first (second_link i j) + second_input j) (in_second (top_stands (first (second_link i j) + second_input j) t₂ top))))

    -- the steps so far are few
    pub steps_small : steps ≤ 4000000000
    steps_small =
        let few : (fill key t (buffers_of ws₁)).steps ≤ 4000000000 =
        subst (λ (u : Tree). (fill key u (buffers_of ws₁)).steps ≤ 4000000000) tree_is
        (steps_few key ws₁ f₀.array last g.pre.place g.pre.counts last_few (subst (λ (u : Tree). Among u (many ws₁)) (sym tree_is) among₁)) in
        let sum : (fill key t (buffers_of ws₁)).steps ≡ steps + (filling key (first i + j) c t₁ t₂ (c - filled) (buffers_of ws)).steps = ap (λ z. z.steps) f.law in
        omega arith

    -- ---- the first input

    one_said : wanted_in ws last i n₁ ≡ wanted ws (first i + first_input j)
    one_said = rw (le-leb i last g.pre.counts, g.one.number)

    one_input : Input true (first i + first_input j) t₁
    one_input = record { counts = λ e. top_one; else_none = λ e. let z : ◌≡◌ {A = ℕ} 0 1 = cc in absurd (omega arith) }

    one_below : true ≡ true → first i + first_input j < many ws
    one_below e = stands_below (first i + first_input j) (in_first (top_stands (first i + first_input j) t₁ top_one))

    pub one_alone : wanted_in ws last i n₁ ≡ false → Did ws ws t₁ (refilled key t₁ (buffers_of ws)) 0
    one_alone w = left_alone key ws f.array (first i + first_input j) t₁ f.marks_one true one_input one_below (sym one_said ∙ w)

    pub one_filled : wanted_in ws last i n₁ ≡ true → (ws' : List ℕ) (x : ℕ) → Did ws ws' (subtree last i p) (fill key (subtree last i p) (buffers_of ws)) x
        → Did ws ws' t₁ (refilled key t₁ (buffers_of ws)) x
    one_filled w ws' x did = filled_now key ws f.array (first i + first_input j) t₁ f.marks_one true one_input one_below (sym one_said ∙ w) ws' x (rw g.p_is at did)

    pub one_can : wanted_in ws last i n₁ ≡ true → CanFill ws last i p
    one_can w =
        rw g.p_is
        record {
          array = f.array;
          place = one_in;
          counts = g.pre.counts;
          links = rw links_now g.pre.links;
          none = wanted_none ws (first i + first_input j) (sym one_said ∙ w);
          marks = f.marks_one;
        }

    pub one_falls : height_below last i p < height_below last i j
    one_falls = rw (g.p_is, tree_is) (height_falls (first i + j) c t₁ t₂).0

    -- ---- the second input, after the first has been filled

    module _ {ws_a : List ℕ} {x : ℕ} (a : Did ws ws_a t₁ (refilled key t₁ (buffers_of ws)) x) where
      links_A : links_in ws_a ≡ links_in ws₀
      links_A = kept_links a.kept ∙ links_now

      marks_A : MarksRight ws_a t₂
      marks_A = beside (first i + j) c t₁ t₂ ws₁ among₁ key (rw (kept_links f.kept)) a f.marks_two

      two_said : wanted_in ws_a last s n₂ ≡ leb (second_link i j) last and wanted ws_a (first (second_link i j) + second_input j)
      two_said = rw (g.s_is, g.two.number)

      two_below : leb (second_link i j) last ≡ true → first (second_link i j) + second_input j < many ws_a
      two_below e =
          let low : second_link i j ≤ last = leb-true (second_link i j) last e in
          let top = part_top last (two_in low) low in
          rw links_A (among₀.less (first (second_link i j) + second_input j) (in_second (top_stands (first (second_link i j) + second_input j) t₂ top)))

      pub two_has_A : s ≤ last → Has ws_a n₂
      two_has_A low =
          let low' : second_link i j ≤ last = rw g.s_is at low in
          rw g.two.number (has ws_a (first (second_link i j) + second_input j) a.array (two_below (le-leb (second_link i j) last low')))

      pub two_alone : wanted_in ws_a last s n₂ ≡ false → Did ws_a ws_a t₂ (refilled key t₂ (buffers_of ws_a)) 0
      two_alone w = left_alone key ws_a a.array (first (second_link i j) + second_input j) t₂ marks_A (leb (second_link i j) last) input_two two_below (sym two_said ∙ w)

      pub two_filled : wanted_in ws_a last s n₂ ≡ true → (ws' : List ℕ) (y : ℕ) → Did ws_a ws' (subtree last s q) (fill key (subtree last s q) (buffers_of ws_a)) y
          → Did ws_a ws' t₂ (refilled key t₂ (buffers_of ws_a)) y
      two_filled w ws' y did =
          filled_now key ws_a a.array (first (second_link i j) + second_input j) t₂ marks_A (leb (second_link i j) last) input_two two_below (sym two_said ∙ w) ws' y (rw (g.s_is, g.q_is) at did)

      two_low : wanted_in ws_a last s n₂ ≡ true → second_link i j ≤ last
      two_low w = leb-true (second_link i j) last (and_first (leb (second_link i j) last) (wanted ws_a (first (second_link i j) + second_input j)) (sym two_said ∙ w))

      pub two_can : wanted_in ws_a last s n₂ ≡ true → CanFill ws_a last s q
      two_can w =
          rw (g.s_is, g.q_is)
          record {
            array = a.array;
            place = two_in (two_low w);
            counts = two_low w;
            links = rw links_A g.pre.links;
            none = wanted_none ws_a (first (second_link i j) + second_input j) (and_second (leb (second_link i j) last) (wanted ws_a (first (second_link i j) + second_input j)) (sym two_said ∙ w));
            marks = marks_A;
          }

      pub two_falls : height_below last s q < height_below last i j
      two_falls = rw (g.s_is, g.q_is, tree_is) (height_falls (first i + j) c t₁ t₂).1

      -- ---- and then the run of merge steps

      module _ {ws_b : List ℕ} {y : ℕ} (b : Did ws_a ws_b t₂ (refilled key t₂ (buffers_of ws_a)) y) (more : filled < room) where
        more_room : filled < c
        more_room = omega (arith, g.room_is)

        pub both : Filling key (first i + j) c t₁ t₂ ws₁ ws_b filled (steps + x + y) × Ready t₁ (buffers_of ws_b) × Ready t₂ (buffers_of ws_b) × (filled < room)
        both = (
          refilled_both (first i + j) c t₁ t₂ ws₁ among₁ roomy_one roomy_two f more_room a b,
          ready_one (first i + j) c t₁ t₂ ws₁ among₁ roomy_one roomy_two f more_room a b,
          ready_two (first i + j) c t₁ t₂ ws₁ among₁ roomy_one roomy_two f more_room a b,
          more,
        )

    -- ---- merge steps, and the end

    one_differs : n ≢ n₁
    one_differs e =
        (joint among₁).out_one (subst (λ (m : ℕ). Stands m t₁) (sym g.one.number ∙ sym e ∙ numbers) (top_stands (first i + first_input j) t₁ top_one))

    free : start_of ws n + count_of ws n + (room - filled) ≤ capacity_of n
    free =
        let cap : capacity_of (first i + j) ≡ c = capacity_is g.pre.place in
        rw numbers (omega (arith, f.start, f.count, f.within, g.room_is))

    one_moving : Moving ws n at (room - filled) n₁ at₁
    one_moving = record {
      output = record { of = out_has; begins = rw numbers (g.out.at link.high) };
      input = record { of = one_has; begins = rw g.one.number (g.one.at link.high) };
      differ = one_differs;
      free = free;
    }

    pub turning : Turning ws last s n at (room - filled) n₁ at₁ n₂ at₂
    turning = record {
      first = one_moving;
      both = λ low.
          let low' : second_link i j ≤ last = rw g.s_is at low in
          let top = part_top last (two_in low') low' in
          let stands : Stands n₂ t₂ = rw g.two.number (top_stands (first (second_link i j) + second_input j) t₂ top) in
          record {
            first = one_moving;
            second = record {
              output = one_moving.output;
              input = record { of = two_has low'; begins = rw g.two.number (g.two.at (omega (arith, last_few))) };
              differ = λ e. (joint among₁).out_two (subst (λ (m : ℕ). Stands m t₂) (sym e ∙ numbers) stands);
              free = free;
            };
            differ = λ e. (joint among₁).apart n₁ (rw g.one.number (top_stands (first i + first_input j) t₁ top_one)) (rw e stands);
          };
    }

    module _ (r₁ : Ready t₁ (buffers_of ws)) (r₂ : Ready t₂ (buffers_of ws)) (m : ℕ) (e : m ≡ run_length key (room - filled) (buffer_of ws n₁) (seen_if (leb s last) (buffer_of ws n₂)))
        {ws' : List ℕ} (r : Ran ws ws' n n₁ (touched_if (leb s last) n₁ n₂) (turned_by key (leb s last) m ws n n₁ n₂)) where
      abbrev N₁ : ℕ
      N₁ = first i + first_input j

      abbrev N₂ : ℕ
      N₂ = first (second_link i j) + second_input j

      abbrev B : Bool
      B = leb (second_link i j) last

      e' : m ≡ run_length key (c - filled) (buffer_of ws N₁) (seen_if B (buffer_of ws N₂))
      e' = rw (g.room_is, g.one.number, g.two.number, g.s_is) at e

      r' : Ran ws ws' (first i + j) N₁ (touched_if B N₁ N₂) (turned_by key B m ws (first i + j) N₁ N₂)
      r' = rw (numbers, g.one.number, g.two.number, g.s_is) at r

      pub next : Filling key (first i + j) c t₁ t₂ ws₁ ws' (filled + m) (steps + m)
      next = run_made (first i + j) c t₁ t₂ ws₁ among₁ roomy_one roomy_two N₁ N₂ B top_one input_two f r₁ r₂ m e' r'

      pub next_within : m ≤ room - filled
      next_within = rw g.room_is (within_room (first i + j) c t₁ t₂ ws₁ among₁ roomy_one roomy_two N₁ N₂ B top_one input_two f r₁ r₂ m e' r')

      module _ (none : m ≡ 0) (more : filled < room) where
        more' : filled < c
        more' = omega (arith, g.room_is)

        stops : fill key t (buffers_of ws₁) ≡ plus (steps + m) (untouched (buffers_of ws'))
        stops = stopped (first i + j) c t₁ t₂ ws₁ among₁ roomy_one roomy_two N₁ N₂ B top_one input_two f r₁ r₂ m e' r' none more'

        pub ended_some : Did ws₀ ws' (subtree last i j) (fill key (subtree last i j) (buffers_of ws₀)) (steps + m)
        ended_some = from_start (done (first i + j) c t₁ t₂ ws₁ among₁ next stops)

        pub empty_now : filled ≡ 0 → Emptied ws' n
        empty_now zero_filled = rw numbers record { of = has ws' (first i + j) next.array (rw (kept_links next.kept, links₁) (among₀.less (first i + j) output)); none = next.count ∙ omega_sum filled m zero_filled none }
          where
            omega_sum : (x y : ℕ) → x ≡ 0 → y ≡ 0 → x + y ≡ 0
            omega_sum x y p q = omega arith

        pub ended_none : filled ≡ 0 → (ws'' : List ℕ) → Now ws' ws'' n [] → Did ws₀ ws'' (subtree last i j) (fill key (subtree last i j) (buffers_of ws₀)) (steps + m)
        ended_none zero_filled ws'' z =
            let zero_now : filled + m ≡ 0 = omega arith in
            from_start (done_none (first i + j) c t₁ t₂ ws₁ among₁ next ws'' zero_now stops
            (none_in_one (first i + j) c t₁ t₂ ws₁ among₁ roomy_one roomy_two N₁ N₂ B top_one input_two f r₁ r₂ m e' r' none more')
            (none_in_two (first i + j) c t₁ t₂ ws₁ among₁ roomy_one roomy_two N₁ N₂ B top_one input_two f r₁ r₂ m e' r' none more')
            (rw numbers at z))

    pub ended_full : room ≤ filled → Did ws₀ ws (subtree last i j) (fill key (subtree last i j) (buffers_of ws₀)) steps
    ended_full h = from_start (done_full (first i + j) c t₁ t₂ ws₁ among₁ f (omega (arith, g.room_is)))

-- the same array and the same number under other names
pub did_as : {ws ws' ws'' : List ℕ} {u : Tree} {z : Filled} {x x' : ℕ} → ws'' ≡ ws' → x' ≡ x → Did ws ws' u z x → Did ws ws'' u z x'
did_as p q d = rw (p, q) d

-- the output can be settled
pub settle_can : (ws : List ℕ) (last i j n at : ℕ) → CanFill ws last i j → Placed i j n at → Laying ws n 0
unfolding buffer_count
settle_can ws last i j n at h out =
    let among = part_among last (links_in ws) h.place h.counts h.links in
    let lt : first i + j < many ws = among.less (first i + j) (top_stands (first i + j) (subtree last i j) (part_top last h.place h.counts)) in
    rw out.number record { of = has ws (first i + j) h.array lt; room = omega arith }
