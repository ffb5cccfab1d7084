-- What the parts of the book test do, step by step.
use mathlib.Core.Path.{◌≡◌, refl, sym, ap, ◌∙◌}
use mathlib.Core.Bool.{Bool, true, false, not}
use mathlib.Core.Logic.{inl, inr}
use Prim.Native.Nat.{ℕ, ◌+◌, ◌*◌, ◌≤◌, ◌<◌}
use native.Mathlib.Nat.{add-zero}
use native.Mathlib.Omega.{arith}
use native.Mathlib.Decide.{ℕ_discrete, dec_lt}
use mathlib.Core.List.{List}
use lib.ListN.{length, get_or, set, length-set}
use lib.Seq.{get_or-set_same, get_or-set_other}
use lib.Dec.{eqb}
use borrow.Author.Tests.{eq-eqb, ne_eqb, le-leb, lt-leb}
use Rattle.std.specs.Bool.{then_some}
use Rattle.rules.specs.Tests.{◌and◌, ◌implies◌}
use Rattle.rules.specs.Links.{widest}
use Rattle.buffers.specs.Format.{count_in, mark_in, start_in, word_of, count_of}
use Rattle.buffers.specs.Weights.{broken, most_weight, word_right, weigh, nothing, inputs, Weighs, Passed, Wrong, Stretch, Stretched, Level, Levelled}

pub no_truth : {A : Type 0} → false ≡ true → A
no_truth e = absurd (let z : ◌≡◌ {A = ℕ} 0 1 = cc in omega arith)

-- ---- one word

module _ (w size held : ℕ) where
  pub word_over : size < start_in w + count_in w → word_right w size held ≡ false
  unfolding word_right
  word_over h = ap (λ t. t and (eqb (mark_in w) 1 implies eqb held 0)) (lt-leb (start_in w + count_in w) size h)

  word_fits : start_in w + count_in w ≤ size → word_right w size held ≡ (eqb (mark_in w) 1 implies eqb held 0)
  unfolding word_right
  word_fits h = ap (λ t. t and (eqb (mark_in w) 1 implies eqb held 0)) (le-leb (start_in w + count_in w) size h)

  pub word_none : start_in w + count_in w ≤ size → held ≡ 0 → word_right w size held ≡ true
  word_none fits none = word_fits fits ∙ ap (λ t. eqb (mark_in w) 1 implies t) (eq-eqb held 0 none) ∙ go (eqb (mark_in w) 1)
    where
      go : (t : Bool) → (t implies true) ≡ true
      go true = refl
      go false = refl

  pub word_some : start_in w + count_in w ≤ size → (held ≡ 0 → ⊥) → word_right w size held ≡ not (eqb (mark_in w) 1)
  word_some fits some = word_fits fits ∙ ap (λ t. eqb (mark_in w) 1 implies t) (ne_eqb held 0 some) ∙ go (eqb (mark_in w) 1)
    where
      go : (t : Bool) → (t implies false) ≡ not t
      go true = refl
      go false = refl

module _ (w size under : ℕ) where
  abbrev picked : Bool → ℕ
  picked t = elim t [ true ↦ count_in w + under | false ↦ broken ]

  pub weigh_true : word_right w size (count_in w + under) ≡ true → weigh w size under ≡ count_in w + under
  unfolding weigh
  weigh_true e = ap picked e

  pub weigh_false : word_right w size (count_in w + under) ≡ false → weigh w size under ≡ broken
  unfolding weigh
  weigh_false e = ap picked e

  pub weighs : (r : Bool) (x : ℕ) → r ≡ word_right w size x → x ≡ count_in w + under → Weighs (then_some r x) (weigh w size under)
  weighs true x e is = is ∙ sym (weigh_true (ap (word_right w size) (sym is) ∙ sym e))
  weighs false x e is = omega (arith, weigh_false (ap (word_right w size) (sym is) ∙ sym e))

  pub weigh_over : size < start_in w + count_in w → weigh w size under ≡ broken
  weigh_over h = weigh_false (word_over w size (count_in w + under) h)

  pub weigh_right : start_in w + count_in w ≤ size → (mark_in w ≡ 1 → count_in w + under ≡ 0) → weigh w size under ≡ count_in w + under
  weigh_right fits mark = weigh_true (go (ℕ_discrete (count_in w + under) 0))
    where
      go : Dec (count_in w + under ≡ 0) → word_right w size (count_in w + under) ≡ true
      go (yes none) = word_none w size (count_in w + under) fits none
      go (no some) = word_some w size (count_in w + under) fits some ∙ ap not (ne_eqb (mark_in w) 1 (λ m. some (mark m)))

  pub weigh_marked : start_in w + count_in w ≤ size → (count_in w + under ≡ 0 → ⊥) → mark_in w ≡ 1 → weigh w size under ≡ broken
  weigh_marked fits some mark = weigh_false (word_some w size (count_in w + under) fits some ∙ ap not (eq-eqb (mark_in w) 1 mark))

  -- a word that weighs less than what is broken keeps the rules
  pub record Kept : Type 0 where
    pub fits : start_in w + count_in w ≤ size
    pub mark : mark_in w ≡ 1 → count_in w + under ≡ 0
    pub is : weigh w size under ≡ count_in w + under

  pub weigh_kept : weigh w size under < broken → Kept
  weigh_kept less = go (dec_lt size (start_in w + count_in w)) (ℕ_discrete (count_in w + under) 0) (ℕ_discrete (mark_in w) 1)
    where
      go : Dec (size < start_in w + count_in w) → Dec (count_in w + under ≡ 0) → Dec (mark_in w ≡ 1) → Kept
      go (yes over) z m = absurd (omega (arith, weigh_over over))
      go (no fits) (yes none) m =
          let f : start_in w + count_in w ≤ size = omega arith in
          record { fits = f; mark = λ _. none; is = weigh_right f (λ _. none) }
      go (no fits) (no some) (yes mark) = absurd (omega (arith, weigh_marked (omega arith) some mark))
      go (no fits) (no some) (no mark) =
          let f : start_in w + count_in w ≤ size = omega arith in
          record { fits = f; mark = λ e. absurd (mark e); is = weigh_right f (λ e. absurd (mark e)) }

  pub weigh_most : weigh w size under ≤ broken + under
  unfolding weigh
  weigh_most = go (word_right w size (count_in w + under))
    where
      go : (t : Bool) → picked t ≤ broken + under
      go true = omega arith
      go false = omega arith

  pub weigh_above : (n : ℕ) → n < broken → n < count_in w + under → n < weigh w size under
  unfolding weigh
  weigh_above n few h = go (word_right w size (count_in w + under))
    where
      go : (t : Bool) → n < picked t
      go true = h
      go false = few

  pub weigh_least : broken ≤ under → broken ≤ weigh w size under
  unfolding weigh
  weigh_least h = go (word_right w size (count_in w + under))
    where
      go : (t : Bool) → broken ≤ picked t
      go true = omega arith
      go false = omega arith

-- ---- one buffer after the other: those from `low` on are weighed up to j

pub record Passing (ws below below' : List ℕ) (a low high size : ℕ) (under : ℕ → ℕ) (j : ℕ) : Type 0 where
  pub sized : length below' ≡ widest
  pub from : low ≤ j
  pub to : j ≤ high
  pub weighed : (m : ℕ) → low ≤ m → m < j → get_or below' m 0 ≡ weigh (word_of ws (a + m)) size (under m)
  pub before : (m : ℕ) → m < low → get_or below' m 0 ≡ get_or below m 0
  pub behind : (m : ℕ) → high ≤ m → get_or below' m 0 ≡ get_or below m 0

pub as_wide : (below : List ℕ) → length below ≡ 32 → length below ≡ widest
unfolding widest
as_wide below e = e

pub pass_starts : (ws below : List ℕ) (a low high size : ℕ) (under : ℕ → ℕ) → length below ≡ widest → low ≤ high → Passing ws below below a low high size under low
pass_starts ws below a low high size under sized up = record {
  sized = sized;
  from = omega arith;
  to = up;
  weighed = λ m h g. absurd (omega arith);
  before = λ m h. refl;
  behind = λ m h. refl;
}

module _ (ws below below' : List ℕ) (a low high size : ℕ) (under : ℕ → ℕ) (j : ℕ) (inv : Passing ws below below' a low high size under j) where
  pub pass_again : j < high → high ≤ widest → (x : ℕ) → x ≡ weigh (word_of ws (a + j)) size (under j) → Passing ws below (set below' j x) a low high size under (j + 1)
  pass_again lt few x e = record {
    sized = length-set below' j x ∙ inv.sized;
    from = omega (arith, inv.from);
    to = omega arith;
    weighed = λ m h g. here m h (omega arith) (ℕ_discrete m j);
    before = λ m h. get_or-set_other below' j m x 0 (omega (arith, inv.from)) ∙ inv.before m h;
    behind = λ m h. get_or-set_other below' j m x 0 (omega arith) ∙ inv.behind m h;
  }
    where
      here : (m : ℕ) → low ≤ m → m ≤ j → Dec (m ≡ j) → get_or (set below' j x) m 0 ≡ weigh (word_of ws (a + m)) size (under m)
      here m h g (yes q) = rw q (get_or-set_same below' j x 0 (omega (arith, inv.sized)) ∙ e)
      here m h g (no q) = get_or-set_other below' j m x 0 q ∙ inv.weighed m h (omega arith)

  pub pass_ends : high ≤ j → Passed ws below below' a low high size under
  pass_ends h = record { weighed = λ m p q. inv.weighed m p (omega arith); before = inv.before }

  pub pass_wrong : j < high → weigh (word_of ws (a + j)) size (under j) ≡ broken → Wrong ws a low high size under
  pass_wrong lt e = record { at = j; from = inv.from; to = lt; is = e }

-- ---- a stretch

pub record Stretching (ws below below' : List ℕ) (a low high size many j : ℕ) : Type 0 where
  pub passing : Passing ws below below' a low high size nothing j
  pub few : (m : ℕ) → low ≤ m → m < j → count_of ws (a + m) ≤ many

module _ (ws below : List ℕ) (a low high size many : ℕ) (p : Stretch ws a low high) where
  pub stretch_starts : length below ≡ widest → Stretching ws below below a low high size many low
  stretch_starts sized = record { passing = pass_starts ws below a low high size nothing sized p.up; few = λ m h g. absurd (omega arith) }

  module _ (below' : List ℕ) (j : ℕ) (inv : Stretching ws below below' a low high size many j) where
    module _ (lt : j < high) (w x : ℕ) (w_is : w ≡ word_of ws (a + j)) (x_is : x ≡ count_in w) where
      entries_counted : x ≡ count_of ws (a + j)
      entries_counted = x_is ∙ ap count_in w_is

      word_is : (r : Bool) → r ≡ word_right w size x → word_right (word_of ws (a + j)) size (count_of ws (a + j) + 0) ≡ r
      word_is r e = let z = add-zero (count_of ws (a + j)) in cc entries_counted

      pub stretch_over : many < x → Stretched ws below below' a low high size many false
      stretch_over h = record {
        right = λ e. no_truth e;
        few = λ e. no_truth e;
        wrong = λ e. inr (record { at = j; from = inv.passing.from; to = lt; is = omega (arith, entries_counted) });
      }

      pub stretch_wrong : (r : Bool) → r ≡ word_right w size x → r ≡ false → Stretched ws below below' a low high size many false
      stretch_wrong r e bad = record {
        right = λ e. no_truth e;
        few = λ e. no_truth e;
        wrong = λ z. inl (pass_wrong ws below below' a low high size nothing j inv.passing lt (weigh_false (word_of ws (a + j)) size 0 (word_is r e ∙ bad)));
      }

      pub stretch_again : x ≤ many → (r : Bool) → r ≡ word_right w size x → r ≡ true → Stretching ws below (set below' j x) a low high size many (j + 1)
      stretch_again le r e good = record {
        passing = pass_again ws below below' a low high size nothing j inv.passing lt p.few x
            (entries_counted ∙ sym (weigh_true (word_of ws (a + j)) size 0 (word_is r e ∙ good) ∙ add-zero (count_of ws (a + j))));
        few = λ m h g. here m h (omega arith) (ℕ_discrete m j);
      }
        where
          here : (m : ℕ) → low ≤ m → m ≤ j → Dec (m ≡ j) → count_of ws (a + m) ≤ many
          here m h g (yes q) = rw q (omega (arith, entries_counted))
          here m h g (no q) = inv.few m h (omega arith)

    pub stretch_ends : high ≤ j → Stretched ws below below' a low high size many true
    stretch_ends h = record {
      right = λ e. pass_ends ws below below' a low high size nothing j inv.passing h;
      few = λ e m p q. inv.few m p (omega arith);
      wrong = λ e. no_truth (sym e);
    }

-- ---- a level

module _ (ws below : List ℕ) (a low size : ℕ) (p : Level ws below a low) where
  pub level_starts : length below ≡ widest → Passing ws below below a low (2 * low) size (inputs below) low
  level_starts sized = pass_starts ws below a low (2 * low) size (inputs below) sized (omega arith)

  module _ (below' : List ℕ) (j : ℕ) (inv : Passing ws below below' a low (2 * low) size (inputs below) j) where
    pub level_ends : 2 * low ≤ j → Levelled ws below below' a low size true
    level_ends h = record {
      right = λ e. pass_ends ws below below' a low (2 * low) size (inputs below) j inv h;
      wrong = λ e. no_truth (sym e);
    }

    module _ (lt : j < 2 * low) where
      inputs_is : inputs below' j ≡ inputs below j
      inputs_is =
          let one = inv.behind (2 * j) (omega (arith, inv.from)) in
          let two = inv.behind (2 * j + 1) (omega (arith, inv.from)) in
          omega arith

      pub level_under : inputs below' j ≤ 4 * most_weight
      level_under =
          omega (arith, inputs_is, p.small (2 * j) (omega (arith, inv.from)) (omega arith), p.small (2 * j + 1) (omega (arith, inv.from)) (omega arith))

      module _ (w x : ℕ) (w_is : w ≡ word_of ws (a + j)) (x_is : x ≡ count_in w + inputs below' j) where
        held_is : x ≡ count_of ws (a + j) + inputs below j
        held_is = x_is ∙ ap (λ n. count_in n + inputs below' j) w_is ∙ ap (λ n. count_of ws (a + j) + n) inputs_is

        level_word : (r : Bool) → r ≡ word_right w size x → word_right (word_of ws (a + j)) size (count_of ws (a + j) + inputs below j) ≡ r
        level_word r e = cc held_is

        pub level_wrong : (r : Bool) → r ≡ word_right w size x → r ≡ false → Levelled ws below below' a low size false
        level_wrong r e bad = record {
          right = λ e. no_truth e;
          wrong = λ z. pass_wrong ws below below' a low (2 * low) size (inputs below) j inv lt (weigh_false (word_of ws (a + j)) size (inputs below j) (level_word r e ∙ bad));
        }

        pub level_again : (r : Bool) → r ≡ word_right w size x → r ≡ true → Passing ws below (set below' j x) a low (2 * low) size (inputs below) (j + 1)
        level_again r e good =
            pass_again ws below below' a low (2 * low) size (inputs below) j inv lt (omega (arith, p.few)) x
            (held_is ∙ sym (weigh_true (word_of ws (a + j)) size (inputs below j) (level_word r e ∙ good)))
