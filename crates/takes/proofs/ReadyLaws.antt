-- A(1) made ready: filled where it is empty, over the first links.
use Prim.Native.Nat.{ℕ, zero, suc, ◌+◌, ◌-◌, ◌≤◌, ◌<◌}
use mathlib.Core.Path.{◌≡◌, refl, sym, ap, ◌∙◌}
use mathlib.Core.Bool.{Bool, true, false}
use mathlib.Core.List.{List, [], ◌∷◌}
use native.Mathlib.Omega.{arith}
use borrow.Author.Tests.{leb-true, leb-false}
use lib.Dec.{leb}
use Rattle.rules.specs.Links.{first, book_words, LinkNumber}
use Rattle.rules.specs.Tree.{exhausted, entries, links_from}
use Rattle.rules.specs.Fill.{fill}
use Rattle.rules.specs.Take.{ready, insertion}
use Rattle.rules.proofs.Table.{in_link, k_least}
use Rattle.rules.proofs.Sizes.{first_one}
use Rattle.buffers.specs.Format.{count_of, many, buffer_of, buffers_of}
use Rattle.buffers.specs.Post.{Has, Headed}
use Rattle.buffers.proofs.SlotLaws.{base_zero, base_one, some}
use Rattle.buffers.proofs.ArrayLaws.{has, buffers_at}
use Rattle.mergers.specs.Subtree.{subtree}
use Rattle.mergers.specs.Post.{wanted, wanted_in}
use Rattle.mergers.specs.Fills.{CanFill, Did}
use Rattle.mergers.proofs.FillLaws.{IsTop, top_entries, Input, left_alone, filled_now}
use Rattle.mergers.proofs.WalkLaws.{wanted_none, and_first, and_second}
use Rattle.takes.specs.Heads.{CanTake, source_of}
use Rattle.takes.specs.declared.Source.{Source}
use Rattle.takes.specs.declared.Source.TheVariants.{First, Insertion}
use Rattle.std.specs.Prelude.{Option, Some, None, slice_get}

-- the tree of the first links
pub tree_is : (last : ℕ) → subtree last 1 0 ≡ links_from 1 last
unfolding subtree
tree_is last = let e : suc last - 1 ≡ last = omega arith in rw e

pub top_first : (last : ℕ) → 1 ≤ last → IsTop 1 (links_from 1 last)
unfolding links_from
top_first zero h = absurd (omega arith)
top_first (suc last) h = sym first_one

no_link : (last : ℕ) → last < 1 → links_from 1 last ≡ exhausted
unfolding links_from
no_link zero h = refl
no_link (suc last) h = absurd (omega arith)

pub first_input_lem : (last : ℕ) → Input (leb 1 last) 1 (links_from 1 last)
first_input_lem last = record { counts = λ e. top_first last (leb-true 1 last e); else_none = λ e. no_link last (leb-false 1 last e) }

module _ (ws : List ℕ) (last : ℕ) (h : CanTake ws last) where
  first_below : 1 < many ws
  first_below = omega (arith, some h.array.link)

  pub first_has : Has ws 1
  first_has = has ws 1 h.array first_below

  pub insertion_has : Has ws 0
  insertion_has = has ws 0 h.array (omega (arith, some h.array.link))

  pub ready_alone : (key : ℕ → ℕ) → wanted_in ws last 1 1 ≡ false → Did ws ws (links_from 1 last) (ready key (links_from 1 last) (buffers_of ws)) 0
  unfolding ready
  ready_alone key w = left_alone key ws h.array 1 (links_from 1 last) h.marks (leb 1 last) (first_input_lem last) (λ e. first_below) w

  pub ready_filled : (key : ℕ → ℕ) → wanted_in ws last 1 1 ≡ true → (ws' : List ℕ) (x : ℕ) → Did ws ws' (subtree last 1 0) (fill key (subtree last 1 0) (buffers_of ws)) x
      → Did ws ws' (links_from 1 last) (ready key (links_from 1 last) (buffers_of ws)) x
  unfolding ready
  ready_filled key w ws' x did = filled_now key ws h.array 1 (links_from 1 last) h.marks (leb 1 last) (first_input_lem last) (λ e. first_below) w ws' x (rw (tree_is last) at did)

  pub ready_can : wanted_in ws last 1 1 ≡ true → CanFill ws last 1 0
  ready_can w =
      let one : LinkNumber 1 = record { low = omega arith; high = omega arith } in
      let number : first 1 + 0 ≡ 1 = omega (arith, first_one) in
      record {
        array = h.array;
        place = in_link one (omega (arith, k_least one));
        counts = leb-true 1 last (and_first (leb 1 last) (wanted ws 1) w);
        links = h.links;
        none = rw number (wanted_none ws 1 (and_second (leb 1 last) (wanted ws 1) w));
        marks = rw (tree_is last) h.marks;
      }

  -- ---- the heads

  pub insertion_is : insertion (buffers_of ws) ≡ buffer_of ws 0
  unfolding insertion
  insertion_is = buffers_at ws 0 insertion_has.below

  pub first_is : 1 ≤ last → entries (links_from 1 last) (buffers_of ws) ≡ buffer_of ws 1
  first_is low = top_entries 1 (links_from 1 last) (top_first last low) (buffers_of ws) ∙ buffers_at ws 1 first_below

  pub first_none : last ≡ 0 → entries (links_from 1 last) (buffers_of ws) ≡ []
  unfolding entries
  first_none e = rw (no_link last (omega arith))

  pub first_headed : 0 < count_of ws 1 → Headed ws 1 (book_words + 8)
  first_headed some = record { of = first_has; begins = sym base_one; some = some }

  pub insertion_headed : 0 < count_of ws 0 → Headed ws 0 book_words
  insertion_headed some = record { of = insertion_has; begins = sym base_zero; some = some }

-- which head is smaller, by the two heads
abbrev pub by_heads : (ℕ → ℕ) → Option ℕ → Option ℕ → Option Source
by_heads key None None = None
by_heads key (Some x) None = Some First
by_heads key None (Some y) = Some Insertion
by_heads key (Some x) (Some y) = elim (leb (key x) (key y)) [ true ↦ Some First | false ↦ Some Insertion ]

pub pick : (key : ℕ → ℕ) (x y : ℕ) (b : Bool) → leb (key x) (key y) ≡ b → elim b [ true ↦ Some First | false ↦ Some Insertion ] ≡ by_heads key (Some x) (Some y)
pick key x y b e = ap (λ (c : Bool). elim c [ true ↦ Some First | false ↦ Some Insertion ]) (sym e)

source_is : (key : ℕ → ℕ) (xs ys : List ℕ) → by_heads key (slice_get xs 0) (slice_get ys 0) ≡ source_of key xs ys
unfolding source_of
source_is key [] [] = refl
source_is key (x ∷ xs) [] = refl
source_is key [] (y ∷ ys) = refl
source_is key (x ∷ xs) (y ∷ ys) = refl

module _ (ws : List ℕ) (last : ℕ) (h : CanTake ws last) (key : ℕ → ℕ) where
  -- which head is smaller, by the two heads that were read
  pub by_two : (o p : Option ℕ) → o ≡ slice_get (entries (links_from 1 last) (buffers_of ws)) 0 → p ≡ slice_get (buffer_of ws 0) 0 → by_heads key o p ≡ source_of key (entries (links_from 1 last) (buffers_of ws)) (insertion (buffers_of ws))
  by_two o p e f =
      let xs = entries (links_from 1 last) (buffers_of ws) in
      let f' : p ≡ slice_get (insertion (buffers_of ws)) 0 = f ∙ ap (λ l. slice_get l 0) (sym (insertion_is ws last h)) in
      ap (λ q. by_heads key q p) e ∙ ap (by_heads key (slice_get xs 0)) f' ∙ source_is key xs (insertion (buffers_of ws))
