-- Labels and numbers, one behind the other, are the line.
use Rattle.std.proofs.Common.{ℕ, zero, suc, ◌+◌, ◌-◌, arith, ◌≤◌, ◌<◌, ◌≡◌, refl, sym, ap, ◌∙◌, List, [], ◌++◌}
use Prim.Native.String.{String}
use mathlib.Core.List.{append_assoc, append-nil}
use Rattle.rules.specs.Links.{most_links, most, words}
use Rattle.rules.specs.Bounds.{per_insert, per_packing}
use Rattle.rules.specs.Longest.{longest_take, longest_insert}
use Rattle.rules.proofs.Sizes.{leb-false}
use Rattle.rules.proofs.Capacity.{leb-true}
use Rattle.text.specs.Bytes.{bytes}
use Rattle.text.specs.Decimal.{decimal}
use Rattle.limits.specs.Lines.{field, if_there, sizes, inserts, line, lines_to}

-- two texts, one behind the other, are one behind what was there
behind : (a one two : List ℕ) {b c : List ℕ} → b ≡ a ++ one → c ≡ b ++ two → c ≡ a ++ (one ++ two)
behind a one two x y = y ∙ ap (λ l. l ++ two) x ∙ append_assoc a one two

pub as_field : (label : String) (before : List ℕ) {n m : ℕ} {after : List ℕ} → n ≡ m → after ≡ before ++ bytes label ++ decimal n → after ≡ before ++ field label m
unfolding field
as_field label before {n} e laid = laid ∙ append_assoc before (bytes label) (decimal n) ∙ ap (λ n. before ++ (bytes label ++ decimal n)) e

-- ---- of links that a queue can have

there : (links : ℕ) (text : List ℕ) → links ≤ most_links → if_there links text ≡ text
unfolding if_there
there links text low = rw (leb-true links most_links low, if_there) refl

not_there : (links : ℕ) (text : List ℕ) → most_links < links → if_there links text ≡ []
unfolding if_there
not_there links text high = rw (leb-false links most_links high, if_there) refl

module _ (links : ℕ) (low : links ≤ most_links) (a : List ℕ) {b c d : List ℕ} where
  -- three texts, one behind the other
  three : (one two last : List ℕ) → b ≡ a ++ one → c ≡ b ++ two → d ≡ c ++ last → d ≡ a ++ if_there links (one ++ two ++ last)
  three one two last x y z = behind a (one ++ two) last (behind a one two x y) z ∙ ap (λ text. a ++ text) (sym (there links (one ++ two ++ last) low))

  pub sizes_laid : b ≡ a ++ field "  array " (words links) → c ≡ b ++ field "  work " (most links) → d ≡ c ++ field "  entries " (most links) → d ≡ a ++ sizes links
  unfolding sizes
  sizes_laid = three (field "  array " (words links)) (field "  work " (most links)) (field "  entries " (most links))

  pub inserts_laid : b ≡ a ++ field "  longest insert " (longest_insert links) → c ≡ b ++ field "  per insert " (per_insert links) → d ≡ c ++ field "  per packing " (per_packing links) → d ≡ a ++ inserts links
  unfolding inserts
  inserts_laid = three (field "  longest insert " (longest_insert links)) (field "  per insert " (per_insert links)) (field "  per packing " (per_packing links))

-- of others there is nothing to lay
module _ (links : ℕ) (high : most_links < links) (before : List ℕ) where
  nothing : (text : List ℕ) → before ≡ before ++ if_there links text
  nothing text = sym (ap (λ t. before ++ t) (not_there links text high) ∙ append-nil before)

  pub no_sizes : before ≡ before ++ sizes links
  unfolding sizes
  no_sizes = nothing (field "  array " (words links) ++ field "  work " (most links) ++ field "  entries " (most links))

  pub no_inserts : before ≡ before ++ inserts links
  unfolding inserts
  no_inserts = nothing (field "  longest insert " (longest_insert links) ++ field "  per insert " (per_insert links) ++ field "  per packing " (per_packing links))

-- ---- the line

pub line_laid : (links : ℕ) (a : List ℕ) {b c d e f : List ℕ} → b ≡ a ++ field "links " links → c ≡ b ++ sizes links → d ≡ c ++ field "  longest take " (longest_take links) → e ≡ d ++ inserts links → f ≡ e ++ bytes "\n"
    → f ≡ a ++ line links
unfolding line
line_laid links a v w x y z =
    let many = field "links " links in
    let take = field "  longest take " (longest_take links) in
    let two = behind a many (sizes links) v w in
    let three = behind a (many ++ sizes links) take two x in
    let four = behind a (many ++ sizes links ++ take) (inserts links) three y in
    behind a (many ++ sizes links ++ take ++ inserts links) (bytes "\n") four z

-- behind the lines before it
pub one_more : (links : ℕ) → 1 ≤ links → {before after : List ℕ} → before ≡ lines_to (links - 1) → after ≡ before ++ line links → after ≡ lines_to (links + 1 - 1)
unfolding lines_to
one_more zero some laid more = absurd (omega arith)
one_more (suc n) some {before} laid more =
    let here : suc n - 1 ≡ n = omega arith in
    let then : suc n + 1 - 1 ≡ suc n = omega arith in
    rw then (more ∙ ap (λ l. l ++ line (suc n)) (laid ∙ ap lines_to here))
