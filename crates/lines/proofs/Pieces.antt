-- The answers depend on the bytes alone: however they come in pieces, the orders are those of the lines, in order.
use mathlib.Core.Path.{◌≡◌, refl, ap, sym, ◌∙◌}
use mathlib.Core.Bool.{Bool, cond}
use mathlib.Core.List.{List, [], ◌∷◌, ◌++◌, map, append_assoc, flatten}
use Prim.Native.Nat.{ℕ}
use Rattle.frames.specs.Answers.{Back}
use Rattle.frames.specs.Frames.{read_of}
use Rattle.frames.specs.declared.Order.{Order}
use Rattle.lines.specs.Lines.{line_after, ended_by, ended_within, left_by, last_line, orders_of}
use Rattle.lines.specs.Cutter.{decisive, kept, Seen, feed_of, last_of, kept_after, orders_from, orders_of_pieces}
use Rattle.lines.specs.declared.Cutter.{Cutter}
use Rattle.std.proofs.lemmas.List.{map-append}
use Rattle.lines.proofs.LineLaws.{by_end}
use Rattle.lines.proofs.CutterLaws.{read_decisive, decisive_onward}

-- the state after some bytes is all that the next need

pub orders_append : (k xs ys : List ℕ) → orders_from k (xs ++ ys) ≡ orders_from k xs ++ orders_from (kept_after k xs) ys
unfolding orders_from kept_after
orders_append k [] ys = refl
orders_append k (x ∷ xs) ys = rw (orders_append (feed_of k x).keeps xs ys) (sym (append_assoc (feed_of k x).orders (orders_from (feed_of k x).keeps xs) _))

pub kept_append : (k xs ys : List ℕ) → kept_after k (xs ++ ys) ≡ kept_after (kept_after k xs) ys
unfolding kept_after
kept_append k [] ys = refl
kept_append k (x ∷ xs) ys = kept_append (feed_of k x).keeps xs ys

-- the bytes that are kept of a line so far serve as well as the line

module _ (line : List ℕ) (b : ℕ) where
  seen_keeps : (feed_of (decisive line) b).keeps ≡ decisive (line_after line b)
  unfolding line_after
  seen_keeps =
      by_end (λ (t : Bool). decisive (cond t [] (decisive line ++ (b ∷ []))) ≡ decisive (cond t [] (line ++ (b ∷ [])))) b
      (λ e. refl) (λ e. decisive_onward line b)

  seen_orders : (feed_of (decisive line) b).orders ≡ map read_of (ended_by line b)
  unfolding ended_by
  seen_orders =
      by_end (λ (t : Bool). map read_of (cond t (decisive line ∷ []) []) ≡ map read_of (cond t (line ∷ []) [])) b
      (λ e. ap (λ (r : Back Order). r ∷ []) (read_decisive line)) (λ e. refl)

seen_after : (line bs : List ℕ) → kept_after (decisive line) bs ≡ decisive (left_by line bs)
unfolding kept_after left_by
seen_after line [] = refl
seen_after line (b ∷ bs) = ap (λ (k : List ℕ). kept_after k bs) (seen_keeps line b) ∙ seen_after (line_after line b) bs

seen_from : (line bs : List ℕ) → orders_from (decisive line) bs ≡ map read_of (ended_within line bs)
unfolding orders_from ended_within
seen_from line [] = refl
seen_from line (b ∷ bs) =
    let rest : orders_from (feed_of (decisive line) b).keeps bs ≡ map read_of (ended_within (line_after line b) bs) =
    ap (λ (k : List ℕ). orders_from k bs) (seen_keeps line b) ∙ seen_from (line_after line b) bs in
    rw (seen_orders line b, rest) (sym (map-append read_of (ended_by line b) (ended_within (line_after line b) bs)))

seen_last : (line : List ℕ) → last_of (decisive line) ≡ map read_of (last_line line)
unfolding last_line
seen_last [] = refl
seen_last (b ∷ bs) = ap (λ (r : Back Order). r ∷ []) (read_decisive (b ∷ bs))

-- the same of a cutter
module _ (c : Cutter) (line : List ℕ) (s : Seen c line) where
  pub seen_read : read_of (kept c) ≡ read_of line
  seen_read = ap read_of s ∙ read_decisive line

  pub seen_feed : (d : Cutter) (b : ℕ) → kept d ≡ (feed_of (kept c) b).keeps → Seen d (line_after line b)
  seen_feed d b e = e ∙ ap (λ (k : List ℕ). (feed_of k b).keeps) s ∙ seen_keeps line b

  pub seen_ends : (bs : List ℕ) → orders_from (kept c) bs ≡ map read_of (ended_within line bs)
  seen_ends bs = ap (λ (k : List ℕ). orders_from k bs) s ∙ seen_from line bs

-- feeding all bytes and finishing gives the orders of the lines, in order
pub whole : (bytes : List ℕ) → orders_from [] bytes ++ last_of (kept_after [] bytes) ≡ orders_of bytes
whole bytes =
    rw (seen_from [] bytes, seen_after [] bytes) (ap (λ (r : List (Back Order)). map read_of (ended_within [] bytes) ++ r) (seen_last (left_by [] bytes)))
    ∙ sym (map-append read_of (ended_within [] bytes) (last_line (left_by [] bytes)))

pieces_from : (k : List ℕ) (pieces : List (List ℕ)) → orders_of_pieces k pieces ≡ orders_from k (flatten pieces) ++ last_of (kept_after k (flatten pieces))
unfolding orders_of_pieces orders_from kept_after flatten
pieces_from k [] = refl
pieces_from k (p ∷ ps) =
    rw (orders_append k p (flatten ps), kept_append k p (flatten ps), append_assoc, pieces_from (kept_after k p) ps) refl

-- however the bytes are cut in pieces
pub any_pieces : (pieces : List (List ℕ)) → orders_of_pieces [] pieces ≡ orders_of (flatten pieces)
any_pieces pieces = pieces_from [] pieces ∙ whole (flatten pieces)
