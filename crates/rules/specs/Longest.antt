-- Document 02, R-9: how long one call can run, "from one formula over links and buffer sizes".
use Rattle.std.specs.Prelude.{ℕ, ◌+◌, ◌-◌, ◌*◌, ◌≡◌, refl, true, [], ◌∷◌, ◌++◌, map, ltb}
use Rattle.rules.specs.Tests.{◌and◌}
use Rattle.rules.specs.Links.{height, most, from}
use Rattle.rules.specs.Tree.{Tree, exhausted, buffer, merger, height_of, tree_of}
use Rattle.rules.specs.Insert.{inserted}
use Rattle.rules.specs.Queue.{Queue, held}
use Rattle.rules.specs.Book.{sound, plain_book}
use Rattle.rules.specs.Rest.{queue_with}
use Rattle.rules.specs.Examples.{Order, setup_of, insert_of, take_it, look_at, held_now, audit_it, nothing_yet, outcome, inserts, takes, one}

-- what filling a merger once can cost at most: as if afterwards each buffer that a merger feeds were full, and each entry in it had come up from the lowest level
unfoldable pub risen : Tree → ℕ
unfolding height_of
risen exhausted = 0
risen (buffer n c) = 0
risen (merger n c one two) = c * height_of (merger n c one two) + (risen one + risen two)

-- what filling v(i) can cost at most: A(i) gets at most as many entries as it has slots, and meanwhile B(i) and A(i+1) are filled at most once each, because neither is smaller than A(i)
unfoldable pub longest_fill : Tree → ℕ
unfolding risen
longest_fill exhausted = 0
longest_fill (buffer n c) = 0
longest_fill (merger n c one two) = c + (risen one + longest_fill two)

-- "if A(1) is empty, fill v(1)": the most merge steps of one take, and of one look
unfoldable pub longest_take : ℕ → ℕ
unfolding longest_fill tree_of
longest_take links = longest_fill (tree_of links)

-- the most of one insert: a sweep or a packing finds eight of at most H entries in I, and each other is at most so many mergers below A(1)
unfoldable pub longest_insert : ℕ → ℕ
unfolding height most
longest_insert links = (links + height links) * (most links - 8)

-- and of any call; setup, held and audit make none
unfoldable pub longest_call : Order → ℕ → ℕ
unfolding longest_take longest_insert
longest_call (setup_of l) links = 0
longest_call (insert_of entry) links = longest_insert links
longest_call take_it links = longest_take links
longest_call look_at links = longest_take links
longest_call held_now links = 0
longest_call audit_it links = 0

-- ---- computed

-- "at most 16 merge steps with one link, 224 with two and 2,396 with three .. the formula's value for four and five links"
pub longest_takes : map longest_take (from 1 5) ≡ 16 ∷ 224 ∷ 2396 ∷ 23500 ∷ 223488 ∷ []
unfolding longest_take from
longest_takes = refl

pub longest_inserts : map longest_insert (from 1 4) ≡ 16 ∷ 352 ∷ 5712 ∷ 138176 ∷ []
unfolding longest_insert from
longest_inserts = refl

-- "1. .. the next take gives tick 1 in 16 steps.", "3. .. the 24th insert packs, 16 steps": with one link both are reached
pub one_link_reaches : map (λ orders. (outcome (one orders nothing_yet)).last_steps) ((inserts 1 8 ++ takes 1) ∷ (inserts 1 16 ++ takes 8 ++ inserts 17 8) ∷ []) ≡ longest_take 1 ∷ longest_insert 1 ∷ []
unfolding outcome inserts longest_take longest_insert
one_link_reaches = refl

-- with two links an insert reaches it too, from a sound book: seven in I, all else in the S of the last link, and every counter past its last S, so that it packs
unfoldable pub all_deep : Queue
unfolding queue_with
all_deep = queue_with 2 (3 ∷ 5 ∷ []) (7 ∷ 0 ∷ 0 ∷ 0 ∷ 0 ∷ 0 ∷ 0 ∷ 0 ∷ 0 ∷ 24 ∷ 24 ∷ 24 ∷ 16 ∷ [])

pub two_links_reach : ((inserted 5 all_deep).steps ≡ longest_insert 2) × ((sound (plain_book all_deep) and ltb (held all_deep) (most 2)) ≡ true)
unfolding all_deep inserted longest_insert sound plain_book held most
two_links_reach = (refl, refl)
