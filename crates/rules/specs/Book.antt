-- The book, and the book rules.
use Prim.Native.Nat.{ℕ, zero, suc, ◌+◌, ◌-◌, ◌*◌}
use Rattle.std.specs.Prelude.{Bool, List, map, length, get_or, replicate}
use Rattle.std.proofs.Math.Bool.{true, false}
use Rattle.std.proofs.Math.Dec.{leb, eqb}
use Rattle.rules.specs.Links.{s, k, first, capacity, buffer_count, most_links, most, number_of_s}
use Rattle.rules.specs.Tree.{Tree, exhausted, buffer, merger, tree_of}
use Rattle.rules.specs.Queue.{Queue}
use Rattle.rules.specs.Tests.{◌and◌, ◌or◌, ◌implies◌, every}

-- what the book says: the link number, the counters c, and each buffer's count, start place and mark, by the buffer's number
pub record Book : Type 0 where
  pub links : ℕ
  pub counters : List ℕ
  pub counts : List ℕ
  pub starts : List ℕ
  pub marks : List Bool

module _ (b : Book) where
  unfoldable pub count : ℕ → ℕ
  count n = get_or b.counts n 0

  unfoldable pub start_place : ℕ → ℕ
  start_place n = get_or b.starts n 0

  unfoldable pub marked : ℕ → Bool
  marked n = get_or b.marks n false

  -- c(i), i from 1 on
  unfoldable pub c : ℕ → ℕ
  c i = get_or b.counters (i - 1) 0

  -- how many entries n buffers from number m on have together
  unfoldable pub together : ℕ → ℕ → ℕ
  unfolding count
  together m zero = 0
  together m (suc n) = count m + together (suc m) n

-- "link number 1 to 4"
unfoldable pub is_link_number : ℕ → Bool
is_link_number l = leb 1 l and leb l most_links

module _ (b : Book) where
  -- "every count and start place inside its buffer": the stretch of its entries ends at or before the buffer's end
  unfoldable pub inside : ℕ → ℕ → Bool
  unfolding count start_place
  inside n capacity = leb (start_place b n + count b n) capacity

  unfoldable pub inside_link : ℕ → Bool
  unfolding every inside first capacity k
  inside_link i = every (λ j. inside (first i + j) (capacity i j)) 0 (2 * k i)

  -- "c(i) from 1 to k(i)+1"
  unfoldable pub counter_inside : ℕ → Bool
  unfolding c k
  counter_inside i = leb 1 (c b i) and leb (c b i) (k i + 1)

  -- "S(i,j) empty for j at or above c(i)"
  unfoldable pub unused_empty : ℕ → Bool
  unfolding every count number_of_s c k
  unused_empty i = every (λ j. eqb (count b (number_of_s i j)) 0) (c b i) (k i + 1 - c b i)

  -- "B(i), inner buffers and S of link i together at most (c(i)-1) x s(i)"
  unfoldable pub link_not_over : ℕ → Bool
  unfolding together first k c s
  link_not_over i = leb (together b (first i + 1) (2 * k i - 1)) ((c b i - 1) * s i)

  unfoldable pub link_sound : ℕ → Bool
  unfolding inside_link counter_inside unused_empty link_not_over
  link_sound i = inside_link i and counter_inside i and unused_empty i and link_not_over i

  -- "A mark "exhausted" may stand only on a buffer with nothing in it and nothing below it.": `above` says whether one above it has a mark
  unfoldable pub marks_right : Tree → Bool → Bool
  unfolding marked count
  marks_right exhausted above = true
  marks_right (buffer n _) above = (above or marked b n) implies eqb (count b n) 0
  marks_right (merger n _ one two) above =
      let here = above or marked b n in
      (here implies eqb (count b n) 0) and marks_right one here and marks_right two here

  -- "Book rules: link number 1 to 4; every count and start place inside its buffer; I at most 7; c(i) from 1 to k(i)+1; S(i,j) empty for j at or above c(i);
  -- B(i), inner buffers and S of link i together at most (c(i)-1) x s(i); at most H held; marks as said."
  unfoldable pub sound : Bool
  unfolding is_link_number inside count every link_sound together buffer_count most marks_right tree_of
  sound =
      is_link_number b.links
      and inside 0 8
      and leb (count b 0) 7
      and every link_sound 1 b.links
      and leb (together b 0 (buffer_count b.links)) (most b.links)
      and marks_right (buffer 0 8) false
      and marks_right (tree_of b.links) false

-- a queue's book with every start place 0 and no mark
unfoldable pub plain_book : Queue → Book
plain_book q =
    record {
      links = q.links;
      counters = q.counters;
      counts = map length q.buffers;
      starts = replicate (length q.buffers) 0;
      marks = replicate (length q.buffers) false;
    }
