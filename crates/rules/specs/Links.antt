-- The links: k, s, and the capacity and the slots of each buffer, by the rule, for every link number from 1 on.
-- In a link the buffers have numbers: 0 is A, 1 is B, and the merger with output j has the inputs 2j and 2j + 1, so that k, .., 2k - 1 are S(i,1), .., S(i,k).
use Rattle.std.specs.Prelude.{◌≡◌, refl, ℕ, zero, suc, ◌+◌, ◌-◌, ◌*◌, ◌^◌, ◌/◌, ◌≤◌, ◌<◌, Bool, true, false, List, [], ◌∷◌, ◌++◌, map, get_or, leb, ltb, eqb}

-- the least number from n on that passes the test, of so many tried
unfoldable pub least : (ℕ → Bool) → ℕ → ℕ → ℕ
least test zero n = n
least test (suc tries) n = elim (test n) [ true ↦ n | false ↦ least test tries (suc n) ]

-- the least h for which the cube of 2 ^ h is at least s
unfoldable pub height_for : ℕ → ℕ
unfolding least
height_for s = least (λ h. leb s ((2 ^ h) ^ 3)) s 0

-- "k(i) is the least power of two whose cube is at least s(i)."
unfoldable pub k_for : ℕ → ℕ
unfolding height_for
k_for s = 2 ^ height_for s

-- "(k1, s1) = (2, 8); s(i+1) = s(i) x (k(i) + 1)"
unfoldable pub s : ℕ → ℕ
unfolding k_for
s zero = 0
s (suc zero) = 8
s (suc (suc i)) = s (suc i) * (k_for (s (suc i)) + 1)

unfoldable pub k : ℕ → ℕ
unfolding s
k i = k_for (s i)

-- how many mergers stand one above the other between B(i) and an S(i,j)
unfoldable pub height : ℕ → ℕ
unfolding s height_for
height i = height_for (s i)

-- the least number whose square is at least n
unfoldable pub root : ℕ → ℕ
unfolding least
root n = least (λ r. leb n (r * r)) n 0

-- Document 002: "Let the top tree be the subtree consisting of all nodes of depth at most ⌈i/2⌉"
unfoldable pub top_height : ℕ → ℕ
top_height h = (h + 1) / 2

-- Document 002: "The edges between nodes at depth ⌈i/2⌉ and depth ⌈i/2⌉ + 1 have associated buffers of size ⌈k^{3/2}⌉, and the sizes of the remaining buffers are
-- defined by recursion on the top tree and the bottom trees." Here for a merger of height h, at depth d below its output, 0 < d < h.
unfoldable pub inner_size : ℕ → ℕ → ℕ → ℕ
unfolding root top_height
inner_size zero h d = 0
inner_size (suc deep) h d =
    elim (eqb d (top_height h)) [
      | true ↦ root ((2 ^ h) ^ 3)
      | false ↦
          elim (ltb d (top_height h)) [
            | true ↦ inner_size deep (top_height h) d
            | false ↦ inner_size deep (h - top_height h) (d - top_height h)
          ]
    ]

-- n sizes from depth d on
unfoldable pub inner_sizes : ℕ → ℕ → ℕ → List ℕ
unfolding inner_size
inner_sizes h d zero = []
inner_sizes h d (suc n) = inner_size h h d ∷ inner_sizes h (suc d) n

-- The capacities from B(i) downwards, level by level, without S: "an output buffer at the root of size k^3" (document 002), then the inner buffers.
unfoldable pub levels : ℕ → List ℕ
unfolding k height inner_sizes
levels i = k i ^ 3 ∷ inner_sizes (height i) 1 (height i - 1)

-- how far buffer j stands below B
unfoldable pub depth_of : ℕ → ℕ
unfolding least
depth_of j = least (λ d. ltb j (2 ^ suc d)) j 0

-- "A and B, each" of k^3, the inner buffers by their level, "k buffers S(i,1) to S(i,k) of s slots"
unfoldable pub capacity : ℕ → ℕ → ℕ
unfolding k levels depth_of s
capacity i zero = k i ^ 3
capacity i (suc j) = get_or (levels i ++ s i ∷ []) (depth_of (suc j)) 0

-- ---- slots

-- n numbers from j on
unfoldable pub from : ℕ → ℕ → List ℕ
from j zero = []
from j (suc n) = j ∷ from (suc j) n

unfoldable pub flatten : List (List ℕ) → List ℕ
flatten [] = []
flatten (l ∷ ls) = l ++ flatten ls

-- The inner buffers of the merger with output j and height h, in the order of their slots: "first the top tree, then the middle buffers, and finally the bottom
-- trees, and this layout is applied recursively within the top and each of the bottom trees" (document 002).
unfoldable pub layout : ℕ → ℕ → ℕ → List ℕ
unfolding top_height from flatten
layout zero h j = []
layout (suc deep) h j =
    elim (leb h 1) [
      | true ↦ []
      | false ↦
          let top = top_height h in
          let middle = from (j * 2 ^ top) (2 ^ top) in
          layout deep top j ++ middle ++ flatten (map (layout deep (h - top)) middle)
    ]

-- "inside a link A, B, inner buffers, S"
unfoldable pub order : ℕ → List ℕ
unfolding layout height k
order i = 0 ∷ 1 ∷ layout (height i) (height i) 1 ++ from (k i) (k i)

unfoldable pub sum : List ℕ → ℕ
sum [] = 0
sum (n ∷ ns) = n + sum ns

-- those before j
unfoldable pub up_to : ℕ → List ℕ → List ℕ
up_to j [] = []
up_to j (n ∷ ns) = elim (eqb j n) [ true ↦ [] | false ↦ n ∷ up_to j ns ]

-- the slot of link i at which buffer j begins
unfoldable pub offset : ℕ → ℕ → ℕ
unfolding sum up_to order capacity
offset i j = sum (map (capacity i) (up_to j (order i)))

unfoldable pub slots : ℕ → ℕ
unfolding sum order capacity
slots i = sum (map (capacity i) (order i))

-- "Slots lie in the order I, link 1, link 2, ..": the slot at which link i begins; "The insertion buffer I has 8 slots."
unfoldable pub start : ℕ → ℕ
unfolding slots
start zero = 0
start (suc zero) = 8
start (suc (suc i)) = start (suc i) + slots (suc i)

-- ---- numbers over the whole queue: I is 0, and the links' buffers follow

-- the number of A(i)
unfoldable pub first : ℕ → ℕ
unfolding k
first zero = 0
first (suc zero) = 1
first (suc (suc i)) = first (suc i) + 2 * k (suc i)

-- the number of S(i,j)
unfoldable pub number_of_s : ℕ → ℕ → ℕ
unfolding first k
number_of_s i j = first i + k i + (j - 1)

-- how many buffers a queue of so many links has
unfoldable pub buffer_count : ℕ → ℕ
unfolding first
buffer_count links = first (suc links)

-- "A queue of L links (1 to 4) holds at most H = k(L) x s(L) entries."
abbrev pub most_links : ℕ
most_links = 4

unfoldable pub most : ℕ → ℕ
unfolding k s
most links = k links * s links

-- the buffers of a queue of the most links, and of its last link, which has the most of them
unfoldable pub all_buffers : ℕ
unfolding buffer_count
all_buffers = buffer_count most_links

unfoldable pub widest : ℕ
unfolding k
widest = 2 * k most_links

-- "The first 256 words are the book"
abbrev pub book_words : ℕ
book_words = 256

-- places for the numbers of a path
abbrev pub path_room : ℕ
path_room = 16

-- the words that a queue of so many links needs
unfoldable pub words : ℕ → ℕ
unfolding start
words links = book_words + start (suc links)

-- a link that there is; a buffer of it
pub record LinkNumber (i : ℕ) : Type 0 where
  pub low : 1 ≤ i
  pub high : i ≤ most_links

-- `few` follows from the others, by `in_link`, and stands here for the code's sums: each buffer has a word in the book
pub record InLink (i j : ℕ) : Type 0 where
  pub link : LinkNumber i
  pub below : j < 2 * k i
  pub few : j < book_words

-- ---- the tables of document 01, computed

pub record Row : Type 0 where
  pub k : ℕ
  pub s : ℕ
  pub a_and_b : ℕ
  pub inner : List ℕ
  pub slots : ℕ

unfoldable pub row : ℕ → Row
unfolding k s capacity inner_sizes height slots
row i = record { k = k i; s = s i; a_and_b = capacity i 0; inner = inner_sizes (height i) 1 (height i - 1); slots = slots i }

abbrev table_row : ℕ → ℕ → ℕ → List ℕ → ℕ → Row
table_row k s a_and_b inner slots = record { k = k; s = s; a_and_b = a_and_b; inner = inner; slots = slots }

-- "| link i | k | s | A and B, each | inner buffers, from B downwards | slots in link |", and the fifth link of the championship box
pub link_table : map row (from 1 5) ≡
    table_row 2 8 8 [] 32
    ∷ table_row 4 24 64 (8 ∷ []) 240
    ∷ table_row 8 120 512 (8 ∷ 23 ∷ []) 2092
    ∷ table_row 16 1080 4096 (8 ∷ 64 ∷ 8 ∷ []) 25808
    ∷ table_row 32 18360 32768 (8 ∷ 23 ∷ 182 ∷ 8 ∷ []) 654748
    ∷ []
unfolding row from
link_table = refl

-- "Taking k(i) as 2 to the i: true in this table, wrong as a rule (s(6) = 605,880 gives 128)."
pub sixth_s : s 6 ≡ 605880
unfolding s
sixth_s = refl

pub sixth_k : k 6 ≡ 128
unfolding k
sixth_k = refl

-- "| L | slots | array words | H = work words |"
unfoldable pub lengths : ℕ → List ℕ
unfolding start words most
lengths links = start (suc links) ∷ words links ∷ most links ∷ []

pub length_table : map lengths (from 1 most_links) ≡ (40 ∷ 296 ∷ 16 ∷ []) ∷ (280 ∷ 536 ∷ 96 ∷ []) ∷ (2372 ∷ 2628 ∷ 960 ∷ []) ∷ (28180 ∷ 28436 ∷ 17280 ∷ []) ∷ []
unfolding lengths from
length_table = refl

-- in every link that there can be, five of them, the slots lie in the order of the numbers
pub in_number_order : map order (from 1 5) ≡ map (λ i. from 0 (2 * k i)) (from 1 5)
unfolding order from k
in_number_order = refl
