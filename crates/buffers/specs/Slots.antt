-- Where each buffer's slots lie in the array, by the buffer's number.
use Rattle.std.specs.Prelude.{ℕ, ◌+◌, ◌*◌, List, ◌∷◌, map, get_or, take}
use Rattle.rules.specs.Links.{k, capacity, from, flatten, sum, most_links, book_words}

unfoldable pub link_capacities : ℕ → List ℕ
unfolding capacity from k
link_capacities i = map (capacity i) (from 0 (2 * k i))

-- the capacities of all buffers, I first
unfoldable pub capacities : List ℕ
unfolding link_capacities flatten from
capacities = 8 ∷ flatten (map link_capacities (from 1 most_links))

unfoldable pub capacity_of : ℕ → ℕ
unfolding capacities
capacity_of n = get_or capacities n 0

-- the slot at which a buffer begins: those before it lie before
unfoldable pub slot_of : ℕ → ℕ
unfolding capacities sum
slot_of n = sum (take n capacities)

-- the word of the array at which a buffer begins
unfoldable pub base : ℕ → ℕ
unfolding slot_of
base n = book_words + slot_of n
