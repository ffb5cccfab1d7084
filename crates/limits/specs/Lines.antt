-- The lines that `limits` prints: what there is to know of a queue of so many links before it is set up.
use Rattle.std.specs.Prelude.{ℕ, zero, suc, ◌≡◌, refl, true, false, List, [], ◌∷◌, ◌++◌, map, leb}
use Prim.Native.String.{String}
use Rattle.rules.specs.Links.{most_links, most, words, from}
use Rattle.rules.specs.Bounds.{per_insert, per_packing}
use Rattle.rules.specs.Longest.{longest_take, longest_insert}
use Rattle.text.specs.Bytes.{bytes}
use Rattle.text.specs.Decimal.{places, digits, decimal}

-- a label, and a number in decimal
unfoldable pub field : String → ℕ → List ℕ
unfolding bytes places digits
field label n = bytes label ++ decimal n

-- "A queue of L links (1 to 4)": of more links no queue can be set up yet, so sizes and inserts are left out
unfoldable pub if_there : ℕ → List ℕ → List ℕ
if_there links text = elim (leb links most_links) [ true ↦ text | false ↦ [] ]

unfoldable pub sizes : ℕ → List ℕ
unfolding if_there field words most
sizes links = if_there links (field "  array " (words links) ++ field "  work " (most links) ++ field "  entries " (most links))

unfoldable pub inserts : ℕ → List ℕ
unfolding if_there field longest_insert per_insert per_packing
inserts links = if_there links (field "  longest insert " (longest_insert links) ++ field "  per insert " (per_insert links) ++ field "  per packing " (per_packing links))

unfoldable pub line : ℕ → List ℕ
unfolding field sizes longest_take inserts bytes
line links = field "links " links ++ sizes links ++ field "  longest take " (longest_take links) ++ inserts links ++ bytes "\n"

-- those for one to so many links
unfoldable pub lines_to : ℕ → List ℕ
unfolding line
lines_to zero = []
lines_to (suc links) = lines_to links ++ line (suc links)

-- ---- computed

pub five_lines : map line (from 1 5) ≡
    map bytes (
    "links 1  array 296  work 16  entries 16  longest take 16  longest insert 16  per insert 2  per packing 32\n"
    ∷ "links 2  array 536  work 96  entries 96  longest take 224  longest insert 352  per insert 6  per packing 384\n"
    ∷ "links 3  array 2628  work 960  entries 960  longest take 2396  longest insert 5712  per insert 13  per packing 5760\n"
    ∷ "links 4  array 28436  work 17280  entries 17280  longest take 23500  longest insert 138176  per insert 22  per packing 138240\n"
    ∷ "links 5  longest take 223488\n"
    ∷ []
    )
unfolding line bytes from
five_lines = refl
