-- The book test as numbers. A buffer weighs what stands in it and below it, all together; where a rule is broken it weighs more than any queue holds.
use Prim.Native.Nat.{ℕ, zero, suc, ◌+◌, ◌-◌, ◌*◌, ◌≤◌, ◌<◌}
use Rattle.std.specs.Prelude.{◌≡◌, Bool, ◌⊎◌, List, length, get_or, ltb, Option, Some, None, MatchOption, ◌^◌}
use Rattle.std.proofs.Math.Bool.{true, false}
use Rattle.std.proofs.Math.Dec.{leb, eqb}
use Rattle.rules.specs.Links.{s, k, first, capacity, buffer_count, most, widest, book_words, LinkNumber}
use Rattle.rules.specs.Tree.{Tree, exhausted, buffer, merger, k_merger}
use Rattle.rules.specs.Tests.{◌and◌, ◌implies◌}
use Rattle.rules.specs.Book.{Book, is_link_number, together, sound}
use Rattle.buffers.specs.Format.{count_in, mark_in, start_in, links_in, counter_in, word_of, count_of}

-- more than any queue holds, by `most_small`, and more than any count
abbrev pub broken : ℕ
broken = 1048576

-- two to the 40th: no weight is more, nor are those of all links together, so that the code's sums of a few of them fit
abbrev pub most_weight : ℕ
most_weight = 1099511627776

-- a word that keeps the rules: its entries lie inside its buffer, and with a mark none are held in it and under it
unfoldable pub word_right : ℕ → ℕ → ℕ → Bool
word_right w size held = leb (start_in w + count_in w) size and (eqb (mark_in w) 1 implies eqb held 0)

-- over what stands under it
unfoldable pub weigh : ℕ → ℕ → ℕ → ℕ
unfolding word_right
weigh w size under = elim (word_right w size (count_in w + under)) [ true ↦ count_in w + under | false ↦ broken ]

module _ (ws : List ℕ) where
  -- how many entries n buffers from number m on have together
  unfoldable pub counts_from : ℕ → ℕ → ℕ
  counts_from m zero = 0
  counts_from m (suc n) = count_of ws m + counts_from (suc m) n

  unfoldable pub weight : Tree → ℕ
  unfolding weigh
  weight exhausted = 0
  weight (buffer n size) = weigh (word_of ws n) size 0
  weight (merger n size one two) = weigh (word_of ws n) size (weight one + weight two)

  -- one more than the entries that B(i), inner buffers and S of link i may have together; 0 where its counter or an unused S breaks a rule
  unfoldable pub room : ℕ → ℕ
  unfolding counts_from k first s
  room i =
      let used = counter_in ws i - 1 in
      let right = leb 1 (counter_in ws i) and leb (counter_in ws i) (k i + 1) and eqb (counts_from (first i + (k i + used)) (2 * k i - (k i + used))) 0 in
      elim right [ true ↦ used * s i + 1 | false ↦ 0 ]

  -- link i from A(i) on, with what stands behind it
  unfoldable pub link_weight : ℕ → ℕ → ℕ
  unfolding weight weigh k_merger first capacity room
  link_weight i behind =
      let lower = weight (k_merger i) in
      elim (ltb lower (room i)) [ true ↦ weigh (word_of ws (first i)) (capacity i 0) (lower + behind) | false ↦ broken ]

  -- so many links from link i on
  unfoldable pub links_weight : ℕ → ℕ → ℕ
  unfolding link_weight
  links_weight i zero = 0
  links_weight i (suc n) = link_weight i (links_weight (suc i) n)

  unfoldable pub weighs_right : Bool
  unfolding is_link_number weigh links_weight most
  weighs_right =
      let inserted = weigh (word_of ws 0) 8 0 in
      is_link_number (links_in ws) and leb inserted 7 and leb (inserted + links_weight 1 (links_in ws)) (most (links_in ws))

-- what the whole test hands back: how many entries all buffers have together, where the book keeps every rule
unfoldable pub held_if_sound : Book → Option ℕ
unfolding sound together buffer_count
held_if_sound b = elim (sound b) [ true ↦ Some (together b 0 (buffer_count b.links)) | false ↦ None ]

-- ---- what the parts of the test ask and ensure

-- what a part hands back: what it weighs, and None only where that is broken
abbrev pub Weighs : Option ℕ → ℕ → Type 0
Weighs r w = MatchOption r (broken ≤ w) (λ n. n ≡ w)

-- all that the whole test asks: the book's words are there
pub record HasBook (ws : List ℕ) : Type 0 where
  pub long : book_words ≤ length ws

-- buffers low .. high - 1 of a link whose A has number a
pub record Stretch (ws : List ℕ) (a low high : ℕ) : Type 0 where
  pub long : book_words ≤ length ws
  pub up : low ≤ high
  pub few : high ≤ widest
  pub fits : 8 + (a + high) ≤ book_words

-- they are weighed, each over what stands under it
pub record Passed (ws below below' : List ℕ) (a low high size : ℕ) (under : ℕ → ℕ) : Type 0 where
  pub weighed : (m : ℕ) → low ≤ m → m < high → get_or below' m 0 ≡ weigh (word_of ws (a + m)) size (under m)
  pub before : (m : ℕ) → m < low → get_or below' m 0 ≡ get_or below m 0

-- one of them breaks a rule; one of them has more than so many entries
pub record Wrong (ws : List ℕ) (a low high size : ℕ) (under : ℕ → ℕ) : Type 0 where
  pub at : ℕ
  pub from : low ≤ at
  pub to : at < high
  pub is : weigh (word_of ws (a + at)) size (under at) ≡ broken

pub record Over (ws : List ℕ) (a low high many : ℕ) : Type 0 where
  pub at : ℕ
  pub from : low ≤ at
  pub to : at < high
  pub is : many < count_of ws (a + at)

abbrev pub nothing : ℕ → ℕ
nothing m = 0

pub record Stretched (ws below below' : List ℕ) (a low high size many : ℕ) (r : Bool) : Type 0 where
  pub right : r ≡ true → Passed ws below below' a low high size nothing
  pub few : r ≡ true → (m : ℕ) → low ≤ m → m < high → count_of ws (a + m) ≤ many
  pub wrong : r ≡ false → Wrong ws a low high size nothing ⊎ Over ws a low high many

pub record Level (ws below : List ℕ) (a low : ℕ) : Type 0 where
  pub long : book_words ≤ length ws
  pub few : 4 * low ≤ widest
  pub fits : 8 + (a + 2 * low) ≤ book_words
  pub small : (m : ℕ) → 2 * low ≤ m → m < 4 * low → get_or below m 0 ≤ most_weight

-- what stands under a merger's output: its two inputs
abbrev pub inputs : List ℕ → ℕ → ℕ
inputs below m = get_or below (2 * m) 0 + get_or below (2 * m + 1) 0

pub record Levelled (ws below below' : List ℕ) (a low size : ℕ) (r : Bool) : Type 0 where
  pub right : r ≡ true → Passed ws below below' a low (2 * low) size (inputs below)
  pub wrong : r ≡ false → Wrong ws a low (2 * low) size (inputs below)

-- the S of link i are weighed
pub record Stored (ws below : List ℕ) (i : ℕ) : Type 0 where
  pub weighed : (m : ℕ) → k i ≤ m → m < 2 * k i → get_or below m 0 ≡ weigh (word_of ws (first i + m)) (s i) 0

-- what `number` gives, by `of_link`, follows it, for the code's sums and places: a count has 16 bits, a buffer a word in the book
pub record OfLink (ws : List ℕ) (i : ℕ) : Type 0 where
  pub long : book_words ≤ length ws
  pub number : LinkNumber i
  pub some : 2 ≤ k i
  pub few : 2 * k i ≤ widest
  pub part : s i ≤ 65535
  pub fits : 8 + (first i + 2 * k i) ≤ book_words

-- the room in link i, with its S weighed
pub record RoomIs (ws below' : List ℕ) (i r : ℕ) : Type 0 where
  pub is : r + 1 ≡ room ws i
  pub right : Stored ws below' i

-- None where what stands below A(i) is too much for the room
abbrev pub RoomLeft : List ℕ → List ℕ → ℕ → Option ℕ → Type 0
RoomLeft ws below' i r = MatchOption r (room ws i ≤ weight ws (k_merger i)) (RoomIs ws below' i)

pub record Merging (ws below : List ℕ) (i behind r : ℕ) : Type 0 where
  pub of : OfLink ws i
  pub small : behind ≤ most_weight
  pub left : RoomIs ws below i r

-- no link weighs more: of at most eight levels, each buffer as much as a broken one
abbrev pub link_heavy : ℕ
link_heavy = broken * 2 ^ 9

-- so much is what the links from link i on weigh
pub record Behind (ws : List ℕ) (links i held : ℕ) : Type 0 where
  pub is : held ≡ links_weight ws i (suc links - i)
  pub small : held ≤ link_heavy * (suc links - i)

-- None only where all links together weigh as much as what is broken
abbrev pub FromLink : List ℕ → ℕ → ℕ → Option ℕ → Type 0
FromLink ws links i r = MatchOption r (broken ≤ links_weight ws 1 links) (Behind ws links i)

pub record AllLinks (ws : List ℕ) (links : ℕ) : Type 0 where
  pub long : book_words ≤ length ws
  pub number : LinkNumber links

pub record Linking (ws : List ℕ) (links i held : ℕ) : Type 0 where
  pub all : AllLinks ws links
  pub number : LinkNumber i
  pub behind : Behind ws links (suc i) held
