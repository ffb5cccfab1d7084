-- The book's format, word by word, and what entries each buffer has in an array of words. docs/BOOK.md describes the same.
use Rattle.std.specs.Prelude.{ℕ, ◌+◌, ◌/◌, ◌%◌, List, map, length, get_or, take, drop, eqb}
use Rattle.rules.specs.declared.Rule.{Rule}
use Rattle.rules.specs.Entries.{the_rule, key_by}
use Rattle.rules.specs.Links.{from, buffer_count}
use Rattle.rules.specs.Tree.{Buffers}
use Rattle.rules.specs.Book.{Book}
use Rattle.rules.specs.Calls.{Lent}
use Rattle.buffers.specs.Slots.{base}

-- ---- one word a buffer: bits 0 to 15 its count, bit 16 its mark, bits 17 to 63 its start place

abbrev pub count_in : ℕ → ℕ
count_in w = w % 65536

abbrev pub mark_in : ℕ → ℕ
mark_in w = w / 65536 % 2

abbrev pub start_in : ℕ → ℕ
start_in w = w / 131072

-- ---- the words of the book

-- word 0: the link number
abbrev pub links_in : List ℕ → ℕ
links_in ws = get_or ws 0 0

-- words 1 to 4: the counters c(1) to c(4)
abbrev pub counter_in : List ℕ → ℕ → ℕ
counter_in ws i = get_or ws i 0

-- the rule that the array names, and its key; today no word of the book says anything of it
unfoldable pub rule_in : List ℕ → Rule
unfolding the_rule
rule_in ws = the_rule

abbrev pub key_in : List ℕ → ℕ → ℕ
key_in ws = key_by (rule_in ws)

-- words 8 and on: the buffers' words, by number
abbrev pub word_of : List ℕ → ℕ → ℕ
word_of ws n = get_or ws (8 + n) 0

abbrev pub count_of : List ℕ → ℕ → ℕ
count_of ws n = count_in (word_of ws n)

abbrev pub start_of : List ℕ → ℕ → ℕ
start_of ws n = start_in (word_of ws n)

abbrev pub mark_of : List ℕ → ℕ → ℕ
mark_of ws n = mark_in (word_of ws n)

-- ---- what the array says

abbrev pub many : List ℕ → ℕ
many ws = buffer_count (links_in ws)

unfoldable pub book_of : List ℕ → Book
unfolding from buffer_count
book_of ws =
    record {
      links = links_in ws;
      counters = map (counter_in ws) (from 1 (links_in ws));
      counts = map (count_of ws) (from 0 (many ws));
      starts = map (start_of ws) (from 0 (many ws));
      marks = map (λ n. eqb (mark_of ws n) 1) (from 0 (many ws));
    }

-- the word at which a buffer's first entry stands
abbrev pub head_of : List ℕ → ℕ → ℕ
head_of ws n = base n + start_of ws n

-- a buffer's entries: as many as its count, from its start place on
unfoldable pub buffer_of : List ℕ → ℕ → List ℕ
buffer_of ws n = take (count_of ws n) (drop (head_of ws n) ws)

unfoldable pub buffers_of : List ℕ → Buffers
unfolding buffer_of from buffer_count
buffers_of ws = map (buffer_of ws) (from 0 (many ws))

unfoldable pub lent_of : List ℕ → Lent
unfolding book_of buffers_of
lent_of ws = record { length = length ws; book = book_of ws; buffers = buffers_of ws }
