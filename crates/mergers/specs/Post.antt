-- What the mergers' functions ask and ensure, with a name for each part.
use Rattle.std.specs.Prelude.{◌≡◌, ◌≢◌, Bool, true, false, not, ℕ, suc, ◌+◌, ◌≤◌, ◌<◌, List, [], ◌++◌, eqb, leb, set, take, drop}
use Rattle.rules.specs.Links.{k, first, most_links, book_words, InLink}
use Rattle.rules.specs.Merge.{merged}
use Rattle.rules.specs.Tree.{Buffers}
use Rattle.rules.specs.Tests.{◌and◌}
use Rattle.buffers.specs.Slots.{base, capacity_of}
use Rattle.buffers.specs.Format.{word_of, count_of, start_of, mark_of, many, buffer_of, buffers_of}
use Rattle.buffers.specs.Post.{Inside, Has, Kept}
use Rattle.mergers.specs.declared.Merger.{Merger}

-- an input is to be filled: it is empty and has no mark
abbrev pub wanted : List ℕ → ℕ → Bool
wanted ws n = eqb (count_of ws n) 0 and not (eqb (mark_of ws n) 1)

-- the same of an input in link i, where links behind `last` count as exhausted
abbrev pub wanted_in : List ℕ → ℕ → ℕ → ℕ → Bool
wanted_in ws last i n = leb i last and wanted ws n

-- link i's buffer j, which has a word in the book, or A of the link behind the last that there is, which has no slots
pub record Spot (i j : ℕ) : Type 0 where
  pub low : 1 ≤ i
  pub high : i ≤ suc most_links
  pub few : j < book_words
  pub inside : i ≤ most_links → InLink i j

pub record Placed (i j n p : ℕ) : Type 0 where
  pub number : n ≡ first i + j
  pub at : i ≤ most_links → p ≡ base (first i + j)

-- a buffer that a merger feeds
pub record Fed (i j : ℕ) : Type 0 where
  pub inside : InLink i j
  pub above : j < k i

-- a buffer and the word at which its slots begin
pub record At (ws : List ℕ) (n p : ℕ) : Type 0 where
  pub of : Has ws n
  pub begins : p ≡ base n

-- an output with room for so many more, and one input, or two
pub record Moving (ws : List ℕ) (out to room one from : ℕ) : Type 0 where
  pub output : At ws out to
  pub input : At ws one from
  pub differ : out ≢ one
  pub free : start_of ws out + count_of ws out + room ≤ capacity_of out

pub record Merging (ws : List ℕ) (out to room one from two other : ℕ) : Type 0 where
  pub first : Moving ws out to room one from
  pub second : Moving ws out to room two other
  pub differ : one ≢ two

-- the second input is in link i, and counts as exhausted where that lies behind `last`
pub record Turning (ws : List ℕ) (last i out to room one from two other : ℕ) : Type 0 where
  pub first : Moving ws out to room one from
  pub both : i ≤ last → Merging ws out to room one from two other

-- what merge steps leave: the buffers are these, and marks, start place of the output and words of other buffers are as before
pub record Ran (ws ws' : List ℕ) (out one two : ℕ) (bs : Buffers) : Type 0 where
  pub array : Inside ws'
  pub state : buffers_of ws' ≡ bs
  pub kept : Kept ws ws'
  pub marks : (n : ℕ) → n < many ws → mark_of ws' n ≡ mark_of ws n
  pub start : start_of ws' out ≡ start_of ws out
  pub words : (n : ℕ) → n < many ws → n ≢ out → n ≢ one → n ≢ two → word_of ws' n ≡ word_of ws n

-- m entries of an input have moved to the end of the output
abbrev pub moved_by : ℕ → List ℕ → ℕ → ℕ → Buffers
moved_by m ws out one = set (set (buffers_of ws) out (buffer_of ws out ++ take m (buffer_of ws one))) one (drop m (buffer_of ws one))

-- m merge steps from two inputs
abbrev pub merged_by : (ℕ → ℕ) → ℕ → List ℕ → ℕ → ℕ → ℕ → Buffers
merged_by key m ws out one two =
    let z = merged key m (buffer_of ws one) (buffer_of ws two) in
    set (set (set (buffers_of ws) out (buffer_of ws out ++ z.out)) one z.one) two z.two

-- what a merger sees of its second input; which buffer merge steps touch beside the output and the first input; and what they then leave
abbrev pub seen_if : Bool → List ℕ → List ℕ
seen_if true es = es
seen_if false es = []

abbrev pub touched_if : Bool → ℕ → ℕ → ℕ
touched_if true one two = two
touched_if false one two = one

abbrev pub turned_by : (ℕ → ℕ) → Bool → ℕ → List ℕ → ℕ → ℕ → ℕ → Buffers
turned_by key true m ws out one two = merged_by key m ws out one two
turned_by key false m ws out one two = moved_by m ws out one

-- ---- the same of a merger's own output and inputs

abbrev pub CanMerge : List ℕ → Merger → ℕ → Type 0
CanMerge ws v room = Merging ws v.out.number v.out.at room v.one.number v.one.at v.two.number v.two.at

abbrev pub CanTurn : List ℕ → ℕ → Merger → ℕ → Type 0
CanTurn ws last v room = Turning ws last v.link v.out.number v.out.at room v.one.number v.one.at v.two.number v.two.at

abbrev pub HasMerged : (ℕ → ℕ) → List ℕ → List ℕ → Merger → ℕ → Type 0
HasMerged key ws ws' v m = Ran ws ws' v.out.number v.one.number v.two.number (merged_by key m ws v.out.number v.one.number v.two.number)

-- where the second input counts, or does not
abbrev pub HasTurned : (ℕ → ℕ) → Bool → List ℕ → List ℕ → Merger → ℕ → Type 0
HasTurned key counts ws ws' v m =
    Ran ws ws' v.out.number v.one.number (touched_if counts v.one.number v.two.number) (turned_by key counts m ws v.out.number v.one.number v.two.number)
