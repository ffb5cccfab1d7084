-- What the functions ask and promise. Runs and arrays are lists of words; a primed list is the list afterwards.
use Rattle.std.specs.Prelude.{◌≡◌, ◌⊎◌, ℕ, ◌+◌, ◌-◌, ◌*◌, ◌≤◌, ◌<◌, List, ◌++◌, length, take, drop}
use Rattle.std.specs.Borrow.{Bor}
use Rattle.rules.specs.Merge.{merged}
use Rattle.runs.specs.Until.{pick, until_empty, join_until_end}

-- a run laid at a place: the words before and behind it are unchanged
abbrev pub laid_at : List ℕ → ℕ → List ℕ → List ℕ
laid_at a at run = take at a ++ (run ++ drop (at + length run) a)

-- the words from one position up to another
abbrev pub stretch : ℕ → ℕ → List ℕ → List ℕ
stretch from end a = take (end - from) (drop from a)

-- a lent part is the end of a lent run: it starts at the run's own words, 8 bytes each, and goes on to the run's last
pub record EndOf (part run : Bor (List ℕ)) : Type 0 where
  pub starts : part.ref_ptr ≡ (run.ref_ptr.0, (length run.now - length part.now) * 8 + run.ref_ptr.1)
  pub words : part.now ≡ drop (length run.now - length part.now) run.now

-- no position lies in both stretches
abbrev pub Apart : ℕ → ℕ → ℕ → ℕ → Type 0
Apart from end from' end' = (p : ℕ) → from ≤ p → p < end → from' ≤ p → p < end' → ⊥

-- three stretches of one array: room for the output, and two inputs that it does not meet
pub record Stretches (a : List ℕ) (out one one_end two two_end room : ℕ) : Type 0 where
  pub free : out + room ≤ length a
  pub one_starts : one ≤ one_end
  pub one_inside : one_end ≤ length a
  pub two_starts : two ≤ two_end
  pub two_inside : two_end ≤ length a
  pub one_apart : Apart one one_end out (out + room)
  pub two_apart : Apart two two_end out (out + room)

-- a run inside an array, before or behind a lent part of it: so many words stand before that part, in it and behind it
pub record Beside (before lent behind from end : ℕ) : Type 0 where
  pub starts : from ≤ end
  pub inside : end ≤ before + (lent + behind)
  pub apart : (end ≤ before) ⊎ (before + lent ≤ from)

-- so many entries of one stretch, and room for them that it does not meet
pub record Moves (a : List ℕ) (out from count : ℕ) : Type 0 where
  pub free : out + count ≤ length a
  pub inside : from + count ≤ length a
  pub apart : Apart from (from + count) out (out + count)

module _ (key : ℕ → ℕ) where
  -- the whole of out is merged from two runs, r entries of the first
  pub record Parts (xs ys out out' : List ℕ) (r : ℕ) : Type 0 where
    pub laid : out' ≡ (merged key (length out) xs ys).out
    pub one : drop r xs ≡ (merged key (length out) xs ys).one
    pub two : drop (length out - r) ys ≡ (merged key (length out) xs ys).two
    pub of_first : r ≤ length xs
    pub of_both : r ≤ length out
    pub of_second : length out - r ≤ length ys

  -- a joining is laid at the beginning of out, and the rest that is handed back is the end of the run that outlasts the other
  pub record Joins (xs ys : Bor (List ℕ)) (out out' : List ℕ) (rest : Bor (List ℕ)) : Type 0 where
    pub laid : out' ≡ laid_at out 0 (join_until_end key xs.now ys.now).laid
    pub handed : rest.now ≡ (join_until_end key xs.now ys.now).rest
    pub suffix : EndOf rest (pick (join_until_end key xs.now ys.now).run xs ys)
    pub all : length (join_until_end key xs.now ys.now).laid + length rest.now ≡ length xs.now + length ys.now

  -- so many merge steps of two runs are laid at out, so many of the first, and an input is empty or the room used up
  pub record Merges (xs ys a a' : List ℕ) (out room moved first : ℕ) : Type 0 where
    pub steps : moved ≡ until_empty key room xs ys
    pub laid : a' ≡ laid_at a out (merged key moved xs ys).out
    pub one : drop first xs ≡ (merged key moved xs ys).one
    pub two : drop (moved - first) ys ≡ (merged key moved xs ys).two
    pub of_first : first ≤ length xs
    pub of_both : first ≤ moved
    pub of_second : moved - first ≤ length ys
    pub within : moved ≤ room
