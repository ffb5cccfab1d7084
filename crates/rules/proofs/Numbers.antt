-- The numbers that stand in a tree: all different, and below the number of buffers.
use Prim.Native.Nat.{ℕ, ◌<◌}
use Rattle.rules.specs.Tree.{Tree, exhausted, buffer, merger}

-- the buffer with number m stands in the tree
pub data Stands (m : ℕ) : Tree → Type 0 where
  itself : {c : ℕ} → Stands m (buffer m c)
  output : {c : ℕ} {one two : Tree} → Stands m (merger m c one two)
  in_first : {n c : ℕ} {one two : Tree} → Stands m one → Stands m (merger n c one two)
  in_second : {n c : ℕ} {one two : Tree} → Stands m two → Stands m (merger n c one two)

-- it does not
abbrev pub Outside : ℕ → Tree → Type 0
Outside m t = Stands m t → ⊥

-- no buffer stands in both
abbrev pub Apart : Tree → Tree → Type 0
Apart one two = (m : ℕ) → Stands m one → Stands m two → ⊥

-- either way round
pub apart_back : {one two : Tree} → Apart one two → Apart two one
apart_back apart m s t = apart m t s

-- a merger's output and its two inputs have no buffer in common
pub record Joint (n : ℕ) (one two : Tree) : Type 0 where
  pub out_one : Outside n one
  pub out_two : Outside n two
  pub apart : Apart one two

-- every number stands in one place only
pub data Distinct : Tree → Type 0 where
  nothing : Distinct exhausted
  alone : {n c : ℕ} → Distinct (buffer n c)
  joined : {n c : ℕ} {one two : Tree} → Joint n one two → Distinct one → Distinct two → Distinct (merger n c one two)

-- a tree whose buffers are among so many, each once
pub record Among (t : Tree) (count : ℕ) : Type 0 where
  pub distinct : Distinct t
  pub less : (m : ℕ) → Stands m t → m < count

module _ {n c : ℕ} {one two : Tree} where
  joint_of : Distinct (merger n c one two) → Joint n one two
  joint_of (joined j p q) = j

  first_of : Distinct (merger n c one two) → Distinct one
  first_of (joined j p q) = p

  second_of : Distinct (merger n c one two) → Distinct two
  second_of (joined j p q) = q

  module _ {count : ℕ} (a : Among (merger n c one two) count) where
    -- the output stands apart from what is below it, and the two inputs from one another
    pub joint : Joint n one two
    joint = joint_of a.distinct

    -- what is among so many, its first input is too
    pub among_first : Among one count
    among_first = record { distinct = first_of a.distinct; less = λ m s. a.less m (in_first s) }

    -- and its second
    pub among_second : Among two count
    among_second = record { distinct = second_of a.distinct; less = λ m s. a.less m (in_second s) }
