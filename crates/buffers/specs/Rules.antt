-- The book rules as statements, one for each rule of the document. The rules' test `sound` holds exactly where they do: `sound_rules` and `rules_sound`.
use Rattle.std.specs.Prelude.{ℕ, ◌+◌, ◌-◌, ◌*◌, ◌≤◌, ◌<◌, ◌≡◌, Bool, true}
use Rattle.std.proofs.Math.Bool.{false}
use Rattle.rules.specs.Links.{s, k, first, capacity, number_of_s, buffer_count, most, LinkNumber}
use Rattle.rules.specs.Tree.{Tree, exhausted, buffer, merger, tree_of}
use Rattle.rules.specs.Book.{Book, count, start_place, marked, c, together}

-- the first tree is the second one, or stands below its top
pub data Part (t : Tree) : Tree → Type 0 where
  whole : Part t t
  in_one : {n size : ℕ} {one two : Tree} → Part t one → Part t (merger n size one two)
  in_two : {n size : ℕ} {one two : Tree} → Part t two → Part t (merger n size one two)

module _ (b : Book) where
  -- how many entries stand in the buffer at the top of a tree and in those below it
  unfoldable pub held_under : Tree → ℕ
  unfolding count
  held_under exhausted = 0
  held_under (buffer n _) = count b n
  held_under (merger n _ one two) = count b n + (held_under one + held_under two)

  -- whether the buffer at the top has the mark
  unfoldable pub top_marked : Tree → Bool
  unfolding marked
  top_marked exhausted = false
  top_marked (buffer n _) = marked b n
  top_marked (merger n _ _ _) = marked b n

pub record LinkRules (b : Book) (i : ℕ) : Type 0 where
  -- "every count and start place inside its buffer"
  pub inside : (j : ℕ) → j < 2 * k i → start_place b (first i + j) + count b (first i + j) ≤ capacity i j
  -- "c(i) from 1 to k(i)+1"
  pub from_one : 1 ≤ c b i
  pub to_all : c b i ≤ k i + 1
  -- "S(i,j) empty for j at or above c(i)"
  pub unused_empty : (j : ℕ) → c b i ≤ j → j ≤ k i → count b (number_of_s i j) ≡ 0
  -- "B(i), inner buffers and S of link i together at most (c(i)-1) x s(i)"
  pub not_over : together b (first i + 1) (2 * k i - 1) ≤ (c b i - 1) * s i

pub record Rules (b : Book) : Type 0 where
  -- "link number 1 to 4"
  pub link_number : LinkNumber b.links
  -- "every count and start place inside its buffer": I's, and below those of each link
  pub inside : start_place b 0 + count b 0 ≤ 8
  -- "I at most 7"
  pub at_most_seven : count b 0 ≤ 7
  pub each_link : (i : ℕ) → 1 ≤ i → i ≤ b.links → LinkRules b i
  -- "at most H held"
  pub at_most_h : together b 0 (buffer_count b.links) ≤ most b.links
  -- "A mark "exhausted" may stand only on a buffer with nothing in it and nothing below it.": I's, and those in the tree
  pub mark_i : marked b 0 ≡ true → count b 0 ≡ 0
  pub marks : (t : Tree) → Part t (tree_of b.links) → top_marked b t ≡ true → held_under b t ≡ 0
