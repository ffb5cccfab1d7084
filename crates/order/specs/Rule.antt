-- The order rule as plain statements: no test, no walk and no lowest key.
use Rattle.std.specs.Prelude.{◌≡◌, refl, ◌⊎◌, true, false, List, [], ◌∷◌, map, ℕ, suc, ◌≤◌, ◌<◌, length, get_or}
use Rattle.rules.specs.Tree.{Buffers, Tree, exhausted, buffer, merger, tree_of}
use Rattle.rules.specs.Take.{insertion}
use Rattle.rules.specs.Order.{in_order}
use Rattle.mergers.specs.Fills.{StandsIn}

-- buffer m is nearer the root than buffer n, on n's way there
abbrev pub Nearer : ℕ → ℕ → Tree → Type 0
Nearer m n exhausted = ⊥
Nearer m n (buffer o c) = ⊥
Nearer m n (merger o c one two) = ((m ≡ o) × (StandsIn n one ⊎ StandsIn n two)) ⊎ (Nearer m n one ⊎ Nearer m n two)

module _ (key : ℕ → ℕ) where
  -- "each buffer ascends, equal neighbours allowed"
  abbrev pub Ascending : List ℕ → Type 0
  Ascending es = (p : ℕ) → suc p < length es → key (get_or es p 0) ≤ key (get_or es (suc p) 0)

  -- "no entry is smaller than one nearer the root"
  abbrev pub NoneSmaller : List ℕ → List ℕ → Type 0
  NoneSmaller nearer es = (p q : ℕ) → p < length nearer → q < length es → key (get_or nearer p 0) ≤ key (get_or es q 0)

  -- "I stands outside the tree."
  pub record OrderRule (tree : Tree) (bs : Buffers) : Type 0 where
    pub outside : Ascending (insertion bs)
    pub buffers : (n : ℕ) → StandsIn n tree → Ascending (get_or bs n [])
    pub ways : (m n : ℕ) → Nearer m n tree → NoneSmaller (get_or bs m []) (get_or bs n [])

-- Examples, in which an entry is its own key: what stands in I, A(1), B(1), S(1,1) and S(1,2).
abbrev one_link : List ℕ → List ℕ → List ℕ → List ℕ → List ℕ → Buffers
one_link i a b s t = i ∷ a ∷ b ∷ s ∷ t ∷ []

-- in order: nothing held; equal entries everywhere; I beside a larger A(1), and beside a smaller
pub in_order_table : map (in_order (λ e. e) (tree_of 1)) (
    one_link [] [] [] [] []
    ∷ one_link (5 ∷ 5 ∷ []) (5 ∷ 5 ∷ []) (5 ∷ []) (5 ∷ []) (5 ∷ [])
    ∷ one_link (1 ∷ []) (5 ∷ []) [] [] []
    ∷ one_link (9 ∷ []) (5 ∷ []) [] [] []
    ∷ []
    ) ≡ true ∷ true ∷ true ∷ true ∷ []
unfolding in_order tree_of
in_order_table = refl

-- not in order: I falls; S(1,2) falls; S(1,1) has a smaller entry than B(1), and than A(1) with B(1) empty between
pub broken_table : map (in_order (λ e. e) (tree_of 1)) (
    one_link (2 ∷ 1 ∷ []) [] [] [] []
    ∷ one_link [] [] [] [] (2 ∷ 1 ∷ [])
    ∷ one_link [] [] (4 ∷ []) (3 ∷ []) []
    ∷ one_link [] (4 ∷ []) [] (3 ∷ []) []
    ∷ []
    ) ≡ false ∷ false ∷ false ∷ false ∷ []
unfolding in_order tree_of
broken_table = refl
