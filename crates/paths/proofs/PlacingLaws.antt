-- An entry between those that go before it and the others, as two moves and a write lay them.
use mathlib.Core.Path.{◌≡◌, refl, sym, ap, ◌∙◌}
use mathlib.Core.Bool.{Bool, true, false, cond}
use mathlib.Core.List.{List, [], ◌∷◌, ◌++◌, append_assoc}
use Prim.Native.Nat.{ℕ, suc, ◌+◌, ◌-◌, ◌≤◌, ◌<◌}
use native.Mathlib.Omega.{arith}
use lib.Dec.{leb}
use lib.ListN.{length, take, drop, set, length-take, length-append}
use lib.Seq.{take-set-lt, take-length, append_snoc}
use Rattle.std.specs.List.{copy_within}
use Rattle.std.proofs.lemmas.List.{drop-set-lt, set-append_left}
use borrow.Author.Tests.{leb-true, leb-false, le-ltb, lt-ltb}
use Rattle.rules.specs.Insert.{placed}
use Rattle.runs.specs.Leads.{goes_before, leading}
use Rattle.runs.specs.Promises.{laid_at, stretch}
use Rattle.runs.proofs.LeadLaws.{lead_inside}
use Rattle.runs.proofs.LayingLaws.{laid_apart, laid_more, laid_on, length_laid, length_stretch, stretch_drop, stretch_take}
use Rattle.paths.specs.Placing.{Holds}

module _ (key : ℕ → ℕ) where
  pub placed_before : (e x : ℕ) (xs : List ℕ) → leb (key x) (key e) ≡ false → placed key e (x ∷ xs) ≡ e ∷ x ∷ xs
  unfolding placed
  placed_before e x xs larger = rw (lt-ltb (key e) (key x) (leb-false (key x) (key e) larger), placed)

  pub placed_behind : (e x : ℕ) (xs : List ℕ) → leb (key x) (key e) ≡ true → placed key e (x ∷ xs) ≡ x ∷ placed key e xs
  unfolding placed
  placed_behind e x xs other = rw (le-ltb (key e) (key x) (leb-true (key x) (key e) other), placed)

  pub placed_long : (e : ℕ) (xs : List ℕ) → length (placed key e xs) ≡ suc (length xs)
  unfolding placed
  placed_long e [] = refl
  placed_long e (x ∷ xs) = go (leb (key x) (key e)) refl (placed_long e xs)
    where
      go : (b : Bool) → leb (key x) (key e) ≡ b → length (placed key e xs) ≡ suc (length xs) → length (placed key e (x ∷ xs)) ≡ suc (suc (length xs))
      go true t long = ap length (placed_behind e x xs t) ∙ ap suc long
      go false t long = ap length (placed_before e x xs t)

  -- it is placed behind those at the front that go before it
  placed_led : (e : ℕ) (xs : List ℕ) → placed key e xs ≡ take (leading key true e xs) xs ++ e ∷ drop (leading key true e xs) xs
  unfolding placed leading goes_before
  placed_led e [] = refl
  placed_led e (x ∷ xs) = go (leb (key x) (key e)) refl (placed_led e xs)
    where
      split : ℕ → List ℕ
      split n = take n (x ∷ xs) ++ e ∷ drop n (x ∷ xs)

      go : (b : Bool) → leb (key x) (key e) ≡ b → placed key e xs ≡ take (leading key true e xs) xs ++ e ∷ drop (leading key true e xs) xs
          → placed key e (x ∷ xs) ≡ split (cond (leb (key x) (key e)) (suc (leading key true e xs)) 0)
      go true t others = placed_behind e x xs t ∙ ap (λ l. x ∷ l) others ∙ ap (λ c. split (cond c (suc (leading key true e xs)) 0)) (sym t)
      go false t others = placed_before e x xs t ∙ ap (λ c. split (cond c (suc (leading key true e xs)) 0)) (sym t)

  led_few : (e : ℕ) (xs : List ℕ) → leading key true e xs ≤ length xs
  led_few e xs = rw take-length at (lead_inside key true e (length xs) xs (omega arith)).0

-- a stretch that is copied is laid
copied : (a : List ℕ) (from end at : ℕ) → end ≤ length a → copy_within a from end at ≡ laid_at a at (stretch from end a)
copied a from end at inside =
    append_assoc (take at a) (stretch from end a) (drop (at + (end - from)) a) ∙ ap (λ n. take at a ++ (stretch from end a ++ drop (at + n) a)) (sym (length_stretch a from end inside))

-- a word that is written before a laid run
set_before : (a run : List ℕ) (at i v : ℕ) → i < at → at ≤ length a → set (laid_at a at run) i v ≡ laid_at (set a i v) at run
set_before a run at i v less inside =
    set-append_left (take at a) (run ++ drop (at + length run) a) i v (simp length-take (omega arith))
    ∙ rw (take-set-lt at a i v less, drop-set-lt (at + length run) a i v (omega arith))

module _ (slots : List ℕ) (start count before entry : ℕ) (asked : Holds slots start count) (few : before ≤ count) where
  abbrev front : List ℕ
  front = stretch start (start + before) slots

  abbrev back : List ℕ
  back = stretch (start + before) (start + count) slots

  front_long : length front ≡ before
  front_long = length_stretch slots start (start + before) (omega (arith, asked.inside)) ∙ omega arith

  abbrev moved : List ℕ
  moved = copy_within slots start (start + before) 0

  front_moved : moved ≡ laid_at slots 0 front
  front_moved = copied slots start (start + before) 0 (omega (arith, asked.inside))

  moved_long : length moved ≡ length slots
  moved_long = ap length front_moved ∙ length_laid slots 0 front (omega (arith, front_long, asked.free))

  back_kept : stretch (start + before) (start + count) moved ≡ back
  back_kept =
      ap (stretch (start + before) (start + count)) front_moved
      ∙ laid_apart slots 0 front (start + before) (start + count) (omega (arith, front_long, asked.free)) asked.inside (λ p a b c d. omega (arith, front_long))

  entry_set : set moved before entry ≡ laid_at slots 0 (front ++ entry ∷ [])
  entry_set = ap (λ l. set l before entry) front_moved ∙ laid_more slots 0 front before entry (omega (arith, front_long)) (omega (arith, asked.free))

  front_more : length (front ++ entry ∷ []) ≡ before + 1
  front_more = simp length-append (omega (arith, front_long))

  both_laid : set (copy_within moved (start + before) (start + count) (before + 1)) before entry ≡ laid_at slots 0 (front ++ entry ∷ back)
  both_laid =
      ap (λ l. set l before entry) (copied moved (start + before) (start + count) (before + 1) (omega (arith, moved_long, asked.inside)) ∙ ap (laid_at moved (before + 1)) back_kept)
      ∙ set_before moved back (before + 1) before entry (omega arith) (omega (arith, moved_long, asked.free))
      ∙ ap (λ l. laid_at l (before + 1) back) entry_set
      ∙ laid_on slots 0 (front ++ entry ∷ []) back (before + 1) (omega (arith, front_more)) (omega (arith, asked.free))
      ∙ ap (laid_at slots 0) (append_snoc front entry back)

-- those that go before the entry move to the beginning, the others to the place behind it
pub places : (key : ℕ → ℕ) (slots : List ℕ) (start count before entry : ℕ) → Holds slots start count → before ≡ leading key true entry (stretch start (start + count) slots)
    → set (copy_within (copy_within slots start (start + before) 0) (start + before) (start + count) (before + 1)) before entry
    ≡ laid_at slots 0 (placed key entry (stretch start (start + count) slots))
places key slots start count before entry asked led =
    let run = stretch start (start + count) slots in
    let few : before ≤ count = omega (arith, led, led_few key entry run, length_stretch slots start (start + count) asked.inside) in
    let split : stretch start (start + before) slots ++ entry ∷ stretch (start + before) (start + count) slots ≡ take before run ++ entry ∷ drop before run =
    rw (stretch_take slots start (start + count) before (omega (arith, few)), stretch_drop slots start (start + count) before) in
    both_laid slots start count before entry asked few ∙ ap (laid_at slots 0) (split ∙ ap (λ n. take n run ++ entry ∷ drop n run) led ∙ sym (placed_led key entry run))
