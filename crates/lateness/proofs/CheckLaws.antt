-- The first door byte above 2, and the answer that lists of pairs get.
use Rattle.std.proofs.Common.{◌≡◌, ℕ, zero, suc, ◌+◌, ◌<◌, ◌≤◌, Bool, true, cond, ◌&&◌, eqb, ltb, ◌≢◌, List, [], ◌∷◌, length, get_or, sym, refl, ◌∙◌, subst, ⊎_elim, arith}
use Rattle.rules.proofs.Sizes.{by_eqb, leb-false}
use Rattle.rules.proofs.Capacity.{leb-true}
use Rattle.lateness.specs.Reports.{first_above, answer_of}
use Rattle.lateness.proofs.ClockLaws.{under_or_not}

pub above_none : first_above [] ≡ 0
unfolding first_above
above_none = refl

pub above_here : (b : ℕ) (doors : List ℕ) → 2 < b → first_above (b ∷ doors) ≡ 0
unfolding first_above
above_here b doors h = rw (leb-true 3 b h, first_above) refl

pub above_later : (b : ℕ) (doors : List ℕ) → b ≤ 2 → first_above (b ∷ doors) ≡ first_above doors + 1
unfolding first_above
above_later b doors h = rw (leb-false 3 b (omega arith), first_above) (omega arith)

-- ---- the answer

-- where the lengths are equal
abbrev equal_answer : List ℕ → ℕ
equal_answer doors = cond (ltb 4096 (length doors)) 15 (cond (ltb (first_above doors) (length doors)) 7 0)

-- by how the two tests of the lengths came out
abbrev by_lengths : List ℕ → Bool → Bool → ℕ
by_lengths doors d a = cond (d && a) (equal_answer doors) 10

module _ (due acting doors : List ℕ) where
  by_lengths_lem : answer_of due acting doors ≡ by_lengths doors (eqb (length due) (length doors)) (eqb (length acting) (length doors))
  unfolding answer_of
  by_lengths_lem = refl

  pub other_dues : length due ≢ length doors → 10 ≡ answer_of due acting doors
  other_dues n = sym (by_lengths_lem
      ∙ by_eqb (length due) (length doors) (λ t. by_lengths doors t (eqb (length acting) (length doors)) ≡ 10) (λ e. absurd (n e)) (λ m. refl))

  module _ (d : length due ≡ length doors) where
    by_actings : answer_of due acting doors ≡ by_lengths doors true (eqb (length acting) (length doors))
    by_actings = by_lengths_lem
        ∙ by_eqb (length due) (length doors) (λ t. by_lengths doors t (eqb (length acting) (length doors)) ≡ by_lengths doors true (eqb (length acting) (length doors))) (λ e. refl) (λ m. absurd (m d))

    pub other_actings : length acting ≢ length doors → 10 ≡ answer_of due acting doors
    other_actings n = sym (by_actings ∙ by_eqb (length acting) (length doors) (λ t. by_lengths doors true t ≡ 10) (λ e. absurd (n e)) (λ m. refl))

    module _ (a : length acting ≡ length doors) where
      equal : answer_of due acting doors ≡ equal_answer doors
      equal = by_actings ∙ by_eqb (length acting) (length doors) (λ t. by_lengths doors true t ≡ equal_answer doors) (λ e. refl) (λ m. absurd (m a))

      pub too_many : 4096 < length doors → 15 ≡ answer_of due acting doors
      too_many h = sym (equal ∙ rw (leb-true 4097 (length doors) h) refl)

      pub door_above : length doors ≤ 4096 → first_above doors < length doors → 7 ≡ answer_of due acting doors
      door_above f h = sym (equal ∙ rw (leb-false 4097 (length doors) (omega arith), leb-true (suc (first_above doors)) (length doors) h) refl)

      pub accepted : length doors ≤ 4096 → length doors ≤ first_above doors → 0 ≡ answer_of due acting doors
      accepted f h = sym (equal ∙ rw (leb-false 4097 (length doors) (omega arith), leb-false (suc (first_above doors)) (length doors) (omega arith)) refl)

-- what `checked` is proved by
pub ruleset answer_laws = (other_dues, other_actings, too_many, door_above, accepted)

-- ---- a door byte above 2, wherever it stands

pub above_there : (doors : List ℕ) → first_above doors < length doors → 2 < get_or doors (first_above doors) 0
above_there [] h = absurd (omega arith)
above_there (b ∷ doors) h = ⊎_elim
    (λ l. subst (λ n. 2 < get_or (b ∷ doors) n 0) (sym (above_here b doors l)) l)
    (λ g.
    let later : first_above (b ∷ doors) ≡ suc (first_above doors) = omega (arith, above_later b doors g) in
    subst (λ n. 2 < get_or (b ∷ doors) n 0) (sym later) (above_there doors (omega (arith, later))))
    (under_or_not 2 b)

pub none_above : (doors : List ℕ) → length doors ≤ first_above doors → (i : ℕ) → i < length doors → get_or doors i 0 ≤ 2
none_above [] h i l = absurd (omega arith)
none_above (b ∷ doors) h i l = ⊎_elim
    (λ a. absurd (omega (arith, above_here b doors a)))
    (λ g. each i g (none_above doors (omega (arith, above_later b doors g))) l)
    (under_or_not 2 b)
  where
    each : (i : ℕ) → b ≤ 2 → ((i : ℕ) → i < length doors → get_or doors i 0 ≤ 2) → i < suc (length doors) → get_or (b ∷ doors) i 0 ≤ 2
    each zero g f l = g
    each (suc i) g f l = f i (omega arith)

pub some_above : (doors : List ℕ) (i : ℕ) → i < length doors → 2 < get_or doors i 0 → first_above doors < length doors
some_above doors i l a = ⊎_elim (λ h. h) (λ h. absurd (omega (arith, none_above doors h i l))) (under_or_not (first_above doors) (length doors))

pub all_below : (doors : List ℕ) → ((i : ℕ) → i < length doors → get_or doors i 0 ≤ 2) → length doors ≤ first_above doors
all_below doors f = ⊎_elim (λ h. absurd (omega (arith, above_there doors h, f (first_above doors) h))) (λ h. h) (under_or_not (first_above doors) (length doors))
