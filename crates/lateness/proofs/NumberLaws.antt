-- A number in order is at most v exactly if so many do not exceed v.
use Rattle.std.proofs.Common.{◌≡◌, ℕ, zero, suc, ◌-◌, ◌<◌, ◌≤◌, true, false, cond, ltb, leb, List, [], ◌∷◌, length, get_or, ℤ, pos, sym, refl, ap, ◌∙◌, subst, arith}
use lib.Dec.{leb-suc-suc}
use lib.Signed.{le_z}
use Rattle.rules.proofs.Sizes.{leb-false}
use Rattle.rules.proofs.Capacity.{leb-true}
use Rattle.lateness.specs.Ordered.{put_in, in_order, numbered, at_most}
use Rattle.lateness.proofs.OrderLaws.{le_of, lt_of, clash, by_test, refl_le, other_way, le_through}

-- ---- one more

pub step_yes : (v x : ℤ) (xs : List ℤ) → le_z x v ≡ true → at_most v (x ∷ xs) ≡ suc (at_most v xs)
unfolding at_most
step_yes v x xs h = rw (h, at_most) refl

pub step_no : (v x : ℤ) (xs : List ℤ) → le_z x v ≡ false → at_most v (x ∷ xs) ≡ at_most v xs
unfolding at_most
step_no v x xs h = rw (h, at_most) refl

put_here : (x y : ℤ) (ys : List ℤ) → le_z x y ≡ true → put_in x (y ∷ ys) ≡ x ∷ (y ∷ ys)
unfolding put_in
put_here x y ys h = rw (h, put_in) refl

put_later : (x y : ℤ) (ys : List ℤ) → le_z x y ≡ false → put_in x (y ∷ ys) ≡ y ∷ put_in x ys
unfolding put_in
put_later x y ys h = rw (h, put_in) refl

-- ---- what is put in is counted, wherever it is put

-- of two that are counted, either may come first
swapped : (v x y : ℤ) (xs : List ℤ) → at_most v (y ∷ (x ∷ xs)) ≡ at_most v (x ∷ (y ∷ xs))
unfolding at_most
swapped v x y xs = by_test (le_z x v)
    (λ p. by_test (le_z y v) (λ q. rw (p, q, at_most) refl) (λ q. rw (p, q, at_most) refl))
    (λ p. by_test (le_z y v) (λ q. rw (p, q, at_most) refl) (λ q. rw (p, q, at_most) refl))

one_more : (v y : ℤ) (xs ys : List ℤ) → at_most v xs ≡ at_most v ys → at_most v (y ∷ xs) ≡ at_most v (y ∷ ys)
unfolding at_most
one_more v y xs ys e = ap (λ n. cond (le_z y v) (suc n) n) e

put_counted : (v x : ℤ) (xs : List ℤ) → at_most v (put_in x xs) ≡ at_most v (x ∷ xs)
unfolding put_in
put_counted v x [] = refl
put_counted v x (y ∷ ys) = by_test (le_z x y)
    (λ h. ap (at_most v) (put_here x y ys h))
    (λ h. ap (at_most v) (put_later x y ys h) ∙ one_more v y (put_in x ys) (x ∷ ys) (put_counted v x ys) ∙ swapped v x y ys)

order_counted : (v : ℤ) (xs : List ℤ) → at_most v (in_order xs) ≡ at_most v xs
unfolding in_order
order_counted v [] = refl
order_counted v (x ∷ xs) = put_counted v x (in_order xs) ∙ one_more v x (in_order xs) xs (order_counted v xs)

put_length : (x : ℤ) (xs : List ℤ) → length (put_in x xs) ≡ suc (length xs)
unfolding put_in
put_length x [] = refl
put_length x (y ∷ ys) = by_test (le_z x y) (λ h. ap length (put_here x y ys h)) (λ h. ap length (put_later x y ys h) ∙ ap suc (put_length x ys))

order_length : (xs : List ℤ) → length (in_order xs) ≡ length xs
unfolding in_order
order_length [] = refl
order_length (x ∷ xs) = put_length x (in_order xs) ∙ ap suc (order_length xs)

-- ---- in order

-- none of them is below x
Least : ℤ → List ℤ → Type 0
Least x [] = Unit {0}
Least x (y ∷ ys) = (le_z x y ≡ true) × Least x ys

Ascends : List ℤ → Type 0
Ascends [] = Unit {0}
Ascends (x ∷ xs) = Least x xs × Ascends xs

least_through : (x y : ℤ) (ys : List ℤ) → le_z x y ≡ true → Least y ys → Least x ys
unfolding Least
least_through x y [] h l = tt
least_through x y (z ∷ zs) h l = (le_through x y z h l.0, least_through x y zs h l.1)

least_put : (z x : ℤ) (xs : List ℤ) → le_z z x ≡ true → Least z xs → Least z (put_in x xs)
unfolding Least put_in
least_put z x [] h l = (h, tt)
least_put z x (y ∷ ys) h l = by_test (le_z x y)
    (λ e. subst (λ l. Least z l) (sym (put_here x y ys e)) (h, l))
    (λ e. subst (λ l. Least z l) (sym (put_later x y ys e)) (l.0, least_put z x ys h l.1))

put_ascends : (x : ℤ) (xs : List ℤ) → Ascends xs → Ascends (put_in x xs)
unfolding Ascends Least put_in
put_ascends x [] a = (tt, tt)
put_ascends x (y ∷ ys) a = by_test (le_z x y)
    (λ e. subst (λ l. Ascends l) (sym (put_here x y ys e)) ((e, least_through x y ys e a.0), a))
    (λ e. subst (λ l. Ascends l) (sym (put_later x y ys e)) (least_put y x ys (other_way x y e) a.0, put_ascends x ys a.1))

ascends : (xs : List ℤ) → Ascends (in_order xs)
unfolding Ascends in_order
ascends [] = tt
ascends (x ∷ xs) = put_ascends x (in_order xs) (ascends xs)

-- where the first exceeds v, all do
none_below : (v x : ℤ) (xs : List ℤ) → le_z x v ≡ false → Least x xs → at_most v xs ≡ 0
unfolding Least at_most
none_below v x [] h l = refl
none_below v x (y ∷ ys) h l =
    by_test (le_z y v) (λ e. clash (le_through x y v l.0 e) h) (λ e. step_no v y ys e ∙ none_below v x ys h l.1)

place : (v : ℤ) (xs : List ℤ) (j : ℕ) → Ascends xs → j < length xs → le_z (get_or xs j (pos 0)) v ≡ ltb j (at_most v xs)
unfolding Ascends
place v [] j a h = absurd (omega arith)
place v (x ∷ xs) zero a h =
    by_test (le_z x v)
    (λ e. e ∙ sym (ap (ltb 0) (step_yes v x xs e) ∙ leb-true 1 (suc (at_most v xs)) (omega arith)))
    (λ e. e ∙ sym (ap (ltb 0) (step_no v x xs e ∙ none_below v x xs e a.0) ∙ refl))
place v (x ∷ xs) (suc j) a h =
    let rest = place v xs j a.1 (omega arith) in
    by_test (le_z x v)
    (λ e. rest ∙ sym (ap (ltb (suc j)) (step_yes v x xs e) ∙ leb-suc-suc (suc j) (at_most v xs)))
    (λ e.
    let none = none_below v x xs e a.0 in
    rest ∙ ap (ltb j) none ∙ leb-false (suc j) 0 (omega arith) ∙ sym (ap (ltb (suc j)) (step_no v x xs e ∙ none) ∙ leb-false (suc (suc j)) 0 (omega arith)))

-- ---- the law

pub number_at : (v : ℤ) (xs : List ℤ) (k : ℕ) → 1 ≤ k → k ≤ length xs → le_z (numbered k xs) v ≡ leb k (at_most v xs)
unfolding numbered
number_at v xs zero l h = absurd (omega arith)
number_at v xs (suc j) l h =
    let same : suc j - 1 ≡ j = omega arith in
    ap (λ i. le_z (get_or (in_order xs) i (pos 0)) v) same ∙ place v (in_order xs) j (ascends xs) (omega (arith, order_length xs)) ∙ ap (ltb j) (order_counted v xs)

-- a lower number is no later
pub numbers_ascend : (xs : List ℤ) (j k : ℕ) → 1 ≤ j → j ≤ k → k ≤ length xs → le_z (numbered j xs) (numbered k xs) ≡ true
numbers_ascend xs j k l m h =
    let v = numbered k xs in
    let enough = sym (number_at v xs k (omega arith) h) ∙ refl_le v in
    number_at v xs j l (omega arith) ∙ leb-true j (at_most v xs) (omega (arith, le_of k (at_most v xs) enough))

pub at_most_all : (v : ℤ) (xs : List ℤ) → at_most v xs ≤ length xs
unfolding at_most
at_most_all v [] = omega arith
at_most_all v (x ∷ xs) = by_test (le_z x v)
    (λ e. omega (arith, step_yes v x xs e, at_most_all v xs))
    (λ e. omega (arith, step_no v x xs e, at_most_all v xs))

-- the one with number k is the least that k of them do not exceed
pub least_such : (xs : List ℤ) (k : ℕ) → 1 ≤ k → k ≤ length xs → (k ≤ at_most (numbered k xs) xs) × ((v : ℤ) → le_z (numbered k xs) v ≡ false → at_most v xs < k)
least_such xs k l h =
    let x = numbered k xs in
    (le_of k (at_most x xs) (sym (number_at x xs k l h) ∙ refl_le x), λ v below. lt_of k (at_most v xs) (sym (number_at v xs k l h) ∙ below))
