-- Checks one after the other: the array's, that calls make first; and the sum of the counts.
use Prim.Native.Nat.{ℕ, ◌≤◌, ◌<◌}
use mathlib.Core.Path.{◌≡◌, refl, sym, ap, ◌∙◌, subst}
use mathlib.Core.Logic.{◌≢◌}
use mathlib.Core.Bool.{Bool, true, false}
use mathlib.Core.List.{List, [], ◌∷◌, ◌++◌}
use native.Mathlib.Omega.{arith}
use borrow.Author.Tests.{le-leb, lt-leb, ne_eqb}
use lib.Dec.{T, leb, leb→le}
use lib.ListN.{length}
use Rattle.std.specs.Prelude.{Option, Some, None, Result, Ok, Err, IfOk, IsErrAnd}
use Rattle.std.specs.Option.{ok_or}
use Rattle.rules.specs.declared.Refusal.{Refusal}
use Rattle.rules.specs.declared.Refusal.TheVariants as refusal
use Rattle.rules.specs.Answers.{Answer, Done, ArrayShort, BookBroken, number_of, is_done, answer_as, answer_in}
use Rattle.rules.specs.Links.{first, words, most_links, LinkNumber}
use Rattle.rules.specs.Queue.{held}
use Rattle.rules.specs.Book.{is_link_number, sound}
use Rattle.rules.specs.Calls.{first_failing, array_checks, queue_of, Check, ◌else◌}
use Rattle.rules.proofs.Tests.{truth}
use Rattle.rules.proofs.Sizes.{book_in_words}
use Rattle.rules.proofs.BookLaws.{number_is}
use Rattle.rules.proofs.Accepted.{Long}
use Rattle.buffers.specs.Format.{links_in, book_of, lent_of}
use Rattle.buffers.specs.Weights.{HasBook, held_if_sound}
use Rattle.buffers.proofs.RuleLaws.{link_number_lem}
use Rattle.buffers.proofs.Exact.{sound_inside, none_wrong, held_right}
use Rattle.queue.proofs.BookLaws.{weighed_held}

-- ---- answers

pub unlike : true ≡ false → ⊥
unlike e = subst T e tt

pub not_done : (x : Answer) → number_of x ≢ 0 → is_done x ≡ false
unfolding is_done
not_done x differ = ne_eqb (number_of x) 0 differ

pub refuses : (r : Refusal) → number_of (answer_as r) ≢ 0
refuses refusal.NoSuchLinks e = omega (arith, e)
refuses refusal.ArrayShort e = omega (arith, e)
refuses refusal.WorkShort e = omega (arith, e)
refuses refusal.BookBroken e = omega (arith, e)
refuses refusal.Full e = omega (arith, e)
refuses refusal.NoneHeld e = omega (arith, e)
refuses refusal.DoorAbove e = omega (arith, e)
refuses refusal.OrderBroken e = omega (arith, e)
refuses refusal.NotAFrame e = omega (arith, e)

-- a refusal that is handed on stays what it is
pub handed_on : {A : Type 0} {a : Answer} (z : Result A Refusal) (r : Refusal) → IsErrAnd z (λ y. y ≡ r) → answer_as r ≡ a → answer_in z ≡ a
handed_on (Ok x) r h e = absurd h
handed_on (Err y) r h e = ap answer_as h ∙ e

-- ---- checks one after the other

-- each of them refuses
abbrev pub Refusing : List Check → Type 0
Refusing [] = Unit {0}
Refusing ((holds else refusal) ∷ checks) = (is_done refusal ≡ false) × Refusing checks

abbrev pub Holding : List Check → Type 0
Holding [] = Unit {0}
Holding ((holds else refusal) ∷ checks) = T holds × Holding checks

-- what fails among the first fails first, whatever checks stand behind
pub early : (first others : List Check) (x : Answer) → x ≡ first_failing first → number_of x ≢ 0 → x ≡ first_failing (first ++ others)
unfolding first_failing
early [] others x e differ = absurd (differ (ap number_of e))
early ((true else refusal) ∷ first) others x e differ = early first others x e differ
early ((false else refusal) ∷ first) others x e differ = e

-- where none fails, all hold
pub each_holds : (checks : List Check) → Refusing checks → Done ≡ first_failing checks → Holding checks
unfolding first_failing is_done
each_holds [] refusing e = tt
each_holds ((true else refusal) ∷ checks) refusing e = (tt, each_holds checks refusing.1 e)
each_holds ((false else refusal) ∷ checks) refusing e = absurd (unlike (ap is_done e ∙ refusing.0))

-- where the first hold, the others decide
pub late : (first others : List Check) → Holding first → first_failing (first ++ others) ≡ first_failing others
unfolding first_failing
late [] others h = refl
late ((true else refusal) ∷ first) others h = late first others h.1
late ((false else refusal) ∷ first) others h = absurd h.0

-- what an Option hands on as an Ok
pub handed_some : (w : Option ℕ) (r : Refusal) (n : ℕ) → Ok n ≡ ok_or w r → Some n ≡ w
handed_some None r n e = absurd cc
handed_some (Some m) r n e = let same : n ≡ m = cc in cc

-- ---- the array's checks

module _ (ws : List ℕ) where
  abbrev links : ℕ
  links = links_in ws

  abbrev array : Answer
  array = first_failing (array_checks (lent_of ws) [])

  answer_now : (t u v : Bool) → leb (words 1) (length ws) ≡ t → is_link_number links ≡ u → leb (words links) (length ws) ≡ v
      → array ≡ elim t [ true ↦ elim u [ true ↦ elim v [ true ↦ Done | false ↦ ArrayShort ] | false ↦ BookBroken ] | false ↦ ArrayShort ]
  unfolding first_failing array_checks lent_of book_of
  answer_now t u v p q r = λ i. first_failing ((p i else ArrayShort) ∷ (q i else BookBroken) ∷ (r i else ArrayShort) ∷ [])

  pub too_short : length ws < words 1 → ArrayShort ≡ array
  too_short h = sym (answer_now false (is_link_number links) (leb (words links) (length ws)) (lt-leb (words 1) (length ws) h) refl refl)

  module _ (long : words 1 ≤ length ws) where
    long_is : leb (words 1) (length ws) ≡ true
    long_is = le-leb (words 1) (length ws) long

    pub no_link : links < 1 → BookBroken ≡ array
    unfolding is_link_number
    no_link h = sym (answer_now true false (leb (words links) (length ws)) long_is (rw (lt-leb 1 links h)) refl)

    pub many_links : most_links < links → BookBroken ≡ array
    unfolding is_link_number
    many_links h = sym (answer_now true false (leb (words links) (length ws)) long_is (let low : 1 ≤ links = omega arith in rw (le-leb 1 links low, lt-leb links most_links h)) refl)

    module _ (low : 1 ≤ links) (high : links ≤ most_links) where
      link : LinkNumber links
      link = record { low = low; high = high }

      pub short_for_links : length ws < words links → ArrayShort ≡ array
      short_for_links h = sym (answer_now true true false long_is (number_is link) (lt-leb (words links) (length ws) h))

      pub long_enough : words links ≤ length ws → Done ≡ array
      long_enough h = sym (answer_now true true true long_is (number_is link) (le-leb (words links) (length ws) h))

  -- what the array's checks say, with whatever checks behind them
  pub long_says : (checks : List Check) → Holding (array_checks (lent_of ws) checks) → Long (lent_of ws) × Holding checks
  unfolding array_checks
  long_says checks h = (record { shortest = leb→le (words 1) (lent_of ws).length h.0; number = h.1.0; enough = leb→le (words (lent_of ws).book.links) (lent_of ws).length h.1.1.0 }, h.1.1.1)

  pub array_fails : (others : List Check) (r : Refusal) → answer_as r ≡ array → answer_as r ≡ first_failing (array_checks (lent_of ws) others)
  unfolding array_checks
  array_fails others r e = early (array_checks (lent_of ws) []) others (answer_as r) e (refuses r)

  module _ (none_fails : Done ≡ array) where
    array_hold : Holding (array_checks (lent_of ws) [])
    unfolding array_checks is_done
    array_hold = each_holds (array_checks (lent_of ws) []) (refl, (refl, (refl, tt))) none_fails

    pub array_long : Long (lent_of ws)
    array_long = (long_says [] array_hold).0

    pub others_decide : (others : List Check) → first_failing (array_checks (lent_of ws) others) ≡ first_failing others
    unfolding array_checks
    others_decide others = late (array_checks (lent_of ws) []) others array_hold

    pub has_book : HasBook ws
    unfolding lent_of
    has_book = record { long = omega (arith, array_long.shortest, book_in_words 1) }

    pub has_link : LinkNumber links
    unfolding lent_of book_of
    has_link = link_number_lem links (truth (is_link_number links) array_long.number)

    -- the book's check, last of all
    book_decides : (t : Bool) → sound (book_of ws) ≡ t → elim t [ true ↦ Done | false ↦ BookBroken ] ≡ first_failing (array_checks (lent_of ws) ((sound (book_of ws) else BookBroken) ∷ []))
    unfolding first_failing
    book_decides t e = sym (others_decide ((sound (book_of ws) else BookBroken) ∷ []) ∙ ap (λ b. first_failing ((b else BookBroken) ∷ [])) e)

    pub book_right : sound (book_of ws) ≡ true → Done ≡ first_failing (array_checks (lent_of ws) ((sound (book_of ws) else BookBroken) ∷ []))
    book_right e = book_decides true e

    pub book_wrong : sound (book_of ws) ≡ false → BookBroken ≡ first_failing (array_checks (lent_of ws) ((sound (book_of ws) else BookBroken) ∷ []))
    book_wrong e = book_decides false e

    -- w is what the book test hands back
    pub book_answers : (w : Option ℕ) → w ≡ held_if_sound (book_of ws) → answer_in (ok_or w refusal.BookBroken) ≡ first_failing (array_checks (lent_of ws) ((sound (book_of ws) else BookBroken) ∷ []))
    book_answers None e = book_wrong (none_wrong ws e)
    book_answers (Some n) e = book_right (held_right ws n e)

    pub book_holds : (w : Option ℕ) → w ≡ held_if_sound (book_of ws) → IfOk (ok_or w refusal.BookBroken) (λ n. n ≡ held (queue_of (lent_of ws)))
    unfolding lent_of book_of
    book_holds None e = tt
    book_holds (Some n) e = weighed_held ws (sound_inside ws (held_right ws n e) array_long.enough) n e

-- ---- what the code's checks search by

pub ruleset of_array = (too_short, no_link, many_links, short_for_links, long_enough)

pub ruleset of_book = (handed_on, array_fails, has_book, book_answers, book_holds)
