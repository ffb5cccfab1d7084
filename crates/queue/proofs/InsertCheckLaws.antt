-- The checks of insert, one after the other.
use Prim.Native.Nat.{ℕ, suc, ◌/◌, ◌%◌, ◌≤◌, ◌<◌}
use mathlib.Core.Path.{◌≡◌, refl, sym, ◌∙◌}
use mathlib.Core.Bool.{Bool, true, false}
use mathlib.Core.List.{List, [], ◌∷◌}
use native.Mathlib.Omega.{arith}
use borrow.Author.Tests.{le-leb, lt-leb}
use lib.Dec.{leb, ltb}
use Rattle.std.specs.Prelude.{Some, None}
use Rattle.rules.specs.declared.Refusal.{Refusal}
use Rattle.rules.specs.Answers.{Done, WorkShort, BookBroken, Full, DoorAbove, answer_as}
use Rattle.rules.specs.Entries.{door}
use Rattle.rules.specs.Links.{most}
use Rattle.rules.specs.Queue.{Queue, held}
use Rattle.rules.specs.Book.{sound}
use Rattle.rules.specs.Calls.{Check, ◌else◌, first_failing, array_checks, insert_checks, queue_of}
use Rattle.buffers.specs.Format.{links_in, book_of, lent_of}
use Rattle.buffers.specs.Weights.{held_if_sound}
use Rattle.buffers.proofs.Exact.{sound_inside, none_wrong, held_right}
use Rattle.queue.proofs.CheckLaws.{handed_on, has_book, has_link, array_fails, array_long, others_decide}
use Rattle.queue.proofs.BookLaws.{weighed_held}

-- "then insert 3, 4, 7, 5"
abbrev four : Bool → Bool → Bool → Bool → List Check
four t u v w = (t else WorkShort) ∷ (u else BookBroken) ∷ (v else DoorAbove) ∷ (w else Full) ∷ []

abbrev q : List ℕ → Queue
q ws = queue_of (lent_of ws)

module _ (ws : List ℕ) (work entry : ℕ) where
  abbrev others : List Check
  others = four (leb (most (links_in ws)) work) (sound (book_of ws)) (leb (door entry) 2) (ltb (held (q ws)) (most (links_in ws)))

  all_checks : first_failing (array_checks (lent_of ws) others) ≡ first_failing (insert_checks work entry (lent_of ws))
  unfolding insert_checks queue_of lent_of book_of
  all_checks = refl

  -- r is what the array's checks answer
  pub insert_array_fails : (r : Refusal) → answer_as r ≡ first_failing (array_checks (lent_of ws) []) → answer_as r ≡ first_failing (insert_checks work entry (lent_of ws))
  insert_array_fails r r_is = array_fails ws others r r_is ∙ all_checks

  module _ (none_fails : Done ≡ first_failing (array_checks (lent_of ws) [])) where
    others_now : (t u v w : Bool) → leb (most (links_in ws)) work ≡ t → sound (book_of ws) ≡ u → leb (door entry) 2 ≡ v → ltb (held (q ws)) (most (links_in ws)) ≡ w
        → first_failing (four t u v w) ≡ first_failing (insert_checks work entry (lent_of ws))
    others_now t u v w a b c d = sym (λ i. first_failing (four (a i) (b i) (c i) (d i))) ∙ sym (others_decide ws none_fails others) ∙ all_checks

    -- "3 | work area too short"
    pub insert_work_short : work < most (links_in ws) → WorkShort ≡ first_failing (insert_checks work entry (lent_of ws))
    unfolding first_failing
    insert_work_short h = others_now false _ _ _ (lt-leb (most (links_in ws)) work h) refl refl refl

    -- w is what the book test hands back
    pub insert_book_wrong : most (links_in ws) ≤ work → None ≡ held_if_sound (book_of ws) → BookBroken ≡ first_failing (insert_checks work entry (lent_of ws))
    unfolding first_failing
    insert_book_wrong room e = others_now true false _ _ (le-leb (most (links_in ws)) work room) (none_wrong ws e) refl refl

    -- the book test has handed n back
    module _ (room : most (links_in ws) ≤ work) (n : ℕ) (n_is : Some n ≡ held_if_sound (book_of ws)) where
      last_checks : (v w : Bool) → leb (door entry) 2 ≡ v → ltb (held (q ws)) (most (links_in ws)) ≡ w → first_failing (four true true v w) ≡ first_failing (insert_checks work entry (lent_of ws))
      last_checks v w c d = others_now true true v w (le-leb (most (links_in ws)) work room) (held_right ws n n_is) c d

      -- "7 | door above 2"
      pub insert_door_above : 2 < entry / 16777216 % 256 → DoorAbove ≡ first_failing (insert_checks work entry (lent_of ws))
      unfolding first_failing door
      insert_door_above above = last_checks false _ (lt-leb (door entry) 2 above) refl

      module _ (known : entry / 16777216 % 256 ≤ 2) where
        door_is : leb (door entry) 2 ≡ true
        unfolding door
        door_is = le-leb (door entry) 2 known

        held_is : held (q ws) ≡ n
        unfolding lent_of book_of
        held_is = sym (weighed_held ws (sound_inside ws (held_right ws n n_is) (array_long ws none_fails).enough) n n_is)

        -- "5 | queue full"
        pub insert_full : most (links_in ws) ≤ n → Full ≡ first_failing (insert_checks work entry (lent_of ws))
        unfolding first_failing
        insert_full full = last_checks true false door_is (lt-leb (suc (held (q ws))) (most (links_in ws)) (omega (arith, held_is)))

        pub insert_done : n < most (links_in ws) → Done ≡ first_failing (insert_checks work entry (lent_of ws))
        unfolding first_failing
        insert_done few = last_checks true true door_is (le-leb (suc (held (q ws))) (most (links_in ws)) (omega (arith, held_is)))

-- what the code's checks search by
pub ruleset of_insert = (handed_on, has_book, has_link, insert_array_fails, insert_work_short, insert_book_wrong, insert_door_above, insert_full, insert_done)
