-- What an insert's sweep or packing leaves over has its place, on every array with a sound book.
use Prim.Native.Nat.{ℕ, ◌≤◌, ◌<◌}
use mathlib.Core.Path.{◌≡◌, sym, subst}
use mathlib.Core.Bool.{true}
use mathlib.Core.List.{List}
use native.Mathlib.Omega.{arith}
use lib.Dec.{T}
use lib.ListN.{length}
use Rattle.rules.specs.Answers.{Done}
use Rattle.rules.specs.Links.{most, words}
use Rattle.rules.specs.Queue.{held}
use Rattle.rules.specs.Insert.{entered}
use Rattle.rules.specs.Rest.{HasPlace}
use Rattle.rules.specs.Book.{sound}
use Rattle.rules.specs.Calls.{queue_of}
use Rattle.rules.specs.Examples.{insert_of}
use Rattle.rules.proofs.BookLaws.{sound_says}
use Rattle.rules.proofs.InsertLaws.{now_has_place}
use Rattle.buffers.specs.Format.{links_in, book_of, lent_of}
use Rattle.buffers.proofs.Exact.{sound_inside}
use Rattle.queue.proofs.BookLaws.{describes, shaped}
use Rattle.demands.specs.Histories.{Call, Made}
use Rattle.demands.specs.Exact.{Answers, insert_done}
use Rattle.demands.proofs.AnswerLaws.{made_exactly}

-- a sound book, with fewer than H held
pub sound_has_place : (ws : List ℕ) → words (links_in ws) ≤ length ws → sound (book_of ws) ≡ true → held (queue_of (lent_of ws)) < most (links_in ws)
    → (entry : ℕ) → HasPlace (entered entry (queue_of (lent_of ws)))
unfolding queue_of lent_of book_of
sound_has_place ws long right less entry =
    let inside = sound_inside ws right long in
    let q = queue_of (lent_of ws) in
    now_has_place entry q (shaped ws inside) (sound_says (book_of ws) q (describes ws inside) (subst T (sym right) tt)) (omega (arith, less))

-- which is what an insert that is done finds
at_done : (ws : List ℕ) (work : ℕ) {entry : ℕ} → Answers work (lent_of ws) (insert_of entry) Done → HasPlace (entered entry (queue_of (lent_of ws)))
unfolding lent_of book_of
at_done ws work (insert_done entry so low less) = sound_has_place ws so.enough.its_own so.holds less entry

pub insert_has_place : (ws ws' : List ℕ) (c : Call) → Made ws c ws' → (entry : ℕ) → c.order ≡ insert_of entry → c.answer ≡ Done → HasPlace (entered entry (queue_of (lent_of ws)))
insert_has_place ws ws' c made entry is done =
    at_done ws c.work (subst (λ order. Answers c.work (lent_of ws) order Done) is ((made_exactly ws ws' c made Done).0 done))
