-- How long one call can run, on any words: nothing is known of them but what the call itself finds.
use Prim.Native.Nat.{ℕ, suc, ◌^◌, ◌≤◌, ◌<◌}
use mathlib.Core.Path.{◌≡◌, refl, subst}
use mathlib.Core.Logic.{◌⊎◌, inl, inr}
use mathlib.Core.List.{List}
use native.Mathlib.Omega.{arith}
use lib.Dec.{T, lit≤}
use Rattle.rules.specs.Answers.{Answer}
use Rattle.rules.specs.Longest.{longest_take, longest_insert, longest_call}
use Rattle.rules.specs.Book.{is_link_number, sound}
use Rattle.rules.specs.Calls.{Lent, Outcome, queue_of, refused}
use Rattle.rules.specs.Examples.{Order, setup_of, insert_of, take_it, look_at, held_now, audit_it, call}
use Rattle.rules.proofs.Tests.{truth}
use Rattle.rules.proofs.BookLaws.{Kept, sound_says}
use Rattle.rules.proofs.BookKept.{Shaped}
use Rattle.rules.proofs.LongestLaws.{take_longest, insert_longest}
use Rattle.rules.proofs.Accepted.{Refusal, Long, take_cases, look_cases, insert_call_cases, held_cases, audit_cases}
use Rattle.rules.specs.Tests.{every}
use Rattle.rules.specs.Links.{LinkNumber}
use Rattle.rules.proofs.Table.{at_most}
use Rattle.rules.proofs.BoundLaws.{is_link}
use Rattle.buffers.specs.Format.{links_in, book_of, lent_of}
use Rattle.buffers.proofs.Exact.{sound_inside}
use Rattle.queue.proofs.BookLaws.{describes, shaped}
use Rattle.demands.specs.Histories.{Call, Made}
use Rattle.demands.proofs.CallLaws.{setup_steps}

-- no call runs longer than eight digits can say
take_few : {l : ℕ} → LinkNumber l → longest_take l < 16 ^ 8
unfolding every longest_take
take_few = at_most (λ l. suc (longest_take l)) (16 ^ 8) tt

insert_few : {l : ℕ} → LinkNumber l → longest_insert l < 16 ^ 8
unfolding every longest_insert
insert_few = at_most (λ l. suc (longest_insert l)) (16 ^ 8) tt

few : (order : Order) {l : ℕ} → LinkNumber l → longest_call order l < 16 ^ 8
unfolding longest_call
few (setup_of l) h = lit≤ tt
few (insert_of entry) h = insert_few h
few take_it h = take_few h
few look_at h = take_few h
few held_now h = lit≤ tt
few audit_it h = lit≤ tt

-- ---- any array

module _ (ws : List ℕ) where
  abbrev a : Lent
  a = lent_of ws

  -- a call makes no step, or the array names a link number and it makes at most so many
  abbrev Runs : Order → Outcome → Type 0
  Runs order o = (o.steps ≡ 0) ⊎ (T (is_link_number (links_in ws)) × (o.steps ≤ longest_call order (links_in ws)))

  refused_runs : (order : Order) (answer : Answer) → Refusal answer → Runs order (refused answer (queue_of a))
  unfolding refused
  refused_runs order answer r = inl refl

  shape_of : Long a → T (sound (book_of ws)) → Shaped (queue_of a)
  unfolding lent_of book_of
  shape_of long holds = shaped ws (sound_inside ws (truth (sound (book_of ws)) holds) long.enough)

  kept_of : Long a → T (sound (book_of ws)) → Kept 7 (queue_of a)
  unfolding lent_of book_of
  kept_of long holds = sound_says (book_of ws) (queue_of a) (describes ws (sound_inside ws (truth (sound (book_of ws)) holds) long.enough)) holds

  runs : (work : ℕ) (order : Order) → Runs order (call work order a)
  unfolding call longest_call lent_of queue_of book_of
  runs work (setup_of l) = inl (setup_steps a l)
  runs work (insert_of entry) =
      insert_call_cases a (Runs (insert_of entry)) (refused_runs (insert_of entry)) work entry (λ may.
      let kept = kept_of may.long may.holds in
      inr (kept.number, insert_longest entry (queue_of a) (shape_of may.long may.holds) kept may.not_full))
  runs work take_it =
      take_cases a (Runs take_it) (refused_runs take_it) (λ may.
      let kept = kept_of may.long may.holds in
      inr (kept.number, take_longest 7 (queue_of a) (shape_of may.long may.holds) kept))
  runs work look_at =
      look_cases a (Runs look_at) (refused_runs look_at) (λ may.
      let kept = kept_of may.long may.holds in
      inr (kept.number, take_longest 7 (queue_of a) (shape_of may.long may.holds) kept))
  runs work held_now = held_cases a (Runs held_now) (refused_runs held_now) (λ long holds. inl refl)
  runs work audit_it = audit_cases a (Runs audit_it) (refused_runs audit_it) (λ long holds order. inl refl)

  -- a call's steps are at most the longest's
  pub call_longest : (work : ℕ) (order : Order) → (call work order a).steps ≤ longest_call order (links_in ws)
  call_longest work order = elim (runs work order) [ inl none ↦ omega (arith, none) | inr some ↦ some.1 ]

  -- "steps, 8": they have at most eight hexadecimal digits
  call_few : (work : ℕ) (order : Order) → (call work order a).steps < 16 ^ 8
  call_few work order =
      elim (runs work order) [
        | inl none ↦ omega (arith, none)
        | inr some ↦ omega (arith, some.1, few order (is_link (links_in ws) some.0))
      ]

module _ (ws ws' : List ℕ) (c : Call) (made : Made ws c ws') where
  -- of a call that was made
  pub made_longest : c.steps ≤ longest_call c.order (links_in ws)
  made_longest = omega (arith, made.called.steps_are, call_longest ws c.work c.order)

  -- "steps, 8"
  pub eight_digits : c.steps < 16 ^ 8
  eight_digits = omega (arith, made.called.steps_are, call_few ws c.work c.order)

-- the rows, from the two formulas
pub take_rows : (l t : ℕ) → t ≤ longest_take l → (l ≡ 1 → t ≤ 16) × (l ≡ 2 → t ≤ 224) × (l ≡ 3 → t ≤ 2396) × (l ≡ 4 → t ≤ 23500)
unfolding longest_take
take_rows l t h =
    let at : (m : ℕ) → l ≡ m → t ≤ longest_take m = λ m e. subst (λ l. t ≤ longest_take l) e h in
    (λ e. omega (arith, at 1 e), λ e. omega (arith, at 2 e), λ e. omega (arith, at 3 e), λ e. omega (arith, at 4 e))

pub insert_rows : (l t : ℕ) → t ≤ longest_insert l → (l ≡ 1 → t ≤ 16) × (l ≡ 2 → t ≤ 352) × (l ≡ 3 → t ≤ 5712) × (l ≡ 4 → t ≤ 138176)
unfolding longest_insert
insert_rows l t h =
    let at : (m : ℕ) → l ≡ m → t ≤ longest_insert m = λ m e. subst (λ l. t ≤ longest_insert l) e h in
    (λ e. omega (arith, at 1 e), λ e. omega (arith, at 2 e), λ e. omega (arith, at 3 e), λ e. omega (arith, at 4 e))

module _ (ws ws' : List ℕ) (c : Call) (made : Made ws c ws') where
  pub taken_rows : (c.order ≡ take_it) ⊎ (c.order ≡ look_at)
      → (links_in ws ≡ 1 → c.steps ≤ 16) × (links_in ws ≡ 2 → c.steps ≤ 224) × (links_in ws ≡ 3 → c.steps ≤ 2396) × (links_in ws ≡ 4 → c.steps ≤ 23500)
  unfolding longest_call
  taken_rows (inl is) = take_rows (links_in ws) c.steps (rw is at (made_longest ws ws' c made))
  taken_rows (inr is) = take_rows (links_in ws) c.steps (rw is at (made_longest ws ws' c made))

  pub inserted_rows : (entry : ℕ) → c.order ≡ insert_of entry
      → (links_in ws ≡ 1 → c.steps ≤ 16) × (links_in ws ≡ 2 → c.steps ≤ 352) × (links_in ws ≡ 3 → c.steps ≤ 5712) × (links_in ws ≡ 4 → c.steps ≤ 138176)
  unfolding longest_call
  inserted_rows entry is = insert_rows (links_in ws) c.steps (rw is at (made_longest ws ws' c made))
