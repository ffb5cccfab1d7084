-- Each call in two cases: refused by the first check that fails, or accepted with all that its checks say.
use Prim.Native.Nat.{ℕ, ◌≤◌, ◌<◌}
use mathlib.Core.Path.{◌≡◌, refl}
use mathlib.Core.Bool.{Bool, true, false, not}
use mathlib.Core.List.{List, [], ◌∷◌}
use lib.Dec.{T, leb, ltb, leb→le, ltb→lt, T_not}
use Rattle.rules.specs.Answers.{Answer, Done, NoSuchLinks, ArrayShort, WorkShort, BookBroken, Full, NoneHeld, DoorAbove, OrderBroken, is_done}
use Rattle.rules.specs.Entries.{door}
use Rattle.rules.specs.Links.{most, words}
use Rattle.rules.specs.Tree.{tree_of}
use Rattle.rules.specs.Take.{ready, take_one}
use Rattle.rules.specs.Queue.{Queue, key_of, held, fresh}
use Rattle.rules.specs.Insert.{inserted}
use Rattle.rules.specs.Order.{in_order}
use Rattle.rules.specs.Book.{is_link_number, sound}
use Rattle.rules.specs.Calls.{Lent, queue_of, Outcome, Check, ◌else◌, first_failing, refused, unless, array_checks, setup, insert, insert_checks, take_checks, the_entry, with_buffers, take, look, held_call, audit}

-- ---- checks

-- where the first of these checks to fail is none, the first holds, and of the others none fails
check_holds : (holds : Bool) (refusal : Answer) (others : List Check) → T (not (is_done refusal)) → T (is_done (first_failing ((holds else refusal) ∷ others)))
    → T holds × T (is_done (first_failing others))
unfolding first_failing
check_holds true refusal others refuses t = (tt, t)
check_holds false refusal others refuses t = absurd (T_not (is_done refusal) refuses t)

-- "Every refusal changes nothing"
pub unless_cases : (failing : Answer) (q : Queue) (accepted : Outcome) (P : Outcome → Type 0)
    → (T (is_done failing) → P accepted) → (T (not (is_done failing)) → P (refused failing q)) → P (unless failing q accepted)
unfolding unless
unless_cases failing q accepted P yes_case no_case = go (is_done failing) refl
  where
    go : (b : Bool) → is_done failing ≡ b → P (elim b [ true ↦ accepted | false ↦ refused failing q ])
    go true e = yes_case (rw e tt)
    go false e = no_case (rw e tt)

-- "all others: 2 (296 words), 4 (link number), 2 (its L)"
pub record Long (a : Lent) : Type 0 where
  pub shortest : words 1 ≤ a.length
  pub number : T (is_link_number a.book.links)
  pub enough : words a.book.links ≤ a.length

array_holds : (a : Lent) (checks : List Check) → T (is_done (first_failing (array_checks a checks))) → Long a × T (is_done (first_failing checks))
unfolding array_checks is_done
array_holds a checks t =
    let l = a.book.links in
    let third = (leb (words l) a.length else ArrayShort) ∷ checks in
    let one = check_holds (leb (words 1) a.length) ArrayShort ((is_link_number l else BookBroken) ∷ third) tt t in
    let two = check_holds (is_link_number l) BookBroken third tt one.1 in
    let three = check_holds (leb (words l) a.length) ArrayShort checks tt two.1 in
    (record { shortest = leb→le (words 1) a.length one.0; number = two.0; enough = leb→le (words l) a.length three.0 }, three.1)

-- ---- the calls

-- what the answer of a refused call is
pub record Refusal (answer : Answer) : Type 0 where
  pub not_done : T (not (is_done answer))

-- "setup 1, 2"
pub setup_cases : (links : ℕ) (a : Lent) (P : Outcome → Type 0)
    → (T (is_link_number links) → words links ≤ a.length → P (record { answer = Done; word = 0; steps = 0; packed = false; queue = fresh links }))
    → ((answer : Answer) → Refusal answer → P (refused answer (queue_of a))) → P (setup links a)
unfolding setup is_done
setup_cases links a P accepted no_case =
    let second = (leb (words links) a.length else ArrayShort) ∷ [] in
    let checks = (is_link_number links else NoSuchLinks) ∷ second in
    unless_cases (first_failing checks) (queue_of a) (record { answer = Done; word = 0; steps = 0; packed = false; queue = fresh links }) P
    (λ t.
    let one = check_holds (is_link_number links) NoSuchLinks second tt t in
    let two = check_holds (leb (words links) a.length) ArrayShort [] tt one.1 in
    accepted one.0 (leb→le (words links) a.length two.0))
    (λ t. no_case (first_failing checks) (record { not_done = t }))

-- "take and look 4, 6"
pub record MayTake (a : Lent) : Type 0 where
  pub long : Long a
  pub holds : T (sound a.book)
  pub some : 0 < held (queue_of a)

take_holds : (a : Lent) → T (is_done (first_failing (take_checks a))) → MayTake a
unfolding take_checks is_done
take_holds a t =
    let q = queue_of a in
    let second = (ltb 0 (held q) else NoneHeld) ∷ [] in
    let z = array_holds a ((sound a.book else BookBroken) ∷ second) t in
    let one = check_holds (sound a.book) BookBroken second tt z.1 in
    let two = check_holds (ltb 0 (held q)) NoneHeld [] tt one.1 in
    record { long = z.0; holds = one.0; some = ltb→lt 0 (held q) two.0 }

-- "then insert 3, 4, 7, 5"
pub record MayInsert (work entry : ℕ) (a : Lent) : Type 0 where
  pub long : Long a
  pub room : most a.book.links ≤ work
  pub holds : T (sound a.book)
  pub door_known : door entry ≤ 2
  pub not_full : held (queue_of a) < most (queue_of a).links

module _ (work entry : ℕ) (a : Lent) where
  abbrev links : ℕ
  links = (queue_of a).links

  insert_holds : T (is_done (first_failing (insert_checks work entry a))) → MayInsert work entry a
  unfolding is_done queue_of insert_checks
  insert_holds t =
      let q = queue_of a in
      let c₄ = (ltb (held q) (most links) else Full) ∷ [] in
      let c₃ = (leb (door entry) 2 else DoorAbove) ∷ c₄ in
      let c₂ = (sound a.book else BookBroken) ∷ c₃ in
      let z = array_holds a ((leb (most links) work else WorkShort) ∷ c₂) t in
      let one = check_holds (leb (most links) work) WorkShort c₂ tt z.1 in
      let two = check_holds (sound a.book) BookBroken c₃ tt one.1 in
      let three = check_holds (leb (door entry) 2) DoorAbove c₄ tt two.1 in
      let four = check_holds (ltb (held q) (most links)) Full [] tt three.1 in
      record {
        long = z.0;
        room = leb→le (most links) work one.0;
        holds = two.0;
        door_known = leb→le (door entry) 2 three.0;
        not_full = ltb→lt (held q) (most links) four.0;
      }

module _ (a : Lent) (P : Outcome → Type 0) (no_case : (answer : Answer) → Refusal answer → P (refused answer (queue_of a))) where
  abbrev q : Queue
  q = queue_of a

  pub take_cases : (MayTake a → let z = take_one (key_of q) (tree_of q.links) q.buffers in
      P (record { answer = Done; word = the_entry z.out; steps = z.steps; packed = false; queue = with_buffers q z.buffers })) → P (take a)
  unfolding take
  take_cases accepted =
      let z = take_one (key_of q) (tree_of q.links) q.buffers in
      unless_cases (first_failing (take_checks a)) q (record { answer = Done; word = the_entry z.out; steps = z.steps; packed = false; queue = with_buffers q z.buffers }) P
      (λ t. accepted (take_holds a t)) (λ t. no_case (first_failing (take_checks a)) (record { not_done = t }))

  -- "Look does the same and removes nothing."
  pub look_cases : (MayTake a → let z = take_one (key_of q) (tree_of q.links) q.buffers in
      P (record { answer = Done; word = the_entry z.out; steps = z.steps; packed = false; queue = with_buffers q (ready (key_of q) (tree_of q.links) q.buffers).buffers }))
      → P (look a)
  unfolding look
  look_cases accepted =
      let z = take_one (key_of q) (tree_of q.links) q.buffers in
      let now = ready (key_of q) (tree_of q.links) q.buffers in
      unless_cases (first_failing (take_checks a)) q (record { answer = Done; word = the_entry z.out; steps = z.steps; packed = false; queue = with_buffers q now.buffers }) P
      (λ t. accepted (take_holds a t)) (λ t. no_case (first_failing (take_checks a)) (record { not_done = t }))

  pub insert_call_cases : (work entry : ℕ) → (MayInsert work entry a → let z = inserted entry q in
      P (record { answer = Done; word = 0; steps = z.steps; packed = z.packed; queue = z.queue })) → P (insert work entry a)
  unfolding insert
  insert_call_cases work entry accepted =
      let z = inserted entry q in
      unless_cases (first_failing (insert_checks work entry a)) q (record { answer = Done; word = 0; steps = z.steps; packed = z.packed; queue = z.queue }) P
      (λ t. accepted (insert_holds work entry a t)) (λ t. no_case (first_failing (insert_checks work entry a)) (record { not_done = t }))

  -- "held 4"
  pub held_cases : (Long a → T (sound a.book) → P (record { answer = Done; word = held q; steps = 0; packed = false; queue = q })) → P (held_call a)
  unfolding held_call is_done
  held_cases accepted =
      let checks = (sound a.book else BookBroken) ∷ [] in
      unless_cases (first_failing (array_checks a checks)) q (record { answer = Done; word = held q; steps = 0; packed = false; queue = q }) P
      (λ t. let z = array_holds a checks t in accepted z.0 (check_holds (sound a.book) BookBroken [] tt z.1).0)
      (λ t. no_case (first_failing (array_checks a checks)) (record { not_done = t }))

  -- "audit 4, 9"
  pub audit_cases : (Long a → T (sound a.book) → T (in_order (key_of q) (tree_of q.links) q.buffers) → P (record { answer = Done; word = 0; steps = 0; packed = false; queue = q }))
      → P (audit a)
  unfolding audit is_done
  audit_cases accepted =
      let order = in_order (key_of q) (tree_of q.links) q.buffers in
      let second = (order else OrderBroken) ∷ [] in
      let checks = (sound a.book else BookBroken) ∷ second in
      unless_cases (first_failing (array_checks a checks)) q (record { answer = Done; word = 0; steps = 0; packed = false; queue = q }) P
      (λ t.
      let z = array_holds a checks t in
      let one = check_holds (sound a.book) BookBroken second tt z.1 in
      let two = check_holds order OrderBroken [] tt one.1 in
      accepted z.0 one.0 two.0)
      (λ t. no_case (first_failing (array_checks a checks)) (record { not_done = t }))
