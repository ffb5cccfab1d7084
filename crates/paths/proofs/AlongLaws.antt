-- Where a buffer lies, by its number; the counts on a path, and the run along it.
use mathlib.Core.Path.{◌≡◌, refl, sym, ap, ◌∙◌}
use mathlib.Core.List.{List, [], ◌∷◌, ◌++◌, map, map-append}
use Prim.Native.Nat.{ℕ, suc, ◌+◌, ◌-◌, ◌≤◌, ◌<◌}
use native.Mathlib.Omega.{arith}
use native.Mathlib.Numerals.{add-one}
use lib.ListN.{length, take, drop, get_or, set, get_or-map, length-append, drop_of_length-le, take-append-drop}
use lib.Seq.{take_at, take_all, take-suc, take-suc-set, drop-cons, get_or-take, get_or-drop, map-set_same, length-take-le}
use Rattle.std.proofs.lemmas.List.{length-map, map-set, drop-map}
use Rattle.rules.specs.Links.{LinkNumber, k, first, start, offset, buffer_count, most_links, all_buffers, book_words, path_room, InLink}
use Rattle.rules.specs.Sweep.{counts, run_along}
use Rattle.rules.proofs.Sizes.{first_next}
use Rattle.rules.proofs.Table.{in_link}
use Rattle.buffers.specs.Slots.{base}
use Rattle.buffers.specs.Format.{buffer_of, buffers_of}
use Rattle.buffers.specs.Post.{Has}
use Rattle.buffers.proofs.SlotLaws.{base_is}
use Rattle.buffers.proofs.ArrayLaws.{has, buffer_length, buffers_at}
use Rattle.runs.specs.Promises.{laid_at}
use Rattle.runs.proofs.LayingLaws.{length_laid, laid_none, laid_on}
use Rattle.paths.specs.declared.Step.{Step}
use Rattle.paths.specs.Way.{numbers_of, counts_of}
use Rattle.paths.specs.Along.{Number, LinkOf, OnPath, Noting, Noted, Copying, Copied, along_from, Gathering}

-- ---- the link of a number

-- the number stands before the next link
pub record Below (n i : ℕ) : Type 0 where
  pub link : LinkNumber i
  pub high : n < first (suc i)

pub below_all : {n : ℕ} → Number n → Below n most_links
unfolding all_buffers buffer_count
below_all h = record { link = record { low = omega arith; high = omega arith }; high = h.few }

-- and not before this link
pub below_here : {n i : ℕ} → Below n i → first i ≤ n → LinkOf n i
below_here {n} {i} b low = record { link = b.link; low = low; high = omega (arith, b.high, first_next i b.link.low) }

-- link 1 begins at 1
pub below_first : {n i : ℕ} → Number n → Below n i → i ≤ 1 → LinkOf n 1
unfolding first
below_first {n} {i} h b few =
    let e : i ≡ 1 = omega (arith, b.link.low) in
    let z : Below n 1 = rw e at b in
    below_here z h.low

-- ---- where a buffer lies

module _ {n i : ℕ} (h : LinkOf n i) (i' first' : ℕ) (e₁ : i' ≡ i) (e₂ : first' ≡ first i) where
  here : InLink i (n - first i)
  here = in_link h.link (omega (arith, h.low, h.high))

  pub link_in : InLink i' (n - first')
  link_in = rw (e₁, e₂) here

  pub link_base : (slot : ℕ) → slot ≡ start i' + offset i' (n - first') → book_words + slot ≡ base n
  link_base slot e =
      let back : first i + (n - first i) ≡ n = omega (arith, h.low) in
      rw (e, e₁, e₂) (sym (base_is here) ∙ ap base back)

-- ---- on a path

module _ {ws ns : List ℕ} {n : ℕ} (h : OnPath ws ns n) where
  pub path_has : (t : ℕ) → t < n → Has ws (get_or ns t 0)
  path_has t less = has ws (get_or ns t 0) h.array (h.each t less)

  pub path_buffer : (t : ℕ) → t < n → get_or (buffers_of ws) (get_or ns t 0) [] ≡ buffer_of ws (get_or ns t 0)
  path_buffer t less = buffers_at ws (get_or ns t 0) (h.each t less)

  path_long : length (take n ns) ≡ n
  path_long = length-take-le n ns (omega (arith, h.long, h.few))

  -- from one place of it on
  pub path_next : (t : ℕ) → t < n → drop t (take n ns) ≡ get_or ns t 0 ∷ drop (t + 1) (take n ns)
  path_next t less = drop-cons (take n ns) t 0 (omega (arith, path_long)) ∙ rw (get_or-take n ns t 0 less, add-one)

  pub path_end : (t : ℕ) → n ≤ t → drop t (take n ns) ≡ []
  path_end t all = let past : length (take n ns) ≤ t = omega (arith, path_long) in drop_of_length-le (take n ns) past

-- ---- its steps

-- what stands at the t-th of the first steps
module _ (steps : List Step) (k t : ℕ) (less : t < k) where
  pub buffer_at : (get_or (take k steps) t (record { buffer = 0; count = 0 })).buffer ≡ get_or (numbers_of steps) t 0
  buffer_at =
      let none : Step = record { buffer = 0; count = 0 } in
      ap (λ (step : Step). step.buffer) (get_or-take k steps t none less) ∙ sym (get_or-map (λ (step : Step). step.buffer) steps t none)

  pub count_at : (get_or (take k steps) t (record { buffer = 0; count = 0 })).count ≡ get_or (counts_of steps) t 0
  count_at =
      let none : Step = record { buffer = 0; count = 0 } in
      ap (λ (step : Step). step.count) (get_or-take k steps t none less) ∙ sym (get_or-map (λ (step : Step). step.count) steps t none)

pub buffer_last : (steps : List Step) (k t : ℕ) → t ≡ k → (get_or steps k (record { buffer = 0; count = 0 })).buffer ≡ get_or (numbers_of steps) t 0
buffer_last steps k t e = let none : Step = record { buffer = 0; count = 0 } in sym (get_or-map (λ (step : Step). step.buffer) steps k none) ∙ ap (λ n. get_or (numbers_of steps) n 0) (sym e)

-- and of those from one of them on
pub buffer_from : (steps : List Step) (from k t : ℕ) → t < k → (get_or (take k (drop from steps)) t (record { buffer = 0; count = 0 })).buffer ≡ get_or (numbers_of steps) (from + t) 0
buffer_from steps from k t less =
    buffer_at (drop from steps) k t less ∙ ap (λ l. get_or l t 0) (sym (drop-map (λ (step : Step). step.buffer) from steps)) ∙ get_or-drop from (numbers_of steps) t 0

-- ---- the counts on it

-- t of them are noted
pub record Notes (ws : List ℕ) (steps₀ steps : List Step) (t : ℕ) : Type 0 where
  pub same : numbers_of steps ≡ numbers_of steps₀
  pub are : take t (counts_of steps) ≡ counts (take t (numbers_of steps)) (buffers_of ws)

pub notes_first : (ws : List ℕ) (steps : List Step) → Notes ws steps steps 0
unfolding counts
notes_first ws steps = record { same = refl; are = refl }

module _ {ws cs : List ℕ} {n t : ℕ} (all steps : List Step) (h : Noting ws (numbers_of all) n cs) (z : Notes ws (take n all) steps t) (less : t < n) where
  abbrev number : ℕ
  number = (get_or steps t (record { buffer = 0; count = 0 })).buffer

  long_steps : length steps ≡ n
  long_steps =
      let inside : n ≤ length all = omega (arith, h.path.long, h.path.few, length-map all (λ (step : Step). step.buffer)) in
      sym (length-map steps (λ (step : Step). step.buffer)) ∙ ap length z.same ∙ length-map (take n all) (λ (step : Step). step.buffer) ∙ length-take-le n all inside

  number_is : number ≡ get_or (numbers_of all) t 0
  number_is =
      let none : Step = record { buffer = 0; count = 0 } in
      sym (get_or-map (λ (step : Step). step.buffer) steps t none) ∙ ap (λ l. get_or l t 0) z.same ∙ get_or-map (λ (step : Step). step.buffer) (take n all) t none ∙ buffer_at all n t less

  pub notes_asks : Has ws number
  notes_asks = rw number_is (path_has h.path t less)

  pub notes_next : (v : ℕ) → v ≡ length (buffer_of ws number) → Notes ws (take n all) (set steps t (record { buffer = number; count = v })) (t + 1)
  unfolding counts
  notes_next v e =
      let none : Step = record { buffer = 0; count = 0 } in
      let step : Step = record { buffer = number; count = v } in
      let f : ℕ → ℕ = λ m. length (get_or (buffers_of ws) m []) in
      let kept : numbers_of (set steps t step) ≡ numbers_of steps = map-set_same (λ (step : Step). step.buffer) steps t step none refl in
      let put : counts_of (set steps t step) ≡ set (counts_of steps) t v = map-set (λ (step : Step). step.count) steps t step in
      let at : get_or (numbers_of steps) t 0 ≡ get_or (numbers_of all) t 0 = get_or-map (λ (step : Step). step.buffer) steps t none ∙ number_is in
      let one : v ∷ [] ≡ map f (get_or (numbers_of steps) t 0 ∷ []) = ap (λ m. m ∷ []) (e ∙ rw (number_is, at) (ap length (sym (path_buffer h.path t less)))) in
      let room_counts : t < length (counts_of steps) = omega (arith, length-map steps (λ (step : Step). step.count), long_steps) in
      let room_numbers : t < length (numbers_of steps) = omega (arith, length-map steps (λ (step : Step). step.buffer), long_steps) in
      record {
        same = kept ∙ z.same;
        are = rw (put, kept, add-one, take-suc-set (counts_of steps) t v room_counts, take-suc (numbers_of steps) t 0 room_numbers, z.are, one) (sym (map-append f (take t (numbers_of steps)) (get_or (numbers_of steps) t 0 ∷ [])));
      }

module _ {ws cs : List ℕ} {n t : ℕ} (all steps : List Step) (h : Noting ws (numbers_of all) n cs) (z : Notes ws (take n all) steps t) where
  -- the other steps stand behind those that were noted
  pub noted_numbers : numbers_of (steps ++ drop n all) ≡ numbers_of all
  noted_numbers =
      let f : Step → ℕ = λ (step : Step). step.buffer in
      map-append f steps (drop n all) ∙ ap (λ l. l ++ map f (drop n all)) z.same ∙ sym (map-append f (take n all) (drop n all)) ∙ ap (map f) (take-append-drop n all)

  pub noted_all : n ≤ t → length steps ≡ n → Noted ws (numbers_of (steps ++ drop n all)) n (counts_of (steps ++ drop n all))
  noted_all past long =
      let f : Step → ℕ = λ (step : Step). step.buffer in
      let g : Step → ℕ = λ (step : Step). step.count in
      let whole : length (steps ++ drop n all) ≡ path_room = sym (length-map (steps ++ drop n all) f) ∙ ap length noted_numbers ∙ h.path.long in
      let long_f : length (map f steps) ≡ n = length-map steps f ∙ long in
      let long_g : length (map g steps) ≡ n = length-map steps g ∙ long in
      let numbers : take n (numbers_of (steps ++ drop n all)) ≡ map f steps = ap (take n) (map-append f steps (drop n all)) ∙ take_at (map f steps) (map f (drop n all)) n long_f in
      let noted : take n (counts_of (steps ++ drop n all)) ≡ map g steps = ap (take n) (map-append g steps (drop n all)) ∙ take_at (map g steps) (map g (drop n all)) n long_g in
      let are : map g steps ≡ counts (map f steps) (buffers_of ws) =
      sym (take_all t (map g steps) (omega (arith, long_g))) ∙ z.are ∙ ap (λ l. counts l (buffers_of ws)) (take_all t (map f steps) (omega (arith, long_f))) in
      record { long = length-map (steps ++ drop n all) g ∙ whole; are = noted ∙ are ∙ ap (λ l. counts l (buffers_of ws)) (sym numbers) }

-- ---- the run along it

-- the rest, laid behind what is copied, is the whole
pub record Gathers (ws ns : List ℕ) (from n : ℕ) (work₀ work : List ℕ) (at copied t : ℕ) : Type 0 where
  pub low : from ≤ t
  pub high : t ≤ n
  pub sized : length work ≡ length work₀
  pub all : copied + length (along_from ws ns t n) ≡ length (along_from ws ns from n)
  pub laid : laid_at work (at + copied) (along_from ws ns t n) ≡ laid_at work₀ at (along_from ws ns from n)

module _ {ws ns : List ℕ} {from n : ℕ} {work₀ work : List ℕ} {at copied t : ℕ} (h : Gathering ws ns from n work₀ at) (z : Gathers ws ns from n work₀ work at copied t) where
  module _ (less : t < n) (b : ℕ) (b_is : b ≡ get_or ns t 0) where
    along_next : along_from ws ns t n ≡ buffer_of ws b ++ along_from ws ns (t + 1) n
    unfolding run_along
    along_next = rw b_is (ap (λ l. run_along l (buffers_of ws)) (path_next h.path t less) ∙ ap (λ l. l ++ along_from ws ns (t + 1) n) (path_buffer h.path t less))

    split : length (along_from ws ns t n) ≡ length (buffer_of ws b) + length (along_from ws ns (t + 1) n)
    split = ap length along_next ∙ length-append (buffer_of ws b) (along_from ws ns (t + 1) n)

    pub gathers_fits : at + copied + length (buffer_of ws b) ≤ length work₀
    gathers_fits = omega (arith, split, h.room, z.all)

    pub gathers_asks : Copying ws b work (at + copied)
    gathers_asks = let of : Has ws b = rw b_is (path_has h.path t less) in record { of = of; room = omega (arith, gathers_fits, z.sized, buffer_length ws b of) }

    pub gathers_next : (work' : List ℕ) (r : ℕ) → Copied (buffer_of ws b) work work' (at + copied) r → (t' : ℕ) → t' ≡ t + 1 → Gathers ws ns from n work₀ work' at (copied + r) t'
    gathers_next work' r c t' next =
        let es = buffer_of ws b in
        let rest = along_from ws ns (t + 1) n in
        let fits : at + copied + length es ≤ length work = omega (arith, gathers_fits, z.sized) in
        let place : at + (copied + r) ≡ at + copied + length es = omega (arith, c.many) in
        rw next (record {
          low = omega (arith, z.low);
          high = omega arith;
          sized = ap length c.laid ∙ length_laid work (at + copied) es fits ∙ z.sized;
          all = omega (arith, z.all, split, c.many);
          laid = ap (λ l. laid_at l (at + (copied + r)) rest) c.laid ∙ laid_on work (at + copied) es rest (at + (copied + r)) place (omega arith)
              ∙ ap (laid_at work (at + copied)) (sym along_next) ∙ z.laid;
        })

  pub gathers_last : n ≤ t → Copied (along_from ws ns from n) work₀ work at copied
  unfolding run_along
  gathers_last all =
      let none : along_from ws ns t n ≡ [] = ap (λ l. run_along l (buffers_of ws)) (path_end h.path t all) in
      let none_long : length (along_from ws ns t n) ≡ 0 = ap length none in
      record { many = omega (arith, z.all); laid = laid_none work (at + copied) ∙ ap (laid_at work (at + copied)) (sym none) ∙ z.laid }
