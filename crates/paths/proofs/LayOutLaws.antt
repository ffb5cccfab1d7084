-- Buffers emptied one behind the other, and the parts of a run laid into those behind them.
use mathlib.Core.Path.{◌≡◌, sym, ap, ◌∙◌}
use mathlib.Core.List.{List, [], ◌∷◌, ◌++◌, append-nil}
use Prim.Native.Nat.{ℕ, zero, suc, ◌+◌, ◌-◌, ◌*◌, ◌≤◌, ◌<◌}
use native.Mathlib.Omega.{arith}
use native.Mathlib.Decide.{dec_lt}
use native.Mathlib.Numerals.{add-one}
use lib.Dec.{eqb, eqb→eq}
use Rattle.std.specs.Prelude.{min}
use Rattle.std.proofs.lemmas.List.{take_min, drop_min, replicate-append-replicate}
use lib.ListN.{length, take, drop, replicate, length-take}
use lib.Seq.{take_all, take-suc-set, append_snoc}
use Rattle.rules.specs.Tests.{every}
use Rattle.rules.specs.Links.{k, s, first, number_of_s, buffer_count, LinkNumber}
use Rattle.rules.specs.Sweep.{parts, laid_out}
use Rattle.rules.proofs.Sizes.{first_next}
use Rattle.rules.proofs.Table.{every_at, each_link_lem, first_most, in_book}
use Rattle.buffers.specs.Slots.{base, capacity_of, capacities}
use Rattle.buffers.specs.Format.{many, buffers_of}
use Rattle.buffers.specs.Post.{Inside, Has, Now, Word, Kept, Laying}
use Rattle.buffers.proofs.ArrayLaws.{has, buffers_length, only_kept, kept_links, kept_then}
use Rattle.runs.specs.Promises.{laid_at}
use Rattle.paths.specs.Laying.{Lays, Emptying, Empty, LayingOut, LaidOut}
use Rattle.paths.proofs.SlotsLaws.{laid_laying, laid_now}
use Rattle.paths.proofs.RefillLaws.{words_more}

-- ---- one buffer

module _ (ws : List ℕ) (n : ℕ) (run : List ℕ) (h : Lays ws n run) (at : ℕ) (begins : at ≡ base n) (ws₁ : List ℕ) (e : ws₁ ≡ laid_at ws at run) where
  after : ws₁ ≡ laid_at ws (base n) run
  after = e ∙ ap (λ p. laid_at ws p run) begins

  pub lay_laying : Laying ws₁ n (length run)
  lay_laying = rw after (laid_laying ws n run h.of h.room)

  pub lay_now : (ws' : List ℕ) → Now ws₁ ws' n (take (length run) (drop (base n) ws₁)) → Now ws ws' n run
  lay_now ws' z = laid_now ws n run h.of h.room ws' (rw after at z)

-- ---- the buffers up to one that gets entries

-- the n-th gets entries, and with it those before it are known
module _ {ws₀ ws ws' : List ℕ} {n : ℕ} {es : List ℕ} (kept : Kept ws₀ ws) (h : Has ws n) (z : Now ws ws' n es) (w : Word ws' n 0 0) where
  up_kept : Kept ws₀ ws'
  up_kept = kept_then kept (only_kept ws ws' n h z.only)

  up_take : take (n + 1) (buffers_of ws') ≡ take n (buffers_of ws) ++ es ∷ []
  up_take =
      let room : n < length (buffers_of ws) = rw (buffers_length ws) h.below in
      ap (take (n + 1)) z.state ∙ rw add-one (take-suc-set (buffers_of ws) n es room)

  up_words : ((m : ℕ) → m < n → Word ws m 0 0) → (m : ℕ) → m < n + 1 → Word ws' m 0 0
  up_words old m less = go (dec_lt m n)
    where
      go : Dec (m < n) → Word ws' m 0 0
      go (yes before) = words_more ws ws' n m h z.only w (omega (arith, h.below)) (old m before)
      go (no last) = let e : m ≡ n = omega arith in rw e w

-- ---- emptying

pub record Empties (ws₀ ws : List ℕ) (end n : ℕ) : Type 0 where
  pub within : n ≤ end
  pub array : Inside ws
  pub kept : Kept ws₀ ws
  pub none : take n (buffers_of ws) ≡ replicate n []
  pub words : (m : ℕ) → m < n → Word ws m 0 0

module _ {ws₀ ws : List ℕ} {end n : ℕ} (h : Emptying ws₀ end) (z : Empties ws₀ ws end n) where
  pub empties_asks : n < end → Laying ws n 0
  empties_asks more =
      let same : many ws ≡ many ws₀ = ap buffer_count (kept_links z.kept) in
      record { of = has ws n z.array (omega (arith, h.inside)); room = omega arith }

  pub empties_next : (more : n < end) (ws' : List ℕ) → Now ws ws' n [] → Word ws' n 0 0 → Empties ws₀ ws' end (n + 1)
  empties_next more ws' now w =
      let of = (empties_asks more).of in
      record {
        within = omega arith;
        array = now.array;
        kept = up_kept z.kept of now w;
        none = up_take z.kept of now w ∙ ap (λ l. l ++ [] ∷ []) z.none ∙ replicate-append-replicate n 1 [];
        words = up_words z.kept of now w z.words;
      }

-- ---- parts of a run

-- the next part, where there is as much left, and what is behind it
pub part_is : (left : List ℕ) (m size : ℕ) {part : List ℕ} → part ≡ take m left → m ≡ min size (length left) → (most : ℕ) → size ≡ most → part ≡ take most left
part_is left m size e cut most same = e ∙ ap (λ m. take m left) cut ∙ take_min size left ∙ ap (λ m. take m left) same

pub rest_is : (left : List ℕ) (m size : ℕ) {rest : List ℕ} → rest ≡ drop m left → m ≡ min size (length left) → (most : ℕ) → size ≡ most → rest ≡ drop most left
rest_is left m size e cut most same = e ∙ ap (λ m. drop m left) cut ∙ drop_min size left ∙ ap (λ m. drop m left) same

-- ---- the S of a link

module _ {i : ℕ} (h : LinkNumber i) where
  pub s_room : (j : ℕ) → j < k i → capacity_of (first i + k i + j) ≡ s i
  unfolding every capacity_of capacities k s first
  s_room j less = eqb→eq (capacity_of (first i + k i + j)) (s i) (every_at (λ j. eqb (capacity_of (first i + k i + j)) (s i)) 0 (k i) (each_link_lem (λ i. every (λ j. eqb (capacity_of (first i + k i + j)) (s i)) 0 (k i)) tt h) j (omega arith) (omega arith))

  all_buffers_lem : buffer_count i ≡ first i + k i + k i
  unfolding buffer_count
  all_buffers_lem = first_next i h.low ∙ twice
    where
      twice : first i + 2 * k i ≡ first i + k i + k i
      twice = omega arith

parts_next : (n size : ℕ) (run : List ℕ) → 0 < n → parts n size run ≡ take size run ∷ parts (n - 1) size (drop size run)
unfolding parts
parts_next zero size run h = absurd (omega arith)
parts_next (suc n) size run h = let e : suc n - 1 ≡ n = omega arith in rw e

-- the buffers before the n-th are laid: what is left gives the same answer
pub record Lying (ws₀ ws : List ℕ) (links : ℕ) (run left : List ℕ) (n : ℕ) : Type 0 where
  pub low : first links + k links ≤ n
  pub high : n ≤ first links + k links + k links
  pub array : Inside ws
  pub kept : Kept ws₀ ws
  pub state : take n (buffers_of ws) ++ parts (first links + k links + k links - n) (s links) left ≡ laid_out links run
  pub words : (m : ℕ) → m < n → Word ws m 0 0

module _ {ws₀ : List ℕ} {links : ℕ} (h : LayingOut ws₀ links) where
  all_many : many ws₀ ≡ first links + k links + k links
  all_many = ap buffer_count h.of ∙ all_buffers_lem h.link

  pub out_empties : (begin : ℕ) → begin ≡ first links + k links → Emptying ws₀ begin
  out_empties begin e = record { array = h.array; inside = omega (arith, all_many); few = omega (arith, first_most h.link, in_book) }

  pub lying_first : (ws run : List ℕ) (begin : ℕ) → begin ≡ first links + k links → Empty ws₀ ws begin → Lying ws₀ ws links run run begin
  unfolding laid_out number_of_s
  lying_first ws run begin e z =
      let e₁ : first links + k links + k links - (first links + k links) ≡ k links = omega arith in
      let e₂ : first links + k links + (1 - 1) ≡ first links + k links = omega arith in
      record {
        low = omega arith;
        high = omega arith;
        array = z.array;
        kept = z.kept;
        state = rw (e, e₁, e₂, rw e at z.none);
        words = z.words;
      }

  module _ {ws run left : List ℕ} {n : ℕ} (z : Lying ws₀ ws links run left n) where
    same_many : many ws ≡ many ws₀
    same_many = ap buffer_count (kept_links z.kept)

    module _ (more : n < first links + k links + k links) (part : List ℕ) (part_is : part ≡ take (s links) left) where
      pub lying_asks : Lays ws n part
      lying_asks =
          let place : first links + k links + (n - (first links + k links)) ≡ n = omega (arith, z.low) in
          let room : capacity_of n ≡ s links = rw place at (s_room h.link (n - (first links + k links)) (omega (arith, z.low))) in
          record {
            of = has ws n z.array (omega (arith, same_many, all_many));
            room = omega (arith, ap length part_is, length-take (s links) left, room);
          }

      pub lying_next : (rest : List ℕ) → rest ≡ drop (s links) left → (ws' : List ℕ) → Now ws ws' n part → Word ws' n 0 0 → Lying ws₀ ws' links run rest (n + 1)
      lying_next rest rest_is ws' now w =
          let of = lying_asks.of in
          let all = first links + k links + k links in
          let fewer : all - n - 1 ≡ all - (n + 1) = omega arith in
          let others = parts (all - (n + 1)) (s links) rest in
          let next : parts (all - n) (s links) left ≡ part ∷ others = parts_next (all - n) (s links) left (omega arith) ∙ rw (part_is, rest_is, fewer) in
          record {
            low = omega (arith, z.low);
            high = omega arith;
            array = now.array;
            kept = up_kept z.kept of now w;
            state = ap (λ l. l ++ others) (up_take z.kept of now w) ∙ append_snoc (take n (buffers_of ws)) part others ∙ ap (λ l. take n (buffers_of ws) ++ l) (sym next) ∙ z.state;
            words = up_words z.kept of now w z.words;
          }

    pub lying_last : first links + k links + k links ≤ n → LaidOut ws₀ ws links run
    unfolding parts
    lying_last all =
        let e : first links + k links + k links - n ≡ 0 = omega arith in
        let full : length (buffers_of ws) ≤ n = omega (arith, buffers_length ws, same_many, all_many) in
        let whole : take n (buffers_of ws) ++ [] ≡ laid_out links run = rw e at z.state in
        record {
          array = z.array;
          kept = z.kept;
          state = sym (append-nil (buffers_of ws)) ∙ ap (λ l. l ++ []) (sym (take_all n (buffers_of ws) full)) ∙ whole;
          words = λ m less. z.words m (omega (arith, all_many, z.high));
        }
