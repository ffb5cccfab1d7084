-- What a sweep concludes: that the path which was found is a path of the array, that it may be refilled to the counts noted on it, and that this is the rules' refilling.
use mathlib.Core.Path.{◌≡◌, sym, ap, ◌∙◌}
use mathlib.Core.List.{List, []}
use Prim.Native.Nat.{ℕ, suc, ◌+◌, ◌-◌, ◌*◌, ◌≤◌, ◌<◌}
use native.Mathlib.Omega.{arith}
use lib.Dec.{eqb, eqb→eq, leb, leb→le}
use Rattle.std.proofs.lemmas.List.{get_or-map}
use lib.ListN.{length, take, drop, get_or}
use lib.Seq.{get_or-take, drop_at, length-take-le}
use Rattle.rules.specs.Tests.{every}
use Rattle.rules.specs.Links.{k, s, first, sum, number_of_s, buffer_count, LinkNumber}
use Rattle.rules.specs.Merge.{join}
use Rattle.rules.specs.Sweep.{outputs, path_in_link, path, counts, run_along, refill_path}
use Rattle.rules.proofs.Table.{every_at, each_link_lem}
use Rattle.buffers.specs.Slots.{capacity_of}
use Rattle.buffers.specs.Format.{links_in, buffer_of, buffers_of}
use Rattle.buffers.specs.Post.{Inside}
use Rattle.buffers.proofs.ArrayLaws.{buffer_length}
use Rattle.paths.specs.Way.{PathIs}
use Rattle.paths.specs.Along.{OnPath, Noted, along_from}
use Rattle.paths.specs.Refills.{Refilling, Refilled}
use Rattle.paths.proofs.WayLaws.{each_s, path_long, length_outputs}
use Rattle.paths.proofs.AlongLaws.{path_has, path_buffer}
use Rattle.paths.proofs.RefillLaws.{sum_more}
use Rattle.paths.proofs.LayOutLaws.{s_room}

-- fewer links, fewer buffers
pub count_most : {i l : ℕ} → LinkNumber l → 1 ≤ i → i ≤ l → buffer_count i ≤ buffer_count l
unfolding every buffer_count first
count_most {i} {l} h low most =
    leb→le (buffer_count i) (buffer_count l) (every_at (λ i. leb (buffer_count i) (buffer_count l)) 1 l (each_link_lem (λ l. every (λ i. leb (buffer_count i) (buffer_count l)) 1 l) tt h) i low (omega arith))

module _ {i : ℕ} (h : LinkNumber i) (j : ℕ) (low : 1 ≤ j) (high : j ≤ k i) where
  path_below : (t : ℕ) → t < 2 * i + 1 → get_or (path i j) t 0 < buffer_count i
  unfolding every k path buffer_count first
  path_below t less =
      leb→le (suc (get_or (path i j) t 0)) (buffer_count i)
      (every_at (λ t. leb (suc (get_or (path i j) t 0)) (buffer_count i)) 0 (2 * i + 1) (each_s (λ i j. every (λ t. leb (suc (get_or (path i j) t 0)) (buffer_count i)) 0 (2 * i + 1)) tt h j low high) t (omega arith) (omega arith))

  path_last : get_or (path i j) (2 * i) 0 ≡ number_of_s i j
  unfolding every k path number_of_s
  path_last = eqb→eq (get_or (path i j) (2 * i) 0) (number_of_s i j) (each_s (λ i j. eqb (get_or (path i j) (2 * i) 0) (number_of_s i j)) tt h j low high)

  module _ {ns : List ℕ} {r : ℕ} (p : PathIs i j ns r) where
    long : r ≡ 2 * i + 1
    long = p.many ∙ path_long h j low high

    number_at : (t : ℕ) → t < r → get_or ns t 0 ≡ get_or (path i j) t 0
    number_at t less = sym (get_or-take r ns t 0 less) ∙ ap (λ l. get_or l t 0) p.is

    pub path_on : (ws : List ℕ) → Inside ws → i ≤ links_in ws → OnPath ws ns r
    path_on ws array within = record {
      array = array;
      long = p.long;
      few = p.few;
      each = λ t less. omega (arith, number_at t less, path_below t (omega (arith, long)), count_most array.link h.low within);
    }

    -- "the run read along the path from A(i) downwards"
    pub along_link : (ws : List ℕ) → along_from ws ns (i - 1) r ≡ run_along (path_in_link i j) (buffers_of ws)
    unfolding path
    along_link ws = ap (λ l. run_along (drop (i - 1) l) (buffers_of ws)) p.is ∙ ap (λ l. run_along l (buffers_of ws)) (drop_at (outputs 1 (i - 1)) (path_in_link i j) (i - 1) (length_outputs 1 (i - 1)))

    -- the last is S(i,j)
    pub last_number : get_or ns (r - 1) 0 ≡ number_of_s i j
    last_number =
        let e : r - 1 ≡ 2 * i = omega (arith, long) in
        number_at (r - 1) (omega (arith, long)) ∙ rw e path_last

    pub last_room : capacity_of (get_or ns (r - 1) 0) ≡ s i
    unfolding number_of_s
    last_room = ap capacity_of last_number ∙ s_room h (j - 1) (omega arith)

    module _ {ws₀ cs : List ℕ} (array₀ : Inside ws₀) (within₀ : i ≤ links_in ws₀) (noted : Noted ws₀ ns r cs) where
      pub noted_are : take r cs ≡ counts (path i j) (buffers_of ws₀)
      noted_are = noted.are ∙ ap (λ l. counts l (buffers_of ws₀)) p.is

      pub noted_at : (t : ℕ) → t < r → get_or cs t 0 ≡ length (buffer_of ws₀ (get_or ns t 0))
      unfolding counts
      noted_at t less =
          let inside : length (take r ns) ≡ r = length-take-le r ns (omega (arith, p.long, p.few)) in
          sym (get_or-take r cs t 0 less) ∙ ap (λ l. get_or l t 0) noted.are ∙ get_or-map (λ m. length (get_or (buffers_of ws₀) m [])) (take r ns) t 0 0 (omega arith)
          ∙ ap (λ m. length (get_or (buffers_of ws₀) m [])) (get_or-take r ns t 0 less) ∙ ap length (path_buffer (path_on ws₀ array₀ within₀) t less)

      noted_fits : (t : ℕ) → t < r → get_or cs t 0 ≤ capacity_of (get_or ns t 0)
      noted_fits t less = let of = path_has (path_on ws₀ array₀ within₀) t less in omega (arith, noted_at t less, buffer_length ws₀ (get_or ns t 0) of, of.fits)

      -- S(i,j) was empty: what is noted is noted before it
      module _ (empty : buffer_of ws₀ (number_of_s i j) ≡ []) where
        sum_noted : sum (take (r - 1) cs) ≡ sum (counts (path i j) (buffers_of ws₀))
        sum_noted =
            let e : r - 1 + 1 ≡ r = omega (arith, long) in
            let none : get_or cs (r - 1) 0 ≡ 0 = noted_at (r - 1) (omega (arith, long)) ∙ ap (λ m. length (buffer_of ws₀ m)) last_number ∙ ap length empty in
            let more : sum (take (r - 1 + 1) cs) ≡ sum (take (r - 1) cs) + get_or cs (r - 1) 0 = sum_more cs (r - 1) (omega (arith, noted.long, p.few, long)) in
            let all : sum (take r cs) ≡ sum (take (r - 1) cs) + get_or cs (r - 1) 0 = rw e at more in
            let same : sum (take r cs) ≡ sum (counts (path i j) (buffers_of ws₀)) = ap sum noted_are in
            omega arith

        pub refilling : (ws xs ys : List ℕ) → Inside ws → i ≤ links_in ws → sum (counts (path i j) (buffers_of ws₀)) ≤ length xs + length ys
            → length xs + length ys ≤ sum (counts (path i j) (buffers_of ws₀)) + s i → Refilling ws ns cs r xs ys
        refilling ws xs ys array within enough room = record {
          path = path_on ws array within;
          some = omega (arith, long);
          noted = noted.long;
          fits = λ t less. noted_fits t (omega arith);
          enough = omega (arith, sum_noted);
          room = omega (arith, sum_noted, last_room);
        }

      -- the rules' refilling
      pub refilled_state : {key : ℕ → ℕ} {ws ws' xs ys : List ℕ} → Refilled key ws ws' ns cs r xs ys → buffers_of ws' ≡ refill_path (path i j) (counts (path i j) (buffers_of ws₀)) (join key xs ys) (buffers_of ws)
      refilled_state {ws} {ws'} {xs} {ys} z = z.state ∙ rw (p.is, noted_are)
