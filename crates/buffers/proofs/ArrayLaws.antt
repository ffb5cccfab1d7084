-- What the words hold. A change that concerns one buffer leaves every other buffer's entries, the counters and all words past the stated length alone.
use mathlib.Core.Path.{◌≡◌, refl, sym, ap, ◌∙◌}
use mathlib.Core.Logic.{◌≢◌, inl, inr}
use native.Mathlib.Decide.{ℕ_discrete}
use Prim.Native.Nat.{ℕ, zero, suc, ◌+◌, ◌-◌, ◌≤◌, ◌<◌}
use native.Mathlib.Nat.{add-zero, add-suc, suc-add, zero-add, le_of_suc-le-suc, not-suc-le-zero}
use native.Mathlib.Omega.{arith}
use mathlib.Core.List.{List, [], map}
use lib.ListN.{length, get_or, take, drop, set, length-set, length-take, length-drop}
use lib.Seq.{get_or-take, get_or-drop, ext_get_or, get_or-set_same, get_or-set_other}
use Rattle.rules.specs.Links.{from, buffer_count, all_buffers, book_words}
use Rattle.rules.proofs.Table.{in_book}
use Rattle.buffers.specs.Slots.{capacity_of, base}
use Rattle.buffers.specs.Format.{count_in, start_in, links_in, word_of, count_of, start_of, many, head_of, buffer_of, buffers_of}
use Rattle.buffers.specs.Post.{Inside, Has, Only, Now, Unused, Kept}
use Rattle.buffers.proofs.SlotLaws.{behind_book, not_both, in_words, no_more, few, small_capacity}

-- ---- one value for each number

pub length_each : {A : Type 0} (f : ℕ → A) (i n : ℕ) → length (map f (from i n)) ≡ n
unfolding from
length_each f i zero = refl
length_each f i (suc n) = ap suc (length_each f (suc i) n)

pub each_at : {A : Type 0} (f : ℕ → A) (i n m : ℕ) (d : A) → m < n → get_or (map f (from i n)) m d ≡ f (i + m)
unfolding from
each_at f i zero m d h = absurd (not-suc-le-zero h)
each_at f i (suc n) zero d h = ap f (sym (add-zero i))
each_at f i (suc n) (suc m) d h = each_at f (suc i) n m d (le_of_suc-le-suc h) ∙ ap f (suc-add i m ∙ sym (add-suc i m))

pub buffers_length : (ws : List ℕ) → length (buffers_of ws) ≡ many ws
unfolding buffers_of
buffers_length ws = length_each (buffer_of ws) 0 (many ws)

pub buffers_at : (ws : List ℕ) (n : ℕ) → n < many ws → get_or (buffers_of ws) n [] ≡ buffer_of ws n
unfolding buffers_of
buffers_at ws n h = each_at (buffer_of ws) 0 (many ws) n [] h ∙ ap (buffer_of ws) (zero-add n)

-- ---- a buffer of an array

pub has : (ws : List ℕ) (n : ℕ) → Inside ws → n < many ws → Has ws n
has ws n array lt =
    let numbered : n < all_buffers = omega (arith, no_more array.link) in
    let small : 8 + n < book_words = omega (arith, in_book) in
    record {
      array = array;
      below = lt;
      numbered = numbered;
      small = small;
      behind = behind_book n;
      room = small_capacity n small;
      slots = omega (arith, in_words array.link n lt, array.long);
      fits = array.fits n lt;
    }

module _ (ws : List ℕ) (n : ℕ) (h : Has ws n) where
  pub buffer_length : length (buffer_of ws n) ≡ count_of ws n
  unfolding buffer_of
  buffer_length = simp (length-take, length-drop) (omega (arith, h.slots, h.fits))

  -- the words that have them, from a place on
  pub entries_are : (p c : ℕ) → p ≡ head_of ws n → c ≡ length (buffer_of ws n) → take (p + c - p) (drop p ws) ≡ buffer_of ws n
  unfolding buffer_of
  entries_are p c at long =
      let many : p + c - p ≡ count_of ws n = omega (arith, long, buffer_length) in
      ap (λ m. take m (drop p ws)) many ∙ ap (λ q. take (count_of ws n) (drop q ws)) at

  pub entry_at : (m : ℕ) → m < count_of ws n → get_or (buffer_of ws n) m 0 ≡ get_or ws (head_of ws n + m) 0
  unfolding buffer_of
  entry_at m lt = rw (get_or-take, get_or-drop)

  -- a buffer by its entries
  pub buffer_is : (es : List ℕ) → length es ≡ count_of ws n → ((m : ℕ) → m < count_of ws n → get_or ws (head_of ws n + m) 0 ≡ get_or es m 0) → buffer_of ws n ≡ es
  buffer_is es len same =
      ext_get_or 0 (buffer_of ws n) es (buffer_length ∙ sym len)
      (λ m lt. let lt' : m < count_of ws n = omega (arith, buffer_length) in entry_at m lt' ∙ same m lt')

-- ---- a change that concerns buffer n alone

module _ (ws ws' : List ℕ) (n : ℕ) (h : Has ws n) (only : Only ws ws' n) where
  pub only_links : links_in ws' ≡ links_in ws
  only_links = only.outside 0 (omega arith) (omega (arith, h.behind))

  pub only_word : (m : ℕ) → m < many ws → m ≢ n → word_of ws' m ≡ word_of ws m
  only_word m lt differ = only.outside (8 + m) (omega arith) (omega (arith, h.behind, few h.array.link))

  module _ (fits : start_of ws' n + count_of ws' n ≤ capacity_of n) where
    pub only_inside : Inside ws'
    only_inside = record {
      link = rw only_links h.array.link;
      long = rw only_links (omega (arith, h.array.long, only.long));
      fits = λ m lt. go m (rw only_links at lt) (ℕ_discrete m n);
    }
      where
        go : (m : ℕ) → m < many ws → Dec (m ≡ n) → start_of ws' m + count_of ws' m ≤ capacity_of m
        go m lt (yes e) = rw e fits
        go m lt (no differ) = rw (only_word m lt differ) (h.array.fits m lt)

    -- every other buffer has what it had
    pub only_buffer : (m : ℕ) → m < many ws → m ≢ n → buffer_of ws' m ≡ buffer_of ws m
    only_buffer m lt differ =
        let lt' : m < many ws' = rw only_links lt in
        let e = only_word m lt differ in
        let hm = has ws m h.array lt in
        buffer_is ws' m (has ws' m only_inside lt') (buffer_of ws m) (buffer_length ws m hm ∙ sym (ap count_in e))
        (λ j under.
        let under' : j < count_of ws m = rw e at under in
        rw e (only.outside (head_of ws m + j) (omega (arith, hm.behind, h.small))
        (λ p q. not_both m n (head_of ws m + j) differ (omega arith) (omega (arith, hm.fits)) p q))
        ∙ sym (entry_at ws m hm j under'))

    -- what the whole array holds
    pub only_now : (es : List ℕ) → buffer_of ws' n ≡ es → Now ws ws' n es
    only_now es here = record {
      array = only_inside;
      only = only;
      state = ext_get_or [] (buffers_of ws') (set (buffers_of ws) n es)
          (buffers_length ws' ∙ ap buffer_count only_links ∙ sym (buffers_length ws) ∙ sym (length-set (buffers_of ws) n es))
          (λ m under. let lt : m < many ws = rw only_links at (rw (buffers_length ws') at under) in go m lt (ℕ_discrete m n));
    }
      where
        go : (m : ℕ) → m < many ws → Dec (m ≡ n) → get_or (buffers_of ws') m [] ≡ get_or (set (buffers_of ws) n es) m []
        go m lt (yes e) =
            buffers_at ws' m (rw only_links lt) ∙ ap (buffer_of ws') e ∙ here
            ∙ sym (get_or-set_same (buffers_of ws) n es [] (rw (buffers_length ws) h.below)) ∙ ap (λ j. get_or (set (buffers_of ws) n es) j []) (sym e)
        go m lt (no differ) =
            buffers_at ws' m (rw only_links lt) ∙ only_buffer m lt differ ∙ sym (buffers_at ws m lt) ∙ sym (get_or-set_other (buffers_of ws) n m es [] differ)

-- ---- what is left alone

pub kept_none : (ws : List ℕ) → Kept ws ws
kept_none ws = record { long = refl; front = λ p h. refl; spare = λ p h g. refl; past = λ p h. refl }

pub kept_links : {ws ws' : List ℕ} → Kept ws ws' → links_in ws' ≡ links_in ws
kept_links k = k.front 0 (omega arith)

pub kept_then : {ws ws' ws'' : List ℕ} → Kept ws ws' → Kept ws' ws'' → Kept ws ws''
kept_then {ws} {ws'} {ws''} k l = record {
  long = l.long ∙ k.long;
  front = λ p h. l.front p h ∙ k.front p h;
  spare = λ p h g. l.spare p (rw (kept_links k) h) g ∙ k.spare p h g;
  past = λ p h. l.past p (rw (kept_links k) h) ∙ k.past p h;
}

-- so the words of the book that mean nothing stay
pub kept_unused : {ws ws' : List ℕ} → Kept ws ws' → (p : ℕ) → Unused (links_in ws) p → get_or ws' p 0 ≡ get_or ws p 0
kept_unused k p (inl low) = k.front p low.1
kept_unused k p (inr high) = k.spare p high.0 high.1

-- they stand behind every counter that is used
pub unused_behind : {links p : ℕ} (i : ℕ) → i ≤ links → i < 8 → Unused links p → i < p
unused_behind i low small (inl u) = omega (arith, u.0)
unused_behind i low small (inr u) = omega (arith, u.0)

-- and inside the book
pub unused_within : {links p : ℕ} → Unused links p → p < book_words
unused_within (inl u) = omega (arith, u.1)
unused_within (inr u) = u.1

pub only_kept : (ws ws' : List ℕ) (n : ℕ) → Has ws n → Only ws ws' n → Kept ws ws'
only_kept ws ws' n h only = record {
  long = only.long;
  front = λ p lt. only.outside p (omega arith) (omega (arith, h.behind));
  spare = λ p h₁ h₂. only.outside p (omega (arith, h.below)) (omega (arith, h.behind));
  past = λ p lt. only.outside p (omega (arith, in_words h.array.link n h.below, h.behind, h.small)) (omega (arith, in_words h.array.link n h.below));
}

-- ---- buffer n's word anew: it then has what stands where the word says

module _ (ws : List ℕ) (n w : ℕ) (h : Has ws n) where
  abbrev pub reworded : List ℕ
  reworded = set ws (8 + n) w

  pub reworded_word : word_of reworded n ≡ w
  reworded_word = get_or-set_same ws (8 + n) w 0 (omega (arith, h.small, h.behind, h.slots))

  pub reworded_only : Only ws reworded n
  reworded_only = record { long = length-set ws (8 + n) w; outside = λ p differ out. get_or-set_other ws (8 + n) p w 0 differ }

  pub reworded_now : start_in w + count_in w ≤ capacity_of n → Now ws reworded n (take (count_in w) (drop (base n + start_in w) ws))
  reworded_now fits =
      only_now ws reworded n h reworded_only (rw reworded_word fits) (take (count_in w) (drop (base n + start_in w) ws)) here
    where
      inside : Inside reworded
      inside = only_inside ws reworded n h reworded_only (rw reworded_word fits)

      here : buffer_of reworded n ≡ take (count_in w) (drop (base n + start_in w) ws)
      here =
          buffer_is reworded n (has reworded n inside (rw (only_links ws reworded n h reworded_only) h.below)) (take (count_in w) (drop (base n + start_in w) ws))
          (rw reworded_word (simp (length-take, length-drop) (omega (arith, h.slots))))
          (λ m under.
          let under' : m < count_in w = rw reworded_word at under in
          rw (reworded_word, get_or-take, get_or-drop) (get_or-set_other ws (8 + n) (base n + start_in w + m) w 0 (omega (arith, h.behind, h.small))))
