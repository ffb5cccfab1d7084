-- The loop over a piece: what it has answered so far.
use mathlib.Core.Path.{◌≡◌, refl, sym, ap, ◌∙◌, subst}
use mathlib.Core.Bool.{Bool, false, cond}
use mathlib.Core.List.{List, [], ◌∷◌, ◌++◌, append_assoc, append-nil}
use mathlib.Core.Logic.{inl, inr}
use Prim.Native.Nat.{ℕ, zero, suc, ◌+◌, ◌-◌, ◌*◌, ◌≤◌, ◌<◌}
use native.Mathlib.Omega.{arith}
use native.Mathlib.Decide.{dec_lt, ℕ_discrete}
use lib.Dec.{eqb}
use lib.ListN.{length, take, drop, length-append, length-drop}
use lib.Seq.{drop-drop, take-add, take_at, drop_at}
use Rattle.frames.specs.Answers.{Back, back}
use Rattle.frames.specs.declared.NotAFrame.{NotAFrame}
use Rattle.std.specs.Prelude.{Result, Ok}
use Rattle.frames.proofs.AnswerLaws.{done_same, not_done}
use Rattle.frames.specs.declared.Order.{Order}
use Rattle.lines.specs.Lines.{ended_by, between}
use Rattle.lines.specs.Answers.{ended_back, next_back}
use Rattle.lines.specs.Cutter.{kept, feed_of, kept_after, orders_from, Step, next_of}
use Rattle.lines.specs.declared.Next.{Next}
use Rattle.lines.proofs.LineLaws.{by_end}
use Rattle.lines.proofs.Pieces.{orders_append, kept_append}
use Rattle.sessions.specs.Runs.{Runs, ends, Served, ServedAt, PieceRan, NoMore}
use Rattle.sessions.proofs.RunLaws.{runs_append, runs_long}

-- ---- what a search for the next line end has read

-- so many bytes, at least one if there is any
record Eaten (k : List ℕ) (at : ℕ) (bs : List ℕ) (s : Step) : Type 0 where
  many : ℕ
  place : s.at ≡ at + many
  some : 0 < length bs → 0 < many
  fits : many ≤ length bs
  orders : s.cut.orders ≡ orders_from k (take many bs)
  keeps : s.cut.keeps ≡ kept_after k (take many bs)
  none : (m : ℕ) → m < many → orders_from k (take m bs) ≡ []

module _ (k : List ℕ) (at b : ℕ) (bs : List ℕ) where
  eaten_end : Eaten k at (b ∷ bs) (record { at = at + 1; cut = feed_of k b })
  unfolding orders_from kept_after
  eaten_end = record {
    many = 1;
    place = refl;
    some = λ h. omega arith;
    fits = omega arith;
    orders = sym (append-nil (feed_of k b).orders);
    keeps = refl;
    none = first;
  }
    where
      first : (m : ℕ) → m < 1 → orders_from k (take m (b ∷ bs)) ≡ []
      first zero h = refl
      first (suc m) h = absurd (omega arith)

  eaten_past : eqb b 10 ≡ false → (s : Step) → Eaten (feed_of k b).keeps (at + 1) bs s → Eaten k at (b ∷ bs) s
  unfolding orders_from kept_after ended_by
  eaten_past t s e = record {
    many = suc e.many;
    place = omega (arith, e.place);
    some = λ h. omega arith;
    fits = omega (arith, e.fits);
    orders = rw t e.orders;
    keeps = e.keeps;
    none = before;
  }
    where
      before : (m : ℕ) → m < suc e.many → orders_from k (take m (b ∷ bs)) ≡ []
      before zero h = refl
      before (suc m) h = rw t (e.none m (omega arith))

eaten : (k : List ℕ) (at : ℕ) (bs : List ℕ) → Eaten k at bs (next_of k at bs)
unfolding next_of orders_from kept_after
eaten k at [] = record { many = 0; place = omega arith; some = λ h. h; fits = omega arith; orders = refl; keeps = refl; none = λ m h. absurd (omega arith) }
eaten k at (b ∷ bs) =
    let next = next_of (feed_of k b).keeps (at + 1) bs in
    by_end (λ (t : Bool). Eaten k at (b ∷ bs) (cond t (record { at = at + 1; cut = feed_of k b }) next)) b
    (λ t. eaten_end k at b bs) (λ t. eaten_past k at b bs t next (eaten (feed_of k b).keeps (at + 1) bs))

-- the same by places of a piece
record Reads (k piece : List ℕ) (at : ℕ) (s : Step) : Type 0 where
  further : at < length piece → at < s.at
  behind : at ≤ s.at
  within : at ≤ length piece → s.at ≤ length piece
  orders : s.cut.orders ≡ orders_from k (between at s.at piece)
  keeps : s.cut.keeps ≡ kept_after k (between at s.at piece)
  none : (i : ℕ) → at ≤ i → i < s.at → orders_from k (between at i piece) ≡ []

reads_next : (k piece : List ℕ) (at : ℕ) (s : Step) → s ≡ next_of k at (drop at piece) → Reads k piece at s
reads_next k piece at s e =
    let z : Eaten k at (drop at piece) s = subst (Eaten k at (drop at piece)) (sym e) (eaten k at (drop at piece)) in
    let many : z.many ≡ s.at - at = omega (arith, z.place) in
    record {
      further = λ h. omega (arith, z.place, z.some (omega (arith, length-drop at piece)));
      behind = omega (arith, z.place);
      within = λ h. omega (arith, z.place, z.fits, length-drop at piece);
      orders = z.orders ∙ ap (λ (n : ℕ). orders_from k (take n (drop at piece))) many;
      keeps = z.keeps ∙ ap (λ (n : ℕ). kept_after k (take n (drop at piece))) many;
      none = λ i h g. z.none (i - at) (omega (arith, z.place));
    }

-- ---- two stretches of a piece, one behind the other

pub between_join : (piece : List ℕ) (a b c : ℕ) → a ≤ b → b ≤ c → between a c piece ≡ between a b piece ++ between b c piece
between_join piece a b c p q =
    let all : c - a ≡ b - a + (c - b) = omega arith in
    let there : a + (b - a) ≡ b = omega arith in
    ap (λ (n : ℕ). take n (drop a piece)) all ∙ take-add (b - a) (c - b) (drop a piece)
    ∙ ap (λ (z : List ℕ). between a b piece ++ take (c - b) z) (drop-drop (b - a) a piece ∙ ap (λ (n : ℕ). drop n piece) there)

-- ---- the loop

pub ran_starts : (n : ℕ) (ws work k piece : List ℕ) (at : ℕ) (out : List ℕ) → PieceRan n ws ws work work k piece at out out k at 0
unfolding orders_from kept_after
ran_starts n ws work k piece at out =
    let none : at - at ≡ 0 = omega arith in
    record {
      forth = omega arith;
      within = λ h. h;
      over = λ h. refl;
      room = λ i h g. absurd (omega arith);
      keeps = sym (ap (λ (m : ℕ). kept_after k (take m (drop at piece))) none);
      bytes = [];
      run = subst (λ (m : ℕ). Runs n ws work (orders_from k (take m (drop at piece))) ws work []) (sym none) (ends ws work);
      count = refl;
      inside = omega arith;
      after = refl;
    }

pub ran_further : (k piece : List ℕ) (i : ℕ) (r : Next) → next_back r ≡ next_of k i (drop i piece) → i < length piece → i < r.at
ran_further k piece i r next h = (reads_next k piece i (next_back r) next).further h

module _ (size size' : ℕ) (ws now later work work₁ work₂ k piece : List ℕ) (at : ℕ) (out out₁ out₂ k₁ : List ℕ) (i n m : ℕ) (ran : PieceRan size ws now work work₁ k piece at out out₁ k₁ i n)
    (r : Next) (next : next_back r ≡ next_of k₁ i (drop i piece)) (same : size' ≡ size) (served' : ServedAt size' now later work₁ work₂ (ended_back r.ended) out₁ out₂ n m)
    (left : i < length piece) (fits : n + 27 ≤ length out₁) where
  served : ServedAt size now later work₁ work₂ (ended_back r.ended) out₁ out₂ n m
  served = subst (λ (w : ℕ). ServedAt w now later work₁ work₂ (ended_back r.ended) out₁ out₂ n m) same served'

  same_room : length out₁ ≡ length out
  same_room = ap length ran.after ∙ length-append ran.bytes (drop n out) ∙ omega (arith, ran.count, ran.inside, length-drop n out)

  -- no line ends before the next
  had_room : Reads k₁ piece i (next_back r) → (j : ℕ) → at ≤ j → j < r.at → 27 * length (orders_from k (between at j piece)) + 27 ≤ length out
  had_room z j h g =
      elim (dec_lt j i) [
        | yes b ↦ ran.room j h b
        | no b ↦
            let up : i ≤ j = omega arith in
            let join : between at j piece ≡ between at i piece ++ between i j piece = between_join piece at i j ran.forth up in
            let same : orders_from k (between at j piece) ≡ orders_from k (between at i piece) =
            ap (orders_from k) join ∙ orders_append k (between at i piece) (between i j piece)
            ∙ ap (λ (l : List ℕ). orders_from k (between at i piece) ++ orders_from l (between i j piece)) (sym ran.keeps)
            ∙ ap (λ (l : List (Back Order)). orders_from k (between at i piece) ++ l) (z.none j up g) ∙ append-nil (orders_from k (between at i piece)) in
            omega (arith, ap length same, ran.count, runs_long ran.run, same_room)
      ]

  pub ran_on : PieceRan size ws later work work₂ k piece at out out₂ (kept r.cutter) r.at m
  ran_on =
      let z = reads_next k₁ piece i (next_back r) next in
      let join : between at r.at piece ≡ between at i piece ++ between i r.at piece = between_join piece at i r.at ran.forth z.behind in
      let head : take n out₁ ≡ ran.bytes = ap (take n) ran.after ∙ take_at ran.bytes (drop n out) n (sym ran.count) in
      let past : n + length served.bytes ≡ m = sym served.count in
      let tail : drop m out₁ ≡ drop m out =
      ap (λ (l : ℕ). drop l out₁) (sym past) ∙ sym (drop-drop (length served.bytes) n out₁)
      ∙ ap (drop (length served.bytes)) (ap (drop n) ran.after ∙ drop_at ran.bytes (drop n out) n (sym ran.count))
      ∙ drop-drop (length served.bytes) n out ∙ ap (λ (l : ℕ). drop l out) past in
      record {
        forth = omega (arith, ran.forth, z.behind);
        within = λ h. z.within (ran.within h);
        over = λ h. absurd (omega (arith, ran.forth));
        room = had_room z;
        keeps =
            z.keeps ∙ ap (λ (l : List ℕ). kept_after l (between i r.at piece)) ran.keeps
            ∙ sym (ap (kept_after k) join ∙ kept_append k (between at i piece) (between i r.at piece));
        bytes = ran.bytes ++ served.bytes;
        run = subst (λ (reads : List (Back Order)). Runs size ws work reads later work₂ (ran.bytes ++ served.bytes)) (all z join) (runs_append ran.run served.run);
        count = served.count ∙ sym (length-append ran.bytes served.bytes ∙ omega (arith, ran.count));
        inside = omega (arith, served.inside, same_room);
        after =
            served.after ∙ ap (λ (l : List ℕ). l ++ (served.bytes ++ drop m out₁)) head ∙ ap (λ (l : List ℕ). ran.bytes ++ (served.bytes ++ l)) tail
            ∙ sym (append_assoc ran.bytes served.bytes (drop m out));
      }
    where
      all : Reads k₁ piece i (next_back r) → between at r.at piece ≡ between at i piece ++ between i r.at piece
          → orders_from k (between at i piece) ++ ended_back r.ended ≡ orders_from k (between at r.at piece)
      all z join =
          ap (λ (l : List (Back Order)). orders_from k (between at i piece) ++ l) (z.orders ∙ ap (λ (l : List ℕ). orders_from l (between i r.at piece)) ran.keeps)
          ∙ sym (ap (orders_from k) join ∙ orders_append k (between at i piece) (between i r.at piece))

-- ---- for a loop that runs a piece to its end

module _ {n : ℕ} {ws ws' work work' k piece : List ℕ} {at : ℕ} {out out' k' : List ℕ} {at' written : ℕ} (ran : PieceRan n ws ws' work work' k piece at out out' k' at' written) where
  pub ran_long : written ≡ 27 * length (orders_from k (between at at' piece))
  ran_long = ran.count ∙ runs_long ran.run

  still : at' ≡ at → written ≡ 0
  unfolding orders_from
  still e =
      let none : at' - at ≡ 0 = omega arith in
      ran_long ∙ ap (λ (m : ℕ). 27 * length (orders_from k (take m (drop at piece)))) none

  -- where there is room for an answer, at least one byte is read
  pub ran_moves : 27 ≤ length out → at < length piece → NoMore piece at' out written → at < at'
  ran_moves room more (inl over) = omega arith
  ran_moves room more (inr full) =
      elim (ℕ_discrete at' at) [
        | yes e ↦ omega (arith, still e)
        | no d ↦ omega (arith, ran.forth, d)
      ]

-- what was answered fits the buffer
pub served_fits : {size : ℕ} {ws ws' work work' : List ℕ} {reads : List (Back Order)} {out out' : List ℕ} {r : Result ℕ NotAFrame} (n : ℕ) → Served size ws ws' work work' reads out out' r → r ≡ Ok n → n ≤ length out
served_fits {reads = reads} {out = out} n served e =
    elim (dec_lt (length out) (27 * length reads)) [
      | yes h ↦ not_done (ap back (sym (served.short h).0 ∙ e))
      | no g ↦
          let f = served.room (omega arith) in
          let same : n ≡ length f.bytes = done_same (ap back (sym e ∙ f.count)) in
          omega (arith, runs_long f.run)
    ]
