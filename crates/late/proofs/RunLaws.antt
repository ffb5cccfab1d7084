-- The whole input, in any pieces: what is said is decided by its bytes alone.
use Prim.Native.Nat.{ℕ, zero, suc, ◌+◌, ◌<◌, ◌≤◌}
use mathlib.Core.Path.{◌≡◌, refl, sym, ap, ◌∙◌, subst}
use mathlib.Core.Bool.{Bool, true, false}
use Rattle.std.proofs.lemmas.Bool.{true≢false}
use mathlib.Core.List.{List, [], ◌++◌, flatten, append-nil}
use native.Mathlib.Omega.{arith}
use lib.ListN.{length, take, length-append}
use Rattle.std.specs.Prelude.{IfSome, Option, None, Some, Result, Ok, Err}
use Rattle.std.specs.Io.KnownBytes.{Appends, Consumes, IsAtEnd}
use Rattle.std.proofs.KnownBytes.{Appends-nil, Consumes-nil, Consumes-trans}
use Rattle.streams.specs.Fronts.{AppendsFront, ConsumesFront}
use Rattle.lines.specs.Cutter.{kept_after}
use Rattle.pairs.specs.Reads.{reads_of, reads_from, last_reads}
use Rattle.pairs.specs.State.{State, state_of, lines_after}
use Rattle.pairs.specs.declared.Heard.{Heard as Heard'}
use Rattle.pairs.specs.Kept.{Kept}
use Rattle.pairs.specs.Calls.{HeardSoFar, Fed}
use Rattle.pairs.proofs.CallLaws.{so_begins, so_on, so_ends, fed_kept}
use Rattle.lateness.specs.declared.Report.{Report}
use Rattle.late.specs.declared.Trouble.{Trouble}
use Rattle.late.specs.Lines.{report_lines, trouble_line}
use Rattle.late.specs.Says.{Says, says, state_said, said}
use Rattle.late.specs.Runs.{Told, ToldFront, TellsHeard, TellsFront, HearsPiece, PairsOf}
use Rattle.late.proofs.SaidLaws.{kept_said_lem}

-- the last line is read, behind bytes that were heard in any pieces
pub so_said : {begun s s' : State} {bytes k : List ℕ} → Kept [] begun → HeardSoFar begun bytes s k → s' ≡ lines_after s (last_reads k) → state_said s' ≡ says (reads_of bytes)
so_said begun so e = kept_said_lem (so_ends so begun e)

module _ {s s' : State} {pieces : List (List ℕ)} (begun : Kept [] s) (fed : Fed s [] pieces s') where
  pub fed_said : state_said s' ≡ says (reads_of (flatten pieces))
  fed_said = kept_said_lem (fed_kept begun fed)

-- the same bytes in other pieces, from another beginning
pub fed_same : {s t s' t' : State} {some others : List (List ℕ)} → Kept [] s → Kept [] t → flatten some ≡ flatten others → Fed s [] some s' → Fed t [] others t' → state_said s' ≡ state_said t'
fed_same one two e fed again = fed_said one fed ∙ ap (λ (bytes : List ℕ). says (reads_of bytes)) e ∙ sym (fed_said two again)

-- ---- a run: known bytes are consumed, and heard

-- a read that gives nothing
pub none_heard : {s : State} {k : List ℕ} {left left' : Option (List ℕ)} (n : ℕ) (piece : List ℕ) → n ≡ 0 → 0 < length piece
    → Consumes left left' (take n piece) × (n ≡ 0 → 0 < length piece → IsAtEnd left') → HearsPiece s k s k left left' true
unfolding lines_after reads_from kept_after
none_heard zero piece e room read = record { piece = []; consumed = read.0; state = refl; keeps = refl; at_end = λ _. read.1 refl room; some = λ b. absurd (true≢false b) }
none_heard (suc n) piece e room read = absurd (omega arith)

-- what has been consumed in so many reads has been heard
pub record Heard (n : ℕ) (begun : State) (left left' : Option (List ℕ)) (s : State) (k : List ℕ) : Type 0 where
  pub bytes : List ℕ
  pub consumed : Consumes left left' bytes
  pub so : HeardSoFar begun bytes s k
  pub long : n ≤ length bytes

pub heard_none : (begun : State) (left : Option (List ℕ)) {k : List ℕ} → k ≡ [] → Heard 0 begun left left begun k
heard_none begun left e = rw e record { bytes = []; consumed = Consumes-nil left; so = so_begins begun; long = omega arith }

pub heard_more : {n : ℕ} {begun s s' : State} {k k' : List ℕ} {left left₁ left₂ : Option (List ℕ)} {ended : Bool} → Heard n begun left left₁ s k → HearsPiece s k s' k' left₁ left₂ ended → ended ≡ false
    → Heard (n + 1) begun left left₂ s' k'
heard_more h p on = record {
  bytes = h.bytes ++ p.piece;
  consumed = Consumes-trans _ _ _ _ _ h.consumed p.consumed;
  so = so_on h.so p.piece p.state p.keeps;
  long = omega (arith, h.long, p.some on, length-append h.bytes p.piece);
}

pub heard_last : {n : ℕ} {begun s s' : State} {k k' : List ℕ} {left left₁ left₂ : Option (List ℕ)} {ended : Bool} → Heard n begun left left₁ s k → HearsPiece s k s' k' left₁ left₂ ended → Heard n begun left left₂ s' k'
heard_last h p = record {
  bytes = h.bytes ++ p.piece;
  consumed = Consumes-trans _ _ _ _ _ h.consumed p.consumed;
  so = so_on h.so p.piece p.state p.keeps;
  long = omega (arith, h.long, length-append h.bytes p.piece);
}

-- at the end all bytes have been heard
module _ (P : Says → Type 0) (most : ℕ) {n : ℕ} {begun s : State} {k : List ℕ} where
  all_heard : {left left' : Option (List ℕ)} → Kept [] begun → Heard n begun left left' s k → IsAtEnd left'
      → ((begun : State) → (bytes : List ℕ) → Kept [] begun → HeardSoFar begun bytes s k → P (says (reads_of bytes))) → IfSome left (λ bytes. length bytes < most → P (says (reads_of bytes)))
  all_heard {left = None} kept h end tells = tt
  all_heard {left = Some xs} {left' = None} kept h end tells = absurd h.consumed
  all_heard {left = Some xs} {left' = Some ys} kept h end tells =
      let all : h.bytes ≡ xs = sym (h.consumed ∙ ap (λ (b : List ℕ). h.bytes ++ b) end ∙ append-nil h.bytes) in
      λ short. subst (λ (b : List ℕ). P (says (reads_of b))) all (tells _ _ kept h.so)

module _ (most : ℕ) {n : ℕ} {begun s : State} {k : List ℕ} {left left' out out' err err' : Option (List ℕ)} (kept : Kept [] begun) (h : Heard n begun left left' s k) (end : IsAtEnd left') where
  pub all_told : TellsHeard s k out out' err err' → IfSome left (λ bytes. length bytes < most → Told (says (reads_of bytes)) out out' err err')
  all_told = all_heard (λ s. Told s out out' err err') most kept h end

  pub front_told : TellsFront s k out out' err err' → IfSome left (λ bytes. length bytes < most → ToldFront (says (reads_of bytes)) out out' err err')
  front_told = all_heard (λ s. ToldFront s out out' err err') most kept h end

-- an input shorter than the turns has ended before they are used up
pub never : (most : ℕ) {n : ℕ} {begun s : State} {k : List ℕ} {left left' : Option (List ℕ)} (out out' err err' : Option (List ℕ)) → Heard n begun left left' s k → most ≤ n
    → IfSome left (λ bytes. length bytes < most → Told (says (reads_of bytes)) out out' err err')
never most {left = None} out out' err err' h all = tt
never most {left = Some xs} {left' = None} out out' err err' h all = absurd h.consumed
never most {left = Some xs} {left' = Some ys} out out' err err' h all = λ short. absurd (omega (arith, h.long, ap length h.consumed, length-append h.bytes ys))

pub heard_so_far : {n : ℕ} {begun s : State} {k : List ℕ} {left left' : Option (List ℕ)} → Heard n begun left left' s k → ConsumesFront left left'
heard_so_far h = (h.bytes, h.consumed)

-- what is handed over to be written, and as what
pub handed : {begun s s' : State} {bytes k : List ℕ} {refused : Bool} {text : List ℕ} → Kept [] begun → HeardSoFar begun bytes s k → s' ≡ lines_after s (last_reads k)
    → refused ≡ (state_said s').refused → text ≡ (state_said s').text → record { refused = refused; text = text } ≡ says (reads_of bytes)
handed kept so e r t = same r t ∙ so_said kept so e
  where
    same : {refused : Bool} {text : List ℕ} {s : Says} → refused ≡ s.refused → text ≡ s.text → record { refused = refused; text = text } ≡ s
    same r t = rw (r, t) refl

module _ {s s' : State} {k : List ℕ} {said : Says} {out out' err err' : Option (List ℕ)} (e : s' ≡ lines_after s (last_reads k)) (is : said ≡ state_said s') where
  pub answered : Told said out out' err err' → TellsHeard s k out out' err err'
  answered told begun bytes kept so = subst (λ (s : Says). Told s out out' err err') (handed kept so e (ap (λ (s : Says). s.refused) is) (ap (λ (s : Says). s.text) is)) told

  pub answered_front : ToldFront said out out' err err' → TellsFront s k out out' err err'
  answered_front told begun bytes kept so = subst (λ (s : Says). ToldFront s out out' err err') (handed kept so e (ap (λ (s : Says). s.refused) is) (ap (λ (s : Says). s.text) is)) told

-- ---- what is written, and where

module _ {answer : Result Report Trouble} {text : List ℕ} {out out' err : Option (List ℕ)} where
  pub report_told : {r : Report} → answer ≡ Ok r → text ≡ report_lines r → Appends out out' text → Told (said answer) out out' err err
  unfolding said
  report_told e t a = subst (λ (s : Says). Told s out out' err err) (sym (ap said e)) (record { reported = subst (Appends out out') t a; refused = Appends-nil err })

  pub report_front : {r : Report} → answer ≡ Ok r → text ≡ report_lines r → AppendsFront out out' text → ToldFront (said answer) out out' err err
  unfolding said
  report_front e t a = subst (λ (s : Says). ToldFront s out out' err err) (sym (ap said e)) (record { reported = subst (AppendsFront out out') t a; refused = (0, Appends-nil err) })

module _ {answer : Result Report Trouble} {text : List ℕ} {out err err' : Option (List ℕ)} where
  pub trouble_told : {trouble : Trouble} → answer ≡ Err trouble → text ≡ trouble_line trouble → Appends err err' text → Told (said answer) out out err err'
  unfolding said
  trouble_told e t a = subst (λ (s : Says). Told s out out err err') (sym (ap said e)) (record { reported = Appends-nil out; refused = subst (Appends err err') t a })

  pub trouble_front : {trouble : Trouble} → answer ≡ Err trouble → text ≡ trouble_line trouble → AppendsFront err err' text → ToldFront (said answer) out out err err'
  unfolding said
  trouble_front e t a = subst (λ (s : Says). ToldFront s out out err err') (sym (ap said e)) (record { reported = (0, Appends-nil out); refused = subst (AppendsFront err err') t a })

pub pairs_after : {due acting doors : List ℕ} (h : Heard') {s : State} → state_of due acting doors h ≡ s → PairsOf due acting doors s
pairs_after h e = (ap (λ (s : State). s.due) e, ap (λ (s : State). s.acting) e, ap (λ (s : State). s.doors) e)
