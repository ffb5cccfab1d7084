-- Two outcomes that meet one contract agree: in what they answer, and in what their cutters keep.
use mathlib.Core.Path.{◌≡◌, refl, ap, sym, ◌∙◌}
use mathlib.Core.List.{List}
use Prim.Native.Nat.{ℕ}
use native.Mathlib.Omega.{arith}
use Rattle.frames.specs.Answers.{read_back}
use Rattle.frames.proofs.AnswerLaws.{back_same}
use Rattle.lines.specs.Cutter.{kept, Cut, feed_of, last_of, Step, next_of}
use Rattle.lines.specs.Answers.{ended_back, fed_back, next_back}
use Rattle.frames.specs.declared.Order.{Order}
use Rattle.frames.specs.declared.NotAFrame.{NotAFrame}
use Rattle.std.specs.Prelude.{Option, Some, None, Result}
use Rattle.lines.specs.declared.Fed.{Fed}
use Rattle.lines.specs.declared.Next.{Next}

pub ended_same : (r s : Option (Result Order NotAFrame)) → ended_back r ≡ ended_back s → r ≡ s
ended_same (Some a) (Some b) e = let h : read_back a ≡ read_back b = cc in ap Some (back_same a b h)
ended_same (Some a) None e = let z : ◌≡◌ {A = ℕ} 0 1 = cc in absurd (omega arith)
ended_same None (Some b) e = let z : ◌≡◌ {A = ℕ} 0 1 = cc in absurd (omega arith)
ended_same None None e = refl

pub finish_agrees : (k : List ℕ) (r s : Option (Result Order NotAFrame)) → ended_back r ≡ last_of k → ended_back s ≡ last_of k → r ≡ s
finish_agrees k r s a b = ended_same r s (a ∙ sym b)

pub feed_agrees : (k : List ℕ) (b : ℕ) (r s : Fed) → fed_back r ≡ feed_of k b → fed_back s ≡ feed_of k b → (r.ended ≡ s.ended) × (kept r.cutter ≡ kept s.cutter)
feed_agrees k b r s p q =
    let e : fed_back r ≡ fed_back s = p ∙ sym q in
    (ended_same r.ended s.ended (ap (λ (c : Cut). c.orders) e), ap (λ (c : Cut). c.keeps) e)

pub next_agrees : (k : List ℕ) (at : ℕ) (bs : List ℕ) (r s : Next) → next_back r ≡ next_of k at bs → next_back s ≡ next_of k at bs
    → (r.ended ≡ s.ended) × (r.at ≡ s.at) × (kept r.cutter ≡ kept s.cutter)
next_agrees k at bs r s p q =
    let e : next_back r ≡ next_back s = p ∙ sym q in
    (ended_same r.ended s.ended (ap (λ (t : Step). t.cut.orders) e), ap (λ (t : Step). t.at) e, ap (λ (t : Step). t.cut.keeps) e)
