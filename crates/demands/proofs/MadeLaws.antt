-- From the contracts: what each function promises is a call that was made; two that were made alike agree; a refusal changes nothing.
use Prim.Native.Nat.{ℕ, ◌≤◌}
use mathlib.Core.Path.{◌≡◌, refl, sym, ap, ◌∙◌, subst}
use mathlib.Core.Bool.{Bool, false}
use mathlib.Core.List.{List}
use lib.ListN.{length, get_or}
use Rattle.rules.specs.Answers.{Answer, is_done}
use Rattle.rules.specs.Links.{most}
use Rattle.rules.specs.Calls as rules
use Rattle.rules.specs.Examples.{Order, setup_of, insert_of, take_it, look_at, held_now, audit_it, call}
use Rattle.buffers.specs.Format.{links_in, lent_of}
use Rattle.queue.specs.Calls.{Called, SlotsKept, WorkKept, Besides}
use Rattle.queue.proofs.AgreeLaws.{the_answer, Agree, agree}
use Rattle.queue.proofs.BesidesLaws.{besides_inside}
use Rattle.demands.specs.Histories.{Call, Made, accepted}
use Rattle.demands.proofs.CallLaws.{refusal_plain}

-- a call with what came back
abbrev pub called : ℕ → Order → Answer → ℕ → ℕ → Bool → Call
called work order answer word steps packed = record { order = order; work = work; answer = answer; word = word; steps = steps; packed = packed }

-- ---- the contracts of the six functions, word for word; a function that gets no work area leaves every other as it was

module _ (ws ws' area : List ℕ) (answer : Answer) (word steps : ℕ) (packed : Bool) where
  pub setup_made : (links : ℕ) → Called ws ws' (rules.setup links (lent_of ws)) answer word steps packed → SlotsKept ws ws'
      → Made ws (called (length area) (setup_of links) answer word steps packed) ws'
  unfolding call
  setup_made links promised slots = record { called = promised; area = area; left = area; lent = refl; besides = (slots, refl) }

  pub insert_made : (left : List ℕ) (entry : ℕ) → Called ws ws' (rules.insert (length area) entry (lent_of ws)) answer word steps packed → WorkKept (links_in ws) answer area left
      → Made ws (called (length area) (insert_of entry) answer word steps packed) ws'
  unfolding call
  insert_made left entry promised kept = record { called = promised; area = area; left = left; lent = refl; besides = kept }

  pub take_made : Called ws ws' (rules.take (lent_of ws)) answer word steps packed → Made ws (called (length area) take_it answer word steps packed) ws'
  unfolding call
  take_made promised = record { called = promised; area = area; left = area; lent = refl; besides = refl }

  pub look_made : Called ws ws' (rules.look (lent_of ws)) answer word steps packed → Made ws (called (length area) look_at answer word steps packed) ws'
  unfolding call
  look_made promised = record { called = promised; area = area; left = area; lent = refl; besides = refl }

-- held and audit cannot write to the array
module _ (ws area : List ℕ) (answer : Answer) (word steps : ℕ) (packed : Bool) where
  pub held_made : Called ws ws (rules.held_call (lent_of ws)) answer word steps packed → Made ws (called (length area) held_now answer word steps packed) ws
  unfolding call
  held_made promised = record { called = promised; area = area; left = area; lent = refl; besides = (refl, refl) }

  pub audit_made : Called ws ws (rules.audit (lent_of ws)) answer word steps packed → Made ws (called (length area) audit_it answer word steps packed) ws
  unfolding call
  audit_made promised = record { called = promised; area = area; left = area; lent = refl; besides = (refl, refl) }

-- ---- the work area

pub area_inside : (ws ws' : List ℕ) (c : Call) (made : Made ws c ws') → (length made.left ≡ length made.area) × ((p : ℕ) → most (links_in ws) ≤ p → get_or made.left p 0 ≡ get_or made.area p 0)
area_inside ws ws' c made = besides_inside c.order ws ws' made.area made.left c.answer made.besides

-- ---- refusals

-- nothing has changed, the work area included, and word, steps and packing say nothing
pub record Nothing (ws ws' area left : List ℕ) (c : Call) : Type 0 where
  pub unchanged : ws' ≡ ws
  pub area_unchanged : left ≡ area
  pub no_word : c.word ≡ 0
  pub no_steps : c.steps ≡ 0
  pub no_packing : c.packed ≡ false

refused_besides : (order : Order) (ws ws' area left : List ℕ) (answer : Answer) → is_done answer ≡ false → Besides order ws ws' area left answer → left ≡ area
refused_besides (setup_of links) ws ws' area left answer e besides = besides.1
refused_besides (insert_of entry) ws ws' area left answer e besides = besides.refused e
refused_besides take_it ws ws' area left answer e besides = besides
refused_besides look_at ws ws' area left answer e besides = besides
refused_besides held_now ws ws' area left answer e besides = besides.1
refused_besides audit_it ws ws' area left answer e besides = besides.1

pub refused_nothing : (ws ws' : List ℕ) (c : Call) (made : Made ws c ws') → accepted c ≡ false → Nothing ws ws' made.area made.left c
refused_nothing ws ws' c made e =
    let plain = refusal_plain (lent_of ws) c.work c.order (ap is_done (sym (the_answer made.called)) ∙ e) in
    record {
      unchanged = made.called.refused e;
      area_unchanged = refused_besides c.order ws ws' made.area made.left c.answer e made.besides;
      no_word = made.called.word_is ∙ plain.word;
      no_steps = made.called.steps_are ∙ plain.steps;
      no_packing = made.called.packed_is ∙ plain.packed;
    }

-- ---- the same order on the same array

pub made_agree : (ws ws₁ ws₂ : List ℕ) (c d : Call) → c.order ≡ d.order → c.work ≡ d.work → Made ws c ws₁ → Made ws d ws₂
    → Agree ws₁ ws₂ c.answer d.answer c.word d.word c.steps d.steps c.packed d.packed
made_agree ws ws₁ ws₂ c d order work one two =
    let o = call d.work d.order (lent_of ws) in
    let same : call c.work c.order (lent_of ws) ≡ o = λ i. call (work i) (order i) (lent_of ws) in
    agree ws ws₁ ws₂ o c.answer d.answer c.word d.word c.steps d.steps c.packed d.packed
    (subst (λ o. Called ws ws₁ o c.answer c.word c.steps c.packed) same one.called) two.called
