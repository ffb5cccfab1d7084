use Rattle.std.proofs.Common.{sym, ◌∙◌}
use Rattle.takes.proofs.ReadyLaws.{first_has, ready_can, ready_filled, ready_alone}
use Rattle.takes.proofs.make_ready.Goals as goal

pub wants_in-requires : goal.wants_in-requires
wants_in-requires c = λ low. first_has c.args.a.now c.args.last c.requires

pub returns-then-not-wants_in : goal.returns-then-not-wants_in
returns-then-not-wants_in c = ready_alone c.args.a.now c.args.last c.requires _ (sym c.wants_in.ensures ∙ c.if-not-wants_in.true)

pub fill-requires : goal.fill-requires
fill-requires c = ready_can c.args.a.now c.args.last c.requires (sym c.wants_in.ensures ∙ c.if-not-wants_in.false)

pub returns : goal.returns
returns c = ready_filled c.args.a.now c.args.last c.requires _ (sym c.wants_in.ensures ∙ c.if-not-wants_in.false) _ _ c.fill.ensures
