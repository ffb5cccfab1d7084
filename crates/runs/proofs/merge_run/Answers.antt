-- An input that is empty, or no room, ends the run before its first step; else the room is lent, and what lies beside it.
use Rattle.std.proofs.Common.{◌≡◌, ◌++◌, ◌-◌, take, drop, arith, sym, ap, ◌∙◌}
use Rattle.runs.specs.Promises.{stretch}
use Rattle.runs.proofs.RangeLaws.{some_in_range, none_in_range}
use Rattle.runs.proofs.ArrayLaws.{beside_room, one_empty, two_empty, no_room, merges_within}
use Rattle.runs.proofs.merge_run.Goals.{then-is_empty-via-then-is_empty, then-is_empty-via-else-is_empty+then-is_empty-2, then-is_empty-via-else-is_empty+else-is_empty-2+then-is_empty-3}
use Rattle.runs.proofs.merge_run.Goals as goal

pub returns-then-is_empty : goal.returns-then-is_empty
returns-then-is_empty c =
    let s = c.args in
    elim c.then-is_empty.branch [
      | then-is_empty-via-then-is_empty w ↦ one_empty _ _ _ _ _ _ _ _ c.requires (none_in_range s.one.start s.one.end (sym c.is_empty.ensures ∙ w.if-is_empty.true))
      | then-is_empty-via-else-is_empty+then-is_empty-2 w ↦ two_empty _ _ _ _ _ _ _ _ c.requires (none_in_range s.two.start s.two.end (sym w.is_empty-else-is_empty.ensures ∙ w.if-is_empty-2.true))
      | then-is_empty-via-else-is_empty+else-is_empty-2+then-is_empty-3 w ↦ no_room _ _ _ _ _ _ _ _ c.requires (omega (arith, none_in_range s.out.start s.out.end (sym w.is_empty-else-is_empty-2.ensures ∙ w.if-is_empty-3.true)))
    ]

pub beside-xs-requires : goal.beside-xs-requires
beside-xs-requires c =
    let s = c.args in
    let r = c.requires in
    let room = some_in_range s.out.start s.out.end (sym c.is_empty-else-is_empty-2.ensures ∙ c.if-is_empty-3.false) in
    beside_room s.a.now s.out.start (s.out.end - s.out.start) s.one.start s.one.end r.one_apart (omega arith) (some_in_range s.one.start s.one.end (sym c.is_empty.ensures ∙ c.if-is_empty.false)) r.one_inside
    _ _ (omega arith) (omega arith)

pub beside-ys-requires : goal.beside-ys-requires
beside-ys-requires c =
    let s = c.args in
    let r = c.requires in
    let room = some_in_range s.out.start s.out.end (sym c.is_empty-else-is_empty-2.ensures ∙ c.if-is_empty-3.false) in
    beside_room s.a.now s.out.start (s.out.end - s.out.start) s.two.start s.two.end r.two_apart (omega arith) (some_in_range s.two.start s.two.end (sym c.is_empty-else-is_empty.ensures ∙ c.if-is_empty-2.false)) r.two_inside
    _ _ (omega arith) (omega arith)

pub returns : goal.returns
returns c =
    let s = c.split_at_mut-before in
    let t = c.split_at_mut-free in
    let whole : c.args.a.now ≡ s.result.0.now ++ (t.result.0.now ++ t.result.1.now) = s.ensures.value ∙ ap (λ r. s.result.0.now ++ r) t.ensures.value in
    let r = c.requires in
    let room = c.args.out.end - c.args.out.start in
    merges_within _ (c.beside-xs.ensures.words t.result.0.now (omega arith) ∙ ap (stretch c.args.one.start c.args.one.end) (sym whole))
    (c.beside-ys.ensures.words t.result.0.now (omega arith) ∙ ap (stretch c.args.two.start c.args.two.end) (sym whole))
    s.ensures.front
    (t.ensures.front ∙ ap (λ r. take room r) s.ensures.back)
    (t.ensures.back ∙ ap (λ r. drop room r) s.ensures.back)
    r.free c.merge_heads.ensures
