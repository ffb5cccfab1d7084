-- Where a run has ended and out is not full, the rest comes from the other.
use Rattle.std.proofs.Common.{rules, tests}
use Rattle.runs.proofs.EndLaws.{parts_none, parts_full, first_inside, parts_first, parts_second}
use Rattle.runs.proofs.part.Goals as goal

pub returns-then-is_empty : goal.returns-then-is_empty
returns-then-is_empty c = parts_none _ _ _ _ (search (rules, tests))

pub returns-then-left-eq0 : goal.returns-then-left-eq0
returns-then-left-eq0 c = parts_full _ c.merge_until-moved.ensures c.if-left-eq0.true

pub slice_bounds-lay-end : goal.slice_bounds-lay-end
slice_bounds-lay-end c = first_inside _ c.merge_until-moved.ensures c.requires c.if-left-eq0.false c.if-first-xs.true

pub returns-then-first-xs : goal.returns-then-first-xs
returns-then-first-xs c = parts_first _ c.merge_until-moved.ensures c.requires c.if-left-eq0.false c.if-first-xs.true _ c.lay.ensures

pub returns : goal.returns
returns c = parts_second _ c.merge_until-moved.ensures c.requires c.if-left-eq0.false c.if-first-xs.false _ c.lay-2.ensures
