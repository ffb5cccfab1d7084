use Rattle.std.proofs.Common.{◌≡◌, ◌+◌, [], ◌∷◌, refl, ◌∙◌, arith}
use Rattle.std.specs.Int.{int_min, int_max}
use Rattle.lateness.specs.Reports.{hits}
use Rattle.std.proofs.Math.Facts.{to_z-of_z}
use Rattle.lateness.proofs.ClockLaws.{small}
use Rattle.lateness.proofs.SignedLaws.{fits_half, sum_is, of_two, hit_is}
use Rattle.lateness.proofs.RowLaws.{smaller, larger, seen_first, seen_more}
use Rattle.lateness.proofs.Seen.with.Goals as goal

pub returns-then-self-eq0 : goal.returns-then-self-eq0
returns-then-self-eq0 c =
    let exact : c.args.self.exact + c.from.result ≡ hits (c.args.late ∷ []) + c.args.self.exact = omega (arith, c.from.ensures, hit_is c.args.late c.ranges.late) in
    λ xs told. seen_first _ xs _ told c.if-self-eq0.true _ _ (to_z-of_z c.ranges.late) exact

pub returns : goal.returns
returns c =
    let few = c.requires.few in
    let late = c.ranges.late in
    let seen = c.args.self in
    let exact : seen.exact + c.from.result ≡ hits (c.args.late ∷ []) + seen.exact = omega (arith, c.from.ensures, hit_is c.args.late late) in
    λ xs told.
    seen_more _ xs _ told c.if-self-eq0.false _ _ _ _ _ refl
    (of_two int_min c.args.late seen.earliest c.min.result late (fits_half few.first) (small c.min.type_inv) c.min.ensures.value ∙ smaller c.args.late seen.earliest)
    (of_two int_max c.args.late seen.latest c.max.result late (fits_half few.last) (small c.max.type_inv) c.max.ensures.value ∙ larger c.args.late seen.latest)
    (sum_is c.args.late seen.sum c.requires.late_bound few.total)
    exact
