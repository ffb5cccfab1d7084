-- Each factor fits, and so does their product.
use Rattle.std.proofs.Common.{ap, ◌∙◌, ◌+◌, ◌^◌, ◌≤◌, arith}
use native.Mathlib.Nat.{mul-le-mul}
use Rattle.rules.specs.Links.{most}
use Rattle.rules.proofs.Table.{most_few}
use Rattle.limits.proofs.SizeLaws.{height_few}
use Rattle.limits.proofs.per_packing.Goals as goal

pub overflow_mul-result : goal.overflow_mul-result
overflow_mul-result c =
    let links = c.args.links in
    let deep : links + c.height.result ≤ 10 = omega (arith, height_few links (omega arith) (omega arith)) in
    let many : c.most.result ≤ 2 ^ 20 = omega (arith, c.most.ensures ∙ ap most c.at.ensures, most_few c.requires) in
    omega (arith, mul-le-mul deep many)
