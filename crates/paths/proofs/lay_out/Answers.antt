use mathlib.Core.Path.{◌≡◌, ap, ◌∙◌}
use Prim.Native.Nat.{ℕ}
use native.Mathlib.Omega.{arith}
use Rattle.rules.specs.Links.{k, s, first}
use Rattle.rules.proofs.Table.{first_most, in_book}
use Rattle.paths.proofs.LayOutLaws.{out_empties, part_is, rest_is, lying_first, lying_asks, lying_next, lying_last}
use Rattle.paths.proofs.lay_out.Goals as goal

-- a size that is read at a link is the link's
at : {r x y : ℕ} (f : ℕ → ℕ) → r ≡ f x → x ≡ y → r ≡ f y
at f e same = e ∙ ap f same

pub overflow_add-first : goal.overflow_add-first
overflow_add-first c = omega (arith, at k c.k-k.ensures c.at-link.ensures, at first c.first.ensures c.at-link.ensures, first_most c.requires.link, in_book)

pub empty_before-requires : goal.empty_before-requires
empty_before-requires c = out_empties c.requires _ (omega (arith, at k c.k-k.ensures c.at-link.ensures, at first c.first.ensures c.at-link.ensures))

pub overflow_add-n-end : goal.overflow_add-n-end
overflow_add-n-end c = omega (arith, at k c.k-k.ensures c.at-link.ensures, at first c.first.ensures c.at-link.ensures, first_most c.requires.link, in_book)

pub loop-n-init : goal.loop-n-init
loop-n-init c = lying_first c.requires _ _ _ (omega (arith, at k c.k-k.ensures c.at-link.ensures, at first c.first.ensures c.at-link.ensures)) c.empty_before.ensures

pub lay_run-requires : goal.lay_run-requires
lay_run-requires c =
    lying_asks c.requires c.loop-n.invariant (omega (arith, at k c.k-k.ensures c.at-link.ensures, at first c.first.ensures c.at-link.ensures)) _
    (part_is _ _ _ c.split_at.ensures.front c.min.ensures _ (at s c.s-size.ensures c.at-link.ensures))

pub loop-n-preserved : goal.loop-n-preserved
loop-n-preserved c =
    lying_next c.requires c.loop-n.invariant (omega (arith, at k c.k-k.ensures c.at-link.ensures, at first c.first.ensures c.at-link.ensures)) _
    (part_is _ _ _ c.split_at.ensures.front c.min.ensures _ (at s c.s-size.ensures c.at-link.ensures)) _
    (rest_is _ _ _ c.split_at.ensures.back c.min.ensures _ (at s c.s-size.ensures c.at-link.ensures)) _ c.lay_run.ensures.now c.lay_run.ensures.word

pub returns : goal.returns
returns c = lying_last c.requires c.loop-n.invariant (omega (arith, at k c.k-k.ensures c.at-link.ensures, at first c.first.ensures c.at-link.ensures))
