-- `count_pairs` counts row by row. Assumes nothing.
use native.Mathlib.Omega.{arith}
use lib.Ieee.{nan}
use Rattle.std.proofs.lemmas.List.Sums.{sum_by_more}
use Rattle.boxes.specs.declared.Aabb.{Aabb}
use Rattle.pairs.specs.BoxLists.{near_row}
use Rattle.pairs.proofs.count_pairs.Goals as goal

pub loop-a-preserved : goal.loop-a-preserved
loop-a-preserved c = let args = c.args in
    let none : Aabb = record { x0 = nan; y0 = nan; z0 = nan; x1 = nan; y1 = nan; z1 = nan } in
    let more = sum_by_more (λ (a : Aabb). near_row args.gap a args.boxes2.now) args.boxes1.now c.loop-a.a-index none c.loop-a-test.true in
    (omega (arith, more, c.count_row-count.ensures.0, c.loop-a.invariant.0), omega (arith, c.count_row-count.ensures.1, c.loop-a.invariant.1))
