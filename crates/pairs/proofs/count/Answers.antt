-- `count` leaves the boxes of both lines, and counts the pairs. Assumes nothing.
use mathlib.Core.Path.{ap, ◌∙◌}
use lib.ListN.{length}
use Rattle.pairs.specs.Pairs.{nets_with}
use Rattle.pairs.specs.BoxLists.{near_all}
use Rattle.pairs.proofs.Boxes.{boxes_length, held}
use Rattle.pairs.proofs.Counts.{counts_pairs}
use Rattle.pairs.proofs.count.Goals as goal

pub returns-clause-upper_bound : goal.returns-clause-upper_bound
returns-clause-upper_bound c = let args = c.args in
    let e1 = c.piece_boxes.ensures in
    let e2 = c.piece_boxes-2.ensures in
    let l1 = ap length e1 ∙ boxes_length args.p.w args.p.nets.now (length args.boxes1.now) 0 in
    let l2 = ap length e2 ∙ boxes_length args.q.w args.q.nets.now (length args.boxes2.now) 0 in (
      λ t1 t2. c.count_pairs.ensures.0
          ∙ (λ i. near_all args.gap (e2 i) (e1 i))
          ∙ counts_pairs args.gap (nets_with args.p t1) (nets_with args.q t2) (length args.boxes2.now) (length args.boxes1.now) 0,
      rw (← l1, ← l2) c.count_pairs.ensures.1,
    )

pub returns-clause-holds_boxes : goal.returns-clause-holds_boxes
returns-clause-holds_boxes c = let args = c.args in
    (held args.p.w args.p.nets.now _ (length args.boxes1.now) c.piece_boxes.ensures, held args.q.w args.q.nets.now _ (length args.boxes2.now) c.piece_boxes-2.ensures)
