-- `piece_boxes` writes the boxes one behind the other. Assumes nothing.
use borrow.Author.Rules.{rules}
use mathlib.Core.Path.{refl, ap, ◌∙◌}
use Rattle.boxes.specs.Nets.{box_of}
use Rattle.pairs.proofs.Boxes.{boxes_start, boxes_turn}
use Rattle.pairs.proofs.piece_boxes.Goals as goal

pub loop-i-init : goal.loop-i-init
loop-i-init c = (refl, boxes_start c.args.p.w c.args.p.nets.now c.args.out.now)

pub loop-i-preserved : goal.loop-i-preserved
loop-i-preserved c = let args = c.args in (
  search rules,
  boxes_turn args.p.w args.p.nets.now c.loop-i.out _ c.loop-i.i (search rules) c.loop-i.invariant.1
      (c.net_box.ensures ∙ ap box_of c.slot.ensures.result_value),
)
