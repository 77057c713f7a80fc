-- `piece_boxes`: the boxes of the pieces so far stand there. Assumes nothing.
use mathlib.Core.Path.{◌≡◌}
use lib.ListN.{length, take}
use Rattle.pairs.specs.BoxLists.{boxes_from}
use Rattle.pairs.proofs.piece_boxes.Given as goal

abbrev pub invariant-loop-i : goal.invariant-loop-i
invariant-loop-i l = (length l.out ≡ length l.initial.out) × (take l.i l.out ≡ boxes_from l.p.w l.p.nets.now l.i 0)
