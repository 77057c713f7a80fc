-- `measured_box` is everything where there are no points. Assumes nothing.
use mathlib.Core.Path.{refl, ◌∙◌}
use lib.ListN.{length}
use borrow.Author.Tests.{lt-ltb}
use Rattle.boxes.specs.Nets.{measured_box}
use Rattle.boxes.proofs.Laws.{plus_infinity, minus_infinity}
use Rattle.boxes.proofs.measured_box.Goals as goal

pub returns-then-points-lt3 : goal.returns-then-points-lt3
unfolding measured_box
returns-then-points-lt3 c =
    rw (lt-ltb (length c.args.points.now) 3 c.if-points-lt3.true) (c.cube.ensures ∙ rw (minus_infinity, plus_infinity) refl)
