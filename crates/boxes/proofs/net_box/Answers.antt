-- `net_box` is box_of: the box of the points that `measure` counts. Assumes nothing.
use mathlib.Core.Path.{sym, ap, ◌∙◌}
use native.Mathlib.Omega.{arith}
use lib.Seq.{length-take-le}
use Rattle.boxes.specs.Nets.{measured_box}
use Rattle.boxes.proofs.Laws.{measured_box_lem, seen}
use Rattle.boxes.proofs.net_box.Goals as goal

pub slice_bounds-measured_box-end : goal.slice_bounds-measured_box-end
slice_bounds-measured_box-end c = let m = c.measure-n in
    sym (length-take-le m.result m.new.out (omega arith))

pub returns : goal.returns
returns c = let m = c.measure-n in
    let net = c.args.net.now in
    c.measured_box.ensures ∙ ap measured_box (seen net _ m.new.out m.result m.ensures.value.0 m.ensures.out_after) ∙ measured_box_lem net
