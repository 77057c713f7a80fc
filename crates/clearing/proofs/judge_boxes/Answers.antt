-- `judge_boxes` is judged_of: the tests on the points that `measure` counts of both nets. Assumes nothing.
use mathlib.Core.Path.{sym}
use lib.ListN.{take}
use lib.Seq.{length-take-le}
use native.Mathlib.Omega.{arith}
use Rattle.boxes.proofs.Laws.{seen}
use Rattle.clearing.proofs.Laws.{judged_is}
use Rattle.clearing.proofs.judge_boxes.Goals as goal

pub slice_bounds-measured_box-end : goal.slice_bounds-measured_box-end
slice_bounds-measured_box-end c = let m = c.measure-n in
    sym (length-take-le m.result m.new.out
    (omega (arith, m.ensures.value.1, m.auto, c.scratch-p.ensures.1)))

pub slice_bounds-measured_box-end-2 : goal.slice_bounds-measured_box-end-2
slice_bounds-measured_box-end-2 c = let m = c.measure-m in
    sym (length-take-le m.result m.new.out
    (omega (arith, m.ensures.value.1, m.auto, c.scratch-q.ensures.1)))

pub slice_bounds-judge_measured-end : goal.slice_bounds-judge_measured-end
slice_bounds-judge_measured-end c = let m = c.measure-n in
    sym (length-take-le m.result m.new.out (omega (
      arith,
      m.ensures.value.1,
      m.auto,
      c.scratch-p.ensures.1,
    )))

pub slice_bounds-judge_measured-end-2 : goal.slice_bounds-judge_measured-end-2
slice_bounds-judge_measured-end-2 c = let m = c.measure-m in
    sym (length-take-le m.result m.new.out (omega (
      arith,
      m.ensures.value.1,
      m.auto,
      c.scratch-q.ensures.1,
    )))

pub returns : goal.returns
returns c = let args = c.args in
    let m = c.measure-n in
    let n = c.measure-m in
    let p = c.measured_box-a in
    let q = c.measured_box-b in
    judged_is args.gap args.first.now args.second.now (take m.result m.new.out) (take n.result n.new.out) p.result
    q.result c.judge_measured-verdict.result
    (seen args.first.now _ m.new.out m.result m.ensures.value.0 m.ensures.out_after)
    (seen args.second.now _ n.new.out n.result n.ensures.value.0 n.ensures.out_after)
    p.ensures q.ensures c.judge_measured-verdict.ensures
