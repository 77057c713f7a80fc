-- `judge_node` is judged_of of the two nets: the tests on the points that `measure` counts of both. Assumes nothing.
use mathlib.Core.Path.{◌∙◌}
use lib.ListN.{take}
use Rattle.boxes.proofs.Laws.{seen}
use Rattle.clearing.specs.Verdicts.{judged_of}
use Rattle.clearing.proofs.Laws.{judged_is}
use Rattle.search.proofs.judge_node.Goals as goal

pub returns : goal.returns
returns c = let args = c.args in
    let m = c.measure-np in
    let n = c.measure-nq in
    let p = c.measured_box-a in
    let q = c.measured_box-b in
    judged_is args.st.gap _ _ (take m.result m.new.out) (take n.result n.new.out) p.result q.result c.judge_measured-verdict.result
    (seen _ _ m.new.out m.result m.ensures.value.0 m.ensures.out_after) (seen _ _ n.new.out n.result n.ensures.value.0 n.ensures.out_after)
    p.ensures q.ensures c.judge_measured-verdict.ensures
    ∙ (λ i. judged_of args.st.gap (c.net_of.ensures.result_value i) (c.net_of-2.ensures.result_value i))
