-- `own_verdict` is own_def: the top node's slots are lent. Assumes nothing.
use mathlib.Core.Path.{sym, ◌∙◌}
use mathlib.Core.List.{[]}
use Rattle.clearing.specs.Verdicts.{verdict_of}
use Rattle.states.specs.States.{memory}
use Rattle.nodes.specs.Nets.{geometry}
use Rattle.search.proofs.Tests.{judged_slots, judged}
use Rattle.search.proofs.own_verdict.Goals as goal

pub net_of-requires : goal.net_of-requires
net_of-requires c = let args = c.args in
    let u = memory args.nets1.now args.nets2.now [] args.depths.now [] in
    (judged_slots args.st u _ _ c.has_room_to_judge-room.ensures (sym c.in_ok-top.was ∙ c.top_node.ensures)).0

pub net_of-requires-2 : goal.net_of-requires-2
net_of-requires-2 c = let args = c.args in
    let u = memory args.nets1.now args.nets2.now [] args.depths.now [] in
    (judged_slots args.st u _ _ c.has_room_to_judge-room.ensures (sym c.in_ok-top.was ∙ c.top_node.ensures)).1

pub returns : goal.returns
returns c = let args = c.args in
    let u = memory args.nets1.now args.nets2.now [] args.depths.now [] in
    judged args.st u _ _ c.has_room_to_judge-room.ensures (sym c.in_ok-top.was ∙ c.top_node.ensures) geometry c.judge.result
    (c.judge.ensures ∙ (λ i. verdict_of args.st.gap (c.net_of.ensures.result_value i) (c.net_of-2.ensures.result_value i)))
