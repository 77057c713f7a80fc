-- `step` is step_def: an accepted step has room. Assumes nothing.
use mathlib.Core.Path.{refl, sym, ap, ◌∙◌}
use Rattle.states.specs.States.{memory}
use Rattle.nodes.specs.Nets.{geometry}
use Rattle.boxes.specs.Nets.{box_of}
use Rattle.search.proofs.Tests.{accepted, accepted-room, accepted_depth, step_accepted}
use borrow.Author.Rules.{rules}
use Rattle.search.proofs.step.Goals as goal

pub net_of-requires : goal.net_of-requires
net_of-requires c = let args = c.args in
    let u = memory args.nets1.now args.nets2.now args.ranges.now args.depths.now args.raw.now in
    let A = accepted args.st u _ _ refl (sym c.in_ok-top.was ∙ c.find_top.ensures) in
    (accepted-room args.st u _ A (search rules) (search rules)).nets1

pub net_of-requires-2 : goal.net_of-requires-2
net_of-requires-2 c = let args = c.args in
    let u = memory args.nets1.now args.nets2.now args.ranges.now args.depths.now args.raw.now in
    let A = accepted args.st u _ _ refl (sym c.in_ok-top.was ∙ c.find_top.ensures) in
    (accepted-room args.st u _ A (search rules) (search rules)).nets2

pub take_verdict-requires-clause-room : goal.take_verdict-requires-clause-room
take_verdict-requires-clause-room c = let args = c.args in
    let u = memory args.nets1.now args.nets2.now args.ranges.now args.depths.now args.raw.now in
    let A = accepted args.st u _ _ refl (sym c.in_ok-top.was ∙ c.find_top.ensures) in
    accepted-room args.st u _ A (search rules) (search rules)

pub take_verdict-requires-clause-a_value : goal.take_verdict-requires-clause-a_value
take_verdict-requires-clause-a_value c = let args = c.args in
    let u = memory args.nets1.now args.nets2.now args.ranges.now args.depths.now args.raw.now in
    let A = accepted args.st u _ _ refl (sym c.in_ok-top.was ∙ c.find_top.ensures) in (
      c.net_box-a.ensures ∙ ap box_of c.net_of.ensures.result_value,
      c.net_box-b.ensures ∙ ap box_of c.net_of-2.ensures.result_value,
      accepted_depth args.st u _ A,
    )

pub returns : goal.returns
returns c = let args = c.args in
    let u = memory args.nets1.now args.nets2.now args.ranges.now args.depths.now args.raw.now in
    let A = accepted args.st u _ _ refl (sym c.in_ok-top.was ∙ c.find_top.ensures) in
    step_accepted geometry args.st u args.v _ _ A c.take_verdict.ensures
