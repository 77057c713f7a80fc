-- `own_step` is own_step_def: the own verdict of an accepted step, carried out. Assumes nothing.
use mathlib.Core.Path.{◌≡◌, refl, sym, ap, ◌∙◌}
use borrow.Author.Rules.{rules}
use Rattle.std.proofs.Common.{Err}
use Rattle.clearing.specs.declared.Judged.{Judged}
use Rattle.states.specs.States.{memory}
use Rattle.nodes.specs.Nets.{geometry}
use Rattle.search.proofs.Tests.{accepted, accepted-room, accepted_depth, step_accepted}
use Rattle.search.proofs.Owns.{own_step_error, own_step_accepted}
use Rattle.search.proofs.own_step.Goals as goal

pub returns-in_err-top : goal.returns-in_err-top
returns-in_err-top c = let args = c.args in
    let u = memory args.nets1.now args.nets2.now args.ranges.now args.depths.now args.raw.now in
    let is : c.from_residual.result ≡ Err c.in_err-top.field-0.0 = search rules in
    rw is (own_step_error geometry args.st u _ _ refl (sym c.in_err-top.was ∙ c.find_top.ensures))

pub judge_node-own-requires-clause-w1_in_bounds : goal.judge_node-own-requires-clause-w1_in_bounds
judge_node-own-requires-clause-w1_in_bounds c = let args = c.args in
    let u = memory args.nets1.now args.nets2.now args.ranges.now args.depths.now args.raw.now in
    let A = accepted args.st u _ _ refl (sym c.in_ok-top.was ∙ c.find_top.ensures) in
    let R = accepted-room args.st u _ A (search rules) (search rules) in
    (R.nets1, R.nets2)

pub take_verdict-requires-clause-room : goal.take_verdict-requires-clause-room
take_verdict-requires-clause-room c = let args = c.args in
    let u = memory args.nets1.now args.nets2.now args.ranges.now args.depths.now args.raw.now in
    let A = accepted args.st u _ _ refl (sym c.in_ok-top.was ∙ c.find_top.ensures) in
    accepted-room args.st u _ A (search rules) (search rules)

pub take_verdict-requires-clause-a_value : goal.take_verdict-requires-clause-a_value
take_verdict-requires-clause-a_value c = let args = c.args in
    let u = memory args.nets1.now args.nets2.now args.ranges.now args.depths.now args.raw.now in
    let A = accepted args.st u _ _ refl (sym c.in_ok-top.was ∙ c.find_top.ensures) in
    let J = c.judge_node-own.ensures in
    (ap (λ (o : Judged). o.a) J, ap (λ (o : Judged). o.b) J, accepted_depth args.st u _ A)

pub returns : goal.returns
returns c = let args = c.args in
    let u = memory args.nets1.now args.nets2.now args.ranges.now args.depths.now args.raw.now in
    let A = accepted args.st u _ _ refl (sym c.in_ok-top.was ∙ c.find_top.ensures) in
    let v = c.judge_node-own.result.verdict in
    own_step_accepted geometry args.st u _ v _ A (ap (λ (o : Judged). o.verdict) c.judge_node-own.ensures)
    (step_accepted geometry args.st u v _ _ A c.take_verdict.ensures)
