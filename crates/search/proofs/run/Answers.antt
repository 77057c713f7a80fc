-- `run` is run_def. The loop's invariant: as many turns as are left, from here, give what the whole run gives. The measure is what is left, and one more until the search stops. Assumes nothing.
use borrow.Author.Rules.{rules}
use mathlib.Core.Bool.{false}
use mathlib.Core.Path.{◌≡◌, sym, ap, ◌∙◌}
use Rattle.std.proofs.Common.{Result, Err}
use Rattle.states.specs.declared.State.{State}
use Rattle.states.specs.declared.StepError.{StepError}
use Rattle.states.specs.States.{memory, over}
use Rattle.nodes.specs.Nets.{geometry}
use Rattle.search.specs.Steps.{Stepping, stepping}
use Rattle.search.proofs.Runs.{own_step_falls, measure_falls, some_left, run_turn, run_refused}
use Rattle.search.proofs.run.Goals as goal

pub loop-p-smaller : goal.loop-p-smaller
loop-p-smaller c = let l = c.loop-p in
    measure_falls l.s c.in_ok-s.s (search rules)
    (own_step_falls geometry l.s (memory l.nets1 l.nets2 l.ranges l.depths l.raw) c.in_ok-s.s
    (ap (λ (o : Stepping). o.answer) (sym c.own_step.ensures) ∙ c.in_ok-s.was))

pub loop-p-preserved : goal.loop-p-preserved
loop-p-preserved c = let l = c.loop-p in
    let o = c.own_step in
    let runs : over l.s.tally ≡ false = search rules in (
      run_turn geometry l.s (memory l.nets1 l.nets2 l.ranges l.depths l.raw) c.in_ok-s.s (memory o.new.nets1 o.new.nets2 o.new.ranges o.new.depths o.new.raw) runs
          (some_left l.s runs)
          (ap (λ (r : Result State StepError). stepping r (memory o.new.nets1 o.new.nets2 o.new.ranges o.new.depths o.new.raw)) (sym c.in_ok-s.was) ∙ o.ensures)
          ∙ l.invariant.0,
      o.auto.nets1 ∙ l.invariant.1,
      o.auto.nets2 ∙ l.invariant.2,
      o.auto.ranges ∙ l.invariant.3,
      o.auto.depths ∙ l.invariant.4,
      o.auto.raw ∙ l.invariant.5,
      o.auto.p ∙ l.invariant.6,
      o.auto.q ∙ l.invariant.7,
    )

pub returns-in_err-s : goal.returns-in_err-s
returns-in_err-s c = let l = c.loop-p in
    let o = c.own_step in
    let m = memory o.new.nets1 o.new.nets2 o.new.ranges o.new.depths o.new.raw in
    let is : c.from_residual.result ≡ Err c.in_err-s.field-0.0 = search rules in
    rw is (run_refused geometry l.s (memory l.nets1 l.nets2 l.ranges l.depths l.raw) _ m (search rules)
    (ap (λ (r : Result State StepError). stepping r m) (sym c.in_err-s.was) ∙ o.ensures)
    ∙ l.invariant.0)
