-- A step with the own verdict: the own verdict asked first, then the step, refuse and act as one function does. Assumes nothing.
use mathlib.Core.Path.{◌≡◌, refl, ap, ◌∙◌}
use mathlib.Core.Bool.{Bool, true, false, ◌&&◌, cond}
use Prim.Native.Nat.{ℕ, zero, suc, ◌-◌, ◌*◌, ◌≤◌}
use native.Mathlib.Omega.{arith}
use Rattle.lists.specs.Parts.{block}
use Rattle.verdicts.specs.declared.Verdict.{Verdict}
use Rattle.states.specs.declared.State.{State}
use Rattle.states.specs.States.{Memory, sizes, needed, enough, enough_own, is_search, top_of}
use Rattle.std.proofs.Common.{Err}
use Rattle.states.specs.declared.Top.{Top}
use Rattle.states.specs.declared.StepError.{StepError}
use Rattle.states.specs.declared.StepError.TheVariants.{Ended, NoRoom}
use Rattle.nodes.specs.Geometry.{Geometry}
use Rattle.search.specs.Steps.{Stepping, stepping, judge_at, step_def}
use Rattle.search.specs.Runs.{carried_out, own_step_def}
use Rattle.states.proofs.Tests.{waits, enough_own_lem, top_ended, top_refused}
use Rattle.search.proofs.Tests.{Accepted, accepted_is, own_judged, step_refused}

module _ (G : Geometry) (x : State) (u : Memory) where
  pub own_step_ended : (b : Bool) → Err Ended ≡ top_of x.tally b u.depths → stepping (Err Ended) u ≡ own_step_def G x u
  own_step_ended b e = rw (top_ended x.tally b u.depths e) refl

  refused : (b : Bool) (n : ℕ) → 1 ≤ n → ((v : Verdict) → stepping (Err NoRoom) u ≡ step_def G x u v) → stepping (Err NoRoom) u ≡ carried_out G x u (cond b (judge_at G n x u) (Err NoRoom))
  refused true zero h f = absurd (omega arith)
  refused true (suc n) h f = f _
  refused false n h f = refl

  pub own_step_refused : (b : Bool) → b ≡ enough (needed x) (sizes u) → Err NoRoom ≡ top_of x.tally b u.depths → stepping (Err NoRoom) u ≡ own_step_def G x u
  own_step_refused b h e =
      let o = (top_refused x.tally b u.depths e).0 in
      rw o (refused (enough_own (needed x) (sizes u) && is_search x u) x.tally.waiting (waits x.tally o) (λ v. step_refused G x u v b h e))

  -- either refusal of what is on top is the step's
  pub own_step_error : (b : Bool) (r : StepError) → b ≡ enough (needed x) (sizes u) → Err r ≡ top_of x.tally b u.depths → stepping (Err r) u ≡ own_step_def G x u
  own_step_error b Ended h e = own_step_ended b e
  own_step_error b NoRoom h e = own_step_refused b h e

  pub own_step_accepted : (r : Stepping) (v : Verdict) (w : Top) → Accepted x u w
      → v ≡ G.clearing x.gap (block (4 * x.width1) w.place u.nets1) (block (4 * x.width2) w.place u.nets2) → r ≡ step_def G x u v → r ≡ own_step_def G x u
  own_step_accepted r v w A h f =
      let at : w.place ≡ x.tally.waiting - 1 = (let t = A.top in omega arith) in
      f
      ∙ ap (carried_out G x u) (own_judged G x u v A.runs (enough_own_lem (needed x) (sizes u) A.lent) (accepted_is x u w A)
      (h ∙ ap (λ (j : ℕ). G.clearing x.gap (block (4 * x.width1) j u.nets1) (block (4 * x.width2) j u.nets2)) at))
