-- The loop, from any state and memory, is a list of calls: own verdict and step in turn. Assumes nothing.
use mathlib.Core.Path.{◌≡◌, refl, ap, sym, ◌∙◌, subst}
use mathlib.Core.List.{List, [], ◌∷◌, ◌++◌, append-nil}
use mathlib.Core.Bool.{Bool, true, false, cond}
use Prim.Native.Nat.{ℕ, zero, suc, ◌+◌, ◌*◌}
use native.Mathlib.Omega.{arith}
use lib.ListN.{length, take, drop}
use lib.Seq.{take_all}
use Rattle.verdicts.specs.declared.Verdict.{Verdict}
use Rattle.states.specs.declared.State.{State}
use Rattle.states.specs.States.{Memory, sizes, over}
use Rattle.nodes.specs.Geometry.{Geometry}
use Rattle.nodes.specs.Nets.{geometry}
use Rattle.search.specs.Steps.{Stepping, stepping, step_def, own_def}
use Rattle.search.specs.Runs.{carried_out, turned, run_for}
use Rattle.coverage.specs.Calls.{Call, step, Outcome, step_outcome, lend, give_back, back_in, call, run_all}
use Rattle.coverage.specs.Complete.{turn_calls, loop_on, RunIsCalls}
use Rattle.opening.proofs.Acts.{failed}
use Rattle.coverage.proofs.Demand3.{same_ok}
use Rattle.states.specs.declared.StepError.{StepError}
use Rattle.std.proofs.Common.{Result, Ok, Err}

-- ---- a step that is lent the whole memory
drop_none : {A : Type 0} (l : List A) → drop (length l) l ≡ []
drop_none [] = refl
drop_none (x ∷ l) = drop_none l

take_whole : {A : Type 0} (l : List A) → take (length l) l ≡ l
take_whole l = take_all (length l) l (omega arith)

lend-whole : (u : Memory) → lend (sizes u) u ≡ u
lend-whole u = λ i. record {
  nets1 = take_whole u.nets1 i;
  nets2 = take_whole u.nets2 i;
  ranges = take_whole u.ranges i;
  depths = take_whole u.depths i;
  raw = take_whole u.raw i;
}

back : {A : Type 0} (w l : List A) → w ++ drop (length l) l ≡ w
back w l = ap (λ z. w ++ z) (drop_none l) ∙ append-nil w

back_whole : (w u : Memory) → give_back (sizes u) w u ≡ w
back_whole w u = λ i. record {
  nets1 = back w.nets1 u.nets1 i;
  nets2 = back w.nets2 u.nets2 i;
  ranges = back w.ranges u.ranges i;
  depths = back w.depths u.depths i;
  raw = back w.raw u.raw i;
}

call-whole : (G : Geometry) (v : Verdict) (x : State) (u : Memory) → call G (step v (sizes u)) x u ≡ step_outcome x (step_def G x u v)
call-whole G v x u =
    ap (λ (l : Memory). back_in (sizes u) u (step_outcome x (step_def G x l v))) (lend-whole u)
    ∙ (λ i. record { answer = (step_outcome x (step_def G x u v)).answer; state = (step_outcome x (step_def G x u v)).state; memory = back_whole (step_def G x u v).memory u i })

-- ---- turn by turn
abbrev Runs : Geometry → List Call → State → Memory → State → Memory → Type 0
Runs G cs x u y w = ((run_all G cs x u).state ≡ y) × ((run_all G cs x u).memory ≡ w)

-- the loop's list where the own verdict is o
abbrev turn_for : Geometry → ℕ → State → Memory → Result Verdict StepError → List Call
turn_for G n x u o = let turn = turn_calls (sizes u) o in let r = run_all G turn x u in turn ++ loop_on G n r.state r.memory

module _ (G : Geometry) (n : ℕ) (go : (x y : State) (u : Memory) → (run_for G n x u).answer ≡ Ok y → Runs G (loop_on G n x u) x u y (run_for G n x u).memory) where
  finish : (x y : State) (a : Result State StepError) (w : Memory) → (turned (run_for G n) x (stepping a w)).answer ≡ Ok y
      → let o = step_outcome x (stepping a w) in Runs G (loop_on G n o.state o.memory) o.state o.memory y (turned (run_for G n) x (stepping a w)).memory
  finish x y (Ok z) w e = go z y w e
  finish x y (Err k) w e = failed e

  turn : (x y : State) (u : Memory) (b : Bool) (o : Result Verdict StepError) → (cond {A = Stepping} b (stepping (Ok x) u) (turned (run_for G n) x (carried_out G x u o))).answer ≡ Ok y
      → Runs G (cond b [] (turn_for G n x u o)) x u y (cond {A = Stepping} b (stepping (Ok x) u) (turned (run_for G n) x (carried_out G x u o))).memory
  turn x y u true o e = (same_ok x y e, refl)
  turn x y u false (Ok v) e =
      subst (λ (o : Outcome). Runs G (loop_on G n o.state o.memory) o.state o.memory y (turned (run_for G n) x (step_def G x u v)).memory)
      (sym (call-whole G v x u)) (finish x y (step_def G x u v).answer (step_def G x u v).memory e)
  turn x y u false (Err k) e = failed e

runs : (G : Geometry) (n : ℕ) (x y : State) (u : Memory) → (run_for G n x u).answer ≡ Ok y → Runs G (loop_on G n x u) x u y (run_for G n x u).memory
runs G zero x y u e = (same_ok x y e, refl)
runs G (suc n) x y u e = turn G n (runs G n) x y u (over x.tally) (own_def G x u) e

pub run_is_calls : RunIsCalls
run_is_calls x y u e = runs geometry (2 * x.tally.unspent + x.tally.waiting + 1) x y u e
