-- The loop: one turn follows the definition, and each step lowers what is left. Assumes nothing.
use mathlib.Core.Path.{◌≡◌, refl, sym, ap, ◌∙◌, subst}
use mathlib.Core.Logic.{◌⊎◌, inl, inr}
use mathlib.Core.Bool.{Bool, true, false, ◌&&◌, ◌||◌, cond, true≢false, false≢true}
use Prim.Native.Nat.{ℕ, zero, suc, ◌+◌, ◌*◌, ◌≤◌, ◌<◌}
use native.Mathlib.Numerals.{add-one}
use native.Mathlib.Omega.{arith}
use Rattle.floats.specs.Stations.{Piece}
use Rattle.std.proofs.Common.{Option, Some, None, Result, Ok, Err}
use Rattle.verdicts.specs.declared.Side.{Side}
use Rattle.verdicts.specs.declared.Verdict.{Verdict}
use Rattle.verdicts.specs.declared.Verdict.TheVariants.{Settled, Split, Unseparated}
use Rattle.states.specs.declared.State.{State}
use Rattle.states.specs.declared.Depths.{Depths}
use Rattle.states.specs.States.{Memory, sizes, needed, enough, depth_at, is_search, over}
use Rattle.states.specs.declared.StepError.{StepError}
use Rattle.states.specs.declared.StepError.TheVariants.{Ended, NoRoom}
use Rattle.nodes.specs.Geometry.{Geometry}
use Rattle.nodes.specs.Moves.{settled_state, given_state, stopped_state, halved_state}
use Rattle.search.specs.Steps.{Stepping, stepping, part1, part2, choice_at, split_at, divide_at, act_on, step_def, own_def}
use Rattle.search.specs.Runs.{carried_out, own_step_def, turned, run_for}
use Rattle.states.proofs.Tests.{waits}

-- ---- what is left to do falls with each step, or the search stops
abbrev pub left : State → ℕ
left x = 2 * x.tally.unspent + x.tally.waiting

abbrev pub Falls : State → State → Type 0
Falls x y = (left y + 1 ≡ left x) ⊎ ((left y ≡ left x) × (y.tally.stopped ≡ true))

never : {A : Type 0} (e : StepError) (y : State) → Err e ≡ Ok y → A
never e y f = absurd (let z : ◌≡◌ {A = ℕ} 0 1 = cc in omega arith)

told : (x y z : State) → Falls x z → ◌≡◌ {A = Result State StepError} (Ok z) (Ok y) → Falls x y
told x y z f e = let g : z ≡ y = cc in subst (Falls x) g f

module _ (G : Geometry) (x : State) (u : Memory) (y : State) where
  split_falls : (b : Side) (s k : ℕ) (d : Depths) (p q : Piece) → s ≡ x.tally.unspent → suc k ≡ x.tally.waiting → (split_at G b s k x u p q d).answer ≡ Ok y → Falls x y
  split_falls b zero k d p q es ek e = told x y (stopped_state x) (inr (omega arith, refl)) e
  split_falls b (suc s) k d p q es ek e = told x y (halved_state k s x) (inl (omega arith)) e

  divide_falls : (c : Option Side) (s k : ℕ) (d : Depths) (p q : Piece) → s ≡ x.tally.unspent → suc k ≡ x.tally.waiting → (divide_at G c s k x u p q d).answer ≡ Ok y → Falls x y
  divide_falls (Some line) s k d p q es ek e = split_falls line s k d p q es ek e
  divide_falls None s k d p q es ek e = told x y (given_state k x) (inl (omega arith)) e

  act_falls : (n : ℕ) (v : Verdict) → n ≡ x.tally.waiting → (act_on G n v x u).answer ≡ Ok y → Falls x y
  act_falls zero v en e = never Ended y e
  act_falls (suc k) (Settled by) en e = told x y (settled_state by k x) (inl (omega arith)) e
  act_falls (suc k) Unseparated en e = told x y (given_state k x) (inl (omega arith)) e
  act_falls (suc k) Split en e =
      let d = depth_at u.depths k in
      divide_falls (choice_at G (part1 x u k) (part2 x u k) d) x.tally.unspent k d (part1 x u k) (part2 x u k) refl en e

  step_falls : (v : Verdict) → (step_def G x u v).answer ≡ Ok y → Falls x y
  step_falls v e = go (over x.tally) (enough (needed x) (sizes u) && is_search x u) e
    where
      go : (a b : Bool) → (cond {A = Stepping} a (stepping (Err Ended) u) (cond b (act_on G x.tally.waiting v x u) (stepping (Err NoRoom) u))).answer ≡ Ok y → Falls x y
      go true b e = never Ended y e
      go false true e = act_falls x.tally.waiting v refl e
      go false false e = never NoRoom y e

  carried_falls : (a : Result Verdict StepError) → (carried_out G x u a).answer ≡ Ok y → Falls x y
  carried_falls (Ok v) e = step_falls v e
  carried_falls (Err r) e = never r y e

  pub own_step_falls : (own_step_def G x u).answer ≡ Ok y → Falls x y
  own_step_falls e = carried_falls (own_def G x u) e

-- ---- more turns than are left make no difference
stopped_over : (y : State) → y.tally.stopped ≡ true → over y.tally ≡ true
stopped_over y e = rw e refl

pub enough_turns : (G : Geometry) (x y : State) (m : Memory) → 1 ≤ left x → Falls x y → run_for G (left y + 1) y m ≡ run_for G (left x) y m
enough_turns G x y m h (inl e) = ap (λ (n : ℕ). run_for G n y m) e
enough_turns G x y m h (inr e) = rw (add-one, stopped_over y e.1) (go (left x) h)
  where
    go : (n : ℕ) → 1 ≤ n → stepping (Ok y) m ≡ run_for G n y m
    go zero h = absurd (omega arith)
    go (suc n) h = rw (stopped_over y e.1) refl

-- ---- one turn, and the ends
module _ (G : Geometry) (x : State) (u : Memory) where
  unrolled : (n : ℕ) → over x.tally ≡ false → run_for G (n + 1) x u ≡ turned (run_for G n) x (own_step_def G x u)
  unrolled n o = ap (λ (k : ℕ). run_for G k x u) (add-one n) ∙ ap (λ (b : Bool). cond b (stepping (Ok x) u) (turned (run_for G n) x (own_step_def G x u))) o

  pub run_turn : (y : State) (m : Memory) → over x.tally ≡ false → 1 ≤ left x → stepping (Ok y) m ≡ own_step_def G x u → run_for G (left y + 1) y m ≡ run_for G (left x + 1) x u
  run_turn y m o h e =
      enough_turns G x y m h (own_step_falls G x u y (ap (λ (s : Stepping). s.answer) (sym e)))
      ∙ ap (turned (run_for G (left x)) x) e ∙ sym (unrolled (left x) o)

  pub run_refused : (r : StepError) (m : Memory) → over x.tally ≡ false → stepping (Err r) m ≡ own_step_def G x u → stepping (Err r) m ≡ run_for G (left x + 1) x u
  run_refused r m o e = ap (turned (run_for G (left x)) x) e ∙ sym (unrolled (left x) o)

-- the measure of the loop
abbrev pub bit : Bool → ℕ
bit true = 0
bit false = 1

pub measure_falls : (x y : State) → over x.tally ≡ false → Falls x y → left y + bit y.tally.stopped < left x + bit x.tally.stopped
measure_falls x y o f = go x.tally.stopped refl f
  where
    small : (b : Bool) → bit b ≤ 1
    small true = omega arith
    small false = omega arith

    not_both : (a b : Bool) → a ≡ true → a || b ≡ false → ⊥
    not_both true b e f = true≢false f
    not_both false b e f = false≢true e

    go : (b : Bool) → x.tally.stopped ≡ b → Falls x y → left y + bit y.tally.stopped < left x + bit b
    go true e f = absurd (not_both x.tally.stopped _ e o)
    go false e (inl f) = let s = small y.tally.stopped in omega arith
    go false e (inr f) = let l = f.0 in rw f.1 (omega arith)

pub some_left : (x : State) → over x.tally ≡ false → 1 ≤ left x
some_left x o = let w = waits x.tally o in omega arith
