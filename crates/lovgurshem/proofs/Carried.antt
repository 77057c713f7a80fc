-- What one call leaves is what the next one reads: words and state are each other's, and no step changes what its words leave. Assumes nothing.
use mathlib.Core.Path.{◌≡◌, refl, sym, ap, subst, ◌∙◌}
use mathlib.Core.Bool.{Bool, true, false, ◌&&◌, cond}
use mathlib.Core.List.{List}
use Prim.Native.Nat.{ℕ, zero, suc, ◌+◌, ◌*◌}
use borrow.Author.Tests.{le-leb}
use lib.Dec.{T}
use lib.Ieee.{Float, binary64, fits}
use Rattle.std.specs.Prelude.{Option, Some, None, Result, Ok, Err}
use Rattle.floats.specs.Stations.{Piece}
use Rattle.verdicts.specs.declared.Side.{Side}
use Rattle.verdicts.specs.declared.Verdict.{Verdict}
use Rattle.verdicts.specs.declared.Verdict.TheVariants.{Settled, Split, Unseparated}
use Rattle.lines.specs.Lines.{Question}
use Rattle.terms.specs.declared.Terms.{Terms}
use Rattle.states.specs.declared.State.{State}
use Rattle.states.specs.declared.Depths.{Depths}
use Rattle.states.specs.declared.StepError.{StepError}
use Rattle.states.specs.declared.StepError.TheVariants.{Ended, NoRoom as NoStepRoom}
use Rattle.states.specs.States.{Memory, sizes, needed, enough, depth_at, is_search, over}
use Rattle.nodes.specs.Geometry.{Geometry}
use Rattle.nodes.specs.Nets.{geometry}
use Rattle.search.specs.Steps.{Stepping, stepping, part1, part2, choice_at, split_at, divide_at, act_on, step_def, own_def}
use Rattle.search.specs.Runs.{carried_out, own_step_def, turned, run_for, run_def}
use Rattle.opening.specs.declared.OpenError.{OpenError}
use Rattle.opening.specs.declared.OpenError.TheVariants.{NoRoom}
use Rattle.opening.specs.Asked.{start, state_of as search_state}
use Rattle.opening.specs.Opens.{search_for, Pushing, pushing, Opening, open_def}
use Rattle.opening.specs.Examines.{tests_of}
use Rattle.opening.proofs.Acts.{opened_by, opened_is}
use Rattle.words.proofs.Laws.{within, reads_back, reads_moved}
use Rattle.words.specs.Words.{is_state, state_of}
use Rattle.verdicts.specs.Verdicts.{verdict_of}
use Rattle.lovgurshem.specs.Answers.{opened_words, stepped_words}
use Rattle.lovgurshem.specs.Calls.{call_open, call_step, call_run}
use Rattle.lovgurshem.specs.Carried.{Doubles, OpenCarried, StepCarried, RunCarried}

-- ---- what no step changes: P, S, the widths, the gap, the whole turns and the asked ends
abbrev Fixed : Type 0
Fixed = ℕ × ℕ × ℕ × ℕ × Float × Terms

abbrev fixed : State → Fixed
fixed x = (x.tally.pairs, x.tally.quota, x.width1, x.width2, x.gap, x.terms)

abbrev fixed_in : Result State StepError → Fixed → Fixed
fixed_in (Ok x) g = fixed x
fixed_in (Err e) g = g

module _ (G : Geometry) where
  module _ (x : State) (u : Memory) where
    split_fixed : (line : Side) (s k : ℕ) (d : Depths) (p q : Piece) → fixed_in (split_at G line s k x u p q d).answer (fixed x) ≡ fixed x
    split_fixed line zero k d p q = refl
    split_fixed line (suc s) k d p q = refl

    divide_fixed : (c : Option Side) (s k : ℕ) (d : Depths) (p q : Piece) → fixed_in (divide_at G c s k x u p q d).answer (fixed x) ≡ fixed x
    divide_fixed (Some line) s k d p q = split_fixed line s k d p q
    divide_fixed None s k d p q = refl

    act_fixed : (n : ℕ) (v : Verdict) → fixed_in (act_on G n v x u).answer (fixed x) ≡ fixed x
    act_fixed zero v = refl
    act_fixed (suc k) (Settled by) = refl
    act_fixed (suc k) Split =
        let d = depth_at u.depths k in
        divide_fixed (choice_at G (part1 x u k) (part2 x u k) d) x.tally.unspent k d (part1 x u k) (part2 x u k)
    act_fixed (suc k) Unseparated = refl

    step_fixed : (v : Verdict) → fixed_in (step_def G x u v).answer (fixed x) ≡ fixed x
    step_fixed v = go (over x.tally) (enough (needed x) (sizes u) && is_search x u)
      where
        go : (a b : Bool) → fixed_in (cond {A = Stepping} a (stepping (Err Ended) u) (cond b (act_on G x.tally.waiting v x u) (stepping (Err NoStepRoom) u))).answer (fixed x) ≡ fixed x
        go true b = refl
        go false true = act_fixed x.tally.waiting v
        go false false = refl

    carried_fixed : (a : Result Verdict StepError) → fixed_in (carried_out G x u a).answer (fixed x) ≡ fixed x
    carried_fixed (Ok v) = step_fixed v
    carried_fixed (Err e) = refl

  turned-fixed : (n : ℕ) → ((y : State) (m : Memory) → fixed_in (run_for G n y m).answer (fixed y) ≡ fixed y) → (x : State) (g : Fixed) (a : Result State StepError) (m : Memory)
      → fixed_in a g ≡ g → fixed_in (turned (run_for G n) x (stepping a m)).answer g ≡ g
  turned-fixed n f x g (Ok y) m e = subst (λ (h : Fixed). fixed_in (run_for G n y m).answer h ≡ h) e (f y m)
  turned-fixed n f x g (Err h) m e = refl

  run_fixed : (n : ℕ) (x : State) (u : Memory) → fixed_in (run_for G n x u).answer (fixed x) ≡ fixed x
  run_fixed zero x u = refl
  run_fixed (suc n) x u = go (over x.tally) (run_fixed n)
    where
      go : (b : Bool) → ((y : State) (m : Memory) → fixed_in (run_for G n y m).answer (fixed y) ≡ fixed y)
          → fixed_in (cond {A = Stepping} b (stepping (Ok x) u) (turned (run_for G n) x (own_step_def G x u))).answer (fixed x) ≡ fixed x
      go true f = refl
      go false f = turned-fixed n f x (fixed x) (own_step_def G x u).answer (own_step_def G x u).memory (carried_fixed x u (own_def G x u))

-- ---- an opening's gap and ends are the question's
abbrev Floats : Type 0
Floats = Float × Float × Float × Float × Float

abbrev floats_of : Question → Floats
floats_of q = (q.gap, q.lo1, q.hi1, q.lo2, q.hi2)

abbrev floats_in : Result State OpenError → Floats → Floats
floats_in (Ok x) g = (x.gap, x.terms.lo1, x.terms.hi1, x.terms.lo2, x.terms.hi2)
floats_in (Err e) g = g

open_floats : (q : Question) (p1 p2 : List Float) (u : Memory) → floats_in (open_def q p1 p2 u).answer (floats_of q) ≡ floats_of q
open_floats q p1 p2 u = subst (λ (o : Opening). floats_in o.answer (floats_of q) ≡ floats_of q) (opened_is q p1 p2 u (tests_of q p1 p2) refl refl) (go (tests_of q p1 p2))
  where
    pushed : (b : Bool) (m : Memory)
        → floats_in (cond {A = Pushing} b (pushing (Ok (search_state (search_for q) (start (search_for q)))) m) (pushing (Err NoRoom) u)).answer (floats_of q)
        ≡ floats_of q
    pushed true m = refl
    pushed false m = refl

    go : (t : Result Unit OpenError) → floats_in (opened_by q p1 p2 u t).answer (floats_of q) ≡ floats_of q
    go (Ok x) = pushed (enough (needed (search_state (search_for q) (start (search_for q)))) (sizes u)) _
    go (Err e) = refl

-- ---- the next call reads the state that was answered
next_read : (ws : List ℕ) (a : Result State StepError) (y : State) → is_state ws ≡ true → fixed_in a (fixed (state_of ws)) ≡ fixed (state_of ws) → a ≡ Ok y
    → state_of (stepped_words ws a) ≡ y
next_read ws a y t f e =
    let g : fixed (state_of ws) ≡ fixed y = sym f ∙ ap (λ (b : Result State StepError). fixed_in b (fixed (state_of ws))) e in
    (λ i. state_of (stepped_words ws (e i)))
    ∙ reads_moved ws y (within ws t).long (ap (λ (k : Fixed). k.0) g) (ap (λ (k : Fixed). k.1) g) (ap (λ (k : Fixed). k.2) g)
    (ap (λ (k : Fixed). k.3) g) (ap (λ (k : Fixed). k.4) g) (ap (λ (k : Fixed). k.5) g)

open_read : (ws : List ℕ) (q : Question) (a : Result State OpenError) (x : State) → Doubles q → floats_in a (floats_of q) ≡ floats_of q → a ≡ Ok x → state_of (opened_words ws a) ≡ x
open_read ws q a x d f e =
    let g : floats_of q ≡ floats_in (Ok x) (floats_of q) = sym f ∙ ap (λ (b : Result State OpenError). floats_in b (floats_of q)) e in
    let k = subst (λ (h : Floats). T (fits binary64 h.0) × T (fits binary64 h.1) × T (fits binary64 h.2) × T (fits binary64 h.3) × T (fits binary64 h.4)) g d in
    (λ i. state_of (opened_words ws (e i))) ∙ reads_back ws x k.0 k.1 k.2 k.3 k.4

pub open_carried : OpenCarried
unfolding call_open
open_carried q p1 p2 u ws x d h e = rw (le-leb _ _ h) (open_read ws q (open_def q p1 p2 u).answer x d (open_floats q p1 p2 u) e)

pub step_carried : StepCarried
unfolding call_step
step_carried n ws u y t e =
    rw t (next_read ws (step_def geometry (state_of ws) u (verdict_of n)).answer y t (step_fixed geometry (state_of ws) u (verdict_of n)) e)

pub run_carried : RunCarried
unfolding call_run
run_carried ws u y t e =
    rw t (next_read ws (run_def geometry (state_of ws) u).answer y t (run_fixed geometry (2 * (state_of ws).tally.unspent + (state_of ws).tally.waiting + 1) (state_of ws) u) e)
