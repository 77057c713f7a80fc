-- An own verdict that was answered Settled is remembered until the next step that is carried out. Assumes nothing.
use mathlib.Core.Path.{◌≡◌, refl, ap, sym, ◌∙◌, subst}
use mathlib.Core.Logic.{inl, inr}
use mathlib.Core.List.{List, [], ◌∷◌, ◌++◌}
use mathlib.Core.Bool.{Bool, true, false, cond}
use Prim.Native.Nat.{ℕ}
use native.Mathlib.Omega.{arith}
use Rattle.lists.specs.Members.{Any, All}
use Rattle.verdicts.specs.declared.Test.{Test}
use Rattle.verdicts.specs.declared.Verdict.{Verdict}
use Rattle.verdicts.specs.declared.Verdict.TheVariants.{Settled, Split, Unseparated}
use Rattle.machine.proofs.Cover.{divide_settled}
use Rattle.machine.specs.Machine.{Node, Settling, Search, choice_of, ended, on_top, advance, OwnVerdict, settled_by, remember}
use Rattle.states.specs.declared.State.{State}
use Rattle.states.specs.States.{Sizes}
use Rattle.opening.specs.Asked.{Asked, shape, start, state_of}
use Rattle.coverage.specs.Calls.{Call, step, own, report, Answer, stepped, judged}
use Rattle.coverage.specs.Rules.{Ruled, suffices, own_rule, after_own, call_rule, rule_all}
use Rattle.coverage.specs.Demand3.{Refused, OwnRemembered}
use Rattle.coverage.proofs.Refine.{search}
use Rattle.coverage.proofs.Final.{rule_append}
use Rattle.states.specs.declared.StepError.{StepError}
use Rattle.states.specs.declared.StepError.TheVariants.{Ended, NoRoom}
use Rattle.std.proofs.Common.{Result, Ok, Err}

own_of : (a b : Result Verdict StepError) → ◌≡◌ {A = Answer} (judged a) (judged b) → a ≡ b
own_of a b e = cc

module _ (q : Asked) (full : Sizes) where
  abbrev step_with : Bool → Bool → Verdict → Search (shape q) → Ruled q
  step_with a b v m =
      cond a (record { answer = stepped (Err Ended); search = m })
      (cond b (record { answer = stepped (Ok (state_of q (advance (shape q) v m))); search = advance (shape q) v m }) (record { answer = stepped (Err NoRoom); search = m }))

  -- ---- nothing settled is taken back
  module _ (P : Settling (shape q) → Type 0) where
    kept_top : (v : Verdict) (l : List (Node (shape q))) (m : Search (shape q)) → Any P m.settled → Any P (on_top (shape q) v l m).settled
    kept_top (Settled by) [] m h = h
    kept_top Split [] m h = h
    kept_top Unseparated [] m h = h
    kept_top (Settled by) (n ∷ r) m h = inr h
    kept_top Split (n ∷ r) m h = subst (Any P) (divide_settled (shape q) (choice_of (shape q) n) m.unspent n r m) h
    kept_top Unseparated (n ∷ r) m h = h

    kept_step : (a b : Bool) (v : Verdict) (m : Search (shape q)) → Any P m.settled → Any P (step_with a b v m).search.settled
    kept_step true b v m h = h
    kept_step false true v m h = kept_top v m.stack m h
    kept_step false false v m h = h

    kept_own : (o : Result Verdict StepError) (m : Search (shape q)) → Any P m.settled → Any P (after_own q o m).settled
    kept_own (Ok v) m h = h
    kept_own (Err e) m h = h

    kept_call : (c : Call) (m : Search (shape q)) → Any P m.settled → Any P (call_rule q full c m).search.settled
    kept_call (step v n) m h = kept_step (ended (shape q) m) (suffices q full n) v m h
    kept_call (own n) m h = kept_own (own_rule q full n m) m h
    kept_call (report n out) m h = h

    kept : (cs : List Call) (m : Search (shape q)) → Any P m.settled → Any P (rule_all q full cs m).search.settled
    kept [] m h = h
    kept (c ∷ cs) m h = kept cs (call_rule q full c m).search (kept_call c m h)

  -- ---- a refused call leaves the search as it is
  idle_step : (a b : Bool) (v : Verdict) (m : Search (shape q)) → Refused (step_with a b v m).answer → (step_with a b v m).search ≡ m
  idle_step true b v m h = refl
  idle_step false true v m h = absurd h
  idle_step false false v m h = refl

  idle_own : (o : Result Verdict StepError) (m : Search (shape q)) → Refused (judged o) → after_own q o m ≡ m
  idle_own (Ok v) m h = absurd h
  idle_own (Err e) m h = refl

  idle_call : (c : Call) (m : Search (shape q)) → Refused (call_rule q full c m).answer → (call_rule q full c m).search ≡ m
  idle_call (step v n) m h = idle_step (ended (shape q) m) (suffices q full n) v m h
  idle_call (own n) m h = idle_own (own_rule q full n m) m h
  idle_call (report n out) m h = refl

  idle : (cs : List Call) (m : Search (shape q)) → All Refused (rule_all q full cs m).answers → (rule_all q full cs m).search ≡ m
  idle [] m h = refl
  idle (c ∷ cs) m h = idle cs (call_rule q full c m).search h.1 ∙ idle_call c m h.0

  -- ---- a step with Settled that is carried out, on a search that remembers Settled
  abbrev Noted : Test → Test → Search (shape q) → Search (shape q) → Type 0
  Noted t by m d = Any (λ (e : Settling (shape q)). (e.own ≡ settled_by t) × (e.tag ≡ by) × (m.stack ≡ e.node ∷ d.stack)) d.settled

  noted : (l : List (Node (shape q))) (se : List (Settling (shape q))) (gi : List (Node (shape q))) (vi sp un : ℕ) (st : Bool) (ow : OwnVerdict) (b : Bool) (y : State) (t by : Test)
      → let m = search q l se gi vi sp un st ow in
      let d = step_with (ended (shape q) m) b (Settled by) (remember (shape q) (Settled t) m) in
      d.answer ≡ stepped (Ok y) → Noted t by m d.search
  noted l se gi vi sp un true ow b y t by h = absurd (let z : ◌≡◌ {A = ℕ} 0 1 = cc in omega arith)
  noted [] se gi vi sp un false ow b y t by h = absurd (let z : ◌≡◌ {A = ℕ} 0 1 = cc in omega arith)
  noted (n ∷ r) se gi vi sp un false ow false y t by h = absurd (let z : ◌≡◌ {A = ℕ} 0 1 = cc in omega arith)
  noted (n ∷ r) se gi vi sp un false ow true y t by h = inl (refl, refl, refl)

  noted_after : (m w : Search (shape q)) (b : Sizes) (y : State) (t by : Test) → w ≡ remember (shape q) (Settled t) m
      → (call_rule q full (step (Settled by) b) w).answer ≡ stepped (Ok y) → Noted t by m (call_rule q full (step (Settled by) b) w).search
  noted_after m w b y t by e s =
      subst (λ (x : Search (shape q)). (call_rule q full (step (Settled by) b) x).answer ≡ stepped (Ok y) → Noted t by m (call_rule q full (step (Settled by) b) x).search) (sym e)
      (noted m.stack m.settled m.given m.visits m.splits m.unspent m.stopped m.own (suffices q full b) y t by) s

pub own_remembered : OwnRemembered
own_remembered q full before between after a b y t by p r s =
    let m = (rule_all q full before (start q)).search in
    let asked = (call_rule q full (own a) m).search in
    let waited = (rule_all q full between asked).search in
    let done = (call_rule q full (step (Settled by) b) waited).search in
    let P : Settling (shape q) → Type 0 = λ (e : Settling (shape q)). (e.own ≡ settled_by t) × (e.tag ≡ by) × (m.stack ≡ e.node ∷ done.stack) in
    let e : asked ≡ remember (shape q) (Settled t) m = ap (λ (o : Result Verdict StepError). after_own q o m) (own_of (own_rule q full a m) (Ok (Settled t)) p) in
    let w : waited ≡ remember (shape q) (Settled t) m = idle q full between asked r ∙ e in
    let all : (rule_all q full (before ++ (own a ∷ (between ++ (step (Settled by) b ∷ after)))) (start q)).search ≡ (rule_all q full after done).search
    = rule_append q full before (own a ∷ (between ++ (step (Settled by) b ∷ after))) (start q) ∙ rule_append q full between (step (Settled by) b ∷ after) asked in
    subst (λ (x : Search (shape q)). Any P x.settled) (sym all) (kept q full P after done (noted_after q full m waited b y t by w s))
