-- The loop gives each step the search's own verdict: it comes to the end, and every node that it settled passes the tests. Assumes nothing.
use mathlib.Core.Path.{◌≡◌, refl, ap, sym, ◌∙◌, subst}
use mathlib.Core.Logic.{◌⊎◌, inl, inr}
use mathlib.Core.List.{List, [], ◌∷◌}
use mathlib.Core.Bool.{Bool, true, false, ◌&&◌, cond, false≢true}
use Prim.Native.Nat.{ℕ, zero, suc, ◌+◌, ◌*◌, ◌≤◌, ◌<◌, min}
use borrow.Author.Tests.{le-leb}
use native.Mathlib.Omega.{arith}
use lib.Dec.{T}
use lib.ListN.{take, length}
use lib.Ieee.{Float}
use Rattle.lists.specs.Members.{Any, All}
use Rattle.verdicts.specs.declared.Verdict.{Verdict}
use Rattle.verdicts.specs.declared.Verdict.TheVariants.{Settled, Split, Unseparated}
use Rattle.machine.specs.Machine.{Node, Settling, Search, choice_of, InNode, ended, split_along, divide, advance, OwnVerdict, not_settled, settled_by, remembered_as}
use Rattle.machine.proofs.Cover.{divide_settled}
use Rattle.machine.specs.Merge.{merged}
use Rattle.machine.specs.Covered.{SetApart, Covered, by_boxes, by_settled, by_given, by_waiting}
use Rattle.regions.specs.declared.Word.{Word}
use Rattle.regions.specs.declared.Word.TheVariants.{Complete}
use Rattle.regions.specs.Regions.{merging, flats}
use Rattle.regions.specs.declared.Region.{Region}
use Rattle.regions.specs.Reports.{word_for}
use Rattle.states.specs.declared.State.{State}
use Rattle.states.specs.declared.Counts.{Counts}
use Rattle.states.specs.States.{Memory, Sizes, sizes, needed, enough, enough_own, is_search, over, records_of}
use Rattle.nodes.specs.Geometry.{Geometry}
use Rattle.search.specs.Steps.{Stepping, stepping, step_def, own_def}
use Rattle.search.specs.Runs.{carried_out, turned, run_for, run_def}
use Rattle.report.specs.Reports.{summary_of, Output, out_room, Reporting, reporting, marks_for, written, write_report, report_def}
use Rattle.terms.specs.declared.Terms.{Terms}
use Rattle.terms.specs.Terms.{seam_of}
use Rattle.machine.specs.Marks.{Marked, marks_of}
use Rattle.machine.proofs.Marks.{marked_only}
use Rattle.stretches.specs.Stretches.{near_at}
use Rattle.stretches.proofs.Marked.{region_marks}
use Rattle.opening.specs.Asked.{Asked, shape, pieces1, pieces2, start, state_of, result_of, raw_list, net_of1, net_of2, open_memory, records_for}
use Rattle.opening.specs.Opens.{search_for}
use Rattle.coverage.specs.Calls.{step, own as own_call, Answer, stepped, reported, Outcome, step_outcome, report_outcome}
use Rattle.coverage.specs.Rules.{Ruled, lent, suffices, suffices_own, step_rule, own_rule, after_own, rule_all}
use Rattle.coverage.specs.Claim.{Fine, GoodReport}
use Rattle.facts.proofs.Reflect.{as_true}
use Rattle.states.proofs.Tests.{enough_own_lem}
use Rattle.coverage.specs.Complete.{turn_calls, loop_calls, looped, Ends, Passes, Clear, Reports, LoopEnds, CompleteIsClear, LoopReports, OneReport, NotClear}
use Rattle.coverage.proofs.Refine.{StepSim, unchanged, moved, search, rule_with, step_sim}
use Rattle.coverage.proofs.Chain.{Inv, own_fields, remember_inv, report_with, report_fields}
use Rattle.coverage.proofs.Opening.{open_inv}
use Rattle.coverage.proofs.Final.{Upheld, Cleared, ok_advance, ok_remember, ok_start, stay_all, rule_append, word_exact, good_report}
use Rattle.coverage.proofs.Demand3.{same_ok, opened_fresh}
use Rattle.verdicts.specs.declared.Side.{Side}
use Rattle.verdicts.specs.declared.Side.TheVariants.{First, Second}
use Rattle.states.specs.declared.StepError.{StepError}
use Rattle.states.specs.declared.StepError.TheVariants.{NoRoom}
use Rattle.report.specs.declared.Summary.{Summary}
use Rattle.report.specs.declared.ReportError.{ReportError}
use Rattle.report.specs.declared.ReportError.TheVariants.{Running, NoRoom as ReportNoRoom}
use Rattle.std.proofs.Common.{Option, Some, None, Result, Ok, Err}

-- every settled node was settled on the own verdict, with its test as the tag
abbrev AllOwn : (q : Asked) → List (Settling (shape q)) → Type 0
AllOwn q l = All (λ (e : Settling (shape q)). e.own ≡ settled_by e.tag) l

min_same : (n : ℕ) → min n n ≡ n
min_same n = omega arith

lent-whole : (n : Sizes) → lent n n ≡ n
lent-whole n = λ i. record { nets1 = min_same n.nets1 i; nets2 = min_same n.nets2 i; ranges = min_same n.ranges i; depths = min_same n.depths i; raw = min_same n.raw i }

-- what each step lowers, unless it ends the search
abbrev rest : (q : Asked) → Search (shape q) → ℕ
rest q m = 2 * m.unspent + length m.stack

next_of : (a b : Result State StepError) → ◌≡◌ {A = Answer} (stepped a) (stepped b) → a ≡ b
next_of a b e = cc

module _ (q : Asked) (low : (w : ℕ) (l : List Float) → length l ≡ 4 * w → length (q.geometry.lower_net l) ≡ 4 * w)
    (upp : (w : ℕ) (l : List Float) → length l ≡ 4 * w → length (q.geometry.upper_net l) ≡ 4 * w)
    (full : Sizes) (room : enough (needed (state_of q (start q))) full ≡ true) where
  -- the search that the rules make of n turns from the search m
  abbrev turned_from : ℕ → Search (shape q) → Search (shape q)
  turned_from n m = (rule_all q full (loop_calls q full n m) m).search

  -- the loop came to the end of the search m
  record Looped (m : Search (shape q)) (o : Stepping) : Type 0 where
    answer : o.answer ≡ Ok (state_of q m)
    inv : Inv q full m o.memory
    ok : Upheld q m
    own : AllOwn q m.settled
    finished : T (ended (shape q) m)

  -- a step on the whole memory
  after_sim : (m : Search (shape q)) (u : Memory) (o : Outcome) (r : Ruled q) → Inv q full m u → StepSim q o r m u
      → (o.answer ≡ r.answer) × Inv q full r.search o.memory
  after_sim m u o r I (unchanged a s e f) = (a, subst (λ (x : Search (shape q)). Inv q full x o.memory) (sym f) (subst (Inv q full m) (sym e) I))
  after_sim m u o r I (moved a s H z R N) = (a, record { numbers = N; held = H; lengths = z ∙ I.lengths })

  settled_own : (v : Verdict) (n : Node (shape q)) (r : List (Node (shape q))) (se : List (Settling (shape q))) (gi : List (Node (shape q))) (vi sp un : ℕ)
      → AllOwn q se → AllOwn q (advance (shape q) v (search q (n ∷ r) se gi vi sp un false (remembered_as (shape q) v))).settled
  settled_own (Settled by) n r se gi vi sp un h = (refl, h)
  settled_own Unseparated n r se gi vi sp un h = h
  settled_own Split n r se gi vi sp un h = subst (AllOwn q) (divide_settled (shape q) (choice_of (shape q) n) un n r (search q (n ∷ r) se gi vi sp un false not_settled)) h

  lower_rest : (v : Verdict) (n : Node (shape q)) (r : List (Node (shape q))) (se : List (Settling (shape q))) (gi : List (Node (shape q))) (vi sp un k : ℕ) (ow : OwnVerdict)
      → rest q (search q (n ∷ r) se gi vi sp un false ow) < suc k
      → T (ended (shape q) (advance (shape q) v (search q (n ∷ r) se gi vi sp un false ow))) ⊎
      (rest q (advance (shape q) v (search q (n ∷ r) se gi vi sp un false ow)) < k)
  lower_rest (Settled by) n r se gi vi sp un k ow h = inr (omega arith)
  lower_rest Unseparated n r se gi vi sp un k ow h = inr (omega arith)
  lower_rest Split n r se gi vi sp un k ow h = go (choice_of (shape q) n) un h
    where
      split : (b : Side) (j : ℕ) → 2 * j + suc (length r) < suc k
          → T (ended (shape q) (split_along (shape q) b j n r (search q (n ∷ r) se gi vi sp j false ow))) ⊎
          (rest q (split_along (shape q) b j n r (search q (n ∷ r) se gi vi sp j false ow)) < k)
      split b zero h = inl tt
      split b (suc j) h = inr (omega arith)

      go : (c : Option Side) (j : ℕ) → 2 * j + suc (length r) < suc k
          → T (ended (shape q) (divide (shape q) c j n r (search q (n ∷ r) se gi vi sp j false ow))) ⊎
          (rest q (divide (shape q) c j n r (search q (n ∷ r) se gi vi sp j false ow)) < k)
      go (Some line) j h = split line j h
      go None j h = inr (omega arith)

  -- one turn, lent the whole memory, as the rules answer it, and the turns after it
  one-turn : (k : ℕ) (n : Node (shape q)) (r : List (Node (shape q))) (se : List (Settling (shape q))) (gi : List (Node (shape q))) (vi sp un : ℕ) (ow : OwnVerdict)
      → let v = q.geometry.clearing q.gap (net_of1 q n) (net_of2 q n) in
      turned_from (suc k) (search q (n ∷ r) se gi vi sp un false ow)
      ≡ turned_from k (advance (shape q) v (search q (n ∷ r) se gi vi sp un false (remembered_as (shape q) v)))
  one-turn k n r se gi vi sp un ow =
      let need = needed (state_of q (start q)) in
      let v = q.geometry.clearing q.gap (net_of1 q n) (net_of2 q n) in
      let m0 = search q (n ∷ r) se gi vi sp un false ow in
      let m1 = search q (n ∷ r) se gi vi sp un false (remembered_as (shape q) v) in
      let e1 : suffices_own q full full ≡ true = ap (enough_own need) (lent-whole full) ∙ enough_own_lem need full room in
      let e2 : suffices q full full ≡ true = ap (enough need) (lent-whole full) ∙ room in
      let a : own_rule q full full m0 ≡ Ok v = ap (λ (b : Bool). cond b (Ok v) (Err NoRoom)) e1 in
      let t : (rule_all q full (turn_calls full (own_rule q full full m0)) m0).search ≡ (rule_all q full (own_call full ∷ step v full ∷ []) m0).search
      = ap (λ (o : Result Verdict StepError). (rule_all q full (turn_calls full o) m0).search) a in
      let h : after_own q (own_rule q full full m0) m0 ≡ m1 = ap (λ (o : Result Verdict StepError). after_own q o m0) a in
      let g : (step_rule q full v full m1).search ≡ advance (shape q) v m1
      = ap (λ (b : Bool). (cond {A = Ruled q} b (record { answer = stepped (Ok (state_of q (advance (shape q) v m1))); search = advance (shape q) v m1 })
      (record { answer = stepped (Err NoRoom); search = m1 })).search) e2 in
      rule_append q full (turn_calls full (own_rule q full full m0)) _ m0
      ∙ ap (turned_from k) (t ∙ ap (λ (x : Search (shape q)). (step_rule q full v full x).search) h ∙ g)

  -- one turn, and the rest of the loop
  turn : (k : ℕ)
      → ((m : Search (shape q)) (u : Memory) → Inv q full m u → Upheld q m → AllOwn q m.settled → T (ended (shape q) m) ⊎ (rest q m < k)
      → Looped (turned_from k m) (run_for q.geometry k (state_of q m) u))
      → (l : List (Node (shape q))) (se : List (Settling (shape q))) (gi : List (Node (shape q))) (vi sp un : ℕ) (st : Bool) (ow : OwnVerdict) (u : Memory)
      → Inv q full (search q l se gi vi sp un st ow) u → Upheld q (search q l se gi vi sp un st ow) → AllOwn q se
      → T (ended (shape q) (search q l se gi vi sp un st ow)) ⊎ (rest q (search q l se gi vi sp un st ow) < suc k)
      → Looped (turned_from (suc k) (search q l se gi vi sp un st ow)) (run_for q.geometry (suc k) (state_of q (search q l se gi vi sp un st ow)) u)
  turn k go l se gi vi sp un true ow u I K O h =
      let m = search q l se gi vi sp un true ow in
      subst (λ (x : Search (shape q)). Looped x (stepping (Ok (state_of q m)) u)) (sym (stay_all q full (loop_calls q full k m) m tt))
      (record { answer = refl; inv = I; ok = K; own = O; finished = tt })
  turn k go [] se gi vi sp un false ow u I K O h =
      let m = search q [] se gi vi sp un false ow in
      subst (λ (x : Search (shape q)). Looped x (stepping (Ok (state_of q m)) u)) (sym (stay_all q full (loop_calls q full k m) m tt))
      (record { answer = refl; inv = I; ok = K; own = O; finished = tt })
  turn k go (n ∷ r) se gi vi sp un false ow u I K O (inl t) = absurd t
  turn k go (n ∷ r) se gi vi sp un false ow u I K O (inr h) =
      let G = q.geometry in
      let v = G.clearing q.gap (net_of1 q n) (net_of2 q n) in
      let m0 = search q (n ∷ r) se gi vi sp un false ow in
      let m1 = search q (n ∷ r) se gi vi sp un false (remembered_as (shape q) v) in
      let m2 = advance (shape q) v m1 in
      let x = state_of q m0 in
      let o = step_def G x u v in
      let I1 = remember_inv q low upp full v m0 u I in
      let S = I.held.nodes in
      let e = ap (enough (needed (state_of q (start q)))) I.lengths ∙ room in
      let asked : own_def G x u ≡ Ok v = own_fields q low upp full (n ∷ r) se gi vi sp un false ow u I.numbers (λ R. (S.0.net1, S.0.net2, S.0.depth))
      ∙ ap (λ (b : Bool). cond b (Ok v) (Err NoRoom)) (enough_own_lem (needed (state_of q (start q))) (sizes u) e) in
      let z = after_sim m1 u (step_outcome x o) (rule_with q true v m1) I1
      (subst (λ (b : Bool). StepSim q (step_outcome x o) (rule_with q b v m1) m1 u) e (step_sim q low upp m1 u v I1.numbers (λ R. I1.held))) in
      let a : o.answer ≡ Ok (state_of q m2) = next_of o.answer (Ok (state_of q m2)) z.0 in
      let p : run_for G (suc k) x u ≡ run_for G k (state_of q m2) o.memory
      = (λ i. turned (run_for G k) x (carried_out G x u (asked i))) ∙ (λ i. turned (run_for G k) x (stepping (a i) o.memory)) in
      subst (Looped (turned_from (suc k) m0)) (sym p)
      (subst (λ (y : Search (shape q)). Looped y (run_for G k (state_of q m2) o.memory)) (sym (one-turn k n r se gi vi sp un ow))
      (go m2 o.memory z.1 (ok_advance q v m1 (ok_remember q v m0 refl K)) (settled_own v n r se gi vi sp un O)
      (lower_rest v n r se gi vi sp un k (remembered_as (shape q) v) h)))

  loop : (k : ℕ) (m : Search (shape q)) (u : Memory) → Inv q full m u → Upheld q m → AllOwn q m.settled → T (ended (shape q) m) ⊎ (rest q m < k)
      → Looped (turned_from k m) (run_for q.geometry k (state_of q m) u)
  loop zero m u I K O (inl t) = record { answer = refl; inv = I; ok = K; own = O; finished = t }
  loop zero m u I K O (inr h) = absurd (omega arith)
  loop (suc k) m u I K O h = turn k (loop k) m.stack m.settled m.given m.visits m.splits m.unspent m.stopped m.own u I K O h

  from_start : (u : Memory) → Fine q → Inv q full (start q) u → Looped (looped q full) (run_def q.geometry (state_of q (start q)) u)
  unfolding looped
  from_start u F I = loop (2 * (start q).unspent + length (start q).stack + 1) (start q) u I (ok_start q F) tt (inr (omega arith))

-- ---- the word
-- the word of an answer that is no refusal
abbrev word_in : Word → Result Summary ReportError → Word
word_in w (Ok s) = s.word
word_in w (Err e) = w

told-word : (G : Geometry) (x : State) (u : Memory) (out : Output) (w : Word) (c : Counts) (k : ℕ) → (report_def G x u out).answer ≡ summary_of w c k
    → word_for x.tally.given x.tally.waiting ≡ w
told-word G x u out w c k e = go (over x.tally) (enough (needed x) (sizes u) && out_room (records_of x.tally) out && is_search x u) e
  where
    go : (a b : Bool)
        → (cond {A = Reporting} a (cond b (write_report G x u out) (reporting (Err ReportNoRoom) u out)) (reporting (Err Running) u out)).answer ≡ summary_of w c k
        → word_for x.tally.given x.tally.waiting ≡ w
    go true true e = ap (word_in w) e
    go true false e = absurd (let z : ◌≡◌ {A = ℕ} 0 1 = cc in omega arith)
    go false b e = absurd (let z : ◌≡◌ {A = ℕ} 0 1 = cc in omega arith)

none_in : {A : Type 0} (P : A → Type 0) (l : List A) → length l ≡ 0 → Any P l → Any P []
none_in P [] e h = h
none_in P (x ∷ l) e h = absurd (omega arith)

all_pass : (q : Asked) (l : List (Settling (shape q))) → All (Cleared q) l → AllOwn q l
    → All (λ (e : Settling (shape q)). (e.own ≡ settled_by e.tag) × Passes q e.node e.tag) l
all_pass q [] c o = tt
all_pass q (e ∷ l) c o = ((o.0, c.0 e.tag o.0), all_pass q l c.1 o.1)

clear_all : (q : Asked) (full : Sizes) → Upheld q (looped q full) → AllOwn q (looped q full).settled
    → length (looped q full).given ≡ 0 → length (looped q full).stack ≡ 0 → Clear q full
clear_all q full K O g l = record { pass = all_pass q (looped q full).settled K.cleared O; held = λ s t a b. by s t (K.covered s t a b) }
  where
    by : (s t : Float) → Covered (shape q) (pieces1 q) (pieces2 q) (looped q full) s t
        → SetApart (shape q) (pieces1 q) (pieces2 q) s t ⊎ Any (λ (e : Settling (shape q)). InNode (shape q) s t e.node) (looped q full).settled
    by s t (by_boxes h) = inl h
    by s t (by_settled h) = inr h
    by s t (by_given h) = absurd (none_in (InNode (shape q) s t) (looped q full).given g h)
    by s t (by_waiting h) = absurd (none_in (InNode (shape q) s t) (looped q full).stack l h)

-- ---- the report after the loop
same_answer : (a b : Result Summary ReportError) (l m : Output) → ◌≡◌ {A = Answer} (reported a l) (reported b m) → a ≡ b
same_answer a b l m e = cc

same_out : (a b : Result Summary ReportError) (l m : Output) → ◌≡◌ {A = Answer} (reported a l) (reported b m) → l ≡ m
same_out a b l m e = cc

sim_answer : (q : Asked) (o : Outcome) (r : Ruled q) (m : Search (shape q)) (w : Memory) → StepSim q o r m w → o.answer ≡ r.answer
sim_answer q o r m w (unchanged a s e f) = a
sim_answer q o r m w (moved a s H z R N) = a

module _ (q : Asked) (full : Sizes) (room : enough (needed (state_of q (start q))) full ≡ true) (m : Search (shape q)) (w : Memory)
    (I : Inv q full m w) (E : T (ended (shape q) m))
    (out : Output) (fits : out_room (records_for q) out ≡ true) where
  told_all : ◌≡◌ {A = Answer} (reported (report_def q.geometry (state_of q m) w out).answer (report_def q.geometry (state_of q m) w out).output)
      (reported (summary_of (word_for (length m.given) (length m.stack)) (result_of q m) (length (merged merging (raw_list q m))))
      (written q.terms (length m.given + length m.stack) (merged merging (raw_list q m)) out))
  told_all =
      let o = report_outcome (state_of q m) (report_def q.geometry (state_of q m) w out) in
      let S = report_fields q full m.stack m.settled m.given m.visits m.splits m.unspent m.stopped m.own w out I.numbers (λ R. I.held) in
      sim_answer q o (record { answer = report_with q (enough (needed (state_of q (start q))) (sizes w)) out m; search = m }) m w S
      ∙ go (ended (shape q) m) (enough (needed (state_of q (start q))) (sizes w)) (out_room (records_for q) out) E
      (ap (enough (needed (state_of q (start q)))) I.lengths ∙ room) fits
    where
      go : (a b c : Bool) → T a → b ≡ true → c ≡ true
          → cond {A = Answer} a (cond (b && c) (reported
          (summary_of (word_for (length m.given) (length m.stack)) (result_of q m) (length (merged merging (raw_list q m))))
          (written q.terms (length m.given + length m.stack) (merged merging (raw_list q m)) out)) (reported (Err ReportNoRoom) out))
          (reported (Err Running) out)
          ≡ reported (summary_of (word_for (length m.given) (length m.stack)) (result_of q m) (length (merged merging (raw_list q m))))
          (written q.terms (length m.given + length m.stack) (merged merging (raw_list q m)) out)
      go true true true t e f = refl
      go true true false t e f = absurd (false≢true f)
      go true false c t e f = absurd (false≢true e)
      go false b c t e f = absurd t

reports_all : (q : Asked) (full : Sizes) → enough (needed (state_of q (start q))) full ≡ true → (w : Memory) → Inv q full (looped q full) w → Upheld q (looped q full)
    → AllOwn q (looped q full).settled → T (ended (shape q) (looped q full)) → (out : Output)
    → out_room (records_for q) out ≡ true → Reports q full (report_def q.geometry (state_of q (looped q full)) w out)
reports_all q full room w I K O E out fits =
    let m = looped q full in
    let e = told_all q full room m w I E out fits in
    record {
      word = word_for (length m.given) (length m.stack);
      counts = result_of q m;
      regions = length (merged merging (raw_list q m));
      told = same_answer _ _ _ _ e;
      good =
          subst
          (λ (l : Output). GoodReport q m (word_for (length m.given) (length m.stack)) (result_of q m) (length (merged merging (raw_list q m))) l)
          (sym (same_out _ _ _ _ e)) (good_report q m out K E);
      pass = all_pass q m.settled K.cleared O;
    }

-- ---- the loop's claims
abbrev Claims : (q : Asked) → Sizes → State → Memory → Type 0
Claims q full x u =
    Ends q full (run_def q.geometry x u)
    × ((y : State) → (run_def q.geometry x u).answer ≡ Ok y → (out : Output) (c : Counts) (k : ℕ)
    → (report_def q.geometry y (run_def q.geometry x u).memory out).answer ≡ summary_of Complete c k → Clear q full)
    × ((y : State) → (run_def q.geometry x u).answer ≡ Ok y → (out : Output) → records_of x.tally * 10 ≤ length out.regions → records_of x.tally ≤ length out.marks
    → Reports q full (report_def q.geometry y (run_def q.geometry x u).memory out))

module _ (q : Asked) (u : Memory) (F : Fine q) (room : T (enough (needed (state_of q (start q))) (sizes u))) where
  pub loop_claims : Claims q (sizes u) (state_of q (start q)) (open_memory q u)
  loop_claims =
      let L = from_start q F.lower_length F.upper_length (sizes u) (as_true (enough (needed (state_of q (start q))) (sizes u)) room)
      (open_memory q u) F (open_inv q u F room) in (
        record { answer = L.answer; finished = L.finished },
        λ y e out c k r.
            let s = same_ok y (state_of q (looped q (sizes u))) (sym e ∙ L.answer) in
            let w = told-word q.geometry y (run_def q.geometry (state_of q (start q)) (open_memory q u)).memory out Complete c k r in
            let z = (word_exact (length (looped q (sizes u)).given) (length (looped q (sizes u)).stack)).0 (subst (λ (x : State). word_for x.tally.given x.tally.waiting ≡ Complete) s w) in
            clear_all q (sizes u) L.ok L.own z.0 z.1,
        λ y e out h k.
            let s = same_ok y (state_of q (looped q (sizes u))) (sym e ∙ L.answer) in
            let w = (run_def q.geometry (state_of q (start q)) (open_memory q u)).memory in
            subst (λ (x : State). Reports q (sizes u) (report_def q.geometry x w out)) (sym s)
            (reports_all q (sizes u) (as_true (enough (needed (state_of q (start q))) (sizes u)) room) w L.inv L.ok L.own L.finished out
            (rw (le-leb (records_for q * 10) (length out.regions) h, le-leb (records_for q) (length out.marks) k) refl)),
      )

pub loop_ends : LoopEnds
loop_ends q p1 p2 u x e = (opened_fresh q p1 p2 u x (λ (y : State) (m : Memory). Claims (search_for q) (sizes u) y m) (loop_claims (search_for q) u) e).0

pub complete_is_clear : CompleteIsClear
complete_is_clear q p1 p2 u x y e r = (opened_fresh q p1 p2 u x (λ (y : State) (m : Memory). Claims (search_for q) (sizes u) y m) (loop_claims (search_for q) u) e).1 y r

pub loop_reports : LoopReports
loop_reports q p1 p2 u x y e r = (opened_fresh q p1 p2 u x (λ (y : State) (m : Memory). Claims (search_for q) (sizes u) y m) (loop_claims (search_for q) u) e).2 y r

-- ---- what is told is the loop's, and nothing else
-- no other marks are as `GoodReport.marked` says
marks_one : (t : Terms) (out rs : List Region) (k : ℕ) (marks : List ℕ) → k ≡ length out → out ≡ rs → Marked k (near_at (seam_of First t) (seam_of Second t) out) (take k marks)
    → take k marks ≡ marks_for t rs
marks_one t out rs k marks e f g =
    let near = near_at (seam_of First t) (seam_of Second t) in
    marked_only k (near out) (take k marks) (marks_of k (near out)) g
    (subst (λ (n : ℕ). Marked n (near out) (marks_of n (near out))) (sym e) (region_marks (seam_of First t) (seam_of Second t) out))
    ∙ (λ i. marks_of ((e ∙ ap length f) i) (near (f i)))

pub one_report : OneReport
one_report q full o r =
    let g = r.good in (
      g.named,
      g.tallied,
      g.number ∙ ap length g.listed,
      g.read ∙ ap flats g.listed,
      marks_one q.terms g.out _ r.regions o.output.marks g.number g.listed g.marked,
    )

none_of : {A : Type 0} (P : A → Type 0) (l : List A) → All (λ (e : A). P e → ⊥) l → Any P l → ⊥
none_of {A = A} P [] h y = elim y [ ]
none_of P (x ∷ l) h (inl y) = h.0 y
none_of P (x ∷ l) h (inr y) = none_of P l h.1 y

pub not_clear : NotClear
not_clear q full s t a b off out c =
    elim (c.held s t a b) [ inl x ↦ off x | inr y ↦ none_of (λ (e : Settling (shape q)). InNode (shape q) s t e.node) (looped q full).settled out y ]
