-- What the tests of a call give: each refusal, and the room of an accepted call. Assumes nothing.
use mathlib.Core.Path.{◌≡◌, refl, sym, ap, ◌∙◌, subst}
use mathlib.Core.Bool.{Bool, true, false, ◌&&◌}
use Prim.Native.Nat.{ℕ, zero, suc, ◌+◌, ◌-◌, ◌*◌, ◌≤◌, ◌<◌}
use native.Mathlib.Nat.{le_trans, mul-le-mul, mul-le-mul_right}
use native.Mathlib.Omega.{arith}
use lib.ListN.{length}
use Rattle.lists.specs.Parts.{block}
use Rattle.verdicts.specs.declared.Verdict.{Verdict}
use Rattle.states.specs.declared.State.{State}
use Rattle.states.specs.declared.Depths.{Depths}
use Rattle.states.specs.States.{Memory, Sizes, sizes, needed, enough, enough_own, depth_at, top_depth, search_with, is_search, over, top_of, allowance_of, records_of}
use Rattle.states.proofs.Tests.{waits, sound, slots_fit, room_own, room_all, top_slot, top_refused, top_node_lem}
use Rattle.std.proofs.Common.{Ok, Err}
use Rattle.states.specs.declared.Top.{Top}
use Rattle.states.specs.declared.StepError.TheVariants.{NoRoom}
use Rattle.nodes.specs.Geometry.{Geometry}
use Rattle.search.specs.Steps.{Stepping, stepping, act_on, step_def, judge_at, own_def}
use Rattle.nodes.specs.Writes.{Room}

-- ---- the own verdict
module _ (G : Geometry) (x : State) (u : Memory) where
  pub own_judged : (v : Verdict) → over x.tally ≡ false → enough_own (needed x) (sizes u) ≡ true → is_search x u ≡ true
      → v ≡ G.clearing x.gap (block (4 * x.width1) (x.tally.waiting - 1) u.nets1) (block (4 * x.width2) (x.tally.waiting - 1) u.nets2) → Ok v ≡ own_def G x u
  own_judged v o e s h = rw (o, e, s) (go x.tally.waiting (waits x.tally o) h)
    where
      go : (n : ℕ) → 1 ≤ n → v ≡ G.clearing x.gap (block (4 * x.width1) (n - 1) u.nets1) (block (4 * x.width2) (n - 1) u.nets2) → Ok v ≡ judge_at G n x u
      go zero w h = absurd (omega arith)
      go (suc k) w h = let e : suc k - 1 ≡ k = omega arith in ap Ok (rw e at h)

-- the own verdict of the top node
module _ (x : State) (u : Memory) (b : Bool) (w : Top) (h : b ≡ enough_own (needed x) (sizes u)) (e : Ok w ≡ top_of x.tally b u.depths) where
  pub judged_slots : ((w.place + 1) * (4 * x.width1) ≤ length u.nets1) × ((w.place + 1) * (4 * x.width2) ≤ length u.nets2)
  judged_slots =
      let t = top_node_lem x.tally b u.depths w e in
      let r = room_own x (sizes u) (sym h ∙ t.1) in
      let slot : (n len : ℕ) → (x.tally.pairs + 64) * n ≤ len
      → (w.place + 1) * n ≤ len = λ n len f. subst (λ (j : ℕ). (j + 1) * n ≤ len) (sym t.3) (top_slot x _ n len t.0 t.2 f) in
      (slot (4 * x.width1) (length u.nets1) r.nets1, slot (4 * x.width2) (length u.nets2) r.nets2)

  pub judged : (G : Geometry) (v : Verdict) → v ≡ G.clearing x.gap (block (4 * x.width1) w.place u.nets1) (block (4 * x.width2) w.place u.nets2) → Ok v ≡ own_def G x u
  judged G v f =
      let t = top_node_lem x.tally b u.depths w e in
      own_judged G x u v t.0 (sym h ∙ t.1) t.2
      (f ∙ ap (λ (j : ℕ). G.clearing x.gap (block (4 * x.width1) j u.nets1) (block (4 * x.width2) j u.nets2)) t.3)

-- ---- a step
-- an accepted step has room; the two bounds are those of the state's 16-bit fields
pub room : (x : State) (d : Depths) (s : Sizes) → x.tally.pairs ≤ 65535 → x.tally.quota ≤ 65535 → over x.tally ≡ false → enough (needed x) s ≡ true → search_with x.tally d ≡ true
    → Room x (x.tally.waiting - 1) d s
room x d s hp hq o e f =
    let w = waits x.tally o in
    let S = sound x.tally d w f in
    let R = room_all x s e in
    let t = S.top in
    let d1 = S.deep1 in
    let d2 = S.deep2 in
    let bal = S.balance in
    let all = S.allowance in
    let see = S.seen in
    let prod : allowance_of x.tally ≤ 65535 * 65535 = mul-le-mul hq hp in
    let k1 : x.tally.waiting - 1 + 1 ≤ x.tally.pairs + 64 = omega arith in
    let g1 : x.tally.given + 1 ≤ records_of x.tally = omega arith in
    record {
      top = omega arith;
      nets1 = slots_fit x.tally.pairs (x.tally.waiting - 1 + 1) (4 * x.width1) s.nets1 k1 R.nets1;
      nets2 = slots_fit x.tally.pairs (x.tally.waiting - 1 + 1) (4 * x.width2) s.nets2 k1 R.nets2;
      ranges = slots_fit x.tally.pairs (x.tally.waiting - 1 + 1) 4 s.ranges k1 R.ranges;
      depths = slots_fit x.tally.pairs (x.tally.waiting - 1 + 1) 2 s.depths k1 R.depths;
      raw = le_trans (mul-le-mul_right 10 g1) R.raw;
      closed = omega arith;
      tags = S.tags;
      spent = omega arith;
      steps = omega arith;
      first = d1;
      second = d2;
      above = λ (h : d.first + d.second < 64).
          let k2 : x.tally.waiting - 1 + 2 ≤ x.tally.pairs + 64 = omega arith in
          record {
            nets1 = slots_fit x.tally.pairs (x.tally.waiting - 1 + 2) (4 * x.width1) s.nets1 k2 R.nets1;
            nets2 = slots_fit x.tally.pairs (x.tally.waiting - 1 + 2) (4 * x.width2) s.nets2 k2 R.nets2;
            ranges = slots_fit x.tally.pairs (x.tally.waiting - 1 + 2) 4 s.ranges k2 R.ranges;
            depths = slots_fit x.tally.pairs (x.tally.waiting - 1 + 2) 2 s.depths k2 R.depths;
            few = omega arith;
          };
    }

-- what an accepted step knows of the top node
pub record Accepted (x : State) (u : Memory) (w : Top) : Type 0 where
  pub runs : over x.tally ≡ false
  pub lent : enough (needed x) (sizes u) ≡ true
  pub sound : search_with x.tally w.depth ≡ true
  pub top : x.tally.waiting ≡ suc w.place
  pub depth : w.depth ≡ top_depth x.tally.waiting u.depths

pub accepted : (x : State) (u : Memory) (b : Bool) (w : Top) → b ≡ enough (needed x) (sizes u) → Ok w ≡ top_of x.tally b u.depths → Accepted x u w
accepted x u b w h e =
    let t = top_node_lem x.tally b u.depths w e in
    record {
      runs = t.0;
      lent = sym h ∙ t.1;
      sound = ap (search_with x.tally) t.4 ∙ t.2;
      top = (let h = waits x.tally t.0 in let z = t.3 in omega arith);
      depth = t.4;
    }

module _ (x : State) (u : Memory) (w : Top) (A : Accepted x u w) where
  pub accepted-room : x.tally.pairs ≤ 65535 → x.tally.quota ≤ 65535 → Room x w.place w.depth (sizes u)
  accepted-room hp hq =
      let at : x.tally.waiting - 1 ≡ w.place = (let t = A.top in omega arith) in
      subst (λ (j : ℕ). Room x j w.depth (sizes u)) at (room x w.depth (sizes u) hp hq A.runs A.lent A.sound)

  pub accepted_depth : w.depth ≡ depth_at u.depths w.place
  accepted_depth = A.depth ∙ ap (λ (n : ℕ). top_depth n u.depths) A.top

  pub accepted_is : is_search x u ≡ true
  accepted_is = ap (search_with x.tally) (sym A.depth) ∙ A.sound

module _ (G : Geometry) (x : State) (u : Memory) (v : Verdict) where
  pub step_refused : (b : Bool) → b ≡ enough (needed x) (sizes u) → Err NoRoom ≡ top_of x.tally b u.depths → stepping (Err NoRoom) u ≡ step_def G x u v
  step_refused b h e =
      let t = top_refused x.tally b u.depths e in
      rw (t.0, ap (λ (a : Bool). a && is_search x u) (sym h) ∙ t.1) refl

  pub step_accepted : (o : Stepping) (w : Top) → Accepted x u w → o ≡ act_on G (suc w.place) v x u → o ≡ step_def G x u v
  step_accepted o w A h = h ∙ ap (λ (n : ℕ). act_on G n v x u) (sym A.top) ∙ rw (A.runs, A.lent, accepted_is x u w A) refl
