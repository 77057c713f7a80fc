-- Calls chained over state and memory: each is lent a start of the memory, and answers as the rules do. Assumes nothing.
use mathlib.Core.Path.{◌≡◌, refl, ap, sym, ◌∙◌, subst}
use mathlib.Core.List.{List, [], ◌∷◌, ◌++◌, map, reverse, reverse-cons}
use mathlib.Core.Bool.{Bool, true, false, ◌&&◌, cond}
use Prim.Native.Nat.{ℕ, suc, ◌+◌, ◌*◌, ◌≤◌, min}
use native.Mathlib.Nat.{le_refl, mul-le-mul_right, add-mul}
use native.Mathlib.Omega.{arith}
use lib.Dec.{T}
use lib.ListN.{length, take, drop, length-append, length-take, take-append-drop, length-reverse}
use lib.Seq.{length-take-le, take-append-le, take_at, take-take}
use lib.Ieee.{Float}
use Rattle.std.proofs.lemmas.List.{length-map, map-append}
use Rattle.lists.specs.Parts.{block, patch}
use Rattle.lists.proofs.Parts.{patch_length}
use Rattle.verdicts.specs.declared.Verdict.{Verdict}
use Rattle.machine.specs.Machine.{Node, Settling, Search, ended, OwnVerdict, remember}
use Rattle.machine.specs.Merge.{merged}
use Rattle.machine.proofs.Cover.{at_most_lem}
use Rattle.regions.specs.declared.Region.{Region}
use Rattle.regions.specs.Regions.{merging, flats, regions_in}
use Rattle.regions.specs.Reports.{word_for}
use Rattle.states.specs.declared.State.{State}
use Rattle.nodes.specs.Geometry.{region_for, region_of}
use Rattle.states.specs.States.{spare, Memory, Sizes, sizes, needed, enough, enough_own, is_search}
use Rattle.search.specs.Steps.{step_def, judge_at, own_def}
use Rattle.report.specs.Reports.{summary_of, Output, out_room, written, reporting, left_regions, raw_after, write_report, report_def}
use Rattle.coverage.specs.Calls.{Call, step, own, report, Answer, judged, reported, Outcome, lend, give_back, call, Ran, run_all, step_outcome, report_outcome, back_in}
use Rattle.opening.specs.Asked.{Asked, shape, pairs_of, start, state_of, result_of, net_of1, net_of2, depth_of, raw_list, records_for}
use Rattle.coverage.specs.Rules.{Ruled, lent, suffices, step_rule, test_top, own_rule, after_own, report_rule, call_rule, RuledAll, rule_all}
use Rattle.coverage.specs.Claim.{AllStored}
use Rattle.coverage.proofs.Refine.{agree_stored, Room, room_of, fits_in, RoomOwn, room_own, start_block, agree_lend, agree_back, lend_back, lend-sizes, back_sizes, Numbers, Held, part1_is, part2_is, flats-length, raw_more, counts_result, StepSim, unchanged, moved, search, rule_with, top_depth_lem, is_search_lem, step_sim}
use Rattle.states.specs.declared.StepError.{StepError}
use Rattle.states.specs.declared.StepError.TheVariants.{Ended, NoRoom}
use Rattle.report.specs.declared.ReportError.TheVariants.{Running, NoRoom as ReportNoRoom}
use Rattle.std.proofs.Common.{Result, Ok, Err}

-- ---- between calls
pub record Inv (q : Asked) (full : Sizes) (m : Search (shape q)) (u : Memory) : Type 0 where
  pub numbers : Numbers q m
  pub held : Held q m u
  pub lengths : sizes u ≡ full

pub record Follows (q : Asked) (full : Sizes) (o : Outcome) (r : Ruled q) : Type 0 where
  pub answer : o.answer ≡ r.answer
  pub state : o.state ≡ state_of q r.search
  pub inv : Inv q full r.search o.memory

given_small : (q : Asked) (m : Search (shape q)) → Numbers q m → length m.given + length m.stack ≤ records_for q
given_small q m N = let b = N.counts.balance in let a = N.allowance in omega arith

-- what the own verdict reads of the top node
abbrev pub OwnHeld : (q : Asked) → Memory → List (Node (shape q)) → Type 0
OwnHeld q w [] = Unit {0}
OwnHeld q w (n ∷ r) =
    (block (4 * q.width1) (length r) w.nets1 ≡ net_of1 q n) × (block (4 * q.width2) (length r) w.nets2 ≡ net_of2 q n)
    × (block 2 (length r) w.depths ≡ depth_of q n)

-- a start that is long enough holds the search
pub held-lent : (q : Asked) (m : Search (shape q)) (n : Sizes) (u : Memory) → Numbers q m → Held q m u → Room q (sizes (lend n u)) → Held q m (lend n u)
held-lent q m n u N H R = record {
  nodes = agree_stored q (pairs_of q + spare) u (lend n u) m.stack (agree_lend q n u R) (at_most_lem (shape q) (pairs_of q) m.stack N.counts.steep) H.nodes;
  raw = take-take (length m.given * 10) n.raw u.raw (fits (length (take n.raw u.raw)) (length-take n.raw u.raw) R.raw) ∙ H.raw;
}
  where
    fits : (k : ℕ) → k ≡ min n.raw (length u.raw) → records_for q * 10 ≤ k → length m.given * 10 ≤ n.raw
    fits k e h = let g = given_small q m N in let f : length m.given * 10 ≤ records_for q * 10 = mul-le-mul_right 10 (omega arith) in omega arith

held_back : (q : Asked) (m : Search (shape q)) (n : Sizes) (w u : Memory) → Numbers q m → Held q m w → Room q (sizes w) → Held q m (give_back n w u)
held_back q m n w u N H R = record {
  nodes =
      agree_stored q (pairs_of q + spare) w (give_back n w u) m.stack (agree_back q n w u R)
      (at_most_lem (shape q) (pairs_of q) m.stack N.counts.steep) H.nodes;
  raw =
      take-append-le (length m.given * 10) w.raw (drop n.raw u.raw)
      (let g = given_small q m N in fits_in (length m.given) (records_for q) 10 (length w.raw) (omega arith) R.raw) ∙ H.raw;
}

-- a call on what is lent, and the memory given back
pub back_sim : (q : Asked) (full : Sizes) (m : Search (shape q)) (n : Sizes) (u : Memory) (o : Outcome) (r : Ruled q) → Inv q full m u
    → StepSim q o r m (lend n u) → Follows q full (back_in n u o) r
back_sim q full m n u o r I (unchanged a s e f) = record {
  answer = a;
  state = s ∙ ap (state_of q) (sym f);
  inv =
      subst (λ (x : Search (shape q)). Inv q full x (give_back n o.memory u)) (sym f)
      (subst (Inv q full m) (sym (ap (λ (w : Memory). give_back n w u) e ∙ lend_back n u)) I);
}
back_sim q full m n u o r I (moved a s H z R N) = record {
  answer = a;
  state = s;
  inv = record {
    numbers = N;
    held = held_back q r.search n o.memory u N H (subst (Room q) (sym z) R);
    lengths = back_sizes n o.memory u z ∙ I.lengths;
  };
}

suffices_is : (q : Asked) (full n : Sizes) (u : Memory) → sizes u ≡ full → enough (needed (state_of q (start q))) (sizes (lend n u)) ≡ suffices q full n
suffices_is q full n u e = ap (enough (needed (state_of q (start q)))) (lend-sizes n u ∙ ap (lent n) e)

module _ (q : Asked) (low : (w : ℕ) (l : List Float) → length l ≡ 4 * w → length (q.geometry.lower_net l) ≡ 4 * w)
    (upp : (w : ℕ) (l : List Float) → length l ≡ 4 * w → length (q.geometry.upper_net l) ≡ 4 * w) (full : Sizes) where
  pub step_next : (m : Search (shape q)) (u : Memory) (n : Sizes) (v : Verdict) → Inv q full m u
      → Follows q full (back_in n u (step_outcome (state_of q m) (step_def q.geometry (state_of q m) (lend n u) v))) (step_rule q full v n m)
  step_next m u n v I =
      back_sim q full m n u (step_outcome (state_of q m) (step_def q.geometry (state_of q m) (lend n u) v)) (step_rule q full v n m) I
      (subst (λ (b : Bool). StepSim q (step_outcome (state_of q m) (step_def q.geometry (state_of q m) (lend n u) v)) (rule_with q b v m) m (lend n u))
      (suffices_is q full n u I.lengths)
      (step_sim q low upp m (lend n u) v I.numbers (held-lent q m n u I.numbers I.held)))

  -- ---- the own verdict
  pub own_fields : (l : List (Node (shape q))) (se : List (Settling (shape q))) (gi : List (Node (shape q))) (vi sp un : ℕ) (st : Bool) (ow : OwnVerdict) (w : Memory)
      → Numbers q (search q l se gi vi sp un st ow) → (RoomOwn q (sizes w) → OwnHeld q w l)
      → own_def q.geometry (state_of q (search q l se gi vi sp un st ow)) w
      ≡ cond (ended (shape q) (search q l se gi vi sp un st ow)) (Err Ended) (cond (enough_own (needed (state_of q (start q))) (sizes w)) (test_top q l) (Err NoRoom))
  own_fields l se gi vi sp un true ow w N H = refl
  own_fields [] se gi vi sp un false ow w N H = refl
  own_fields (n ∷ r) se gi vi sp un false ow w N H =
      go (enough_own (needed (state_of q (start q))) (sizes w)) (is_search (state_of q (search q (n ∷ r) se gi vi sp un false ow)) w) (room_own q (sizes w))
      (λ (R : RoomOwn q (sizes w)). is_search_lem q (search q (n ∷ r) se gi vi sp un false ow) w N (H R).2)
    where
      go : (e s : Bool) → (T e → RoomOwn q (sizes w)) → (RoomOwn q (sizes w) → T s)
          → cond (e && s) (judge_at q.geometry (suc (length r)) (state_of q (search q (n ∷ r) se gi vi sp un false ow)) w) (Err NoRoom)
          ≡ cond e (test_top q (n ∷ r)) (Err NoRoom)
      go false s f g = refl
      go true false f g = absurd (g (f tt))
      go true true f g = let z = H (f tt) in λ i. Ok (q.geometry.clearing q.gap (z.0 i) (z.1 i))

  own_lent : (l : List (Node (shape q))) (n : Sizes) (u : Memory) → length l ≤ pairs_of q + spare → AllStored q u l → RoomOwn q (sizes (lend n u)) → OwnHeld q (lend n u) l
  own_lent [] n u h z R = tt
  own_lent (x ∷ r) n u h z R = (
    start_block q n.nets1 u.nets1 (4 * q.width1) (length r) h R.nets1 ∙ z.0.net1,
    start_block q n.nets2 u.nets2 (4 * q.width2) (length r) h R.nets2 ∙ z.0.net2,
    start_block q n.depths u.depths 2 (length r) h R.depths ∙ z.0.depth,
  )

  pub own_is : (m : Search (shape q)) (u : Memory) (n : Sizes) → Inv q full m u → own_def q.geometry (state_of q m) (lend n u) ≡ own_rule q full n m
  own_is m u n I =
      own_fields m.stack m.settled m.given m.visits m.splits m.unspent m.stopped m.own (lend n u) I.numbers
      (own_lent m.stack n u (at_most_lem (shape q) (pairs_of q) m.stack I.numbers.counts.steep) I.held.nodes)
      ∙ ap (λ (s : Sizes). cond (ended (shape q) m) (Err Ended) (cond (enough_own (needed (state_of q (start q))) s) (test_top q m.stack) (Err NoRoom)))
      (lend-sizes n u ∙ ap (lent n) I.lengths)

-- ---- report
regions_in-flats : (L : List Region) (rest : List Float) → regions_in (length L) (flats L ++ rest) ≡ L
regions_in-flats [] rest = refl
regions_in-flats (r ∷ L) rest = ap {B = List Region} (λ (l : List Region). r ∷ l) (regions_in-flats L rest)

regions_in-take : (L : List Region) (l : List Float) → take (length L * 10) l ≡ flats L → regions_in (length L) l ≡ L
regions_in-take L l e =
    ap (regions_in (length L)) (sym (take-append-drop (length L * 10) l) ∙ ap (λ (z : List Float). z ++ drop (length L * 10) l) e)
    ∙ regions_in-flats L (drop (length L * 10) l)

left_is : (q : Asked) (m : Search (shape q)) (w : Memory) (l : List (Node (shape q))) → AllStored q w l
    → left_regions q.geometry (state_of q m) w.nets1 w.nets2 w.ranges (length l) ≡ map (region_of q.geometry q.gap) (reverse l)
left_is q m w [] z = refl
left_is q m w (n ∷ r) z =
    let f = region_of q.geometry q.gap in
    (λ i. left_is q m w r z.1 i ++ (region_for q.geometry (part1_is q m w (length r) n z.0 i) (part2_is q m w (length r) n z.0 i) ∷ []))
    ∙ sym (map-append f (reverse r) (n ∷ [])) ∙ ap (map f) (sym (reverse-cons n r))

take_before : {A : Type 0} (l : List A) (i : ℕ) (vs : List A) → i ≤ length l → take i (patch l i vs) ≡ take i l
take_before l i vs h = take_at (take i l) (vs ++ drop (i + length vs) l) i (length-take-le i l h)

module _ (q : Asked) (m : Search (shape q)) (w : Memory) (N : Numbers q m) (R : Room q (sizes w)) (H : Held q m w) where
  lefts : left_regions q.geometry (state_of q m) w.nets1 w.nets2 w.ranges (length m.stack) ≡ map (region_of q.geometry q.gap) (reverse m.stack)
  lefts = left_is q m w m.stack H.nodes

  left_count : length (left_regions q.geometry (state_of q m) w.nets1 w.nets2 w.ranges (length m.stack)) ≡ length m.stack
  left_count = ap length lefts ∙ length-map (reverse m.stack) (region_of q.geometry q.gap) ∙ length-reverse m.stack

  room_raw : (length m.given + length m.stack) * 10 ≤ length w.raw
  room_raw = fits_in (length m.given + length m.stack) (records_for q) 10 (length w.raw) (given_small q m N) R.raw

  given_room : length m.given * 10 ≤ length w.raw
  given_room = let a = room_raw in let b = add-mul (length m.given) (length m.stack) 10 in omega arith

  raws_are : regions_in (length m.given + length m.stack) (raw_after q.geometry (state_of q m) w) ≡ raw_list q m
  raws_are =
      let f = region_of q.geometry q.gap in
      let X = left_regions q.geometry (state_of q m) w.nets1 w.nets2 w.ranges (length m.stack) in
      let L = map f m.given ++ X in
      let size : length L ≡ length m.given + length m.stack =
      length-append (map f m.given) X ∙ ap (λ (z : ℕ). z + length X) (length-map m.given f) ∙ ap (λ (z : ℕ). length m.given + z) left_count in
      let ten : length L * 10 ≡ length m.given * 10 + length (flats X) =
      ap (λ (z : ℕ). z * 10) size ∙ add-mul (length m.given) (length m.stack) 10
      ∙ ap (λ (z : ℕ). length m.given * 10 + z * 10) (sym left_count) ∙ ap (λ (z : ℕ). length m.given * 10 + z) (sym (flats-length X)) in
      let whole = patch w.raw (length m.given * 10) (flats X) in
      ap (λ (z : ℕ). regions_in z whole) (sym size)
      ∙ regions_in-take L whole (ap (λ (z : ℕ). take z whole) ten ∙ raw_more q m.given X w.raw given_room H.raw)
      ∙ ap (λ (z : List Region). map f m.given ++ z) lefts
      ∙ sym (map-append f m.given (reverse m.stack))

  write_sim : (out : Output)
      → StepSim q (report_outcome (state_of q m) (write_report q.geometry (state_of q m) w out))
      (record {
        answer = reported (summary_of (word_for (length m.given) (length m.stack)) (result_of q m) (length (merged merging (raw_list q m))))
            (written q.terms (length m.given + length m.stack) (merged merging (raw_list q m)) out);
        search = m;
      })
      m w
  write_sim out =
      let X = left_regions q.geometry (state_of q m) w.nets1 w.nets2 w.ranges (length m.stack) in
      moved
      (λ i. reported (summary_of (word_for (length m.given) (length m.stack)) (counts_result q m i) (length (merged merging (raws_are i))))
      (written q.terms (length m.given + length m.stack) (merged merging (raws_are i)) out))
      refl
      (record {
        nodes =
            agree_stored q (length m.stack) w _ m.stack
            (record { net1 = λ k h. refl; net2 = λ k h. refl; ranges = λ k h. refl; depth = λ k h. refl }) (le_refl (length m.stack)) H.nodes;
        raw = take_before w.raw (length m.given * 10) (flats X) given_room ∙ H.raw;
      })
      (λ i. record {
        nets1 = length w.nets1;
        nets2 = length w.nets2;
        ranges = length w.ranges;
        depths = length w.depths;
        raw =
            patch_length w.raw (length m.given * 10) (flats X) (let a = room_raw in let b = add-mul (length m.given) (length m.stack) 10
            in let c = flats-length X in let d : length X * 10 ≡ length m.stack * 10 = ap (λ (z : ℕ). z * 10) left_count in omega arith) i;
      })
      R N

abbrev pub report_with : (q : Asked) → Bool → Output → Search (shape q) → Answer
report_with q e out m =
    cond (ended (shape q) m)
    (cond (e && out_room (records_for q) out)
    (let raws = raw_list q m in
    reported (summary_of (word_for (length m.given) (length m.stack)) (result_of q m) (length (merged merging raws)))
    (written q.terms (length m.given + length m.stack) (merged merging raws) out))
    (reported (Err ReportNoRoom) out))
    (reported (Err Running) out)

module _ (q : Asked) (full : Sizes) where
  report_ended : (m : Search (shape q)) (w : Memory) (out : Output) → Numbers q m → (Room q (sizes w) → Held q m w)
      → StepSim q (report_outcome (state_of q m) (cond
      (enough (needed (state_of q (start q))) (sizes w) && out_room (records_for q) out && is_search (state_of q m) w)
      (write_report q.geometry (state_of q m) w out) (reporting (Err ReportNoRoom) w out)))
      (record {
        answer = cond (enough (needed (state_of q (start q))) (sizes w) && out_room (records_for q) out)
            (reported (summary_of (word_for (length m.given) (length m.stack)) (result_of q m) (length (merged merging (raw_list q m))))
            (written q.terms (length m.given + length m.stack) (merged merging (raw_list q m)) out))
            (reported (Err ReportNoRoom) out);
        search = m;
      }) m w
  report_ended m w out N H =
      go (enough (needed (state_of q (start q))) (sizes w)) (out_room (records_for q) out) (is_search (state_of q m) w)
      (room_of q (sizes w)) (λ (R : Room q (sizes w)). is_search_lem q m w N (top_depth_lem q w m.stack (H R).nodes))
    where
      go : (e b s : Bool) → (T e → Room q (sizes w)) → (Room q (sizes w) → T s)
          → StepSim q (report_outcome (state_of q m) (cond (e && b && s) (write_report q.geometry (state_of q m) w out) (reporting (Err ReportNoRoom) w out)))
          (record {
            answer = cond (e && b)
                (reported (summary_of (word_for (length m.given) (length m.stack)) (result_of q m) (length (merged merging (raw_list q m))))
                (written q.terms (length m.given + length m.stack) (merged merging (raw_list q m)) out))
                (reported (Err ReportNoRoom) out);
            search = m;
          }) m w
      go false b s f g = unchanged refl refl refl refl
      go true false s f g = unchanged refl refl refl refl
      go true true false f g = absurd (g (f tt))
      go true true true f g = write_sim q m w N (f tt) (H (f tt)) out

  pub report_fields : (l : List (Node (shape q))) (se : List (Settling (shape q))) (gi : List (Node (shape q))) (vi sp un : ℕ) (st : Bool) (ow : OwnVerdict)
      (w : Memory) (out : Output)
      → Numbers q (search q l se gi vi sp un st ow) → (Room q (sizes w) → Held q (search q l se gi vi sp un st ow) w)
      → StepSim q (report_outcome (state_of q (search q l se gi vi sp un st ow)) (report_def q.geometry (state_of q (search q l se gi vi sp un st ow)) w out))
      (record {
        answer = report_with q (enough (needed (state_of q (start q))) (sizes w)) out (search q l se gi vi sp un st ow);
        search = search q l se gi vi sp un st ow;
      }) (search q l se gi vi sp un st ow) w
  report_fields l se gi vi sp un true ow w out N H = report_ended (search q l se gi vi sp un true ow) w out N H
  report_fields [] se gi vi sp un false ow w out N H = report_ended (search q [] se gi vi sp un false ow) w out N H
  report_fields (n ∷ r) se gi vi sp un false ow w out N H = unchanged refl refl refl refl

  pub report_next : (m : Search (shape q)) (u : Memory) (n : Sizes) (out : Output) → Inv q full m u
      → Follows q full (back_in n u (report_outcome (state_of q m) (report_def q.geometry (state_of q m) (lend n u) out)))
      (record { answer = report_rule q full n out m; search = m })
  report_next m u n out I =
      back_sim q full m n u (report_outcome (state_of q m) (report_def q.geometry (state_of q m) (lend n u) out))
      (record { answer = report_rule q full n out m; search = m }) I
      (subst (λ (b : Bool). StepSim q (report_outcome (state_of q m) (report_def q.geometry (state_of q m) (lend n u) out))
      (record { answer = report_with q b out m; search = m }) m (lend n u)) (suffices_is q full n u I.lengths)
      (report_fields m.stack m.settled m.given m.visits m.splits m.unspent m.stopped m.own (lend n u) out I.numbers
      (held-lent q m n u I.numbers I.held)))

-- ---- any call, and any list of calls
module _ (q : Asked) (low : (w : ℕ) (l : List Float) → length l ≡ 4 * w → length (q.geometry.lower_net l) ≡ 4 * w)
    (upp : (w : ℕ) (l : List Float) → length l ≡ 4 * w → length (q.geometry.upper_net l) ≡ 4 * w) (full : Sizes) where
  pub remember_inv : (v : Verdict) (m : Search (shape q)) (u : Memory) → Inv q full m u → Inv q full (remember (shape q) v m) u
  remember_inv v m u I = record {
    numbers =
        let c = I.numbers.counts in
        record {
          counts = record { balance = c.balance; steep = c.steep; given = c.given; settled = c.settled };
          allowance = I.numbers.allowance;
          visited = I.numbers.visited;
        };
    held = record { nodes = I.held.nodes; raw = I.held.raw };
    lengths = I.lengths;
  }

  own_next : (a : Result Verdict StepError) (m : Search (shape q)) (u : Memory) → Inv q full m u → Inv q full (after_own q a m) u
  own_next (Ok v) m u I = remember_inv v m u I
  own_next (Err e) m u I = I

  own_state : (a : Result Verdict StepError) (m : Search (shape q)) → state_of q m ≡ state_of q (after_own q a m)
  own_state (Ok v) m = refl
  own_state (Err e) m = refl

  pub call_next : (c : Call) (m : Search (shape q)) (u : Memory) → Inv q full m u → Follows q full (call q.geometry c (state_of q m) u) (call_rule q full c m)
  call_next (step v n) m u I = step_next q low upp full m u n v I
  call_next (own n) m u I =
      record
      { answer = ap judged (own_is q low upp full m u n I); state = own_state (own_rule q full n m) m; inv = own_next (own_rule q full n m) m u I }
  call_next (report n out) m u I = report_next q full m u n out I

  pub record Chained (r : Ran) (a : RuledAll q) : Type 0 where
    pub answers : r.answers ≡ a.answers
    pub state : r.state ≡ state_of q a.search
    pub inv : Inv q full a.search r.memory

  pub chain : (cs : List Call) (m : Search (shape q)) (x : State) (u : Memory) → x ≡ state_of q m → Inv q full m u
      → Chained (run_all q.geometry cs x u) (rule_all q full cs m)
  chain [] m x u e I = record { answers = refl; state = e; inv = I }
  chain (c ∷ cs) m x u e I =
      subst (λ (y : State). Chained (run_all q.geometry (c ∷ cs) y u) (rule_all q full (c ∷ cs) m)) (sym e)
      (go (call_next c m u I) (chain cs (call_rule q full c m).search (call q.geometry c (state_of q m) u).state (call q.geometry c (state_of q m) u).memory))
    where
      go : Follows q full (call q.geometry c (state_of q m) u) (call_rule q full c m)
          → ((call q.geometry c (state_of q m) u).state ≡ state_of q (call_rule q full c m).search
          → Inv q full (call_rule q full c m).search (call q.geometry c (state_of q m) u).memory
          → Chained (run_all q.geometry cs (call q.geometry c (state_of q m) u).state (call q.geometry c (state_of q m) u).memory)
          (rule_all q full cs (call_rule q full c m).search))
          → Chained (run_all q.geometry (c ∷ cs) (state_of q m) u) (rule_all q full (c ∷ cs) m)
      go h ih =
          let z = ih h.state h.inv in
          record { answers = λ i. h.answer i ∷ z.answers i; state = z.state; inv = z.inv }
