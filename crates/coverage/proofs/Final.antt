-- Every list of calls from a fresh search keeps what is claimed, for any geometry. Assumes nothing.
use mathlib.Core.Path.{◌≡◌, refl, ap, sym, ◌∙◌, subst}
use mathlib.Core.Logic.{inl, inr, ◌↔◌}
use mathlib.Core.List.{List, [], ◌∷◌, ◌++◌, map, reverse, append_assoc}
use mathlib.Core.Bool.{Bool, true, false, not, ◌&&◌, cond, and_comm}
use Prim.Native.Nat.{ℕ, zero, suc, ◌+◌, ◌-◌, ◌*◌, ◌≤◌, ◌^◌}
use native.Mathlib.Omega.{arith}
use lib.Dec.{T, lit<}
use lib.ListN.{length, take, drop, replicate}
use lib.Seq.{take_at}
use lib.Ieee.{Float, le}
use Rattle.floats.specs.Stations.{Piece}
use Rattle.lists.specs.Members.{Any, All}
use Rattle.lists.proofs.Members.{any_left, any_right, any_reverse, all_append, all_reverse}
use Rattle.verdicts.specs.declared.Verdict.{Verdict}
use Rattle.verdicts.specs.declared.Test.{Test}
use Rattle.verdicts.specs.declared.Verdict.TheVariants.{Settled, Split, Unseparated}
use Rattle.machine.specs.Machine.{Node, Settling, Search, half, part_of, Shallow, choice_of, InNode, ended, divide, on_top, advance, not_settled, settled_by, remembered_as, remember}
use Rattle.machine.specs.Merge.{merged}
use Rattle.machine.specs.Covered.{Covered, by_boxes, by_settled, by_given, by_waiting}
use Rattle.machine.proofs.Cover.{divide_settled, divide_own, deep_shallow, at_most_lem, tags_sum_lem, Halving, SoundNode, cover_advance, sound_advance, sound_fresh, cover_fresh, sound_descend}
use Rattle.machine.proofs.Merged.{merged_off, Keeping, merged_has}
use Rattle.floats.specs.Floats.{least, greatest, middle, zero64}
use Rattle.floats.specs.Sizes.{Number, Within}
use Rattle.floats.proofs.Order.{le_total, right_number, le_trans_float, least_is, greatest_is}
use Rattle.floats.proofs.Middle.{within_number, middle-within}
use Rattle.regions.specs.declared.Region.{Region}
use Rattle.regions.specs.declared.Word.TheVariants.{Complete}
use Rattle.regions.specs.Stations.{InRegion}
use Rattle.regions.specs.Regions.{touches_of, merging, flats}
use Rattle.regions.specs.Reports.{word_for, report_slice}
use Rattle.terms.specs.Terms.{seam_of}
use Rattle.stretches.proofs.Marked.{report_marked}
use Rattle.report.specs.Reports.{summary_of, Output, out_room, written}
use Rattle.states.specs.declared.State.{State}
use Rattle.nodes.specs.Geometry.{region_of}
use Rattle.states.specs.States.{Memory, Sizes, sizes, needed, enough, allowance_of}
use Rattle.coverage.specs.Calls.{Call, step, own, report, Answer, stepped, judged, reported, run_all}
use Rattle.opening.specs.Asked.{Asked, shape, pieces1, pieces2, In1, In2, pairs_of, start, state_of, result_of, net_of1, net_of2, open_memory, raw_list, allowance_for, records_for}
use Rattle.coverage.specs.Rules.{Ruled, suffices, suffices_own, step_rule, test_top, own_rule, after_own, report_rule, call_rule, rule_all}
use Rattle.coverage.specs.Claim.{bound, Accounted, GoodAnswer, DepthsFit, After, Fine, GoodReport}
use Rattle.coverage.proofs.Refine.{flats-length}
use Rattle.coverage.proofs.Chain.{chain}
use Rattle.coverage.proofs.Opening.{all_pieces, open_inv}
use Rattle.verdicts.specs.declared.Side.{Side}
use Rattle.verdicts.specs.declared.Side.TheVariants.{First, Second}
use Rattle.states.specs.declared.StepError.{StepError}
use Rattle.states.specs.declared.StepError.TheVariants.{Ended, NoRoom}
use Rattle.report.specs.declared.ReportError.TheVariants.{Running, NoRoom as ReportNoRoom}
use Rattle.std.proofs.Common.{Option, Some, None, Result, Ok, Err}

-- ---- floats: a half keeps each station
abbrev SoundPiece : Piece → Type 0
SoundPiece p = Within (2 ^ bound) p.lo × Within (2 ^ bound) p.hi

mid_fine : (p : Piece) → SoundPiece p → Within (2 ^ bound) (middle p.lo p.hi)
mid_fine p h = middle-within bound p.lo p.hi (lit< tt) h.0 h.1

pub halving : (q : Asked) → Halving (shape q)
unfolding mid_fine
halving q = record {
  Sound = SoundPiece;
  sound_half = sh;
  keeps =
      λ p s h k. elim
      (le_total s (middle p.lo p.hi) (right_number p.lo s k.0) (within_number (2 ^ bound) (middle p.lo p.hi) (mid_fine p h)))
      [ inl x ↦ inl (k.0, x) | inr y ↦ inr (y, k.1) ];
}
  where
    sh : (u : Bool) (p : Piece) → SoundPiece p → SoundPiece (half (shape q) u p)
    sh true p h = (mid_fine p h, h.1)
    sh false p h = (h.0, mid_fine p h)

-- ---- regions
abbrev Ends : Region → Type 0
Ends r = Number r.a0 × Number r.a1 × Number r.b0 × Number r.b1

keeping : Keeping merging (Float × Float)
keeping = record {
  Valid = Ends;
  Has = λ r x. InRegion x.0 x.1 r;
  valid_join =
      λ g r v w.
      ((least_is g.a0 r.a0 v.0 w.0).number, (greatest_is g.a1 r.a1 v.1 w.1).number, (least_is g.b0 r.b0 v.2 w.2).number, (greatest_is g.b1 r.b1 v.3 w.3).number);
  has_left = λ g r x v w h. (
    (le_trans_float (least g.a0 r.a0) g.a0 x.0 (least_is g.a0 r.a0 v.0 w.0).left h.0.0, le_trans_float x.0 g.a1 (greatest g.a1 r.a1) h.0.1 (greatest_is g.a1 r.a1 v.1 w.1).left),
    (le_trans_float (least g.b0 r.b0) g.b0 x.1 (least_is g.b0 r.b0 v.2 w.2).left h.1.0, le_trans_float x.1 g.b1 (greatest g.b1 r.b1) h.1.1 (greatest_is g.b1 r.b1 v.3 w.3).left),
  );
  has_right = λ g r x v w h. (
    (le_trans_float (least g.a0 r.a0) r.a0 x.0 (least_is g.a0 r.a0 v.0 w.0).right h.0.0, le_trans_float x.0 r.a1 (greatest g.a1 r.a1) h.0.1 (greatest_is g.a1 r.a1 v.1 w.1).right),
    (le_trans_float (least g.b0 r.b0) r.b0 x.1 (least_is g.b0 r.b0 v.2 w.2).right h.1.0, le_trans_float x.1 r.b1 (greatest g.b1 r.b1) h.1.1 (greatest_is g.b1 r.b1 v.3 w.3).right),
  );
}

touch_comm : (g r : Region) → touches_of g r ≡ touches_of r g
touch_comm g r = λ i. and_comm (le g.a0 r.a1) (le r.a0 g.a1) i && and_comm (le g.b0 r.b1) (le r.b0 g.b1) i

off_comm : (g r : Region) → T (not (touches_of g r)) → T (not (touches_of r g))
off_comm g r h = subst (λ (b : Bool). T (not b)) (touch_comm g r) h

-- ---- the search that the rules make
abbrev pub Cleared : (q : Asked) → Settling (shape q) → Type 0
Cleared q e = (t : Test) → e.own ≡ settled_by t → q.geometry.clearing q.gap (net_of1 q e.node) (net_of2 q e.node) ≡ Settled t

-- an own verdict that is remembered has its one test
forgotten : (t : Test) → not_settled ≡ settled_by t → ⊥
forgotten t e = let z : ◌≡◌ {A = ℕ} 0 1 = cc in omega arith

same_test : (a b : Test) → settled_by a ≡ settled_by b → a ≡ b
same_test a b e = cc

-- the verdict is what the tests give for the top node
abbrev pub Says : (q : Asked) → Verdict → List (Node (shape q)) → Type 0
Says q v [] = Unit {0}
Says q v (n ∷ r) = q.geometry.clearing q.gap (net_of1 q n) (net_of2 q n) ≡ v

pub record Upheld (q : Asked) (m : Search (shape q)) : Type 0 where
  pub covered : (s t : Float) → In1 q s → In2 q t → Covered (shape q) (pieces1 q) (pieces2 q) m s t
  pub sound : All (SoundNode (shape q) (halving q)) m.stack
  pub sound_given : All (SoundNode (shape q) (halving q)) m.given
  pub cleared : All (Cleared q) m.settled
  pub honest : (t : Test) → m.own ≡ settled_by t → Says q (Settled t) m.stack

module _ (q : Asked) where
  given_divide : (d : Option Side) (k : ℕ) (n : Node (shape q)) (r : List (Node (shape q))) (m : Search (shape q)) → SoundNode (shape q) (halving q) n
      → All (SoundNode (shape q) (halving q)) m.given
      → All (SoundNode (shape q) (halving q)) (divide (shape q) d k n r m).given
  given_divide None k n r m w g = all_append (SoundNode (shape q) (halving q)) m.given (n ∷ []) g (w, tt)
  given_divide (Some line) zero n r m w g = g
  given_divide (Some line) (suc k) n r m w g = g

  given_top : (v : Verdict) (l : List (Node (shape q))) (m : Search (shape q)) → All (SoundNode (shape q) (halving q)) l
      → All (SoundNode (shape q) (halving q)) m.given
      → All (SoundNode (shape q) (halving q)) (on_top (shape q) v l m).given
  given_top (Settled by) [] m w g = g
  given_top Split [] m w g = g
  given_top Unseparated [] m w g = g
  given_top (Settled by) (n ∷ r) m w g = g
  given_top Split (n ∷ r) m w g = given_divide (choice_of (shape q) n) m.unspent n r m w.0 g
  given_top Unseparated (n ∷ r) m w g = all_append (SoundNode (shape q) (halving q)) m.given (n ∷ []) g (w.0, tt)

  clear_top : (v : Verdict) (l : List (Node (shape q))) (m : Search (shape q)) → ((t : Test) → m.own ≡ settled_by t → Says q (Settled t) l) → All (Cleared q) m.settled
      → All (Cleared q) (on_top (shape q) v l m).settled
  clear_top (Settled by) [] m f c = c
  clear_top Split [] m f c = c
  clear_top Unseparated [] m f c = c
  clear_top (Settled by) (n ∷ r) m f c = (f, c)
  clear_top Split (n ∷ r) m f c = subst (All (Cleared q)) (divide_settled (shape q) (choice_of (shape q) n) m.unspent n r m) c
  clear_top Unseparated (n ∷ r) m f c = c

  -- a step forgets the own verdict
  honest_top : (v : Verdict) (l : List (Node (shape q))) (m : Search (shape q)) → m.stack ≡ l → ((t : Test) → m.own ≡ settled_by t → Says q (Settled t) m.stack)
      → (t : Test) → (on_top (shape q) v l m).own ≡ settled_by t → Says q (Settled t) (on_top (shape q) v l m).stack
  honest_top (Settled by) [] m e f t o = f t o
  honest_top Split [] m e f t o = f t o
  honest_top Unseparated [] m e f t o = f t o
  honest_top (Settled by) (n ∷ r) m e f t o = absurd (forgotten t o)
  honest_top Split (n ∷ r) m e f t o = absurd (forgotten t (sym (divide_own (shape q) (choice_of (shape q) n) m.unspent n r m) ∙ o))
  honest_top Unseparated (n ∷ r) m e f t o = absurd (forgotten t o)

  pub ok_advance : (v : Verdict) (m : Search (shape q)) → Upheld q m → Upheld q (advance (shape q) v m)
  ok_advance v m k = record {
    covered = λ s t a b. cover_advance (shape q) (halving q) (pieces1 q) (pieces2 q) s t v m k.sound (k.covered s t a b);
    sound = sound_advance (shape q) (halving q) v m k.sound;
    sound_given = given_top v m.stack m k.sound k.sound_given;
    cleared = clear_top v m.stack m k.honest k.cleared;
    honest = honest_top v m.stack m refl k.honest;
  }

  keep_covered : (v : Verdict) (m : Search (shape q)) (s t : Float) → Covered (shape q) (pieces1 q) (pieces2 q) m s t
      → Covered (shape q) (pieces1 q) (pieces2 q) (remember (shape q) v m) s t
  keep_covered v m s t (by_boxes h) = by_boxes h
  keep_covered v m s t (by_settled h) = by_settled h
  keep_covered v m s t (by_given h) = by_given h
  keep_covered v m s t (by_waiting h) = by_waiting h

  said_settle : (v : Verdict) (l : List (Node (shape q))) → Says q v l → (t : Test) → remembered_as (shape q) v ≡ settled_by t → Says q (Settled t) l
  said_settle (Settled by) l h t e = subst (λ (x : Test). Says q (Settled x) l) (same_test by t e) h
  said_settle Split l h t e = absurd (forgotten t e)
  said_settle Unseparated l h t e = absurd (forgotten t e)

  pub ok_remember : (v : Verdict) (m : Search (shape q)) → Says q v m.stack → Upheld q m → Upheld q (remember (shape q) v m)
  ok_remember v m h k = record {
    covered = λ s t a b. keep_covered v m s t (k.covered s t a b);
    sound = k.sound;
    sound_given = k.sound_given;
    cleared = k.cleared;
    honest = said_settle v m.stack h;
  }

  module _ (full : Sizes) where
    ok_step : (v : Verdict) (n : Sizes) (m : Search (shape q)) → Upheld q m → Upheld q (step_rule q full v n m).search
    ok_step v n m k = go (ended (shape q) m) (suffices q full n)
      where
        go : (a b : Bool)
            → Upheld q (cond {A = Ruled q} a (record { answer = stepped (Err Ended); search = m })
            (cond b (record { answer = stepped (Ok (state_of q (advance (shape q) v m))); search = advance (shape q) v m }) (record { answer = stepped (Err NoRoom); search = m }))).search
        go true b = k
        go false true = ok_advance v m k
        go false false = k

    judged_inv : (l : List (Node (shape q))) (v : Verdict) → test_top q l ≡ Ok v → Says q v l
    judged_inv [] v e = tt
    judged_inv (n ∷ r) v e = cc

    own_says : (n : Sizes) (m : Search (shape q)) (v : Verdict) → own_rule q full n m ≡ Ok v → Says q v m.stack
    own_says n m v e = go (ended (shape q) m) (suffices_own q full n) e
      where
        go : (a b : Bool) → cond a (Err Ended) (cond b (test_top q m.stack) (Err NoRoom)) ≡ Ok v → Says q v m.stack
        go true b e = absurd (let z : ◌≡◌ {A = ℕ} 0 1 = cc in omega arith)
        go false true e = judged_inv m.stack v e
        go false false e = absurd (let z : ◌≡◌ {A = ℕ} 0 1 = cc in omega arith)

    ok_own : (a : Result Verdict StepError) (m : Search (shape q)) → ((v : Verdict) → a ≡ Ok v → Says q v m.stack) → Upheld q m → Upheld q (after_own q a m)
    ok_own (Ok v) m f k = ok_remember v m (f v refl) k
    ok_own (Err e) m f k = k

    ok_call : (c : Call) (m : Search (shape q)) → Upheld q m → Upheld q (call_rule q full c m).search
    ok_call (step v n) m k = ok_step v n m k
    ok_call (own n) m k = ok_own (own_rule q full n m) m (own_says n m) k
    ok_call (report n out) m k = k

    ok_all : (cs : List Call) (m : Search (shape q)) → Upheld q m → Upheld q (rule_all q full cs m).search
    ok_all [] m k = k
    ok_all (c ∷ cs) m k = ok_all cs (call_rule q full c m).search (ok_call c m k)

-- ---- reports
region_valid : (q : Asked) (n : Node (shape q)) → SoundNode (shape q) (halving q) n → Ends (region_of q.geometry q.gap n)
unfolding halving
region_valid q n w =
    let a = sound_descend (shape q) (halving q) n.a.piece n.a.halves w.0 in
    let b = sound_descend (shape q) (halving q) n.b.piece n.b.halves w.1 in (
      within_number (2 ^ bound) (part_of (shape q) n.a).lo a.0,
      within_number (2 ^ bound) (part_of (shape q) n.a).hi a.1,
      within_number (2 ^ bound) (part_of (shape q) n.b).lo b.0,
      within_number (2 ^ bound) (part_of (shape q) n.b).hi b.1,
    )

regions_valid : (q : Asked) (l : List (Node (shape q))) → All (SoundNode (shape q) (halving q)) l → All Ends (map (region_of q.geometry q.gap) l)
regions_valid q [] w = tt
regions_valid q (n ∷ l) w = (region_valid q n w.0, regions_valid q l w.1)

in_regions : (q : Asked) (s t : Float) (l : List (Node (shape q))) → Any (InNode (shape q) s t) l → Any (InRegion s t) (map (region_of q.geometry q.gap) l)
in_regions q s t [] h = absurd h
in_regions q s t (n ∷ l) (inl x) = inl x
in_regions q s t (n ∷ l) (inr y) = inr (in_regions q s t l y)

raw_valid : (q : Asked) (m : Search (shape q)) → Upheld q m → All Ends (raw_list q m)
raw_valid q m k =
    regions_valid q (m.given ++ reverse m.stack) (all_append (SoundNode (shape q) (halving q)) m.given (reverse m.stack) k.sound_given
    (all_reverse (SoundNode (shape q) (halving q)) m.stack k.sound))

account : (q : Asked) (m : Search (shape q)) → Upheld q m → (s t : Float) → Covered (shape q) (pieces1 q) (pieces2 q) m s t → Accounted q m (merged merging (raw_list q m)) s t
unfolding keeping
account q m k s t (by_boxes h) = inl h
account q m k s t (by_settled h) = inr (inl h)
account q m k s t (by_given h) =
    inr (inr (merged_has merging (Float × Float) keeping (s, t) (raw_list q m) (raw_valid q m k)
    (in_regions q s t (m.given ++ reverse m.stack) (any_left (InNode (shape q) s t) m.given (reverse m.stack) h))))
account q m k s t (by_waiting h) =
    inr (inr (merged_has merging (Float × Float) keeping (s, t) (raw_list q m) (raw_valid q m k)
    (in_regions q s t (m.given ++ reverse m.stack)
    (any_right (InNode (shape q) s t) m.given (reverse m.stack) (any_reverse (InNode (shape q) s t) m.stack h)))))

pub word_exact : (g l : ℕ) → (word_for g l ≡ Complete) ↔ ((g ≡ 0) × (l ≡ 0))
word_exact zero zero = (λ e. (refl, refl), λ e. refl)
word_exact (suc g) zero = (λ e. absurd (let z : ◌≡◌ {A = ℕ} 0 1 = cc in omega arith), λ e. absurd (let z = e.0 in omega arith))
word_exact zero (suc l) = (λ e. absurd (let z : ◌≡◌ {A = ℕ} 0 1 = cc in omega arith), λ e. absurd (let z = e.1 in omega arith))
word_exact (suc g) (suc l) = (λ e. absurd (let z : ◌≡◌ {A = ℕ} 0 1 = cc in omega arith), λ e. absurd (let z = e.1 in omega arith))

left_ended : (b : Bool) (x : ℕ) → T b → cond b x 0 ≡ x
left_ended true x t = refl
left_ended false x t = absurd t

slice_reads : (n : ℕ) (out : List Region) (slice : List Float) → take (length out * 10) (report_slice n out slice) ≡ flats out
slice_reads n out slice =
    let z = replicate (n * 10 - length out * 10) zero64 in
    let rest = drop (0 + length (flats out ++ z)) slice in
    ap (take (length out * 10)) (append_assoc (flats out) z rest) ∙ take_at (flats out) (z ++ rest) (length out * 10) (flats-length out)

pub good_report : (q : Asked) (m : Search (shape q)) (out : Output) → Upheld q m → T (ended (shape q) m)
    → GoodReport q m (word_for (length m.given) (length m.stack)) (result_of q m) (length (merged merging (raw_list q m)))
    (written q.terms (length m.given + length m.stack) (merged merging (raw_list q m)) out)
good_report q m out k e =
    let raws = raw_list q m in
    record {
      out = merged merging raws;
      read = slice_reads (length m.given + length m.stack) (merged merging raws) out.regions;
      number = refl;
      finished = e;
      tallied = refl;
      listed = refl;
      named = refl;
      accounted = λ s t a b. account q m k s t (k.covered s t a b);
      disjoint = merged_off merging off_comm raws;
      marked = report_marked (seam_of First q.terms) (seam_of Second q.terms) (merged merging raws) out.marks;
      tags = sym (tags_sum_lem (shape q) m.settled);
      exact =
          subst (λ (x : ℕ). (word_for (length m.given) (length m.stack) ≡ Complete) ↔ ((length m.given ≡ 0) × (x ≡ 0)))
          (sym (left_ended (ended (shape q) m) (length m.stack) e)) (word_exact (length m.given) (length m.stack));
    }

module _ (q : Asked) (full : Sizes) where
  good_step : (v : Verdict) (n : Sizes) (m m' : Search (shape q)) → GoodAnswer q m' (step_rule q full v n m).answer
  good_step v n m m' = go (ended (shape q) m) (suffices q full n)
    where
      go : (a b : Bool)
          → GoodAnswer q m' (cond {A = Ruled q} a (record { answer = stepped (Err Ended); search = m })
          (cond b (record { answer = stepped (Ok (state_of q (advance (shape q) v m))); search = advance (shape q) v m }) (record { answer = stepped (Err NoRoom); search = m }))).answer
      go true b = tt
      go false true = tt
      go false false = tt

  good_own : (n : Sizes) (m m' : Search (shape q)) → GoodAnswer q m' (judged (own_rule q full n m))
  good_own n m m' = go (ended (shape q) m) (suffices_own q full n) m.stack
    where
      go : (a b : Bool) (l : List (Node (shape q))) → GoodAnswer q m' (judged (cond a (Err Ended) (cond b (test_top q l) (Err NoRoom))))
      go true b l = tt
      go false false l = tt
      go false true [] = tt
      go false true (x ∷ l) = tt

  good_rep : (n : Sizes) (out : Output) (m : Search (shape q)) → Upheld q m → GoodAnswer q m (report_rule q full n out m)
  good_rep n out m k =
      go (ended (shape q) m) (suffices q full n && out_room (records_for q) out)
      (λ (t : T (ended (shape q) m)). good_report q m out k t)
    where
      go : (a b : Bool)
          → (T a
          → GoodReport q m (word_for (length m.given) (length m.stack)) (result_of q m) (length (merged merging (raw_list q m)))
          (written q.terms (length m.given + length m.stack) (merged merging (raw_list q m)) out))
          → GoodAnswer q m (cond a (cond b
          (reported (summary_of (word_for (length m.given) (length m.stack)) (result_of q m) (length (merged merging (raw_list q m))))
          (written q.terms (length m.given + length m.stack) (merged merging (raw_list q m)) out))
          (reported (Err ReportNoRoom) out)) (reported (Err Running) out))
      go false b f = tt
      go true false f = tt
      go true true f = f tt

  -- a search that has ended stays as it is
  stay_step : (v : Verdict) (n : Sizes) (m : Search (shape q)) → T (ended (shape q) m) → (step_rule q full v n m).search ≡ m
  stay_step v n m t = go (ended (shape q) m) (suffices q full n) t
    where
      go : (a b : Bool) → T a
          → (cond {A = Ruled q} a (record { answer = stepped (Err Ended); search = m })
          (cond b (record { answer = stepped (Ok (state_of q (advance (shape q) v m))); search = advance (shape q) v m }) (record { answer = stepped (Err NoRoom); search = m }))).search
          ≡ m
      go true b t = refl
      go false b t = absurd t

  stay_own : (n : Sizes) (m : Search (shape q)) → T (ended (shape q) m) → after_own q (own_rule q full n m) m ≡ m
  stay_own n m t = go (ended (shape q) m) t
    where
      go : (a : Bool) → T a → after_own q (cond a (Err Ended) (cond (suffices_own q full n) (test_top q m.stack) (Err NoRoom))) m ≡ m
      go true t = refl
      go false t = absurd t

  stay_call : (c : Call) (m : Search (shape q)) → T (ended (shape q) m) → (call_rule q full c m).search ≡ m
  stay_call (step v n) m t = stay_step v n m t
  stay_call (own n) m t = stay_own n m t
  stay_call (report n out) m t = refl

  pub stay_all : (cs : List Call) (m : Search (shape q)) → T (ended (shape q) m) → (rule_all q full cs m).search ≡ m
  stay_all [] m t = refl
  stay_all (c ∷ cs) m t = ap (λ (x : Search (shape q)). (rule_all q full cs x).search) (stay_call c m t) ∙ stay_all cs m t

  -- calls after other calls
  pub rule_append : (cs ds : List Call) (m : Search (shape q)) → (rule_all q full (cs ++ ds) m).search ≡ (rule_all q full ds (rule_all q full cs m).search).search
  rule_append [] ds m = refl
  rule_append (c ∷ cs) ds m = rule_append cs ds (call_rule q full c m).search

  later : (cs : List Call) (m : Search (shape q)) (a : Answer) → GoodAnswer q m a → GoodAnswer q (rule_all q full cs m).search a
  later cs m (stepped a) h = tt
  later cs m (judged a) h = tt
  later cs m (reported (Ok s) l) h = subst (λ (x : Search (shape q)). GoodReport q x s.word s.counts s.regions l) (sym (stay_all cs m h.finished)) h
  later cs m (reported (Err Running) l) h = tt
  later cs m (reported (Err ReportNoRoom) l) h = tt

  good_call : (c : Call) (m : Search (shape q)) → Upheld q m → GoodAnswer q (call_rule q full c m).search (call_rule q full c m).answer
  good_call (step v n) m k = good_step v n m (step_rule q full v n m).search
  good_call (own n) m k = good_own n m (after_own q (own_rule q full n m) m)
  good_call (report n out) m k = good_rep n out m k

  good_all : (cs : List Call) (m : Search (shape q)) → Upheld q m → All (GoodAnswer q (rule_all q full cs m).search) (rule_all q full cs m).answers
  good_all [] m k = tt
  good_all (c ∷ cs) m k = (
    later cs (call_rule q full c m).search (call_rule q full c m).answer (good_call c m k),
    good_all cs (call_rule q full c m).search (ok_call q full c m k),
  )

-- ---- the whole
pub ok_start : (q : Asked) → Fine q → Upheld q (start q)
unfolding halving
ok_start q O = record {
  covered = λ s t a b. cover_fresh (shape q) s t (pieces1 q) (pieces2 q) (allowance_for q) (O.covers1 s a) (O.covers2 t b);
  sound = sound_fresh (shape q) (halving q) (pieces1 q) (pieces2 q) (allowance_for q)
      (all_pieces SoundPiece q.width1 q.lo1 q.cuts1 (λ lo hi l x y e. (x, y)) O.fine1)
      (all_pieces SoundPiece q.width2 q.lo2 q.cuts2 (λ lo hi l x y e. (x, y)) O.fine2);
  sound_given = tt;
  cleared = tt;
  honest = λ t e. absurd (forgotten t e);
}

each_shallow : (q : Asked) (l : List (Node (shape q))) → All (Shallow (shape q)) l → All (DepthsFit q) l
each_shallow q [] h = tt
each_shallow q (n ∷ l) h = ((h.0.first, h.0.second), each_shallow q l h.1)

settled_shallow : (q : Asked) (l : List (Settling (shape q))) → All (λ (e : Settling (shape q)). Shallow (shape q) e.node) l → All (λ (e : Settling (shape q)). DepthsFit q e.node) l
settled_shallow q [] h = tt
settled_shallow q (e ∷ l) h = ((h.0.first, h.0.second), settled_shallow q l h.1)

pub fresh_claim : (q : Asked) (u : Memory) → Fine q → T (enough (needed (state_of q (start q))) (sizes u)) → (cs : List Call) →
    ((run_all q.geometry cs (state_of q (start q)) (open_memory q u)).answers ≡ (rule_all q (sizes u) cs (start q)).answers)
    × After q (rule_all q (sizes u) cs (start q)).search (run_all q.geometry cs (state_of q (start q)) (open_memory q u))
fresh_claim q u O room cs =
    let full = sizes u in
    let z = chain q O.lower_length O.upper_length full cs (start q) (state_of q (start q)) (open_memory q u) refl (open_inv q u O room) in
    let k = ok_all q full cs (start q) (ok_start q O) in
    let m = (rule_all q full cs (start q)).search in
    let n = z.inv.numbers in (
      z.answers,
      record {
        covered = k.covered;
        balance = subst (λ (x : State). x.tally.pairs + x.tally.splits ≡ x.tally.settled + x.tally.given + x.tally.waiting) (sym z.state) n.counts.balance;
        at_most = subst (λ (x : State). x.tally.waiting ≤ x.tally.pairs + 64) (sym z.state) (at_most_lem (shape q) (pairs_of q) m.stack n.counts.steep);
        waiting_depths = each_shallow q m.stack (deep_shallow (shape q) (pairs_of q) m.stack n.counts.steep);
        given_depths = each_shallow q m.given n.counts.given;
        settled_depths = settled_shallow q m.settled n.counts.settled;
        tags = subst (λ (x : State). x.tally.settled ≡ x.tally.boxes + x.tally.planes + x.tally.lines) (sym z.state) (sym (tags_sum_lem (shape q) m.settled));
        allowance = subst (λ (x : State). x.tally.splits + x.tally.unspent ≡ allowance_of x.tally) (sym z.state) n.allowance;
        visited = subst (λ (x : State). x.tally.visits ≡ x.tally.splits + x.tally.settled + x.tally.given + cond x.tally.stopped 1 0) (sym z.state) n.visited;
        state = z.state;
        nodes = z.inv.held.nodes;
        given_up = z.inv.held.raw;
        reports = subst (All (GoodAnswer q m)) (sym z.answers) (good_all q full cs (start q) (ok_start q O));
        cleared = k.cleared;
      },
    )
