-- What a chart meets first of all tests, in the table's words; and of a chart that meets nothing each pair is without fault. Assumes nothing.
use mathlib.Core.Path.{◌≡◌, refl, sym, ap, ◌∙◌, subst}
use mathlib.Core.Logic.{◌⊎◌, inl, inr}
use mathlib.Core.List.{List, [], ◌∷◌, ◌++◌, map}
use mathlib.Core.Bool.{Bool, true, false, not, ◌&&◌, cond, false≢true}
use Prim.Native.Nat.{ℕ, suc, ◌+◌, ◌<◌, ◌≤◌}
use native.Mathlib.Omega.{arith}
use borrow.Author.Tests.{eqb-true, ltb-true, ltb-false, leb-true, leb-false}
use lib.Dec.{ltb, leb, eqb, lit<, lit≤}
use lib.ListN.{length}
use Rattle.lists.specs.Members.{All}
use Rattle.lists.specs.Tests.{each_two}
use Rattle.lists.proofs.Members.{all_append, all_map}
use Rattle.floats.specs.Floats.{zero64, within}
use Rattle.std.specs.Prelude.{Result, Ok, Err}
use Rattle.std.proofs.lemmas.Bool.{not-true}
use Rattle.coverage.proofs.Opening.{all_same}
use Rattle.lines.specs.declared.LineError.{LineError}
use Rattle.lines.specs.Admit.{line_error_number, admit_of, two24}
use Rattle.knots.specs.Knots.{bounds_of, breaks_of}
use Rattle.questions.specs.Questions.{range_fits, parted}
use Rattle.lines.specs.Lines.{Question}
use Rattle.facts.specs.Faults.{Fault15, Fault18}
use Rattle.facts.proofs.Facts.{line_table}
use Rattle.facts.proofs.Reflect.{Tests, of_lt}
use Rattle.facts.proofs.Questions.{test15, test16, test18}
use Rattle.states.specs.declared.State.{State}
use Rattle.states.specs.States.{sizes, needed, enough}
use Rattle.opening.specs.declared.OpenError.{OpenError}
use Rattle.opening.specs.declared.OpenError.TheVariants.{NoRoom}
use Rattle.opening.specs.Opens.{opened_number, pieces_fit}
use Rattle.walks.specs.Sheets.{ChartLine, Chart}
use Rattle.sheet.specs.Answers.{zeros, lent, opened_on}
use Rattle.charts.specs.Charts.{Tested, tested, pair_for, first_met, Row, of_count, of_line, of_datum, of_range, of_gap, of_splits, of_breaks, of_room, each_line, order, test_of, tests}
use Rattle.whole.specs.Refusals.{OneOf, Numbered, GoodLine, GoodData, GoodQuestion, Short, Faultless, Meets, Unmet, FirstOf}
use Rattle.whole.proofs.Tests.{x, data_test, line_numbers, line_number_lem, line_above, not_zero, over_zero, refused_number, numbered_fault, refused_fault, admitted_good, good_admitted, fault_off, off_fault, one_good, good_one, good_fine, tested_as}

all_parts : {A : Type 0} (P : A → Type 0) (l r : List A) → All P (l ++ r) → All P l × All P r
all_parts P [] r h = (tt, h)
all_parts P (y ∷ l) r h = let z = all_parts P l r h.1 in ((h.0, z.0), z.1)

-- of each line
each_all : (P : Row → Type 0) (f : ℕ → ChartLine → List Row) (Q : ChartLine → Type 0) → ((k : ℕ) (l : ChartLine) → All P (f k l) → Q l) → (ls : List ChartLine) (k : ℕ)
    → All P (each_line f k ls) → All Q ls
each_all P f Q g [] k h = tt
each_all P f Q g (l ∷ ls) k h = let z = all_parts P (f k l) (each_line f (suc k) ls) h in (g k l z.0, each_all P f Q g ls (suc k) z.1)

all_both : {A : Type 0} (P Q : A → Type 0) (l : List A) → All P l → All Q l → All (λ (y : A). P y × Q y) l
all_both P Q [] p q = tt
all_both P Q (y ∷ l) p q = ((p.0, q.0), all_both P Q l p.1 q.1)

module _ (c : Chart) where
  -- ---- a row's test tells whether it is met
  record Agrees (r : Row) : Type 0 where
    found : (n place : ℕ) → Meets c r n place → (0 < n) × (test_of c r ≡ tested n place)
    meets : 0 < (test_of c r).number → Meets c r (test_of c r).number (test_of c r).place

  -- the rows agree with their tests as long as none is met
  abbrev InTurn : List Row → Type 0
  InTurn [] = Unit {0}
  InTurn (r ∷ rs) = Agrees r × (Unmet c r → InTurn rs)

  record Sound (rs : List Row) : Type 0 where
    turn : InTurn rs

  in_append : {xs ys : List Row} → Sound xs → (All (Unmet c) xs → Sound ys) → Sound (xs ++ ys)
  in_append {xs} {ys} h g = record { turn = go xs h.turn (λ u. (g u).turn) }
    where
      go : (zs : List Row) → InTurn zs → (All (Unmet c) zs → InTurn ys) → InTurn (zs ++ ys)
      go [] t f = f tt
      go (r ∷ zs) t f = (t.0, λ u. go zs (t.1 u) (λ us. f (u, us)))

  in_each : (f : ℕ → ChartLine → List Row) (Q : ChartLine → Type 0) → ((k : ℕ) (l : ChartLine) → Q l → InTurn (f k l)) → (ls : List ChartLine) (k : ℕ) → All Q ls
      → Sound (each_line f k ls)
  in_each f Q g [] k h = record { turn = tt }
  in_each f Q g (l ∷ ls) k h = in_append {xs = f k l} (record { turn = g k l h.0 }) (λ u. in_each f Q g ls (suc k) h.1)

  unmet_none : (r : Row) → Agrees r → eqb (test_of c r).number 0 ≡ true → Unmet c r
  unmet_none r a e n place m =
      let z = a.found n place m in
      let w = ap (λ (t : Tested). t.number) z.1 in
      let v = eqb-true (test_of c r).number 0 e in
      absurd (omega (arith, z.0))

  -- the first test that is met is the first row
  met_first : (rs : List Row) → InTurn rs → (n place : ℕ) → FirstOf c rs n place → (0 < n) × (first_met (map (test_of c) rs) ≡ tested n place)
  met_first [] t n place m = absurd m
  met_first (r ∷ rs) t n place (inl m) =
      let z = t.0.found n place m in
      (z.0, ap (λ (b : Bool). cond b (first_met (map (test_of c) rs)) (test_of c r)) (ap (λ (y : Tested). eqb y.number 0) z.1 ∙ not_zero n z.0) ∙ z.1)
  met_first (r ∷ rs) t n place (inr m) = go (met_first rs (t.1 m.0) n place m.1) (eqb (test_of c r).number 0) refl
    where
      go : (0 < n) × (first_met (map (test_of c) rs) ≡ tested n place) → (b : Bool) → eqb (test_of c r).number 0 ≡ b
          → (0 < n) × (cond (eqb (test_of c r).number 0) (first_met (map (test_of c) rs)) (test_of c r) ≡ tested n place)
      go h true e = (h.0, ap (λ (b : Bool). cond b (first_met (map (test_of c) rs)) (test_of c r)) e ∙ h.1)
      go h false e = absurd (m.0 (test_of c r).number (test_of c r).place (t.0.meets (over_zero (test_of c r).number e)))

  -- a row is met first, or none is
  first_met_lem : (rs : List Row) → InTurn rs → ((n : ℕ) × ((place : ℕ) × FirstOf c rs n place)) ⊎ ((All (Unmet c) rs) × (first_met (map (test_of c) rs) ≡ tested 0 0))
  first_met_lem [] t = inr (tt, refl)
  first_met_lem (r ∷ rs) t = go (eqb (test_of c r).number 0) refl (λ u. first_met_lem rs (t.1 u))
    where
      rest : Unmet c r → eqb (test_of c r).number 0 ≡ true → ((n : ℕ) × ((place : ℕ) × FirstOf c rs n place)) ⊎ ((All (Unmet c) rs) × (first_met (map (test_of c) rs) ≡ tested 0 0))
          → ((n : ℕ) × ((place : ℕ) × FirstOf c (r ∷ rs) n place)) ⊎ ((All (Unmet c) (r ∷ rs)) × (first_met (map (test_of c) (r ∷ rs)) ≡ tested 0 0))
      rest u e (inl m) = inl (m.0, (m.1.0, inr (u, m.1.1)))
      rest u e (inr m) = inr ((u, m.0), ap (λ (b : Bool). cond b (first_met (map (test_of c) rs)) (test_of c r)) e ∙ m.1)

      go : (b : Bool) → eqb (test_of c r).number 0 ≡ b
          → (Unmet c r → ((n : ℕ) × ((place : ℕ) × FirstOf c rs n place)) ⊎ ((All (Unmet c) rs) × (first_met (map (test_of c) rs) ≡ tested 0 0)))
          → ((n : ℕ) × ((place : ℕ) × FirstOf c (r ∷ rs) n place)) ⊎ ((All (Unmet c) (r ∷ rs)) × (first_met (map (test_of c) (r ∷ rs)) ≡ tested 0 0))
      go true e h = let u = unmet_none r t.0 e in rest u e (h u)
      go false e h = inl ((test_of c r).number, ((test_of c r).place, inl (t.0.meets (over_zero (test_of c r).number e))))

  -- ---- each row
  -- a test that gives one number, from its words
  by_test : {P : Type 0} (b : Bool) (n k : ℕ) → 0 < n → Tests P (not b)
      → ((m place : ℕ) → (m ≡ n) × (place ≡ k) × P → (0 < m) × (tested (cond b 0 n) k ≡ tested m place)) × (0 < cond b 0 n → (cond b 0 n ≡ n) × (k ≡ k) × P)
  by_test true n k h t = (λ m place f. absurd (false≢true (t.holds f.2)), λ z. absurd (omega (arith, z)))
  by_test false n k h t =
      (λ m place f. (subst (λ (y : ℕ). 0 < y) (sym f.0) h, (λ i. tested (sym f.0 i) (sym f.1 i))), λ z. (refl, refl, t.yes refl))

  count_agrees : Agrees of_count
  count_agrees = let z = by_test (leb 1 (length c.lines) && leb (length c.lines) 64) 24 0 (lit< tt) (outside (length c.lines)) in record { found = z.0; meets = z.1 }
    where
      outside : (n : ℕ) → Tests ((n < 1) ⊎ (64 < n)) (not (leb 1 n && leb n 64))
      outside n = record { yes = yes (leb 1 n) (leb n 64) refl refl; holds = holds (leb 1 n) (leb n 64) refl refl }
        where
          yes : (a b : Bool) → leb 1 n ≡ a → leb n 64 ≡ b → not (a && b) ≡ true → (n < 1) ⊎ (64 < n)
          yes true true e f h = absurd (false≢true h)
          yes true false e f h = inr (leb-false n 64 f)
          yes false b e f h = inl (leb-false 1 n e)

          holds : (a b : Bool) → leb 1 n ≡ a → leb n 64 ≡ b → (n < 1) ⊎ (64 < n) → not (a && b) ≡ true
          holds true true e f (inl h) = let z = leb-true 1 n e in absurd (omega arith)
          holds true true e f (inr h) = let z = leb-true n 64 f in absurd (omega arith)
          holds true false e f h = refl
          holds false b e f h = refl

  line_agrees : (k : ℕ) (l : ChartLine) → Agrees (of_line k l)
  line_agrees k l =
      record {
        found = λ n place m. (line_above n l.line m.1.0, (λ i. tested (refused_number l.line n m.1 i) (sym m.0 i)));
        meets = λ h. (refl, numbered_fault l.line h);
      }

  line_good : (k : ℕ) (l : ChartLine) → Unmet c (of_line k l) → GoodLine l.line
  line_good k l u = go (admit_of l.line) refl
    where
      go : (r : Result Unit LineError) → admit_of l.line ≡ r → GoodLine l.line
      go (Ok x) e = admitted_good l.line e
      go (Err f) e = absurd (u (line_error_number f) k (refl, refused_fault l.line f e))

  datum_agrees : (k : ℕ) (l : ChartLine) → Agrees (of_datum k l)
  datum_agrees k l =
      let z = by_test (data_test (pair_for c l)) 23 k (lit< tt) (record { yes = λ e. off_fault (pair_for c l) (not-true _ e); holds = λ f. ap not (fault_off (pair_for c l) f) }) in
      record { found = z.0; meets = z.1 }

  datum_good : (k : ℕ) (l : ChartLine) → Unmet c (of_datum k l) → GoodData (pair_for c l)
  datum_good k l u = go (data_test (pair_for c l)) refl
    where
      go : (b : Bool) → data_test (pair_for c l) ≡ b → GoodData (pair_for c l)
      go true e = one_good (pair_for c l) e
      go false e = absurd (u 23 k (refl, refl, off_fault (pair_for c l) e))

  range_agrees : (k : ℕ) (l : ChartLine) → GoodLine l.line → Agrees (of_range k l)
  range_agrees k l g =
      let z = by_test (range_fits l.line.closed (bounds_of l.line) l.lo l.hi) 15 k (lit< tt) (test15 l.line l.lo l.hi ((line_table l.line).1.1 g)) in
      record { found = z.0; meets = z.1 }

  gap_agrees : Agrees of_gap
  gap_agrees = let z = by_test (within zero64 two24 c.gap) 16 0 (lit< tt) (test16 c.gap) in record { found = z.0; meets = z.1 }

  splits_agrees : Agrees of_splits
  splits_agrees = go (ltb 256 c.splits) refl
    where
      go : (b : Bool) → ltb 256 c.splits ≡ b → Agrees of_splits
      go true e =
          record {
            found = λ n place m. (subst (λ (y : ℕ). 0 < y) (sym m.0) (lit< tt), ap (λ (b : Bool). tested (cond b 17 0) 0) e ∙ (λ i. tested (sym m.0 i) (sym m.1 i)));
            meets = λ h. (ap (λ (b : Bool). cond b 17 0) e, refl, ltb-true 256 c.splits e);
          }
      go false e =
          record {
            found = λ n place m. absurd (false≢true (sym e ∙ (of_lt 256 c.splits).holds m.2));
            meets = λ h. absurd (none (subst (λ (b : Bool). 0 < cond b 17 0) e h));
          }
        where
          none : 0 < 0 → ⊥
          none z = omega (arith, z)

  breaks_agrees : (k : ℕ) (l : ChartLine) → Agrees (of_breaks k l)
  breaks_agrees k l = let z = by_test (each_two parted (breaks_of l.line l.lo l.hi)) 18 k (lit< tt) (test18 l.line l.lo l.hi) in record { found = z.0; meets = z.1 }

  -- a line that passes every other test with the track
  abbrev Ready : ChartLine → Type 0
  Ready l = GoodLine c.track.line × GoodLine l.line × GoodData (pair_for c l) × GoodQuestion (pair_for c l)

  module _ (l : ChartLine) (r : Ready l) where
    abbrev q : Question
    q = pair_for c l

    opens : {a b : Bool} → pieces_fit q (zeros 8112) (zeros 8112) ≡ a → enough (needed (x q)) (sizes lent) ≡ b → opened_on q ≡ cond a (cond b (Ok (x q)) (Err NoRoom)) (Err NoRoom)
    unfolding opened_on
    opens ea eb = tested_as q (good_admitted q.line1 r.0) (good_admitted q.line2 r.1) (good_one q r.2) (good_fine q r.0 r.1 r.3) ea eb

    number : {o : Result State OpenError} → opened_on q ≡ o → not (eqb (opened_number (opened_on q)) 0) ≡ not (eqb (opened_number o) 0)
    number e = ap (λ (o : Result State OpenError). not (eqb (opened_number o) 0)) e

    short : (a : Bool) → pieces_fit q (zeros 8112) (zeros 8112) ≡ a → (b : Bool) → enough (needed (x q)) (sizes lent) ≡ b → Tests (Short q) (not (eqb (opened_number (opened_on q)) 0))
    short true ea true eb =
        record {
          yes = λ e. absurd (false≢true (sym (number (opens ea eb)) ∙ e));
          holds = λ s. elim s [ inl z ↦ absurd (false≢true (sym z ∙ ea)) | inr z ↦ absurd (false≢true (sym z ∙ eb)) ];
        }
    short true ea false eb = record { yes = λ e. inr eb; holds = λ s. number (opens ea eb) }
    short false ea b eb = record { yes = λ e. inl ea; holds = λ s. number (opens ea eb) }

    room_agrees : Agrees (of_room l)
    room_agrees =
        let z = by_test (eqb (opened_number (opened_on q)) 0) 19 0 (lit< tt) (short (pieces_fit q (zeros 8112) (zeros 8112)) refl (enough (needed (x q)) (sizes lent)) refl) in
        record { found = z.0; meets = z.1 }

  -- ---- all rows in their order
  abbrev asked : ℕ → ChartLine → List Row
  asked k l = of_line k l ∷ of_datum k l ∷ []

  -- the rows from 19, 18 of the lines, 16, 15 of the lines, 15 of the track on
  abbrev rooms : List Row
  rooms = each_line (λ k l. of_room l ∷ []) 2 c.lines

  abbrev from_breaks : List Row
  from_breaks = each_line (λ k l. of_breaks k l ∷ []) 2 c.lines ++ rooms

  abbrev from_gap : List Row
  from_gap = (of_gap ∷ of_splits ∷ of_breaks 1 c.track ∷ []) ++ from_breaks

  abbrev from_ranges : List Row
  from_ranges = each_line (λ k l. of_range k l ∷ []) 2 c.lines ++ from_gap

  abbrev from_track : List Row
  from_track = (of_range 1 c.track ∷ []) ++ from_ranges

  question_good : (l : ChartLine) → Unmet c (of_range 1 c.track) → (Fault15 l.line l.lo l.hi → ⊥) → Unmet c of_gap → Unmet c of_splits → Unmet c (of_breaks 1 c.track) → (Fault18 l.line l.lo l.hi → ⊥) → GoodQuestion (pair_for c l)
  question_good l r1 r2 g s b1 b2 n (inl m) = r1 15 1 (refl, refl, m.1)
  question_good l r1 r2 g s b1 b2 n (inr (inl m)) = r2 m.1
  question_good l r1 r2 g s b1 b2 n (inr (inr (inl m))) = g 16 0 (refl, refl, m.1)
  question_good l r1 r2 g s b1 b2 n (inr (inr (inr (inl m)))) = s 17 0 (refl, refl, m.1)
  question_good l r1 r2 g s b1 b2 n (inr (inr (inr (inr (inl m))))) = b1 18 1 (refl, refl, m.1)
  question_good l r1 r2 g s b1 b2 n (inr (inr (inr (inr (inr m))))) = b2 m.1

  -- where no row before 19 is met, each line is ready
  ready : All (Unmet c) (of_count ∷ of_line 1 c.track ∷ []) → All (Unmet c) (each_line asked 2 c.lines) → All (Unmet c) (of_range 1 c.track ∷ [])
      → All (Unmet c) (each_line (λ k l. of_range k l ∷ []) 2 c.lines) → All (Unmet c) (of_gap ∷ of_splits ∷ of_breaks 1 c.track ∷ [])
      → All (Unmet c) (each_line (λ k l. of_breaks k l ∷ []) 2 c.lines) → All Ready c.lines
  ready a b d e f g =
      let lines = each_all (Unmet c) asked (λ l. GoodLine l.line × GoodData (pair_for c l)) (λ k l h. (line_good k l h.0, datum_good k l h.1.0)) c.lines 2 b in
      let ranges = each_all (Unmet c) (λ k l. of_range k l ∷ []) (λ l. Fault15 l.line l.lo l.hi → ⊥) (λ k l h z. h.0 15 k (refl, refl, z)) c.lines 2 e in
      let breaks = each_all (Unmet c) (λ k l. of_breaks k l ∷ []) (λ l. Fault18 l.line l.lo l.hi → ⊥) (λ k l h z. h.0 18 k (refl, refl, z)) c.lines 2 g in
      all_map (λ l. (GoodLine l.line × GoodData (pair_for c l)) × ((Fault15 l.line l.lo l.hi → ⊥) × (Fault18 l.line l.lo l.hi → ⊥))) Ready
      (λ l z. (line_good 1 c.track a.1.0, z.0.0, z.0.1, question_good l d.0 z.1.0 f.0 f.1.0 f.1.1.0 z.1.1)) c.lines
      (all_both (λ l. GoodLine l.line × GoodData (pair_for c l)) (λ l. (Fault15 l.line l.lo l.hi → ⊥) × (Fault18 l.line l.lo l.hi → ⊥)) c.lines lines
      (all_both (λ l. Fault15 l.line l.lo l.hi → ⊥) (λ l. Fault18 l.line l.lo l.hi → ⊥) c.lines ranges breaks))

  in_order : Sound (order c)
  in_order =
      in_append {xs = of_count ∷ of_line 1 c.track ∷ []} (record { turn = (count_agrees, λ u. (line_agrees 1 c.track, λ v. tt)) }) (λ a.
      in_append (in_each asked (λ l. Unit {0}) (λ k l q. (line_agrees k l, λ u. (datum_agrees k l, λ v. tt))) c.lines 2 (all_same (λ (l : ChartLine). Unit {0}) (λ l. tt) c.lines)) (λ b.
      in_append {xs = of_range 1 c.track ∷ []} (record { turn = (range_agrees 1 c.track (line_good 1 c.track a.1.0), λ u. tt) }) (λ d.
      in_append (in_each (λ k l. of_range k l ∷ []) (λ l. GoodLine l.line) (λ k l g. (range_agrees k l g, λ u. tt)) c.lines 2
      (each_all (Unmet c) asked (λ l. GoodLine l.line) (λ k l h. line_good k l h.0) c.lines 2 b)) (λ e.
      in_append {xs = of_gap ∷ of_splits ∷ of_breaks 1 c.track ∷ []} (record { turn = (gap_agrees, λ u. (splits_agrees, λ v. (breaks_agrees 1 c.track, λ w. tt))) }) (λ f.
      in_append (in_each (λ k l. of_breaks k l ∷ []) (λ l. Unit {0}) (λ k l q. (breaks_agrees k l, λ u. tt)) c.lines 2 (all_same (λ (l : ChartLine). Unit {0}) (λ l. tt) c.lines)) (λ g.
      in_each (λ k l. of_room l ∷ []) Ready (λ k l r. (room_agrees l r, λ u. tt)) c.lines 2 (ready a b d e f g)))))))

  -- ---- what a chart meets
  pub chart_first : (n place : ℕ) → FirstOf c (order c) n place → (0 < n) × (first_met (tests c) ≡ tested n place)
  unfolding tests
  chart_first n place m = met_first (order c) in_order.turn n place m

  -- where it meets nothing, no pair has a fault
  faultless : All (Unmet c) (order c) → All (λ (l : ChartLine). Faultless (pair_for c l)) c.lines
  faultless u =
      let a = all_parts (Unmet c) (of_count ∷ of_line 1 c.track ∷ []) (each_line asked 2 c.lines ++ from_track) u in
      let b = all_parts (Unmet c) (each_line asked 2 c.lines) from_track a.1 in
      let d = all_parts (Unmet c) (of_range 1 c.track ∷ []) from_ranges b.1 in
      let e = all_parts (Unmet c) (each_line (λ k l. of_range k l ∷ []) 2 c.lines) from_gap d.1 in
      let f = all_parts (Unmet c) (of_gap ∷ of_splits ∷ of_breaks 1 c.track ∷ []) from_breaks e.1 in
      let g = all_parts (Unmet c) (each_line (λ k l. of_breaks k l ∷ []) 2 c.lines) rooms f.1 in
      let fit = each_all (Unmet c) (λ k l. of_room l ∷ []) (λ l. Short (pair_for c l) → ⊥) (λ k l h z. h.0 19 0 (refl, refl, z)) c.lines 2 g.1 in
      all_map (λ l. Ready l × (Short (pair_for c l) → ⊥)) (λ l. Faultless (pair_for c l))
      (λ l z. record { first = z.0.0; second = z.0.1; datum = z.0.2; question = z.0.3; room = z.1 }) c.lines
      (all_both Ready (λ l. Short (pair_for c l) → ⊥) c.lines (ready a.0 b.0 d.0 e.0 f.0 g.0) fit)

  -- a row is met first; or none is, there are 1 to 64 lines, and no pair has a fault
  pub record Passed : Type 0 where
    pub some : 1 ≤ length c.lines
    pub few : length c.lines ≤ 64
    pub lines : All (λ (l : ChartLine). Faultless (pair_for c l)) c.lines
    pub none : first_met (tests c) ≡ tested 0 0

  counted : Unmet c of_count → (1 ≤ length c.lines) × (length c.lines ≤ 64)
  counted u = (by (ltb (length c.lines) 1) refl, most (ltb 64 (length c.lines)) refl)
    where
      by : (b : Bool) → ltb (length c.lines) 1 ≡ b → 1 ≤ length c.lines
      by true e = absurd (u 24 0 (refl, refl, inl (ltb-true (length c.lines) 1 e)))
      by false e = ltb-false (length c.lines) 1 e

      most : (b : Bool) → ltb 64 (length c.lines) ≡ b → length c.lines ≤ 64
      most true e = absurd (u 24 0 (refl, refl, inr (ltb-true 64 (length c.lines) e)))
      most false e = ltb-false 64 (length c.lines) e

  pub chart-met : ((n : ℕ) × ((place : ℕ) × FirstOf c (order c) n place)) ⊎ Passed
  unfolding tests
  chart-met = go (first_met_lem (order c) in_order.turn)
    where
      go : ((n : ℕ) × ((place : ℕ) × FirstOf c (order c) n place)) ⊎ ((All (Unmet c) (order c)) × (first_met (map (test_of c) (order c)) ≡ tested 0 0))
          → ((n : ℕ) × ((place : ℕ) × FirstOf c (order c) n place)) ⊎ Passed
      go (inl m) = inl m
      go (inr m) = inr (record { some = (counted m.0.0).0; few = (counted m.0.0).1; lines = faultless m.0; none = m.1 })

  -- ---- the number and place of a row that is met
  abbrev Numbers : Row → Type 0
  Numbers r = (n place : ℕ) → Meets c r n place → Numbered n place

  first_numbered : (rs : List Row) → All Numbers rs → (n place : ℕ) → FirstOf c rs n place → Numbered n place
  first_numbered [] h n place m = absurd m
  first_numbered (r ∷ rs) h n place (inl m) = h.0 n place m
  first_numbered (r ∷ rs) h n place (inr m) = first_numbered rs h.1 n place m.1

  each_numbers : (f : ℕ → ChartLine → List Row) → ((k : ℕ) (l : ChartLine) → 2 ≤ k → k ≤ 65 → All Numbers (f k l)) → (ls : List ChartLine) (k : ℕ) → 2 ≤ k → length ls + k ≤ 66
      → All Numbers (each_line f k ls)
  each_numbers f g [] k h j = tt
  each_numbers f g (l ∷ ls) k h j =
      all_append Numbers (f k l) (each_line f (suc k) ls) (g k l h (omega (arith, j))) (each_numbers f g ls (suc k) (omega (arith, h)) (omega (arith, j)))

  -- a line's number with a place from 1 to 65
  placed : (n place k : ℕ) → place ≡ k → 1 ≤ k → k ≤ 65 → OneOf line_numbers n → Numbered n place
  placed n place k e a b m = inr (inl (subst (λ (y : ℕ). 1 ≤ y) (sym e) a, subst (λ (y : ℕ). y ≤ 65) (sym e) b, m))

  range_number_lem : (n : ℕ) → n ≡ 15 → OneOf line_numbers n
  range_number_lem n e = inr (inr (inr (inr (inr (inr (inr (inr (inr (inr (inr (inr (inl e))))))))))))

  breaks_number_lem : (n : ℕ) → n ≡ 18 → OneOf line_numbers n
  breaks_number_lem n e = inr (inr (inr (inr (inr (inr (inr (inr (inr (inr (inr (inr (inr (inl e)))))))))))))

  line_numbers_lem : (k : ℕ) (l : ChartLine) → 1 ≤ k → k ≤ 65 → Numbers (of_line k l)
  line_numbers_lem k l a b n place m = placed n place k m.0 a b (line_number_lem n l.line m.1.0)

  range_numbers : (k : ℕ) (l : ChartLine) → 1 ≤ k → k ≤ 65 → Numbers (of_range k l)
  range_numbers k l a b n place m = placed n place k m.1 a b (range_number_lem n m.0)

  breaks_numbers : (k : ℕ) (l : ChartLine) → 1 ≤ k → k ≤ 65 → Numbers (of_breaks k l)
  breaks_numbers k l a b n place m = placed n place k m.1 a b (breaks_number_lem n m.0)

  datum_numbers : (k : ℕ) (l : ChartLine) → 2 ≤ k → k ≤ 65 → Numbers (of_datum k l)
  datum_numbers k l a b n place m = inr (inr (subst (λ (y : ℕ). 2 ≤ y) (sym m.1) a, subst (λ (y : ℕ). y ≤ 65) (sym m.1) b, m.0))

  room_numbers : (l : ChartLine) → Numbers (of_room l)
  room_numbers l n place m = inl (m.1, inr (inr (inr (inr (inr (inl m.0))))))

  rest_numbered : length c.lines ≤ 64 → All Numbers (order c)
  rest_numbered h =
      let one : (k : ℕ) → 2 ≤ k → 1 ≤ k = λ k j. omega (arith, j) in
      let fits : length c.lines + 2 ≤ 66 = omega (arith, h) in (
        (λ n place m. inl (m.1, inr (inr (inr (inr (inr (inr (inl m.0)))))))),
        (
          line_numbers_lem 1 c.track (lit≤ tt) (lit≤ tt),
          all_append Numbers (each_line asked 2 c.lines) from_track (each_numbers asked (λ k l a b. (line_numbers_lem k l (one k a) b, (datum_numbers k l a b, tt))) c.lines 2 (lit≤ tt) fits) (
            range_numbers 1 c.track (lit≤ tt) (lit≤ tt),
            all_append Numbers (each_line (λ k l. of_range k l ∷ []) 2 c.lines) from_gap (each_numbers (λ k l. of_range k l ∷ []) (λ k l a b. (range_numbers k l (one k a) b, tt)) c.lines 2 (lit≤ tt) fits) (
              (λ n place m. inl (m.1, inr (inr (inr (inl m.0))))),
              (
                (λ n place m. inl (m.1, inr (inr (inr (inr (inl m.0)))))),
                (
                  breaks_numbers 1 c.track (lit≤ tt) (lit≤ tt),
                  all_append Numbers (each_line (λ k l. of_breaks k l ∷ []) 2 c.lines) rooms (each_numbers (λ k l. of_breaks k l ∷ []) (λ k l a b. (breaks_numbers k l (one k a) b, tt)) c.lines 2 (lit≤ tt) fits)
                      (each_numbers (λ k l. of_room l ∷ []) (λ k l a b. (room_numbers l, tt)) c.lines 2 (lit≤ tt) fits),
                ),
              ),
            ),
          ),
        ),
      )

  pub chart_numbered : (n place : ℕ) → FirstOf c (order c) n place → Numbered n place
  chart_numbered n place (inl m) = inl (m.1, inr (inr (inr (inr (inr (inr (inl m.0)))))))
  chart_numbered n place (inr m) = first_numbered (order c) (rest_numbered (counted m.0).1) n place (inr m)
