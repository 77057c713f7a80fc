-- The openings of a chart's pairs find what the order of all tests meets first. Assumes nothing.
use mathlib.Core.Path.{◌≡◌, refl, sym, ap, ◌∙◌}
use mathlib.Core.Bool.{Bool, true, false, not, ◌&&◌, cond, false≢true}
use mathlib.Core.List.{List, [], ◌∷◌, ◌++◌, map, append-nil}
use Prim.Native.Nat.{ℕ, suc, ◌≤◌}
use native.Mathlib.Omega.{arith}
use borrow.Author.Tests.{ne_eqb}
use lib.Dec.{ltb, leb, eqb, lit≤}
use lib.ListN.{length}
use Rattle.lists.specs.Tests.{each_two}
use Rattle.floats.specs.Floats.{zero64, within}
use Rattle.std.specs.Prelude.{Result, Ok, Err}
use Rattle.verdicts.specs.declared.Side.TheVariants.{First, Second}
use Rattle.lines.specs.declared.LineError.{LineError}
use Rattle.lines.specs.Lines.{Question}
use Rattle.lines.specs.Admit.{line_error_number, admit_of, two24}
use Rattle.lines.specs.Data.{one_datum}
use Rattle.knots.specs.Knots.{bounds_of, breaks_of}
use Rattle.questions.specs.declared.QuestionError.{QuestionError}
use Rattle.questions.specs.declared.QuestionError.TheVariants.{RangeOutOfBounds, GapOutOfRange, TooManySplits, BreaksTooClose}
use Rattle.questions.specs.Questions.{range_fits, parted, ask_within, ask_of}
use Rattle.states.specs.declared.State.{State}
use Rattle.states.specs.States.{sizes, needed, enough, refusal_number}
use Rattle.opening.specs.declared.OpenError.{OpenError}
use Rattle.opening.specs.declared.OpenError.TheVariants.{BadLine, BadDatum, BadQuestion, NoRoom}
use Rattle.opening.specs.Asked.{start, state_of, open_memory}
use Rattle.opening.specs.Opens.{search_for, refused_or, opened_number, opened_line, pieces_fit, pieces_in, Pushing, pushing, Opening, opening}
use Rattle.opening.proofs.Numbers.{not_none, bad_line}
use Rattle.walks.specs.Sheets.{ChartLine, Chart}
use Rattle.sheet.specs.Answers.{zeros, lent, opened_on}
use Rattle.charts.specs.Charts.{Tested, tested, first_met, pair_for, count_number, line_number, datum_number, range_number, gap_number, splits_number, breaks_number, room_number, Row, of_count, of_line, of_datum, of_range, of_gap, of_splits, of_breaks, of_room, each_line as each_row, test_of, tests}
use Rattle.charts.specs.Found.{place_of, opened_at, rank_of, earlier_of, lines_met, chart_met}
use Rattle.charts.proofs.Laws.{rank_none, rank_line}
use Rattle.charts.proofs.Rows.{met, first_append, passed, Found, sooner, row, rows, column, in_line, soonest, rows_soonest}

-- ---- the opening of a pair, by its tests
abbrev pub opens : State → Result Unit LineError → Result Unit LineError → Bool → Result Unit QuestionError → Bool → Bool → Result State OpenError
opens x a b n k d e =
    refused_or a (λ f. Err (BadLine First f))
    (refused_or b (λ f. Err (BadLine Second f))
    (cond n (refused_or k (λ f. Err (BadQuestion f)) (cond d (cond e (Ok x) (Err NoRoom)) (Err NoRoom))) (Err BadDatum)))

module _ (q : Question) where
  abbrev x : State
  x = state_of (search_for q) (start (search_for q))

  abbrev pushes : Bool → Opening
  pushes e =
      let o = cond {A = Pushing} e (pushing (Ok x) (open_memory (search_for q) lent)) (pushing (Err NoRoom) lent) in
      opening o.answer (pieces_in q.line1 q.lo1 q.hi1 (zeros 8112)) (pieces_in q.line2 q.lo2 q.hi2 (zeros 8112)) o.memory

  pub opened_by_lem : opened_on q
      ≡ opens x (admit_of q.line1) (admit_of q.line2) (one_datum q.line1.datum q.line2.datum) (ask_of q) (pieces_fit q (zeros 8112) (zeros 8112)) (enough (needed x) (sizes lent))
  unfolding opened_on
  opened_by_lem =
      go (admit_of q.line1) (admit_of q.line2) (one_datum q.line1.datum q.line2.datum) (ask_of q) (pieces_fit q (zeros 8112) (zeros 8112)) (enough (needed x) (sizes lent))
    where
      go : (a b : Result Unit LineError) (n : Bool) (k : Result Unit QuestionError) (d e : Bool)
          → (refused_or {A = Opening} a (λ f. opening (Err (BadLine First f)) (zeros 8112) (zeros 8112) lent)
          (refused_or b (λ f. opening (Err (BadLine Second f)) (zeros 8112) (zeros 8112) lent)
          (cond n
          (refused_or k (λ f. opening (Err (BadQuestion f)) (zeros 8112) (zeros 8112) lent)
          (cond d (pushes e) (opening (Err NoRoom) (zeros 8112) (zeros 8112) lent)))
          (opening (Err BadDatum) (zeros 8112) (zeros 8112) lent)))).answer
          ≡ opens x a b n k d e
      go (Ok u) (Ok v) true (Ok w) true true = refl
      go (Ok u) (Ok v) true (Ok w) true false = refl
      go (Ok u) (Ok v) true (Ok w) false e = refl
      go (Ok u) (Ok v) true (Err f) d e = refl
      go (Ok u) (Ok v) false k d e = refl
      go (Ok u) (Err f) n k d e = refl
      go (Err f) b n k d e = refl

-- 15 to 18 by their tests
abbrev asks : Bool → Bool → Bool → Bool → Bool → Bool → Result Unit QuestionError
asks r1 r2 g s b1 b2 =
    cond (not r1) (Err (RangeOutOfBounds First))
    (cond (not r2) (Err (RangeOutOfBounds Second))
    (cond (not g) (Err GapOutOfRange)
    (cond s (Err TooManySplits)
    (cond (not b1) (Err (BreaksTooClose First)) (cond (not b2) (Err (BreaksTooClose Second)) (Ok tt))))))

-- ---- the stages of one line's tests, in the order of all
either : ℕ → ℕ → ℕ
either a b = cond (eqb a 0) b a

abbrev admitted_number : Result Unit LineError → ℕ
admitted_number r = refusal_number line_error_number r

-- no fault of a line has the number 0
no_fault : (e : LineError) → eqb (line_error_number e) 0 ≡ false
no_fault e = ne_eqb (line_error_number e) 0 (λ z. not_none (bad_line e) z)

-- the number and place that the opening gives are those of the first stage that is met
module _ (x : State) (k : ℕ) where
  abbrev room_of : Result State OpenError → ℕ
  room_of o = cond (eqb (opened_number o) 0) 0 19

  abbrev staged : Result Unit LineError → Result Unit LineError → Bool → Bool → Bool → Bool → Bool → Bool → Bool → Result State OpenError → List Tested
  staged m1 m2 n r1 r2 g s b1 b2 o =
      tested (admitted_number m1) 1 ∷ tested (either (admitted_number m2) (cond n 0 23)) k ∷ tested (cond r1 0 15) 1 ∷ tested (cond r2 0 15) k ∷ tested (cond g 0 16) 0
      ∷ tested (cond s 17 0) 0 ∷ tested (cond b1 0 18) 1 ∷ tested (cond b2 0 18) k ∷ tested (room_of o) 0 ∷ []

  by_stages : (m1 m2 : Result Unit LineError) (n r1 r2 g s b1 b2 d e : Bool) (o : Result State OpenError) → o ≡ opens x m1 m2 n (asks r1 r2 g s b1 b2) d e
      → tested (opened_number o) (place_of k (opened_line o)) ≡ first_met (staged m1 m2 n r1 r2 g s b1 b2 o)
  unfolding either
  by_stages (Err f) m2 n r1 r2 g s b1 b2 d e o eo = rw (eo, no_fault f) refl
  by_stages (Ok u) (Err f) n r1 r2 g s b1 b2 d e o eo = rw (eo, no_fault f) (rw (no_fault f) refl)
  by_stages (Ok u) (Ok v) false r1 r2 g s b1 b2 d e o eo = rw eo refl
  by_stages (Ok u) (Ok v) true false r2 g s b1 b2 d e o eo = rw eo refl
  by_stages (Ok u) (Ok v) true true false g s b1 b2 d e o eo = rw eo refl
  by_stages (Ok u) (Ok v) true true true false s b1 b2 d e o eo = rw eo refl
  by_stages (Ok u) (Ok v) true true true true true b1 b2 d e o eo = rw eo refl
  by_stages (Ok u) (Ok v) true true true true false false b2 d e o eo = rw eo refl
  by_stages (Ok u) (Ok v) true true true true false true false d e o eo = rw eo refl
  by_stages (Ok u) (Ok v) true true true true false true true false e o eo = rw eo refl
  by_stages (Ok u) (Ok v) true true true true false true true true false o eo = rw eo refl
  by_stages (Ok u) (Ok v) true true true true false true true true true o eo = rw eo refl

module _ (c : Chart) where
  stages : List (ChartLine → ℕ → Tested)
  stages =
      (λ l k. tested (line_number c.track) 1)
      ∷ (λ l k. tested (either (line_number l) (datum_number c l)) k)
      ∷ (λ l k. tested (range_number c.track) 1)
      ∷ (λ l k. tested (range_number l) k)
      ∷ (λ l k. tested (gap_number c) 0)
      ∷ (λ l k. tested (splits_number c) 0)
      ∷ (λ l k. tested (breaks_number c.track) 1)
      ∷ (λ l k. tested (breaks_number l) k)
      ∷ (λ l k. tested (room_number c l) 0)
      ∷ []

  -- what the opening of a pair meets is the first of its stages
  opened_first : (l : ChartLine) (k : ℕ) → opened_at c l k ≡ first_met (column stages l k)
  unfolding stages ask_within
  opened_first l k =
      let q = pair_for c l in
      by_stages (state_of (search_for q) (start (search_for q))) k (admit_of q.line1) (admit_of q.line2)
      (one_datum q.line1.datum q.line2.datum) (range_fits q.line1.closed (bounds_of q.line1) q.lo1 q.hi1)
      (range_fits q.line2.closed (bounds_of q.line2) q.lo2 q.hi2) (within zero64 two24 q.gap) (ltb 256 q.splits)
      (each_two parted (breaks_of q.line1 q.lo1 q.hi1)) (each_two parted (breaks_of q.line2 q.lo2 q.hi2))
      (pieces_fit q (zeros 8112) (zeros 8112)) (enough (needed (state_of (search_for q) (start (search_for q)))) (sizes lent)) (opened_on q) (opened_by_lem q)

-- two lists of tests of which the same is met first
record Alike (xs ys : List Tested) : Type 0 where
  same : first_met xs ≡ first_met ys

both : {xs xs' ys ys' : List Tested} → Alike xs xs' → Alike ys ys' → Alike (xs ++ ys) (xs' ++ ys')
both {xs} {xs'} {ys} {ys'} a b =
    record { same = first_append xs ys ∙ (λ i. cond (met (a.same i)) (b.same i) (a.same i)) ∙ sym (first_append xs' ys') }

-- ---- the rank of what one line meets is the number of stages that it passed
module _ (k : ℕ) (far : eqb k 1 ≡ false) where
  abbrev line_stages : Result Unit LineError → Result Unit LineError → Bool → Bool → Bool → Bool → Bool → Bool → Bool → ℕ → List Tested
  line_stages m1 m2 n r1 r2 g s b1 b2 room =
      tested (admitted_number m1) 1 ∷ tested (either (admitted_number m2) (cond n 0 23)) k ∷ tested (cond r1 0 15) 1 ∷ tested (cond r2 0 15) k ∷ tested (cond g 0 16) 0
      ∷ tested (cond s 17 0) 0 ∷ tested (cond b1 0 18) 1 ∷ tested (cond b2 0 18) k ∷ tested room 0 ∷ []

  stage_rank : (m1 m2 : Result Unit LineError) (n r1 r2 g s b1 b2 o : Bool)
      → let l = line_stages m1 m2 n r1 r2 g s b1 b2 (cond o 0 19) in rank_of (first_met l).number (first_met l).place ≡ passed l
  unfolding either rank_of
  stage_rank (Err f) m2 n r1 r2 g s b1 b2 o = rw (no_fault f) (rank_line f 1)
  stage_rank (Ok u) (Err f) n r1 r2 g s b1 b2 o = rw (no_fault f) (rw (no_fault f) (rank_line f k ∙ rw far refl))
  stage_rank (Ok u) (Ok v) false r1 r2 g s b1 b2 o = rw far refl
  stage_rank (Ok u) (Ok v) true false r2 g s b1 b2 o = refl
  stage_rank (Ok u) (Ok v) true true false g s b1 b2 o = rw far refl
  stage_rank (Ok u) (Ok v) true true true false s b1 b2 o = refl
  stage_rank (Ok u) (Ok v) true true true true true b1 b2 o = refl
  stage_rank (Ok u) (Ok v) true true true true false false b2 o = refl
  stage_rank (Ok u) (Ok v) true true true true false true false o = rw far refl
  stage_rank (Ok u) (Ok v) true true true true false true true false = refl
  stage_rank (Ok u) (Ok v) true true true true false true true true = refl

abbrev rank_in : Tested → ℕ
rank_in t = rank_of t.number t.place

module _ (c : Chart) where
  line_rank : (l : ChartLine) (k : ℕ) → 2 ≤ k → rank_in (first_met (column (stages c) l k)) ≡ passed (column (stages c) l k)
  unfolding stages
  line_rank l k h =
      stage_rank k (ne_eqb k 1 (λ e. absurd (omega arith))) (admit_of c.track.line) (admit_of l.line)
      (one_datum c.track.line.datum l.line.datum) (range_fits c.track.line.closed (bounds_of c.track.line) c.track.lo c.track.hi)
      (range_fits l.line.closed (bounds_of l.line) l.lo l.hi) (within zero64 two24 c.gap) (ltb 256 c.splits)
      (each_two parted (breaks_of c.track.line c.track.lo c.track.hi)) (each_two parted (breaks_of l.line l.lo l.hi))
      (eqb (opened_number (opened_on (pair_for c l))) 0)

  -- what the openings find, with the stages that it passed
  lines_soonest : (ls : List ChartLine) (k : ℕ) → 2 ≤ k → (lines_met c ls k ≡ (soonest (stages c) ls k).test) × (rank_in (soonest (stages c) ls k).test ≡ (soonest (stages c) ls k).after)
  unfolding stages
  lines_soonest [] k h = (refl, rank_none 0)
  lines_soonest (l ∷ ls) k h =
      let i = lines_soonest ls (suc k) (omega arith) in
      let r = line_rank l k h in
      let same : lines_met c (l ∷ ls) k ≡ earlier_of (first_met (column (stages c) l k)) (soonest (stages c) ls (suc k)).test = (λ j. earlier_of (opened_first c l k j) (i.0 j)) in
      (same ∙ (go (in_line (stages c) l k) (soonest (stages c) ls (suc k)) r i.1).0, (go (in_line (stages c) l k) (soonest (stages c) ls (suc k)) r i.1).1)
    where
      go : (a b : Found) → rank_in a.test ≡ a.after → rank_in b.test ≡ b.after
          → (earlier_of a.test b.test ≡ (sooner a b).test) × (rank_in (sooner a b).test ≡ (sooner a b).after)
      go a b e f = (ap (λ (t : Bool). cond t b.test a.test) (λ j. ltb (f j) (e j)) ∙ by (ltb b.after a.after), which (ltb b.after a.after))
        where
          by : (t : Bool) → cond t b.test a.test ≡ (cond t b a).test
          by true = refl
          by false = refl

          which : (t : Bool) → rank_in (cond t b a).test ≡ (cond t b a).after
          which true = f
          which false = e

  -- ---- the order of all tests, and the stages row by row
  -- a test that every line has alike, of one line or more
  same_row : (t : Tested) (l : ChartLine) (ls : List ChartLine) (k : ℕ) → first_met (row (λ l k. t) (l ∷ ls) k) ≡ first_met (t ∷ [])
  same_row t l [] k = refl
  same_row t l (m ∷ ls) k = go (same_row t m ls (suc k)) (met t) refl
    where
      go : first_met (row (λ l k. t) (m ∷ ls) (suc k)) ≡ first_met (t ∷ []) → (b : Bool) → met t ≡ b
          → cond (met t) (first_met (row (λ l k. t) (m ∷ ls) (suc k))) t ≡ cond (met t) (tested 0 0) t
      go h true e = ap (λ (b : Bool). cond b (first_met (row (λ l k. t) (m ∷ ls) (suc k))) t) e ∙ h
      go h false e = ap (λ (b : Bool). cond b (first_met (row (λ l k. t) (m ∷ ls) (suc k))) t) e ∙ sym (ap (λ (b : Bool). cond b (tested 0 0) t) e)

  -- the tests of each line, the first at place k
  abbrev each_line : (ChartLine → ℕ → List Tested) → List ChartLine → ℕ → List Tested
  each_line f [] k = []
  each_line f (l ∷ ls) k = f l k ++ each_line f ls (suc k)

  -- one test a line is a row of it
  each_one : (f : ChartLine → ℕ → Tested) (ls : List ChartLine) (k : ℕ) → each_line (λ l k. f l k ∷ []) ls k ≡ row f ls k
  each_one f [] k = refl
  each_one f (l ∷ ls) k = ap (λ (r : List Tested). f l k ∷ r) (each_one f ls (suc k))

  -- two tests a line, with one place, are a row of the first of them that is met
  each_two_lem : (f g : ChartLine → ℕ) (ls : List ChartLine) (k : ℕ)
      → first_met (each_line (λ l k. tested (f l) k ∷ tested (g l) k ∷ []) ls k) ≡ first_met (row (λ l k. tested (either (f l) (g l)) k) ls k)
  unfolding either
  each_two_lem f g [] k = refl
  each_two_lem f g (l ∷ ls) k = go (each_two_lem f g ls (suc k)) (eqb (f l) 0) refl
    where
      go : first_met (each_line (λ l k. tested (f l) k ∷ tested (g l) k ∷ []) ls (suc k)) ≡ first_met (row (λ l k. tested (either (f l) (g l)) k) ls (suc k))
          → (b : Bool) → eqb (f l) 0 ≡ b
          → cond (eqb (f l) 0) (cond (eqb (g l) 0) (first_met (each_line (λ l k. tested (f l) k ∷ tested (g l) k ∷ []) ls (suc k))) (tested (g l) k)) (tested (f l) k)
          ≡ cond (eqb (cond (eqb (f l) 0) (g l) (f l)) 0) (first_met (row (λ l k. tested (either (f l) (g l)) k) ls (suc k))) (tested (cond (eqb (f l) 0) (g l) (f l)) k)
      go h true e = rw e (ap (λ (t : Tested). cond (eqb (g l) 0) t (tested (g l) k)) h)
      go h false e = rw (e, e) refl

  -- the tests behind 24, of these lines
  abbrev tests_of : List ChartLine → List Tested
  tests_of ms =
      (tested (line_number c.track) 1 ∷ [])
      ++ (each_line (λ l k. tested (line_number l) k ∷ tested (datum_number c l) k ∷ []) ms 2
      ++ ((tested (range_number c.track) 1 ∷ [])
      ++ (each_line (λ l k. tested (range_number l) k ∷ []) ms 2
      ++ ((tested (gap_number c) 0 ∷ [])
      ++ ((tested (splits_number c) 0 ∷ [])
      ++ ((tested (breaks_number c.track) 1 ∷ [])
      ++ (each_line (λ l k. tested (breaks_number l) k ∷ []) ms 2
      ++ each_line (λ l k. tested (room_number c l) 0 ∷ []) ms 2)))))))

  tests_rows : (l : ChartLine) (ls : List ChartLine) → Alike (tests_of (l ∷ ls)) (rows (stages c) (l ∷ ls) 2)
  unfolding stages
  tests_rows l ls =
      let m = l ∷ ls in
      let alike : (t : Tested) → Alike (t ∷ []) (row (λ l k. t) m 2) = λ t. record { same = sym (same_row t l ls 2) } in
      let one : (f : ChartLine → ℕ → Tested) → Alike (each_line (λ l k. f l k ∷ []) m 2) (row f m 2) = λ f. record { same = ap first_met (each_one f m 2) } in
      let two : Alike (each_line (λ l k. tested (line_number l) k ∷ tested (datum_number c l) k ∷ []) m 2) (row (λ l k. tested (either (line_number l) (datum_number c l)) k) m 2) = record { same = each_two_lem line_number (datum_number c) m 2 } in
      let last : Alike (each_line (λ l k. tested (room_number c l) 0 ∷ []) m 2) (row (λ l k. tested (room_number c l) 0) m 2 ++ [])
      = record { same = (one (λ l k. tested (room_number c l) 0)).same ∙ ap first_met (sym (append-nil (row (λ l k. tested (room_number c l) 0) m 2))) } in
      both (alike (tested (line_number c.track) 1))
      (both two
      (both (alike (tested (range_number c.track) 1))
      (both (one (λ l k. tested (range_number l) k))
      (both (alike (tested (gap_number c) 0))
      (both (alike (tested (splits_number c) 0))
      (both (alike (tested (breaks_number c.track) 1))
      (both (one (λ l k. tested (breaks_number l) k)) last)))))))

  -- ---- what is met first of all
  behind_count : (ms : List ChartLine) → (leb 1 (length ms) ≡ true) → first_met (tests_of ms) ≡ lines_met c ms 2
  behind_count [] h = absurd (false≢true h)
  behind_count (l ∷ ls) h = (tests_rows l ls).same ∙ rows_soonest (stages c) (l ∷ ls) 2 ∙ sym (lines_soonest (l ∷ ls) 2 (lit≤ tt)).0

  -- the rows' tests are these
  record Maps (rs : List Row) (ts : List Tested) : Type 0 where
    same : map (test_of c) rs ≡ ts

  joins : {xs ys : List Row} {us vs : List Tested} → Maps xs us → Maps ys vs → Maps (xs ++ ys) (us ++ vs)
  joins {xs} {ys} e f = record { same = append xs ∙ (λ i. e.same i ++ f.same i) }
    where
      append : (zs : List Row) → map (test_of c) (zs ++ ys) ≡ map (test_of c) zs ++ map (test_of c) ys
      append [] = refl
      append (r ∷ zs) = ap (λ (l : List Tested). test_of c r ∷ l) (append zs)

  alone : (rs : List Row) → Maps rs (map (test_of c) rs)
  alone rs = record { same = refl }

  each : (f : ℕ → ChartLine → List Row) (ls : List ChartLine) (k : ℕ) → Maps (each_row f k ls) (each_line (λ l k. map (test_of c) (f k l)) ls k)
  each f [] k = record { same = refl }
  each f (l ∷ ls) k = joins (alone (f k l)) (each f ls (suc k))

  tests_are : tests c ≡ tested (count_number c) 0 ∷ tests_of c.lines
  unfolding tests
  tests_are =
      let ls = c.lines in
      (joins (alone (of_count ∷ of_line 1 c.track ∷ []))
      (joins (each (λ k l. of_line k l ∷ of_datum k l ∷ []) ls 2)
      (joins (alone (of_range 1 c.track ∷ []))
      (joins (each (λ k l. of_range k l ∷ []) ls 2)
      (joins (alone (of_gap ∷ of_splits ∷ of_breaks 1 c.track ∷ []))
      (joins (each (λ k l. of_breaks k l ∷ []) ls 2) (each (λ k l. of_room l ∷ []) ls 2))))))).same

  pub first_found : first_met (tests c) ≡ chart_met c
  first_found = ap first_met tests_are ∙ go (leb 1 (length c.lines)) (leb (length c.lines) 64) refl
    where
      go : (a b : Bool) → leb 1 (length c.lines) ≡ a
          → first_met (tested (cond (a && b) 0 24) 0 ∷ tests_of c.lines) ≡ cond (a && b) (lines_met c c.lines 2) (tested 24 0)
      go true true e = behind_count c.lines e
      go true false e = refl
      go false b e = refl
