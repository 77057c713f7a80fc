-- Numbers 15 to 18: `ask`, on two admitted lines, answers a number and a line when, and only when, that row of the table is the first that the question meets. Assumes nothing.
use mathlib.Core.Path.{◌≡◌, refl, sym, ap, ◌∙◌}
use mathlib.Core.Logic.{◌⊎◌, inl, inr}
use mathlib.Core.Bool.{Bool, true, false, cond, not}
use mathlib.Core.List.{List, [], ◌∷◌}
use Prim.Native.Nat.{ℕ, ◌-◌, ◌^◌, ◌<◌}
use native.Mathlib.Omega.{arith}
use lib.Dec.{T, ltb, lit<}
use lib.ListN.{get_or, length}
use lib.Ieee.{Float, nan, lt, le, binary64, sub}
use Rattle.lists.specs.Tests.{each_two}
use Rattle.floats.specs.Floats.{zero64, within, middle}
use Rattle.points.specs.declared.Interval.{Interval}
use Rattle.std.specs.Prelude.{Result, Ok, Err}
use Rattle.lines.specs.Admit.{two24, admit_of}
use Rattle.knots.specs.Knots.{bounds_in, bounds_of, breaks_of}
use Rattle.verdicts.specs.declared.Side.TheVariants.{First, Second}
use Rattle.questions.specs.declared.QuestionError.{QuestionError}
use Rattle.questions.specs.declared.QuestionError.TheVariants.{RangeOutOfBounds, GapOutOfRange, TooManySplits, BreaksTooClose}
use Rattle.questions.specs.Questions.{turn_fits, range_fits, parted, ask_within, ask_of}
use Rattle.lines.specs.Lines.{Line, Question}
use Rattle.facts.specs.Faults.{ByClosed, Finite, OffTurn, Fault15, Fault16, Fault18, QuestionFault, Earlier, asked_number, asked_line, asked_place, FirstQuestionFault}
use Rattle.facts.proofs.Reflect.{Tests, of_T, of_lt, of_not, of_both, of_two, same}
use Rattle.facts.proofs.Sizes.{of_gap_lem, within_finite}
use Rattle.facts.proofs.Cover.{range_fine}
use Rattle.facts.proofs.Rows.{first_row, Met, InOrder, Apart, first_met_lem, met_first, none_met, met_none, row, of_row}

six : (a b c d e f : Bool)
    → ◌≡◌ {A = ℕ × ℕ} (
      asked_number
          (cond a (Err (RangeOutOfBounds First)) (cond b (Err (RangeOutOfBounds Second)) (cond c (Err GapOutOfRange) (cond d (Err TooManySplits) (cond e (Err (BreaksTooClose First)) (cond f (Err (BreaksTooClose Second)) (Ok tt))))))),
      asked_line
          (cond a (Err (RangeOutOfBounds First)) (cond b (Err (RangeOutOfBounds Second)) (cond c (Err GapOutOfRange) (cond d (Err TooManySplits) (cond e (Err (BreaksTooClose First)) (cond f (Err (BreaksTooClose Second)) (Ok tt))))))),
    )
    (first_row (0, 0) (((15, 1), a) ∷ ((15, 2), b) ∷ ((16, 0), c) ∷ ((17, 0), d) ∷ ((18, 1), e) ∷ ((18, 2), f) ∷ []))
six true b c d e f = refl
six false true c d e f = refl
six false false true d e f = refl
six false false false true e f = refl
six false false false false true f = refl
six false false false false false true = refl
six false false false false false false = refl

rows : Question → List ((ℕ × ℕ) × Bool)
rows q =
    ((15, 1), not (range_fits q.line1.closed (bounds_of q.line1) q.lo1 q.hi1)) ∷ ((15, 2), not (range_fits q.line2.closed (bounds_of q.line2) q.lo2 q.hi2))
    ∷ ((16, 0), not (within zero64 two24 q.gap)) ∷ ((17, 0), ltb 256 q.splits)
    ∷ ((18, 1), not (each_two parted (breaks_of q.line1 q.lo1 q.hi1))) ∷ ((18, 2), not (each_two parted (breaks_of q.line2 q.lo2 q.hi2))) ∷ []

number : (q : Question) → asked_place q ≡ first_row (0, 0) (rows q)
unfolding rows ask_within
number q =
    six (not (range_fits q.line1.closed (bounds_of q.line1) q.lo1 q.hi1)) (not (range_fits q.line2.closed (bounds_of q.line2) q.lo2 q.hi2))
    (not (within zero64 two24 q.gap)) (ltb 256 q.splits)
    (not (each_two parted (breaks_of q.line1 q.lo1 q.hi1))) (not (each_two parted (breaks_of q.line2 q.lo2 q.hi2)))

-- ---- each test decides its row's sentence
decide : (b : Bool) → T b ⊎ (T b → ⊥)
decide true = inl tt
decide false = inr (λ x. x)

-- what a range that fits has after lo < hi and its start: on a closed line a start before the last knot and no more than the period, on an open one its end
abbrev Ends : Bool → Interval → Float → Float → Type 0
Ends true b lo hi = T (lt lo b.hi) × T (le (sub binary64 hi lo) (sub binary64 b.hi b.lo))
Ends false b lo hi = T (le hi b.hi)

ends_test : (closed : Bool) (b : Interval) (lo hi : Float) → Tests (Ends closed b lo hi) (cond closed (turn_fits b lo hi) (le hi b.hi))
unfolding turn_fits
ends_test true b lo hi =
    of_both (lt lo b.hi) (le (sub binary64 hi lo) (sub binary64 b.hi b.lo)) (of_T (lt lo b.hi)) (of_T (le (sub binary64 hi lo) (sub binary64 b.hi b.lo)))
ends_test false b lo hi = of_T (le hi b.hi)

-- what is left of 15 where they fail
abbrev NoEnds : Bool → Interval → Float → Float → Type 0
NoEnds closed b lo hi =
    ByClosed closed ((T (lt lo b.hi) → ⊥) ⊎ (T (le (sub binary64 hi lo) (sub binary64 b.hi b.lo)) → ⊥)) (T (le hi b.hi) → ⊥)

ends_either : (closed : Bool) (b : Interval) (lo hi : Float) → Ends closed b lo hi ⊎ NoEnds closed b lo hi
ends_either true b lo hi =
    elim (decide (lt lo b.hi)) [
      | inl x ↦ elim (decide (le (sub binary64 hi lo) (sub binary64 b.hi b.lo))) [ inl y ↦ inl (x, y) | inr n ↦ inr (inr n) ]
      | inr n ↦ inr (inl n)
    ]
ends_either false b lo hi = decide (le hi b.hi)

ends_not : (closed : Bool) (b : Interval) (lo hi : Float) → Ends closed b lo hi → NoEnds closed b lo hi → ⊥
ends_not true b lo hi e (inl n) = n e.0
ends_not true b lo hi e (inr n) = n e.1
ends_not false b lo hi e n = n e

-- 15 by the line's bounds
abbrev Bounds15 : Line → Float → Float → Type 0
Bounds15 l lo hi =
    (Finite lo → ⊥) ⊎ ((Finite hi → ⊥) ⊎ ((T (lt lo hi) → ⊥) ⊎ ((T (le (bounds_of l).lo lo) → ⊥) ⊎ NoEnds l.closed (bounds_of l) lo hi)))

bounds15 : (l : Line) (lo hi : Float) → admit_of l ≡ Ok tt → Tests (Bounds15 l lo hi) (not (range_fits l.closed (bounds_of l) lo hi))
unfolding range_fits
bounds15 l lo hi ok = same to from (of_not (range_fits l.closed (bounds_of l) lo hi) inside)
  where
    inside : Tests (T (lt lo hi) × (T (le (bounds_of l).lo lo) × Ends l.closed (bounds_of l) lo hi)) (range_fits l.closed (bounds_of l) lo hi)
    inside =
        of_both (lt lo hi) (cond (le (bounds_of l).lo lo) (cond l.closed (turn_fits (bounds_of l) lo hi) (le hi (bounds_of l).hi)) false) (of_T (lt lo hi))
        (of_both (le (bounds_of l).lo lo) (cond l.closed (turn_fits (bounds_of l) lo hi) (le hi (bounds_of l).hi)) (of_T (le (bounds_of l).lo lo))
        (ends_test l.closed (bounds_of l) lo hi))

    to : (T (lt lo hi) × (T (le (bounds_of l).lo lo) × Ends l.closed (bounds_of l) lo hi) → ⊥) → Bounds15 l lo hi
    to h =
        elim (decide (lt lo hi)) [
          | inl x ↦ elim (decide (le (bounds_of l).lo lo)) [
            | inl y ↦ elim (ends_either l.closed (bounds_of l) lo hi) [ inl z ↦ absurd (h (x, (y, z))) | inr n ↦ inr (inr (inr (inr n))) ]
            | inr n ↦ inr (inr (inr (inl n)))
          ]
          | inr n ↦ inr (inr (inl n))
        ]

    from : Bounds15 l lo hi → T (lt lo hi) × (T (le (bounds_of l).lo lo) × Ends l.closed (bounds_of l) lo hi) → ⊥
    from (inl n) t = n (within_finite (2 ^ 20) lo (range_fine l lo hi ok (inside.holds t)).0)
    from (inr (inl n)) t = n (within_finite (2 ^ 22) hi (range_fine l lo hi ok (inside.holds t)).1)
    from (inr (inr (inl n))) t = n t.0
    from (inr (inr (inr (inl n)))) t = n t.1.0
    from (inr (inr (inr (inr n)))) t = ends_not l.closed (bounds_of l) lo hi t.1.1 n

pub test16 : (gap : Float) → Tests (Fault16 gap) (not (within zero64 two24 gap))
test16 gap = of_not (within zero64 two24 gap) (of_gap_lem gap)

pub test18 : (l : Line) (lo hi : Float) → Tests (Fault18 l lo hi) (not (each_two parted (breaks_of l lo hi)))
unfolding parted
test18 l lo hi =
    of_two (λ t0 t1. T (lt t0 (middle t0 t1)) × T (lt (middle t0 t1) t1) → ⊥) parted
    (λ t0 t1. of_not (parted t0 t1)
    (of_both (lt t0 (middle t0 t1)) (lt (middle t0 t1) t1) (of_T (lt t0 (middle t0 t1))) (of_T (lt (middle t0 t1) t1))))
    (breaks_of l lo hi)

-- these are a closed line's first and last knot
abbrev Off : Bool → ℕ → List Float → List ℕ → Float → Float → Type 0
Off closed degree knots mults lo hi =
    ByClosed closed (OffTurn (get_or knots 0 nan) (get_or knots (length knots - 1) nan) lo hi)
    ((T (le (bounds_in closed degree knots mults).lo lo) → ⊥) ⊎ (T (le hi (bounds_in closed degree knots mults).hi) → ⊥))

by_knots : (closed : Bool) (degree : ℕ) (knots : List Float) (mults : List ℕ) (lo hi : Float)
    → (((T (le (bounds_in closed degree knots mults).lo lo) → ⊥) ⊎ NoEnds closed (bounds_in closed degree knots mults) lo hi) → Off closed degree knots mults lo hi)
    × (Off closed degree knots mults lo hi → (T (le (bounds_in closed degree knots mults).lo lo) → ⊥) ⊎ NoEnds closed (bounds_in closed degree knots mults) lo hi)
unfolding bounds_in
by_knots true degree knots mults lo hi = (λ x. x, λ x. x)
by_knots false degree knots mults lo hi = (λ x. x, λ x. x)

pub test15 : (l : Line) (lo hi : Float) → admit_of l ≡ Ok tt → Tests (Fault15 l lo hi) (not (range_fits l.closed (bounds_of l) lo hi))
test15 l lo hi ok = same to from (bounds15 l lo hi ok)
  where
    to : Bounds15 l lo hi → Fault15 l lo hi
    to (inl x) = inl x
    to (inr (inl x)) = inr (inl x)
    to (inr (inr (inl x))) = inr (inr (inl x))
    to (inr (inr (inr x))) = inr (inr (inr ((by_knots l.closed l.degree l.knots l.mults lo hi).0 x)))

    from : Fault15 l lo hi → Bounds15 l lo hi
    from (inl x) = inl x
    from (inr (inl x)) = inr (inl x)
    from (inr (inr (inl x))) = inr (inr (inl x))
    from (inr (inr (inr x))) = inr (inr (inr ((by_knots l.closed l.degree l.knots l.mults lo hi).1 x)))

-- ---- the order of the places
irreflexive : (k : ℕ × ℕ) → Earlier k k → ⊥
irreflexive k (inl h) = omega arith
irreflexive k (inr h) = omega arith

transitive : (a b c : ℕ × ℕ) → Earlier a b → Earlier b c → Earlier a c
transitive a b c (inl h) (inl g) = inl (omega arith)
transitive a b c (inl h) (inr g) = inl (omega arith)
transitive a b c (inr h) (inl g) = inl (omega arith)
transitive a b c (inr h) (inr g) = inr (omega arith, omega arith)

in_order : (q : Question) → InOrder Earlier (rows q)
unfolding rows
in_order q = (inr (refl, lit< tt), (inl (lit< tt), (inl (lit< tt), (inl (lit< tt), (inr (refl, lit< tt), tt)))))

some_number : (n : ℕ) (k : ℕ × ℕ) → 0 < n → k.0 ≡ n → k ≡ (0, 0) → ⊥
some_number n k h e f = let z : k.0 ≡ 0 = ap (λ p. p.0) f in omega arith

apart : (q : Question) → Apart (0, 0) (rows q)
unfolding rows
apart q = (
  some_number 15 _ (lit< tt) refl,
  (
    some_number 15 _ (lit< tt) refl,
    (some_number 16 _ (lit< tt) refl, (some_number 17 _ (lit< tt) refl, (some_number 18 _ (lit< tt) refl, (some_number 18 _ (lit< tt) refl, tt)))),
  ),
)

fine_place : (a : Result Unit QuestionError) → ◌≡◌ {A = ℕ × ℕ} (asked_number a, asked_line a) (0, 0) → a ≡ Ok tt
fine_place (Ok tt) e = refl
fine_place (Err (RangeOutOfBounds i)) e = let z : ◌≡◌ {A = ℕ} 15 0 = ap (λ p. p.0) e in absurd (omega arith)
fine_place (Err GapOutOfRange) e = let z : ◌≡◌ {A = ℕ} 16 0 = ap (λ p. p.0) e in absurd (omega arith)
fine_place (Err TooManySplits) e = let z : ◌≡◌ {A = ℕ} 17 0 = ap (λ p. p.0) e in absurd (omega arith)
fine_place (Err (BreaksTooClose i)) e = let z : ◌≡◌ {A = ℕ} 18 0 = ap (λ p. p.0) e in absurd (omega arith)

module _ (q : Question) (ok1 : admit_of q.line1 ≡ Ok tt) (ok2 : admit_of q.line2 ≡ Ok tt) where
  met : (n : ℕ × ℕ) → QuestionFault n q → Met n (rows q)
  unfolding rows
  met n =
      row (test15 q.line1 q.lo1 q.hi1 ok1) (row (test15 q.line2 q.lo2 q.hi2 ok2)
      (row (test16 q.gap) (row (of_lt 256 q.splits) (row (test18 q.line1 q.lo1 q.hi1)
      (λ x. inl (x.0, (test18 q.line2 q.lo2 q.hi2).holds x.1))))))

  of_met : (n : ℕ × ℕ) → Met n (rows q) → QuestionFault n q
  unfolding rows
  of_met n =
      of_row (test15 q.line1 q.lo1 q.hi1 ok1) (of_row (test15 q.line2 q.lo2 q.hi2 ok2)
      (of_row (test16 q.gap) (of_row (of_lt 256 q.splits) (of_row (test18 q.line1 q.lo1 q.hi1)
      (λ s. elim s [ inl x ↦ (x.0, (test18 q.line2 q.lo2 q.hi2).yes x.1) | inr y ↦ absurd y ])))))

  -- ---- the theorem, for a refusal
  pub refused : (n : ℕ × ℕ) → 0 < n.0 → asked_place q ≡ n → FirstQuestionFault n q
  refused n h e =
      let m = first_met_lem Earlier irreflexive transitive (0, 0) (rows q) n (in_order q) (some_number n.0 n h refl) (sym (number q) ∙ e) in
      (of_met n m.0, λ k lt f. m.1 k lt (met k f))

  pub refuses : (n : ℕ × ℕ) → FirstQuestionFault n q → asked_place q ≡ n
  refuses n f = number q ∙ met_first Earlier irreflexive transitive (0, 0) (rows q) n (in_order q) (met n f.0) (λ k lt m. f.1 k lt (of_met k m))

  -- ---- and for a question that is fine
  pub passes : ask_of q ≡ Ok tt → (n : ℕ × ℕ) → QuestionFault n q → ⊥
  passes e n f = none_met Earlier irreflexive transitive (0, 0) (rows q) (apart q) (sym (number q) ∙ ap (λ a. (asked_number a, asked_line a)) e) n (met n f)

  pub passed : ((n : ℕ × ℕ) → QuestionFault n q → ⊥) → ask_of q ≡ Ok tt
  passed h = fine_place (ask_of q) (number q ∙ met_none Earlier irreflexive transitive (0, 0) (rows q) (λ k m. h k (of_met k m)))
