-- Numbers 4 to 14 and 22: `admit` answers number n when, and only when, row n of the table is the first that the line meets. Assumes nothing.
use mathlib.Core.Path.{◌≡◌, refl, sym, ap, ◌∙◌}
use mathlib.Core.Logic.{inl, inr}
use mathlib.Core.Bool.{Bool, true, false, cond, not, ◌&&◌}
use mathlib.Core.List.{List, [], ◌∷◌}
use Prim.Native.Nat.{ℕ, zero, suc, ◌+◌, ◌%◌, ◌^◌, ◌<◌}
use native.Mathlib.Omega.{arith}
use lib.Dec.{T, ltb, leb, eqb, lit<}
use lib.ListN.{length, get_or}
use lib.Ieee.{lt, neg}
use Rattle.lists.specs.Tests.{every, total}
use Rattle.floats.specs.Floats.{within}
use Rattle.floats.specs.Sizes.{Within}
use Rattle.std.specs.Prelude.{Result, Ok, Err}
use Rattle.lines.specs.declared.LineError.{LineError}
use Rattle.lines.specs.declared.LineError.TheVariants.{InvalidDegree, KnotCount, KnotOutOfRange, KnotsNotIncreasing, EndMultiplicitiesDiffer, MultiplicityTooLarge, ZeroMultiplicity, PoleCountMismatch, PoleCountOutOfRange, WeightCountMismatch, WeightOutOfRange, CoordinateOutOfRange}
use Rattle.lines.specs.Admit.{two20, two24, two10, one1024th, inner, degree_out, knot_count_out, knot_out, not_increasing, ends_differ, ends_too_large, too_large, zero_mult, beyond_of, pole_mismatch, pole_count_out, weight_mismatch, weight_out, coord_out, validate_knots, validate_mults, validate_poles, admit_of}
use Rattle.lines.specs.Lines.{Line}
use Rattle.facts.specs.Faults.{WithinFactor, ByClosed, poles, last_mult, Fault4, Fault5, Fault6, Fault7, Fault22, Fault8, Fault9, Fault10, Fault11, Fault12, Fault13, Fault14, admit_number, LineFault, row_rank, FirstLineFault}
use Rattle.facts.proofs.Reflect.{Tests, never, of_T, of_lt, of_eq, of_or, of_or3, of_not, of_neither, of_over, of_any, of_two, of_kind, same}
use Rattle.facts.proofs.Sizes.{of_within20, of_within24, of_weight}
use Rattle.facts.proofs.Rows.{first_row, Met, InOrder, first_met_lem, met_first, none_met, met_none, Apart, row, of_row}

-- ---- the answer is the place of the first test that is true
twelve : (b4 b5 b6 b7 b22 b8 b9 b10 b11 b12 b13 b14 : Bool)
    → admit_number
    (cond b4 (Err InvalidDegree) (cond b5 (Err KnotCount) (cond b6 (Err KnotOutOfRange) (cond b7 (Err KnotsNotIncreasing) (cond b22 (Err EndMultiplicitiesDiffer) (cond b8 (Err MultiplicityTooLarge) (cond b9 (Err ZeroMultiplicity)
    (cond b10 (Err PoleCountMismatch) (cond b11 (Err PoleCountOutOfRange) (cond b12 (Err WeightCountMismatch) (cond b13 (Err WeightOutOfRange) (cond b14 (Err CoordinateOutOfRange) (Ok tt)))))))))))))
    ≡ first_row 0 ((4, b4) ∷ (5, b5) ∷ (6, b6) ∷ (7, b7) ∷ (22, b22) ∷ (8, b8) ∷ (9, b9) ∷ (10, b10) ∷ (11, b11) ∷ (12, b12) ∷ (13, b13) ∷ (14, b14) ∷ [])
twelve true b5 b6 b7 b22 b8 b9 b10 b11 b12 b13 b14 = refl
twelve false true b6 b7 b22 b8 b9 b10 b11 b12 b13 b14 = refl
twelve false false true b7 b22 b8 b9 b10 b11 b12 b13 b14 = refl
twelve false false false true b22 b8 b9 b10 b11 b12 b13 b14 = refl
twelve false false false false true b8 b9 b10 b11 b12 b13 b14 = refl
twelve false false false false false true b9 b10 b11 b12 b13 b14 = refl
twelve false false false false false false true b10 b11 b12 b13 b14 = refl
twelve false false false false false false false true b11 b12 b13 b14 = refl
twelve false false false false false false false false true b12 b13 b14 = refl
twelve false false false false false false false false false true b13 b14 = refl
twelve false false false false false false false false false false true b14 = refl
twelve false false false false false false false false false false false true = refl
twelve false false false false false false false false false false false false = refl

rows : Line → List (ℕ × Bool)
rows l =
    (4, degree_out l.degree) ∷ (5, knot_count_out l.knots l.mults) ∷ (6, knot_out l.knots) ∷ (7, not_increasing l.knots) ∷ (22, ends_differ l.closed l.mults)
    ∷ (8, too_large l.closed l.degree l.mults) ∷ (9, zero_mult l.mults) ∷ (10, pole_mismatch l.closed l.degree l.mults l.coords) ∷ (11, pole_count_out l.degree l.coords) ∷
    (12, weight_mismatch l.coords l.weights)
    ∷ (13, weight_out l.weights) ∷ (14, coord_out l.coords) ∷ []

number : (l : Line) → admit_number (admit_of l) ≡ first_row 0 (rows l)
unfolding rows validate_knots validate_mults validate_poles
number l =
    twelve (degree_out l.degree) (knot_count_out l.knots l.mults) (knot_out l.knots) (not_increasing l.knots)
    (ends_differ l.closed l.mults) (too_large l.closed l.degree l.mults) (zero_mult l.mults)
    (pole_mismatch l.closed l.degree l.mults l.coords) (pole_count_out l.degree l.coords) (weight_mismatch l.coords l.weights)
    (weight_out l.weights) (coord_out l.coords)

-- only an admitted line has number 0
zero_admitted : (a : Result Unit LineError) → admit_number a ≡ 0 → a ≡ Ok tt
zero_admitted (Ok tt) e = refl
zero_admitted (Err InvalidDegree) e = absurd (omega arith)
zero_admitted (Err KnotCount) e = absurd (omega arith)
zero_admitted (Err KnotOutOfRange) e = absurd (omega arith)
zero_admitted (Err KnotsNotIncreasing) e = absurd (omega arith)
zero_admitted (Err EndMultiplicitiesDiffer) e = absurd (omega arith)
zero_admitted (Err MultiplicityTooLarge) e = absurd (omega arith)
zero_admitted (Err ZeroMultiplicity) e = absurd (omega arith)
zero_admitted (Err PoleCountMismatch) e = absurd (omega arith)
zero_admitted (Err PoleCountOutOfRange) e = absurd (omega arith)
zero_admitted (Err WeightCountMismatch) e = absurd (omega arith)
zero_admitted (Err WeightOutOfRange) e = absurd (omega arith)
zero_admitted (Err CoordinateOutOfRange) e = absurd (omega arith)

-- ---- each test decides its row's sentence
module _ (l : Line) where
  test4 : Tests (Fault4 l) (degree_out l.degree)
  test4 = of_or (ltb l.degree 1) (ltb 25 l.degree) (of_lt l.degree 1) (of_lt 25 l.degree)

  test5 : Tests (Fault5 l) (knot_count_out l.knots l.mults)
  test5 =
      of_or3 (ltb (length l.knots) 2) (ltb 128 (length l.knots)) (not (eqb (length l.mults) (length l.knots)))
      (of_lt (length l.knots) 2) (of_lt 128 (length l.knots)) (of_not (eqb (length l.mults) (length l.knots)) (of_eq (length l.mults) (length l.knots)))

  test6 : Tests (Fault6 l) (knot_out l.knots)
  test6 = of_any (λ k. Within (2 ^ 20) k → ⊥) (within (neg two20) two20) (λ k. of_not (within (neg two20) two20 k) (of_within20 k)) l.knots

  test7 : Tests (Fault7 l) (not_increasing l.knots)
  test7 = of_two (λ a k. T (lt a k) → ⊥) lt (λ a k. of_not (lt a k) (of_T (lt a k))) l.knots

  test22 : Tests (Fault22 l) (ends_differ l.closed l.mults)
  unfolding ends_differ
  test22 = go l.closed (of_not (eqb (get_or l.mults 0 0) (last_mult l)) (of_eq (get_or l.mults 0 0) (last_mult l)))
    where
      go : {P : Type 0} {b : Bool} (closed : Bool) → Tests P b → Tests ((closed ≡ true) × P) (closed && b)
      go true t = record { yes = λ e. (refl, t.yes e); holds = λ s. t.holds s.1 }
      go false t = record { yes = λ e. absurd (never e); holds = λ s. absurd (never s.0) }

  test8 : Tests (Fault8 l) (too_large l.closed l.degree l.mults)
  unfolding too_large ends_too_large
  test8 =
      of_kind l.closed (not (every (λ m. leb m l.degree) l.mults)) (ends_too_large l.degree l.mults)
      (of_any (λ m. l.degree < m) (λ m. leb m l.degree) (λ m. of_over m l.degree) l.mults)
      (of_or3 (ltb (l.degree + 1) (get_or l.mults 0 0)) (ltb (l.degree + 1) (last_mult l))
      (not (every (λ m. leb m l.degree) (inner l.mults)))
      (of_lt (l.degree + 1) (get_or l.mults 0 0)) (of_lt (l.degree + 1) (last_mult l))
      (of_any (λ m. l.degree < m) (λ m. leb m l.degree) (λ m. of_over m l.degree) (inner l.mults)))

  test9 : Tests (Fault9 l) (zero_mult l.mults)
  test9 = of_any (λ m. m ≡ 0) (λ m. ltb 0 m) (λ m. same (λ h. not_positive m h) (λ e h. omega arith) (of_not (ltb 0 m) (of_lt 0 m))) l.mults
    where
      not_positive : (m : ℕ) → (0 < m → ⊥) → m ≡ 0
      not_positive zero h = refl
      not_positive (suc m) h = absurd (h (omega arith))

  test10 : Tests (Fault10 l) (pole_mismatch l.closed l.degree l.mults l.coords)
  test10 =
      of_or (not (eqb (length l.coords % 3) 0)) (not (eqb (poles l + beyond_of l.closed l.degree l.mults) (total l.mults)))
      (of_not (eqb (length l.coords % 3) 0) (of_eq (length l.coords % 3) 0)) (go l.closed)
    where
      go : (closed : Bool) → Tests (ByClosed closed (poles l + last_mult l ≡ total l.mults → ⊥) (poles l + (l.degree + 1) ≡ total l.mults → ⊥))
          (not (eqb (poles l + beyond_of closed l.degree l.mults) (total l.mults)))
      go true = unfold beyond_of in of_not (eqb (poles l + last_mult l) (total l.mults)) (of_eq (poles l + last_mult l) (total l.mults))
      go false = unfold beyond_of in of_not (eqb (poles l + (l.degree + 1)) (total l.mults)) (of_eq (poles l + (l.degree + 1)) (total l.mults))

  test11 : Tests (Fault11 l) (pole_count_out l.degree l.coords)
  test11 = of_or (ltb (poles l) (l.degree + 1)) (ltb 128 (poles l)) (of_lt (poles l) (l.degree + 1)) (of_lt 128 (poles l))

  test12 : Tests (Fault12 l) (weight_mismatch l.coords l.weights)
  test12 = of_neither (eqb (length l.weights) 0) (eqb (length l.weights) (poles l)) (of_eq (length l.weights) 0) (of_eq (length l.weights) (poles l))

  test13 : Tests (Fault13 l) (weight_out l.weights)
  test13 = of_any (λ w. WithinFactor (2 ^ 10) w → ⊥) (within one1024th two10) (λ w. of_not (within one1024th two10 w) (of_weight w)) l.weights

  test14 : Tests (Fault14 l) (coord_out l.coords)
  test14 = of_any (λ x. Within (2 ^ 24) x → ⊥) (within (neg two24) two24) (λ x. of_not (within (neg two24) two24 x) (of_within24 x)) l.coords

  -- ---- the line meets row n of the table, or the chain's test of place n is true: the same
  met : (n : ℕ) → LineFault n l → Met n (rows l)
  unfolding rows
  met n =
      row test4 (row test5 (row test6 (row test7 (row test22 (row test8 (row test9 (row test10 (row test11 (row test12 (row test13 (λ x. inl (x.0, test14.holds x.1))))))))))))

  of_met : (n : ℕ) → Met n (rows l) → LineFault n l
  unfolding rows
  of_met n =
      of_row test4 (of_row test5 (of_row test6 (of_row test7 (of_row test22 (of_row test8 (of_row test9 (of_row test10 (of_row test11 (of_row test12 (of_row test13
      (λ s. elim s [ inl x ↦ (x.0, test14.yes x.1) | inr y ↦ absurd y ])))))))))))

  abbrev Before : ℕ → ℕ → Type 0
  Before k n = row_rank k < row_rank n

  in_order : InOrder Before (rows l)
  unfolding rows
  in_order = (lit< tt, (lit< tt, (lit< tt, (lit< tt, (lit< tt, (lit< tt, (lit< tt, (lit< tt, (lit< tt, (lit< tt, (lit< tt, tt)))))))))))

  apart : Apart 0 (rows l)
  unfolding rows
  apart = (λ e. omega arith, (λ e. omega arith, (λ e. omega arith, (λ e. omega arith, (λ e. omega arith, (λ e. omega arith, (λ e. omega arith, (λ e. omega arith, (λ e. omega arith, (λ e. omega arith, (λ e. omega arith, (λ e. omega arith, tt))))))))))))

  irreflexive : (k : ℕ) → Before k k → ⊥
  irreflexive k h = omega arith

  transitive : (a b c : ℕ) → Before a b → Before b c → Before a c
  transitive a b c h g = omega arith

  -- ---- the theorem, for a refusal
  pub refused : (n : ℕ) → 0 < n → admit_number (admit_of l) ≡ n → FirstLineFault n l
  refused n h e =
      let m = first_met_lem Before irreflexive transitive 0 (rows l) n in_order (λ z. omega arith) (sym (number l) ∙ e) in
      (of_met n m.0, λ k lt f. m.1 k lt (met k f))

  pub refuses : (n : ℕ) → FirstLineFault n l → admit_number (admit_of l) ≡ n
  refuses n f = number l ∙ met_first Before irreflexive transitive 0 (rows l) n in_order (met n f.0) (λ k lt m. f.1 k lt (of_met k m))

  -- ---- and for an admitted line
  pub admitted : admit_of l ≡ Ok tt → (n : ℕ) → LineFault n l → ⊥
  admitted e n f =
      none_met Before irreflexive transitive 0 (rows l) apart (sym (number l) ∙ ap admit_number e) n (met n f)

  pub admits : ((n : ℕ) → LineFault n l → ⊥) → admit_of l ≡ Ok tt
  admits h = zero_admitted (admit_of l) (number l ∙ met_none Before irreflexive transitive 0 (rows l) (λ k m. h k (of_met k m)))
