-- What admission gives: no test of the chain was met. Assumes nothing.
use mathlib.Core.Path.{◌≡◌, refl, sym}
use mathlib.Core.Bool.{Bool, true, false, cond, ◌||◌, true≢false}
use mathlib.Core.List.{List, [], ◌∷◌}
use Prim.Native.Nat.{ℕ, zero, suc, ◌+◌, ◌-◌, ◌≤◌, ◌<◌, zero-le}
use native.Mathlib.Nat.{le_refl}
use lib.Dec.{leb}
use native.Mathlib.Omega.{arith}
use borrow.Author.Tests.{ltb-false, leb-true, eqb-true, not-false}
use lib.ListN.{length, get_or}
use lib.Ieee.{Float}
use Rattle.lists.specs.Tests.{every, total}
use Rattle.std.specs.Prelude.{Result, Ok}
use Rattle.lines.specs.declared.LineError.{LineError}
use Rattle.lines.specs.declared.LineError.TheVariants.{InvalidDegree, KnotCount, KnotOutOfRange, KnotsNotIncreasing, EndMultiplicitiesDiffer, MultiplicityTooLarge, ZeroMultiplicity, PoleCountMismatch, PoleCountOutOfRange, WeightCountMismatch, WeightOutOfRange, CoordinateOutOfRange}
use Rattle.lines.specs.Admit.{degree_out, knot_count_out, too_large, beyond_of, validate_knots, validate_mults, validate_poles, admit_of}
use Rattle.lines.specs.Counts.{Counts}
use Rattle.lines.specs.Lines.{Line}
use Rattle.lines.proofs.Laws.{pass}

-- ---- neither of two tests was met
neither : (a b : Bool) → (a || b) ≡ false → (a ≡ false) × (b ≡ false)
neither true b e = let z : ◌≡◌ {A = ℕ} 0 1 = cc in absurd (omega arith)
neither false b e = (refl, e)

-- ---- numbers 4 and 5 give the limits that the tests after them ask
pub few : (degree : ℕ) (knots : List Float) (mults : List ℕ) (next : Result Unit LineError) → validate_knots degree knots mults next ≡ Ok tt
    → (degree ≤ 25) × (2 ≤ length mults) × (length mults ≤ 128)
unfolding validate_knots
few degree knots mults next e =
    let a4 = pass (degree_out degree) InvalidDegree _ e in
    let a5 = pass (knot_count_out knots mults) KnotCount _ a4.1 in
    let b4 = neither _ _ a4.0 in
    let b5 = neither _ _ a5.0 in
    let c5 = neither _ _ b5.0 in
    let least : 1 ≤ degree = ltb-false _ _ b4.0 in
    let two : 2 ≤ length knots = ltb-false _ _ c5.0 in
    let most : degree ≤ 25 = ltb-false _ _ b4.1 in
    let many : length knots ≤ 128 = ltb-false _ _ c5.1 in
    let same : length mults ≡ length knots = eqb-true _ _ (not-false _ b5.1) in
    (most, omega arith, omega arith)

-- ---- all the tests
pub counts : (l : Line) → admit_of l ≡ Ok tt → Counts l
unfolding validate_knots validate_mults validate_poles
counts l e =
    let a4 = pass _ InvalidDegree _ e in
    let a5 = pass _ KnotCount _ a4.1 in
    let a6 = pass _ KnotOutOfRange _ a5.1 in
    let a7 = pass _ KnotsNotIncreasing _ a6.1 in
    let a22 = pass _ EndMultiplicitiesDiffer _ a7.1 in
    let a8 = pass _ MultiplicityTooLarge _ a22.1 in
    let a9 = pass _ ZeroMultiplicity _ a8.1 in
    let a10 = pass _ PoleCountMismatch _ a9.1 in
    let a11 = pass _ PoleCountOutOfRange _ a10.1 in
    let a12 = pass _ WeightCountMismatch _ a11.1 in
    let a13 = pass _ WeightOutOfRange _ a12.1 in
    let a14 = pass _ CoordinateOutOfRange _ a13.1 in
    let b4 = neither _ _ a4.0 in
    let b5 = neither _ _ a5.0 in
    let c5 = neither _ _ b5.0 in
    let b10 = neither _ _ a10.0 in
    let b11 = neither _ _ a11.0 in
    record {
      least = ltb-false _ _ b4.0;
      most = ltb-false _ _ b4.1;
      two_knots = ltb-false _ _ c5.0;
      few_knots = ltb-false _ _ c5.1;
      as_many = eqb-true _ _ (not-false _ b5.1);
      knots_fit = not-false _ a6.0;
      increasing = not-false _ a7.0;
      same_ends = a22.0;
      small_mults = a8.0;
      some_mults = not-false _ a9.0;
      thirds = eqb-true _ _ (not-false _ b10.0);
      count = eqb-true _ _ (not-false _ b10.1);
      enough = ltb-false _ _ b11.0;
      few_poles = ltb-false _ _ b11.1;
      weights_count = not-false _ a12.0;
      weights_fit_lem = not-false _ a13.0;
      coords_fit = not-false _ a14.0;
    }

both : (a b : Bool) → cond a b false ≡ true → (a ≡ true) × (b ≡ true)
both true b e = (refl, e)
both false b e = absurd (true≢false (sym e))

-- ---- what each number passes, number i passes
pub every_at : {A : Type 0} (d : A) (t : A → Bool) (l : List A) (i : ℕ) → i < length l → every t l ≡ true → t (get_or l i d) ≡ true
unfolding every
every_at d t [] i h e = absurd (omega arith)
every_at d t (x ∷ l) zero h e = (both (t x) (every t l) e).0
every_at d t (x ∷ l) (suc i) h e = every_at d t l i (omega arith) (both (t x) (every t l) e).1

-- ---- the sum of the multiplicities is at most degree + 1 above the poles, closed or not
pub few_beyond : (closed : Bool) (degree : ℕ) (mults : List ℕ) → too_large closed degree mults ≡ false → beyond_of closed degree mults ≤ degree + 1
unfolding too_large beyond_of
few_beyond true degree [] e = zero-le
few_beyond true degree (m ∷ ms) e =
    let h = leb-true _ _ (every_at 0 (λ m. leb m degree) (m ∷ ms) (length (m ∷ ms) - 1) (omega arith) (not-false _ e)) in
    omega arith
few_beyond false degree mults e = le_refl (degree + 1)

-- ---- the lengths that bounds and breaks ask for
pub lengths : (l : Line) → admit_of l ≡ Ok tt
    → (2 ≤ length l.knots) × (length l.knots ≤ 128) × (length l.mults ≡ length l.knots) × (l.degree + 1 ≤ total l.mults) × (total l.mults ≤ 154)
lengths l e =
    let k = counts l e in
    let b = few_beyond l.closed l.degree l.mults k.small_mults in
    (k.two_knots, k.few_knots, k.as_many, omega (arith, k.count, k.enough), omega (arith, b, k.count, k.few_poles, k.most))
