-- Laws of the chain of tests: its first half stops it or is passed over. Assumes nothing.
use mathlib.Core.Path.{◌≡◌, refl, sym, ap}
use mathlib.Core.Bool.{Bool, true, false, cond, true≢false}
use mathlib.Core.List.{List}
use Prim.Native.Nat.{ℕ}
use lib.Ieee.{Float}
use Rattle.std.specs.Prelude.{Result, Ok, Err, is_ok}
use Rattle.lines.specs.declared.LineError.{LineError}
use Rattle.lines.specs.declared.LineError.TheVariants.{InvalidDegree, KnotCount, KnotOutOfRange, KnotsNotIncreasing, EndMultiplicitiesDiffer, MultiplicityTooLarge, ZeroMultiplicity}
use Rattle.lines.specs.Admit.{degree_out, knot_count_out, knot_out, not_increasing, ends_differ, too_large, zero_mult, validate_knots, validate_mults, validate_direction}

abbrev Outcome : Type 0
Outcome = Result Unit LineError

refused : (e : LineError) → ◌≡◌ {A = Outcome} (Err e) (Ok tt) → ⊥
refused e h = true≢false (sym (ap is_ok h))

-- a test on the way to an admitted line was not met
pub pass : (b : Bool) (e : LineError) (y : Outcome) → cond b (Err e) y ≡ Ok tt → (b ≡ false) × (y ≡ Ok tt)
pass true e y h = absurd (refused e h)
pass false e y h = (refl, h)

-- ---- tests one after the other, each with its refusal: none is met and what follows is answered, or the refusal is the same whatever follows
abbrev pub Chain : (Outcome → Outcome) → Type 0
Chain f = ((next : Outcome) → f (Ok tt) ≡ Ok tt → f next ≡ next) × ((next : Outcome) (e : LineError) → f (Ok tt) ≡ Err e → f next ≡ Err e)

no_test : Chain (λ next. next)
no_test = (λ next h. refl, λ next e h. absurd (refused e (sym h)))

test : (b : Bool) (e : LineError) (f : Outcome → Outcome) → Chain f → Chain (λ next. cond b (Err e) (f next))
test true e f c = (λ next h. absurd (refused e h), λ next k h. h)
test false e f c = c

module _ (degree : ℕ) (knots : List Float) (mults : List ℕ) (rest : Outcome → Outcome) (c : Chain rest) where
  knots_then : Chain (λ next. validate_knots degree knots mults (rest next))
  unfolding validate_knots
  knots_then =
      test (degree_out degree) InvalidDegree _
      (test (knot_count_out knots mults) KnotCount _
      (test (knot_out knots) KnotOutOfRange _
      (test (not_increasing knots) KnotsNotIncreasing _ c)))

pub knots_chain : (degree : ℕ) (knots : List Float) (mults : List ℕ) → Chain (validate_knots degree knots mults)
knots_chain degree knots mults = knots_then degree knots mults (λ next. next) no_test

module _ (closed : Bool) (degree : ℕ) (knots : List Float) (mults : List ℕ) where
  mults_chain : Chain (validate_mults closed degree mults)
  unfolding validate_mults
  mults_chain =
      test (ends_differ closed mults) EndMultiplicitiesDiffer _
      (test (too_large closed degree mults) MultiplicityTooLarge _
      (test (zero_mult mults) ZeroMultiplicity _ no_test))

  pub direction_chain : Chain (validate_direction closed degree knots mults)
  direction_chain = knots_then degree knots mults (validate_mults closed degree mults) mults_chain
