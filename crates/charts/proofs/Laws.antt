-- Ranks, places, and which of two tests comes first. Assumes nothing.
use mathlib.Core.Path.{◌≡◌, refl, sym, ap, ◌∙◌, subst}
use mathlib.Core.Bool.{Bool, true, false, cond}
use mathlib.Core.List.{List}
use Prim.Native.Nat.{ℕ, ◌≤◌, ◌<◌}
use native.Mathlib.Omega.{arith}
use borrow.Author.Tests.{eq-eqb, ne_eqb, ltb-true, ltb-false, lt-ltb, le-ltb}
use lib.Dec.{eqb, ltb}
use Rattle.std.specs.Prelude.{Option, Some, None}
use Rattle.lines.specs.declared.LineError.{LineError}
use Rattle.lines.specs.declared.LineError.TheVariants.{InvalidDegree, KnotCount, KnotOutOfRange, KnotsNotIncreasing, EndMultiplicitiesDiffer, MultiplicityTooLarge, ZeroMultiplicity, PoleCountMismatch, PoleCountOutOfRange, WeightCountMismatch, WeightOutOfRange, CoordinateOutOfRange}
use Rattle.lines.specs.Admit.{line_error_number}
use Rattle.questions.specs.declared.QuestionError.TheVariants.{RangeOutOfBounds, GapOutOfRange, TooManySplits, BreaksTooClose}
use Rattle.opening.specs.declared.OpenError.{OpenError}
use Rattle.opening.specs.declared.OpenError.TheVariants.{BadLine, BadDatum, BadQuestion, NoRoom}
use Rattle.opening.specs.Opens.{open_error_number}
use Rattle.texts.specs.Texts.{Wrote}
use Rattle.charts.specs.declared.Met.{Met}
use Rattle.charts.specs.Charts.{Tested, tested, last_line}
use Rattle.charts.specs.Found.{rank_of, tested_of, earlier_of}

pub rank_none : (p : ℕ) → rank_of 0 p ≡ 9
unfolding rank_of
rank_none p = refl

pub rank_line : (e : LineError) (p : ℕ) → rank_of (line_error_number e) p ≡ cond (eqb p 1) 0 1
unfolding rank_of
rank_line InvalidDegree p = refl
rank_line KnotCount p = refl
rank_line KnotOutOfRange p = refl
rank_line KnotsNotIncreasing p = refl
rank_line EndMultiplicitiesDiffer p = refl
rank_line MultiplicityTooLarge p = refl
rank_line ZeroMultiplicity p = refl
rank_line PoleCountMismatch p = refl
rank_line PoleCountOutOfRange p = refl
rank_line WeightCountMismatch p = refl
rank_line WeightOutOfRange p = refl
rank_line CoordinateOutOfRange p = refl

-- the first number of two, by the place
pub at_track : (a b : ℕ) {p r : ℕ} → p ≡ 1 → cond (eqb p 1) a b ≡ r → a ≡ r
at_track a b {p} h e = sym (ap (λ (t : Bool). cond t a b) (eq-eqb p 1 h)) ∙ e

pub at-line : (a b : ℕ) {p r : ℕ} → (p ≡ 1 → ⊥) → cond (eqb p 1) a b ≡ r → b ≡ r
at-line a b {p} h e = sym (ap (λ (t : Bool). cond t a b) (ne_eqb p 1 h)) ∙ e

pub rank_few : (n p : ℕ) → rank_of n p ≤ 9
unfolding rank_of
rank_few n p = by (eqb n 0) (eqb n 19) (eqb n 18) (eqb n 17) (eqb n 16) (eqb n 15) (eqb p 1)
  where
    by : (a b c d e f g : Bool) → cond a 9 (cond b 8 (cond c (cond g 6 7) (cond d 5 (cond e 4 (cond f (cond g 2 3) (cond g 0 1)))))) ≤ 9
    by true b c d e f g = omega arith
    by false true c d e f g = omega arith
    by false false true d e f true = omega arith
    by false false true d e f false = omega arith
    by false false false true e f g = omega arith
    by false false false false true f g = omega arith
    by false false false false false true true = omega arith
    by false false false false false true false = omega arith
    by false false false false false false true = omega arith
    by false false false false false false false = omega arith

abbrev rank_in : Tested → ℕ
rank_in t = rank_of t.number t.place

-- the earlier of two
pub earlier_second : (a b : Tested) {x y : ℕ} → x ≡ rank_in b → y ≡ rank_in a → x < y → b ≡ earlier_of a b
earlier_second a b e f h = sym (ap (λ (t : Bool). cond t b a) (lt-ltb (rank_in b) (rank_in a) (let u = e in let v = f in omega arith)))

pub earlier_first : (a b : Tested) {x y : ℕ} → x ≡ rank_in b → y ≡ rank_in a → y ≤ x → a ≡ earlier_of a b
earlier_first a b e f h = sym (ap (λ (t : Bool). cond t b a) (le-ltb (rank_in b) (rank_in a) (let u = e in let v = f in omega arith)))

-- nothing met is never earlier
pub earlier_nothing : (a : Tested) → earlier_of a (tested 0 0) ≡ a
earlier_nothing a = sym (earlier_first a (tested 0 0) {x = 9} {y = rank_in a} (sym (rank_none 0)) refl (rank_few a.number a.place))

-- what is met is earlier than nothing
rank_met : (e : OpenError) (p : ℕ) → rank_of (open_error_number e) p < 9
unfolding rank_of
rank_met (BadLine side e) p = subst (λ (n : ℕ). n < 9) (sym (rank_line e p)) (few (eqb p 1))
  where
    few : (b : Bool) → cond b 0 1 < 9
    few true = omega arith
    few false = omega arith
rank_met BadDatum p = few (eqb p 1)
  where
    few : (b : Bool) → cond b 0 1 < 9
    few true = omega arith
    few false = omega arith
rank_met (BadQuestion (RangeOutOfBounds side)) p = few (eqb p 1)
  where
    few : (b : Bool) → cond b 2 3 < 9
    few true = omega arith
    few false = omega arith
rank_met (BadQuestion (BreaksTooClose side)) p = few (eqb p 1)
  where
    few : (b : Bool) → cond b 6 7 < 9
    few true = omega arith
    few false = omega arith
rank_met (BadQuestion GapOutOfRange) p = omega arith
rank_met (BadQuestion TooManySplits) p = omega arith
rank_met NoRoom p = omega arith

pub nothing_earlier : (b : Option Met) → earlier_of (tested 0 0) (tested_of b) ≡ tested_of b
nothing_earlier None = earlier_nothing (tested 0 0)
nothing_earlier (Some m) = sym (earlier_second (tested 0 0) (tested_of (Some m)) refl (sym (rank_none 0)) (rank_met m.error m.place))

pub nothing_as : (a b : Option Met) → ((x : Met) → a ≡ Some x → ⊥) → tested_of b ≡ earlier_of (tested_of a) (tested_of b)
nothing_as None b h = sym (nothing_earlier b)
nothing_as (Some x) b h = absurd (h x refl)

pub earlier_as : (a b : Option Met) {m : Met} → a ≡ Some m → ((x : Met) → b ≡ Some x → ⊥) → tested_of (Some m) ≡ earlier_of (tested_of a) (tested_of b)
earlier_as a None e h = ap tested_of (sym e) ∙ sym (earlier_nothing (tested_of a))
earlier_as a (Some x) e h = absurd (h x refl)

pick_second : (x y : Tested) → ltb (rank_in y) (rank_in x) ≡ true → earlier_of x y ≡ y
pick_second x y e = ap (λ (t : Bool). cond t y x) e

pick_first : (x y : Tested) → ltb (rank_in y) (rank_in x) ≡ false → earlier_of x y ≡ x
pick_first x y e = ap (λ (t : Bool). cond t y x) e

-- the earliest of three, from the left and from the right
pub earlier_assoc : (a b c : Tested) → earlier_of a (earlier_of b c) ≡ earlier_of (earlier_of a b) c
earlier_assoc a b c = by (ltb (rank_in c) (rank_in b)) (ltb (rank_in b) (rank_in a)) (ltb (rank_in c) (rank_in a)) refl refl refl
  where
    never : {x y z : ℕ} → z < y → y < x → x ≤ z → ⊥
    never h j k = omega arith

    nor : {x y z : ℕ} → y ≤ z → x ≤ y → z < x → ⊥
    nor h j k = omega arith

    by : (p q r : Bool) → ltb (rank_in c) (rank_in b) ≡ p → ltb (rank_in b) (rank_in a) ≡ q → ltb (rank_in c) (rank_in a) ≡ r
        → earlier_of a (earlier_of b c) ≡ earlier_of (earlier_of a b) c
    by true true true e f g =
        ap (earlier_of a) (pick_second b c e) ∙ pick_second a c g ∙ sym (ap (λ (t : Tested). earlier_of t c) (pick_second a b f) ∙ pick_second b c e)
    by true true false e f g = absurd (never (ltb-true (rank_in c) (rank_in b) e) (ltb-true (rank_in b) (rank_in a) f) (ltb-false (rank_in c) (rank_in a) g))
    by true false r e f g = ap (earlier_of a) (pick_second b c e) ∙ sym (ap (λ (t : Tested). earlier_of t c) (pick_first a b f))
    by false true r e f g =
        ap (earlier_of a) (pick_first b c e) ∙ pick_second a b f ∙ sym (ap (λ (t : Tested). earlier_of t c) (pick_second a b f) ∙ pick_first b c e)
    by false false true e f g = absurd (nor (ltb-false (rank_in c) (rank_in b) e) (ltb-false (rank_in b) (rank_in a) f) (ltb-true (rank_in c) (rank_in a) g))
    by false false false e f g =
        ap (earlier_of a) (pick_first b c e) ∙ pick_first a b f ∙ sym (ap (λ (t : Tested). earlier_of t c) (pick_first a b f) ∙ pick_first a c g)

-- ---- the last line
pub last_is : (out : List ℕ) {g : Bool} (b : Bool) {o : List ℕ} {r : ℕ} → g ≡ b → Wrote out 0 (last_line b) o r → Wrote out 0 (last_line g) o r
last_is out {g} b {o} {r} e h = rw e h
