-- The verdict's tag is the first test that passes. Assumes nothing.
use mathlib.Core.Path.{◌≡◌, refl, ap, sym, ◌∙◌}
use mathlib.Core.Logic.{◌↔◌}
use mathlib.Core.Bool.{Bool, true, false, cond, false≢true}
use mathlib.Core.List.{List}
use native.Mathlib.Omega.{arith}
use lib.Ieee.{Float}
use Rattle.nets.specs.Points.{points_of}
use Rattle.boxes.specs.Nets.{out_of_measure}
use Rattle.verdicts.specs.declared.Test.{Test}
use Rattle.verdicts.specs.declared.Test.TheVariants.{Box, Plane, Line}
use Rattle.verdicts.specs.declared.Verdict.{Verdict}
use Rattle.verdicts.specs.declared.Verdict.TheVariants.{Settled, Split, Unseparated}
use Rattle.verdicts.specs.Verdicts.{verdict_number}
use Rattle.clearing.specs.declared.Along.{Along}
use Rattle.clearing.specs.declared.Along.TheVariants.{Axis, Not}
use Rattle.clearing.specs.Lines.{along_one_line}
use Rattle.clearing.specs.Verdicts.{line_verdict, tests_of, verdict_of}
use Rattle.clearing.specs.First.{apart_on_line, passes, FirstTo, TagIsFirst}

-- two verdicts of different numbers are two
differ : (u v : Verdict) → (verdict_number u ≡ verdict_number v → ⊥) → u ≡ v → ⊥
differ u v h e = h (ap verdict_number e)

unlisted : (t : Test) → Unseparated ≡ Settled t → ⊥
unlisted Box = differ Unseparated (Settled Box) (λ e. omega arith)
unlisted Plane = differ Unseparated (Settled Plane) (λ e. omega arith)
unlisted Line = differ Unseparated (Settled Line) (λ e. omega arith)

unsplit : (t : Test) → Split ≡ Settled t → ⊥
unsplit Box = differ Split (Settled Box) (λ e. omega arith)
unsplit Plane = differ Split (Settled Plane) (λ e. omega arith)
unsplit Line = differ Split (Settled Line) (λ e. omega arith)

-- the line test's own verdict, by whether it passes
abbrev line_says : Along → Bool → Verdict
line_says Not e = Split
line_says (Axis x y z) e = cond e (Settled Line) Unseparated

-- by the four answers: boxes apart, separated, and of the line test
abbrev Says : Test → Bool → Bool → Bool → Type 0
Says Box c d e = (c ≡ true)
Says Plane c d e = (c ≡ false) × (d ≡ true)
Says Line c d e = (c ≡ false) × (d ≡ false) × (e ≡ true)

abbrev on_line : Along → Bool → Bool
on_line Not e = false
on_line (Axis x y z) e = e

first_says : (t : Test) (a b c d : Bool) (l : Along) (e : Bool)
    → (cond a Unseparated (cond b Unseparated (cond c (Settled Box) (cond d (Settled Plane) (line_says l e)))) ≡ Settled t)
    ↔ ((a ≡ false) × (b ≡ false) × Says t c d (on_line l e))
first_says t true b c d l e = (λ h. absurd (unlisted t h), λ h. absurd (false≢true (sym h.0)))
first_says t false true c d l e = (λ h. absurd (unlisted t h), λ h. absurd (false≢true (sym h.1)))
first_says Box false false true d l e = (λ h. (refl, refl, refl), λ h. refl)
first_says Plane false false true d l e = (λ h. absurd (differ (Settled Box) (Settled Plane) (λ z. omega arith) h), λ h. absurd (false≢true (sym h.2.0)))
first_says Line false false true d l e = (λ h. absurd (differ (Settled Box) (Settled Line) (λ z. omega arith) h), λ h. absurd (false≢true (sym h.2.0)))
first_says Box false false false true l e = (λ h. absurd (differ (Settled Plane) (Settled Box) (λ z. omega arith) h), λ h. absurd (false≢true h.2))
first_says Plane false false false true l e = (λ h. (refl, refl, (refl, refl)), λ h. refl)
first_says Line false false false true l e = (λ h. absurd (differ (Settled Plane) (Settled Line) (λ z. omega arith) h), λ h. absurd (false≢true (sym h.2.1)))
first_says Box false false false false Not e = (λ h. absurd (unsplit Box h), λ h. absurd (false≢true h.2))
first_says Plane false false false false Not e = (λ h. absurd (unsplit Plane h), λ h. absurd (false≢true h.2.1))
first_says Line false false false false Not e = (λ h. absurd (unsplit Line h), λ h. absurd (false≢true h.2.2))
first_says Box false false false false (Axis x y z) true =
    (λ h. absurd (differ (Settled Line) (Settled Box) (λ z. omega arith) h), λ h. absurd (false≢true h.2))
first_says Plane false false false false (Axis x y z) true =
    (λ h. absurd (differ (Settled Line) (Settled Plane) (λ z. omega arith) h), λ h. absurd (false≢true h.2.1))
first_says Line false false false false (Axis x y z) true = (λ h. (refl, refl, (refl, refl, refl)), λ h. refl)
first_says Box false false false false (Axis x y z) false = (λ h. absurd (unlisted Box h), λ h. absurd (false≢true h.2))
first_says Plane false false false false (Axis x y z) false = (λ h. absurd (unlisted Plane h), λ h. absurd (false≢true h.2.1))
first_says Line false false false false (Axis x y z) false = (λ h. absurd (unlisted Line h), λ h. absurd (false≢true h.2.2))

-- the line test as the verdict has it
line_says_lem : (gap : Float) (p q : List Float) (l : Along) → (line_verdict gap p q l ≡ line_says l (apart_on_line gap p q l)) × (on_line l (apart_on_line gap p q l) ≡ apart_on_line gap p q l)
line_says_lem gap p q Not = (refl, refl)
line_says_lem gap p q (Axis x y z) = (refl, refl)

-- the tests in words are those of the answers
to_words : (t : Test) (gap : Float) (p q : List Float)
    → Says t (passes Box gap p q) (passes Plane gap p q) (on_line (along_one_line gap p q) (passes Line gap p q)) → FirstTo t gap p q
to_words Box gap p q h = h
to_words Plane gap p q h = h
to_words Line gap p q h = (h.0, h.1, sym (line_says_lem gap p q (along_one_line gap p q)).1 ∙ h.2)

from_words : (t : Test) (gap : Float) (p q : List Float)
    → FirstTo t gap p q → Says t (passes Box gap p q) (passes Plane gap p q) (on_line (along_one_line gap p q) (passes Line gap p q))
from_words Box gap p q h = h
from_words Plane gap p q h = h
from_words Line gap p q h = (h.0, h.1, (line_says_lem gap p q (along_one_line gap p q)).1 ∙ h.2)

module _ (gap : Float) (first second : List Float) where
  abbrev answers : Along → Bool → Verdict
  answers l e =
      cond (out_of_measure first) Unseparated (cond (out_of_measure second) Unseparated
      (cond (passes Box gap (points_of first) (points_of second)) (Settled Box)
      (cond (passes Plane gap (points_of first) (points_of second)) (Settled Plane) (line_says l e))))

  verdict_says : verdict_of gap first second
      ≡ answers (along_one_line gap (points_of first) (points_of second)) (passes Line gap (points_of first) (points_of second))
  unfolding verdict_of tests_of
  verdict_says =
      ap (λ (v : Verdict). cond (out_of_measure first) Unseparated (cond (out_of_measure second) Unseparated
      (cond (passes Box gap (points_of first) (points_of second)) (Settled Box) (cond (passes Plane gap (points_of first) (points_of second)) (Settled Plane) v))))
      (line_says_lem gap (points_of first) (points_of second) (along_one_line gap (points_of first) (points_of second))).0

pub tag_is_first : TagIsFirst
tag_is_first t gap first second =
    let p = points_of first in
    let q = points_of second in
    let says = verdict_says gap first second in
    let s = first_says t (out_of_measure first) (out_of_measure second) (passes Box gap p q) (passes Plane gap p q) (along_one_line gap p q) (passes Line gap p q) in (
      λ e. let h = s.0 (sym says ∙ e) in record { measured1 = h.0; measured2 = h.1; passed = to_words t gap p q h.2 },
      λ f. says ∙ s.1 (f.measured1, f.measured2, from_words t gap p q f.passed),
    )
