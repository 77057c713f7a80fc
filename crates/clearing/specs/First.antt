-- Which test cleared two nets (document 02, M-103: "the first test in document 01's order that passes on its nets"). Definitions only.
use Rattle.std.specs.Prelude.{◌≡◌, ◌↔◌, Bool, true, false, List, Float}
use Rattle.nets.specs.Points.{points_of}
use Rattle.boxes.specs.Boxes.{bounding_box, boxes_apart}
use Rattle.boxes.specs.Nets.{out_of_measure}
use Rattle.verdicts.specs.declared.Test.{Test}
use Rattle.verdicts.specs.declared.Test.TheVariants.{Box, Plane, Line}
use Rattle.verdicts.specs.declared.Verdict.TheVariants.{Settled}
use Rattle.clearing.specs.declared.Along.{Along}
use Rattle.clearing.specs.declared.Along.TheVariants.{Axis, Not}
use Rattle.clearing.specs.Extents.{apart_along}
use Rattle.clearing.specs.Chords.{separated_of}
use Rattle.clearing.specs.Lines.{along_one_line}
use Rattle.clearing.specs.Verdicts.{verdict_of}

-- the points lie along one line, and are apart along its axis
abbrev pub apart_on_line : Float → List Float → List Float → Along → Bool
apart_on_line gap p q Not = false
apart_on_line gap p q (Axis x y z) = apart_along (record { x = x; y = y; z = z }) gap p q

-- whether a test passes on the points p and q of two nets in measure: boxes apart, `separated`, apart along one line
abbrev pub passes : Test → Float → List Float → List Float → Bool
passes Box gap p q = boxes_apart gap (bounding_box p) (bounding_box q)
passes Plane gap p q = separated_of gap p q
passes Line gap p q = apart_on_line gap p q (along_one_line gap p q)

-- it passes, and none before it in 01's order does
abbrev pub FirstTo : Test → Float → List Float → List Float → Type 0
FirstTo Box gap p q = (passes Box gap p q ≡ true)
FirstTo Plane gap p q = (passes Box gap p q ≡ false) × (passes Plane gap p q ≡ true)
FirstTo Line gap p q = (passes Box gap p q ≡ false) × (passes Plane gap p q ≡ false) × (passes Line gap p q ≡ true)

-- both nets are in measure, and this test is the first that passes
pub record FirstTest (t : Test) (gap : Float) (first second : List Float) : Type 0 where
  pub measured1 : out_of_measure first ≡ false
  pub measured2 : out_of_measure second ≡ false
  pub passed : FirstTo t gap (points_of first) (points_of second)

-- "each node's tag is the first test in document 01's order that passes on its nets"
abbrev pub TagIsFirst : Type 0
TagIsFirst = (t : Test) (gap : Float) (first second : List Float) → (verdict_of gap first second ≡ Settled t) ↔ FirstTest t gap first second
