-- When a net is out of measure, and the box of a net (document 01, Boxes and tests). Definitions only.
use Rattle.std.specs.Prelude.{Bool, true, false, not, cond, List, [], ltb, length, replicate, Float}
use Rattle.std.specs.Float.{binary64}
use Rattle.std.specs.Float.Ieee.{neg, of_bits}
use Rattle.lists.specs.Parts.{patch}
use Rattle.lists.specs.Tests.{every}
use Rattle.floats.specs.Floats.{within, zero64}
use Rattle.nets.specs.Points.{points_of}
use Rattle.boxes.specs.declared.Aabb.{Aabb}
use Rattle.boxes.specs.Boxes.{everything, bounding_box}

-- 2^25
abbrev pub most_coordinate : Float
most_coordinate = of_bits binary64 0x4180_0000_0000_0000

-- 01: each divided coordinate lies within ±2^25
abbrev pub in_measure : List Float → Bool
in_measure pts = every (within (neg most_coordinate) most_coordinate) pts

-- the widths that 01 has: 2 to 26 points, four numbers each
unfoldable pub has_width : List Float → Bool
has_width net = cond (ltb (length net) 8) false (not (ltb 104 (length net)))

-- 01: a net is out of measure if a divided coordinate isn't within ±2^25; so is a list that has none of these widths
unfoldable pub out_of_measure : List Float → Bool
out_of_measure net = cond (has_width net) (not (in_measure (points_of net))) true

-- 01: the box of a net
unfoldable pub box_of : List Float → Aabb
box_of net = cond (out_of_measure net) everything (bounding_box (points_of net))

-- the points that the tests see: none of a net out of measure
unfoldable pub measured : List Float → List Float
measured net = cond (out_of_measure net) [] (points_of net)

-- `measure` writes the points to the start of out, where the net has a width
unfoldable pub measured_in : List Float → List Float → List Float
measured_in net out = cond (has_width net) (patch out 0 (points_of net)) out

-- the room for a net's points, at first
unfoldable pub room : List Float
room = replicate 78 zero64

-- the box of the points that the tests see; everything where there are none
unfoldable pub measured_box : List Float → Aabb
measured_box pts = cond (ltb (length pts) 3) everything (bounding_box pts)
