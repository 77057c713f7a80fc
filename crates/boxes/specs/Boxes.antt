-- Boxes of points, and when two are apart (document 01, Boxes and tests). Definitions only.
use Rattle.std.specs.Prelude.{Bool, true, false, cond, Float}
use mathlib.Core.List.{List, foldl}
use Rattle.std.specs.Float.{binary64, inf}
use Rattle.std.specs.Float.Ieee.{add, sub, lt, le}
use Rattle.floats.specs.declared.Vector3D.{Vector3D}
use Rattle.floats.specs.Floats.{least, greatest}
use Rattle.floats.specs.Vectors.{norm_of}
use Rattle.boxes.specs.declared.Aabb.{Aabb}
use Rattle.boxes.specs.Points.{vectors}

-- the box from lo to hi along each axis
abbrev pub cube_of : Float → Float → Aabb
cube_of lo hi = record { x0 = lo; y0 = lo; z0 = lo; x1 = hi; y1 = hi; z1 = hi }

-- 01: the box of a net out of measure
abbrev pub everything : Aabb
everything = cube_of (inf true) (inf false)

-- the loop's body in `bounding_box`
abbrev pub grown : Aabb → Vector3D → Aabb
grown b v = record {
  x0 = least b.x0 v.x;
  y0 = least b.y0 v.y;
  z0 = least b.z0 v.z;
  x1 = greatest b.x1 v.x;
  y1 = greatest b.y1 v.y;
  z1 = greatest b.z1 v.z;
}

-- `bounding_box`
unfoldable pub bounding_box : List Float → Aabb
bounding_box pts = foldl grown (cube_of (inf false) (inf true)) (vectors pts)

-- a0 > b1 + gap || b0 > a1 + gap, in `boxes_apart` and `apart_along`
unfoldable pub apart_by : Float → Float → Float → Float → Float → Bool
apart_by gap a0 a1 b0 b1 = cond (lt (add binary64 b1 gap) a0) true (lt (add binary64 a1 gap) b0)

-- `boxes_apart`
unfoldable pub boxes_apart : Float → Aabb → Aabb → Bool
boxes_apart gap a b =
    cond (apart_by gap a.x0 a.x1 b.x0 b.x1) true
    (cond (apart_by gap a.y0 a.y1 b.y0 b.y1) true
    (apart_by gap a.z0 a.z1 b.z0 b.z1))

-- the three differences in `box_size`
abbrev pub sides_of : Aabb → Vector3D
sides_of b = record { x = sub binary64 b.x1 b.x0; y = sub binary64 b.y1 b.y0; z = sub binary64 b.z1 b.z0 }

-- `box_size`: the squares of the three sides, two sums in order, the root
unfoldable pub box_size : Aabb → Float
box_size b = norm_of (sides_of b)

-- sizes[1] >= sizes[0], in `Pairs::search`: the line with the larger box is halved, equal boxes the second; sizes are compared after the root
unfoldable pub second_halved : Aabb → Aabb → Bool
second_halved a b = le (box_size a) (box_size b)
