-- What the search takes from the geometry, and one line's range and net as a part of the machine. Definitions only.
use Rattle.std.specs.Prelude.{List, [], ◌∷◌, Bool, get_or, Float}
use Rattle.std.specs.Float.{nan}
use Rattle.floats.specs.Stations.{InRange, Piece}
use Rattle.verdicts.specs.declared.Verdict.{Verdict}
use Rattle.floats.specs.Floats.{middle}
use Rattle.machine.specs.Machine.{Shape, Node, part_of}
use Rattle.regions.specs.declared.Region.{Region}
use Rattle.states.specs.States.{limit}

-- the lowest and the highest corner of a box
pub record Corners : Type 0 where
  pub x0 : Float
  pub y0 : Float
  pub z0 : Float
  pub x1 : Float
  pub y1 : Float
  pub z1 : Float

-- The operations on nets that the search uses. What is proved of the search holds for any; the library's are in Nets.
pub record Geometry : Type 0 where
  pub lower_net : List Float → List Float
  pub upper_net : List Float → List Float
  -- two nets' boxes are apart by the gap; what the clearing tests give; the second line is the one to halve; the box of both nets
  pub boxes_apart : Float → List Float → List Float → Bool
  pub clearing : Float → List Float → List Float → Verdict
  pub second_halved : List Float → List Float → Bool
  pub corners : List Float → List Float → Corners

-- `split` of the Rust: a half has half the net, and its range holds the middle
abbrev pub lower_half : Geometry → Piece → Piece
lower_half G p = record { lo = p.lo; hi = middle p.lo p.hi; net = G.lower_net p.net }

abbrev pub upper_half : Geometry → Piece → Piece
upper_half G p = record { lo = middle p.lo p.hi; hi = p.hi; net = G.upper_net p.net }

abbrev pub floats : Geometry → Float → Shape
floats G gap = record {
  Part = Piece;
  Station = Float;
  Holds = λ p s. InRange p.lo p.hi s;
  lower = lower_half G;
  upper = upper_half G;
  apart = λ p q. G.boxes_apart gap p.net q.net;
  second = λ p q. G.second_halved p.net q.net;
  limit = limit;
}

-- `region` of the Rust: a node's ranges, and the box of both its nets
abbrev pub region_with : Corners → List Float → Region
region_with c l = record { a0 = get_or l 0 nan; a1 = get_or l 1 nan; b0 = get_or l 2 nan; b1 = get_or l 3 nan; x0 = c.x0; y0 = c.y0; z0 = c.z0; x1 = c.x1; y1 = c.y1; z1 = c.z1 }

abbrev pub region_for : Geometry → Piece → Piece → Region
region_for G p q = region_with (G.corners p.net q.net) (p.lo ∷ p.hi ∷ q.lo ∷ q.hi ∷ [])

abbrev pub region_of : (G : Geometry) (gap : Float) → Node (floats G gap) → Region
region_of G gap n = region_for G (part_of (floats G gap) n.a) (part_of (floats G gap) n.b)
