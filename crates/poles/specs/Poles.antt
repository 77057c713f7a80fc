-- The poles of a line: their weights, and pole by pole as four numbers. Definitions only.
use Rattle.std.specs.Prelude.{ℕ, zero, suc, ◌+◌, ◌*◌, ◌/◌, cond, List, [], ◌∷◌, get_or, length, ltb, Float}
use Rattle.std.specs.Float.{binary64, nan}
use Rattle.std.specs.Float.Ieee.{mul}
use Rattle.floats.specs.Floats.{one64}
use Rattle.points.specs.declared.Point4D.{Point4D}

-- how many poles: three coordinates each
abbrev pub pole_count : List Float → ℕ
pole_count coords = length coords / 3

-- weight i, and 1 where there is none: no weights means every weight is 1
unfoldable pub weight_of : List Float → ℕ → Float
weight_of weights i = cond (ltb i (length weights)) (get_or weights i nan) one64

-- `Poles::homogeneous`: pole i as x w, y w, z w, w
unfoldable pub homogeneous_of : List Float → List Float → ℕ → Point4D
homogeneous_of coords weights i = record {
  x = mul binary64 (get_or coords (3 * i) nan) (weight_of weights i);
  y = mul binary64 (get_or coords (3 * i + 1) nan) (weight_of weights i);
  z = mul binary64 (get_or coords (3 * i + 2) nan) (weight_of weights i);
  w = weight_of weights i;
}

-- n poles from pole i on, four numbers each
unfoldable pub homogeneous_poles : List Float → List Float → ℕ → ℕ → List Float
homogeneous_poles coords weights zero i = []
homogeneous_poles coords weights (suc n) i =
    (homogeneous_of coords weights i).x ∷ (homogeneous_of coords weights i).y ∷ (homogeneous_of coords weights i).z ∷ (homogeneous_of coords weights i).w ∷
    homogeneous_poles coords weights n (suc i)
