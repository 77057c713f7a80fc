-- Regions of ten floats and their merging (document 01, module Merging; `CurveCurveRegion` and completeness.rs of the Rust). Definitions only.
use Rattle.std.specs.Prelude.{List, [], ◌∷◌, ◌++◌, Bool, ◌&&◌, ℕ, zero, suc, get_or, drop, Float}
use Rattle.std.specs.Float.{nan}
use Rattle.std.specs.Float.Ieee.{lt, le}
use Rattle.floats.specs.Floats.{least, greatest}
use Rattle.machine.specs.Merge.{Merging}
use Rattle.regions.specs.declared.Region.{Region}

-- `meet`: two closed ranges meet
abbrev pub meet_of : Float → Float → Float → Float → Bool
meet_of a0 a1 b0 b1 = le a0 b1 && le b0 a1

-- `touches`: the ranges of both lines meet; the boxes take no part
abbrev pub touches_of : Region → Region → Bool
touches_of r q = meet_of r.a0 r.a1 q.a0 q.a1 && meet_of r.b0 r.b1 q.b0 q.b1

-- `union`: the smallest ranges (`span`) and the smallest box (`box_union`) that hold both
abbrev pub union_of : Region → Region → Region
union_of r q = record {
  a0 = least r.a0 q.a0;
  a1 = greatest r.a1 q.a1;
  b0 = least r.b0 q.b0;
  b1 = greatest r.b1 q.b1;
  x0 = least r.x0 q.x0;
  y0 = least r.y0 q.y0;
  z0 = least r.z0 q.z0;
  x1 = greatest r.x1 q.x1;
  y1 = greatest r.y1 q.y1;
  z1 = greatest r.z1 q.z1;
}

-- what `merged` needs of a region: `touches`, `union`, and the order by first start, in which zeros are equal
abbrev pub merging : Merging
merging = record { Region = Region; touch = touches_of; join = union_of; before = λ r q. lt r.a0 q.a0 }

-- ---- regions as flat floats
abbrev pub flat : Region → List Float
flat r = r.a0 ∷ r.a1 ∷ r.b0 ∷ r.b1 ∷ r.x0 ∷ r.y0 ∷ r.z0 ∷ r.x1 ∷ r.y1 ∷ r.z1 ∷ []

abbrev pub flats : List Region → List Float
flats [] = []
flats (r ∷ rs) = flat r ++ flats rs

-- the region whose ten floats stand first in a list
abbrev pub region_at : List Float → Region
region_at l = record {
  a0 = get_or l 0 nan;
  a1 = get_or l 1 nan;
  b0 = get_or l 2 nan;
  b1 = get_or l 3 nan;
  x0 = get_or l 4 nan;
  y0 = get_or l 5 nan;
  z0 = get_or l 6 nan;
  x1 = get_or l 7 nan;
  y1 = get_or l 8 nan;
  z1 = get_or l 9 nan;
}

-- the first n regions of a list
abbrev pub regions_in : ℕ → List Float → List Region
regions_in zero l = []
regions_in (suc n) l = region_at l ∷ regions_in n (drop 10 l)
