-- Where a pair of stations lies in a region, and one region in another (document 01, demand 3: a range holds both its ends). Definitions only.
use Rattle.std.specs.Prelude.{T, Float}
use Rattle.std.specs.Float.Ieee.{le}
use Rattle.floats.specs.Stations.{InRange}
use Rattle.floats.specs.Sizes.{Number}
use Rattle.regions.specs.declared.Region.{Region}

-- s in the range of the first line, t in that of the second
abbrev pub InRegion : Float → Float → Region → Type 0
InRegion s t r = InRange r.a0 r.a1 s × InRange r.b0 r.b1 t

-- no end of a range is a NaN
abbrev pub Valid : Region → Type 0
Valid r = Number r.a0 × Number r.a1 × Number r.b0 × Number r.b1

-- both ranges of the first region lie in those of the second
abbrev pub Inside : Region → Region → Type 0
Inside r q = (T (le q.a0 r.a0) × T (le r.a1 q.a1)) × (T (le q.b0 r.b0) × T (le r.b1 q.b1))
