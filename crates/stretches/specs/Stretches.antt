-- Which regions are neighbours (document 02, M-101). Definitions only.
use Rattle.std.specs.Prelude.{List, [], Bool, ◌&&◌, ◌||◌, ℕ, get_or, Float}
use Rattle.std.specs.Float.Ieee.{eq}
use Rattle.lists.specs.Parts.{block}
use Rattle.terms.specs.declared.Seam.{Seam}
use Rattle.regions.specs.declared.Region.{Region}
use Rattle.regions.specs.Regions.{meet_of, region_at}

-- "Two ranges meet over the seam if the line is closed, its asked hi − lo, as rounded, is the period, and one starts at the asked lo while the other ends at the asked hi" (`over_seam`).
-- `whole` is the first two; the zeros are equal.
abbrev pub over_seam : Seam → Float → Float → Float → Float → Bool
over_seam s a0 a1 b0 b1 = s.whole && ((eq a0 s.lo && eq b1 s.hi) || (eq b0 s.lo && eq a1 s.hi))

-- plainly or over the seam (`near_on`)
abbrev pub near_on : Seam → Float → Float → Float → Float → Bool
near_on s a0 a1 b0 b1 = meet_of a0 a1 b0 b1 || over_seam s a0 a1 b0 b1

-- "Two regions are neighbours if on each line they meet plainly or over the seam": each line by itself (`neighbours`)
abbrev pub neighbours_of : Seam → Seam → Region → Region → Bool
neighbours_of s1 s2 r q = near_on s1 r.a0 r.a1 q.a0 q.a1 && near_on s2 r.b0 r.b1 q.b0 q.b1

-- places i and j of a list of regions
abbrev pub near_at : Seam → Seam → List Region → ℕ → ℕ → Bool
near_at s1 s2 rs i j = neighbours_of s1 s2 (get_or rs i (region_at [])) (get_or rs j (region_at []))

-- the same of the floats of regions as they stand in a slice
abbrev pub near_in : Seam → Seam → List Float → ℕ → ℕ → Bool
near_in s1 s2 l i j = neighbours_of s1 s2 (region_at (block 10 i l)) (region_at (block 10 j l))
