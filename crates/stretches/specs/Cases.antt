-- The marks of small lists of regions (document 02, M-101). Definitions only.
use Rattle.std.specs.Prelude.{◌≡◌, List, [], ◌∷◌, true, false, ℕ, length, Float}
use Rattle.std.specs.Float.{binary64}
use Rattle.std.specs.Float.Ieee.{of_bits}
use Rattle.floats.specs.Floats.{zero64, one64, half64}
use Rattle.machine.specs.Marks.{marks_of}
use Rattle.terms.specs.declared.Seam.{Seam}
use Rattle.regions.specs.declared.Region.{Region}
use Rattle.regions.specs.Regions.{region_at}
use Rattle.stretches.specs.Stretches.{near_at}

-- 1/4, 5/8 and 3/4
abbrev pub quarter64 : Float
quarter64 = of_bits binary64 0x3fd0_0000_0000_0000

abbrev pub five_eighths64 : Float
five_eighths64 = of_bits binary64 0x3fe4_0000_0000_0000

abbrev pub three_quarters64 : Float
three_quarters64 = of_bits binary64 0x3fe8_0000_0000_0000

-- a closed line asked for its whole turn from 0 to 1, and an open line asked from 0 to 1
abbrev pub turn : Seam
turn = record { whole = true; lo = zero64; hi = one64 }

abbrev pub no_turn : Seam
no_turn = record { whole = false; lo = zero64; hi = one64 }

-- a region by its ranges; its corners take no part
abbrev pub ranged : Float → Float → Float → Float → Region
ranged a0 a1 b0 b1 = region_at (a0 ∷ a1 ∷ b0 ∷ b1 ∷ [])

abbrev pub marks_in : Seam → Seam → List Region → List ℕ
marks_in s1 s2 rs = marks_of (length rs) (near_at s1 s2 rs)

-- ---- four regions in the corners: one group on two closed lines, two on one closed line, four on none
abbrev pub corners : List Region
corners =
    ranged zero64 quarter64 zero64 quarter64
    ∷ ranged zero64 quarter64 three_quarters64 one64
    ∷ ranged three_quarters64 one64 zero64 quarter64
    ∷ ranged three_quarters64 one64 three_quarters64 one64
    ∷ []

abbrev pub Corners : Type 0
Corners = (marks_in turn turn corners ≡ (0 ∷ 0 ∷ 0 ∷ 0 ∷ []))
    × (marks_in turn no_turn corners ≡ (0 ∷ 1 ∷ 0 ∷ 1 ∷ []))
    × (marks_in no_turn turn corners ≡ (0 ∷ 0 ∷ 2 ∷ 2 ∷ []))
    × (marks_in no_turn no_turn corners ≡ (0 ∷ 1 ∷ 2 ∷ 3 ∷ []))

-- ---- a chain of three: the first two are no neighbours, and the last is a neighbour of both
abbrev pub three : List Region
three =
    ranged zero64 quarter64 zero64 quarter64 ∷ ranged zero64 quarter64 half64 three_quarters64 ∷ ranged three_quarters64 one64 quarter64 half64 ∷ []

abbrev pub Three : Type 0
Three = (near_at turn no_turn three 0 1 ≡ false) × (near_at turn no_turn three 0 2 ≡ true) × (near_at turn no_turn three 1 2 ≡ true) × (marks_in turn no_turn three ≡ (0 ∷ 0 ∷ 0 ∷ []))

-- ---- marks with gaps: the third is the first one's neighbour, the second starts past lo, the fourth meets the first on one line only
abbrev pub gaps : List Region
gaps =
    ranged zero64 quarter64 zero64 quarter64
    ∷ ranged half64 five_eighths64 zero64 quarter64
    ∷ ranged three_quarters64 one64 zero64 quarter64
    ∷ ranged three_quarters64 one64 half64 three_quarters64
    ∷ []

abbrev pub Gaps : Type 0
Gaps = marks_in turn no_turn gaps ≡ (0 ∷ 1 ∷ 0 ∷ 3 ∷ [])
