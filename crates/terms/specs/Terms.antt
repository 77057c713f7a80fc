-- The seams of the two asked ranges (document 02, M-101). Definitions only.
use Rattle.verdicts.specs.declared.Side.{Side}
use Rattle.verdicts.specs.declared.Side.TheVariants.{First, Second}
use Rattle.terms.specs.declared.Terms.{Terms}
use Rattle.terms.specs.declared.Seam.{Seam}

-- "On a closed line searched for a whole turn, the start and the end are one place": the asked lo and the asked hi (`seam_on`)
abbrev pub seam_of : Side → Terms → Seam
seam_of First t = record { whole = t.turn1; lo = t.lo1; hi = t.hi1 }
seam_of Second t = record { whole = t.turn2; lo = t.lo2; hi = t.hi2 }
