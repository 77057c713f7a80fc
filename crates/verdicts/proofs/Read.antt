-- Each verdict is read back from its number. Assumes nothing.
use mathlib.Core.Path.{refl}
use Rattle.verdicts.specs.declared.Test.TheVariants.{Box, Plane, Line}
use Rattle.verdicts.specs.declared.Verdict.TheVariants.{Settled, Split, Unseparated}
use Rattle.verdicts.specs.Verdicts.{VerdictsRead}

pub verdicts_read : VerdictsRead
verdicts_read (Settled Box) = refl
verdicts_read (Settled Plane) = refl
verdicts_read (Settled Line) = refl
verdicts_read Split = refl
verdicts_read Unseparated = refl
