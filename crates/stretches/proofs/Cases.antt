-- The marks of small lists of regions, by computation. Assumes nothing.
use mathlib.Core.Path.{refl}
use lib.Ieee.{le, eq, of_bits}
use Rattle.stretches.specs.Cases.{Corners, Three, Gaps}

pub corners_marked : Corners
unfolding le eq of_bits
corners_marked = (refl, refl, refl, refl)

pub three_marked : Three
unfolding le eq of_bits
three_marked = (refl, refl, refl, refl)

pub gaps_marked : Gaps
unfolding le eq of_bits
gaps_marked = refl
