-- What later layers say of a double: that it is a number, and how large it may be. Definitions only.
use Rattle.std.specs.Prelude.{ℕ, ◌*◌, ◌≤◌, Float}
use Rattle.std.specs.Float.{nan, inf, fin}
use Rattle.std.specs.Float.Ieee.{up, down}

-- not a NaN
abbrev pub Number : Float → Type 0
Number nan = ⊥
Number (inf s) = Unit {0}
Number (fin s m e) = Unit {0}

-- finite, and at most C in size
abbrev pub Within : ℕ → Float → Type 0
Within C nan = ⊥
Within C (inf s) = ⊥
Within C (fin s m e) = m * up e ≤ C * down e
