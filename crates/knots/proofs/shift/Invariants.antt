-- `shift`: the numbers stored and those to come are all, shifted. Assumes nothing.
use mathlib.Core.Path.{◌≡◌}
use mathlib.Core.List.{◌++◌}
use lib.ListN.{take, drop}
use Rattle.knots.specs.Knots.{shifted}
use Rattle.knots.proofs.shift.Given as goal

abbrev pub invariant-loop-i : goal.invariant-loop-i
invariant-loop-i l = take l.i l.out ++ shifted l.d (drop l.i l.s) ≡ shifted l.d l.s
