-- How many decimal digits a number has: passed and still to come they are the same at each turn. Assumes nothing.
use mathlib.Core.Path.{◌≡◌}
use Prim.Native.Nat.{◌+◌}
use Rattle.texts.specs.Texts.{places_in}
use Rattle.texts.proofs.places.Given as goal

abbrev pub invariant-loop-left : goal.invariant-loop-left
invariant-loop-left l = l.k + places_in l.left l.left ≡ 1 + places_in l.n l.n

abbrev pub decreases-loop-left : goal.decreases-loop-left
decreases-loop-left l = l.left
