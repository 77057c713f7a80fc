-- `breaks_of` fills: the breaks stored and those to come are all; behind the next one nothing changes. Assumes nothing.
use mathlib.Core.Path.{◌≡◌}
use mathlib.Core.List.{[], ◌∷◌, ◌++◌}
use Prim.Native.Nat.{◌+◌, ◌≤◌}
use lib.ListN.{take, drop}
use Rattle.knots.specs.Knots.{between, breaks_in}
use Rattle.knots.proofs.breaks_of.Given as goal

abbrev pub invariant-loop-k : goal.invariant-loop-k
invariant-loop-k l =
    (1 ≤ l.n) × (l.n ≤ l.k-index + 1) × (drop l.n l.out ≡ drop l.n l.initial.out)
    × (take l.n l.out ++ between l.r.lo l.r.hi (drop l.k-index l.knots) (l.r.hi ∷ []) ≡ breaks_in l.r.lo l.r.hi l.knots)
