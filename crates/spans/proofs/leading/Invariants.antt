-- `leading`: the numbers before i pass. Assumes nothing.
use mathlib.Core.Path.{◌≡◌}
use mathlib.Core.Bool.{Bool}
use Prim.Native.Nat.{◌+◌}
use lib.ListN.{drop}
use lib.Ieee.{Float}
use Rattle.spans.specs.Spans.{leading, Tests}
use Rattle.spans.proofs.leading.Given as goal

abbrev pub invariant-loop-i : goal.invariant-loop-i
invariant-loop-i g l = (t : Float → Bool) → Tests g.F.Fn t l.test → l.i + leading t (drop l.i l.s) ≡ leading t l.s
