-- `start` makes the table of level 0, one row a turn. Assumes nothing.
use mathlib.Core.Path.{◌≡◌}
use mathlib.Core.List.{◌++◌}
use Prim.Native.Nat.{◌-◌, ◌*◌}
use lib.ListN.{replicate}
use Rattle.floats.specs.Floats.{zero64}
use Rattle.blends.specs.Table.{units}
use Rattle.blends.proofs.start.Given as goal

abbrev pub invariant-loop-i : goal.invariant-loop-i
invariant-loop-i l = l.s ≡ units (27 * l.i) 0 ++ replicate (702 - 27 * l.i) zero64
