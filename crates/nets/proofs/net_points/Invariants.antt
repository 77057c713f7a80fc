-- `net_points` is points_of: i points are divided. Assumes nothing.
use mathlib.Core.Path.{◌≡◌}
use mathlib.Core.List.{◌++◌}
use Prim.Native.Nat.{◌*◌}
use lib.ListN.{take, drop}
use Rattle.nets.specs.Points.{points_of}
use Rattle.nets.proofs.net_points.Given as goal

abbrev pub invariant-loop-i : goal.invariant-loop-i
invariant-loop-i l = take (l.i * 3) l.out ++ points_of (drop (l.i * 4) l.net) ≡ points_of l.net
