-- `points` fills, one point a turn. Assumes nothing.
use mathlib.Core.Path.{◌≡◌}
use mathlib.Core.List.{◌++◌}
use Prim.Native.Nat.{◌+◌, ◌-◌, ◌*◌}
use lib.ListN.{take}
use Rattle.blends.specs.Blends.{points_from}
use Rattle.blends.proofs.points.Given as goal

abbrev pub invariant-loop-k : goal.invariant-loop-k
invariant-loop-k l = take (4 * l.k) l.out ++ points_from l.near.p l.near.u l.near.knots.now l.poles (l.near.p + 1 - l.k) l.k ≡ points_from l.near.p l.near.u l.near.knots.now l.poles (l.near.p + 1) 0
