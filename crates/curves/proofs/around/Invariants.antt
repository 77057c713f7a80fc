-- `around` is around_of: a pole a turn of the loop. Assumes nothing.
use mathlib.Core.Path.{◌≡◌}
use mathlib.Core.List.{◌++◌}
use Prim.Native.Nat.{◌+◌, ◌-◌, ◌*◌}
use lib.ListN.{take}
use Rattle.curves.specs.Curves.{around_of}
use Rattle.curves.proofs.around.Given as goal

abbrev pub invariant-loop-j : goal.invariant-loop-j
invariant-loop-j l = take (4 * l.j) l.out ++ around_of l.n l.m (l.n + l.p - l.j) l.j l.poles ≡ around_of l.n l.m (l.n + l.p) 0 l.poles
