-- `weigh` adds up: what is added and what is to come are the whole. Assumes nothing.
use mathlib.Core.Path.{◌≡◌}
use Prim.Native.Nat.{◌-◌}
use Rattle.blends.specs.Blends.{nothing}
use Rattle.blends.specs.Table.{weighed}
use Rattle.blends.proofs.weigh.Given as goal

abbrev pub invariant-loop-j : goal.invariant-loop-j
invariant-loop-j l = weighed l.q (l.n - l.j) l.j l.row l.poles ≡ weighed nothing l.n 0 l.row l.poles
