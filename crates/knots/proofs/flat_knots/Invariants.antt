-- `flat_knots` fills: the knots stored and those to come are all; behind them nothing changes. Assumes nothing.
use mathlib.Core.Path.{◌≡◌}
use mathlib.Core.List.{◌++◌}
use Prim.Native.Nat.{◌+◌}
use lib.ListN.{take, drop}
use Rattle.lists.specs.Tests.{total}
use Rattle.knots.specs.Knots.{flat_knots}
use Rattle.knots.proofs.flat_knots.Given as goal

abbrev pub invariant-loop-i : goal.invariant-loop-i
invariant-loop-i l =
    (l.at + total (drop l.i l.mults) ≡ total l.mults) × (drop l.at l.out ≡ drop l.at l.initial.out)
    × (take l.at l.out ++ flat_knots (drop l.i l.knots) (drop l.i l.mults) ≡ flat_knots l.knots l.mults)
