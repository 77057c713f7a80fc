-- `halve` is upper_of and lower_of: r rounds are done. Assumes nothing.
use mathlib.Core.Path.{◌≡◌}
use mathlib.Core.List.{◌++◌}
use Prim.Native.Nat.{◌*◌, ◌-◌}
use lib.ListN.{take}
use Rattle.lists.specs.Rounds.{remains, firsts}
use Rattle.floats.specs.Floats.{middle}
use Rattle.nets.specs.Halving.{upper_of, lower_of}
use Rattle.nets.proofs.halve.Given as goal

abbrev pub invariant-loop-r : goal.invariant-loop-r
invariant-loop-r l = record {
  up : remains middle (l.w - l.r) l.upper ≡ upper_of l.w l.initial.upper;
  low : take (l.r * 4) l.lower ++ firsts middle (l.w - l.r) l.upper ≡ lower_of l.w l.initial.upper;
}
