-- `cut_to` keeps the first point of each round. Assumes nothing.
use mathlib.Core.Path.{◌≡◌}
use mathlib.Core.List.{◌++◌}
use Prim.Native.Nat.{◌-◌, ◌*◌}
use lib.ListN.{take}
use Rattle.cuts.specs.Cuts.{up_to_of}
use Rattle.cuts.proofs.cut_to.Given as goal

abbrev pub invariant-loop-r : goal.invariant-loop-r
invariant-loop-r l = take (l.r * 4) l.low ++ up_to_of l.f (l.n - l.r) l.s ≡ up_to_of l.f l.n l.initial.s
