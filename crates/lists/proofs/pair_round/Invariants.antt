-- `pair_round`: the numbers before x are joined. Assumes nothing.
use mathlib.Core.Path.{◌≡◌}
use mathlib.Core.List.{◌++◌}
use Prim.Native.Nat.{◌-◌}
use lib.ListN.{take, drop}
use lib.Ieee.{Float}
use Rattle.lists.specs.Rounds.{paired, Joins}
use Rattle.lists.proofs.pair_round.Given as goal

abbrev pub invariant-loop-x : goal.invariant-loop-x
invariant-loop-x g l = (j : Float → Float → Float) → Joins g.F.Fn j l.join → take l.x l.s ++ paired j l.d (l.m - l.x) (drop l.x l.s) ≡ paired j l.d l.m l.initial.s
