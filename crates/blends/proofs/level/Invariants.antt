-- `level` is one level of the table: the rows done and those to come are all. Assumes nothing.
use mathlib.Core.Path.{◌≡◌}
use mathlib.Core.List.{◌++◌}
use Prim.Native.Nat.{◌+◌, ◌-◌, ◌*◌}
use lib.ListN.{take, drop}
use Rattle.blends.specs.Blends.{alpha_of}
use Rattle.blends.specs.Table.{level_of}
use Rattle.blends.proofs.level.Given as goal

abbrev pub invariant-loop-i : goal.invariant-loop-i
invariant-loop-i l =
    take (27 * l.i) l.s ++ level_of (alpha_of l.near.p l.near.u l.near.knots.now l.x l.r) (l.r + 2) (l.near.p - l.r - l.i) l.i (drop (27 * l.i) l.s)
    ≡ level_of (alpha_of l.near.p l.near.u l.near.knots.now l.x l.r) (l.r + 2) (l.near.p - l.r) 0 l.initial.s
