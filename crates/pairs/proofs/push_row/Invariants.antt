-- `push_row` pushes a row. The loop's invariant: the pairs of the row so far are pushed. Assumes nothing.
use mathlib.Core.Path.{◌≡◌}
use Prim.Native.Nat.{◌+◌}
use lib.ListN.{length}
use Rattle.pairs.specs.Pairs.{seen, row_from}
use Rattle.pairs.specs.Nodes.{Nodes, nodes, pushed}
use Rattle.pairs.proofs.push_row.Given as goal

abbrev pub invariant-loop-j : goal.invariant-loop-j
invariant-loop-j l =
    (◌≡◌ {A = Nodes} (nodes l.nets1 l.nets2 l.ranges l.depths) (pushed (seen l.p) (seen l.q) l.k0
    (row_from l.gap (seen l.p) (seen l.q) l.i l.j 0) (nodes l.initial.nets1 l.initial.nets2 l.initial.ranges l.initial.depths)))
    × (l.k ≡ l.k0 + length (row_from l.gap (seen l.p) (seen l.q) l.i l.j 0)) × (length l.nets1 ≡ length l.initial.nets1)
    × (length l.nets2 ≡ length l.initial.nets2) × (length l.ranges ≡ length l.initial.ranges) × (length l.depths ≡ length l.initial.depths)
