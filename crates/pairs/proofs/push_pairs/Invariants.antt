-- `push_pairs` pushes the pairs of all rows. The loop's invariant: the rows so far are pushed. Assumes nothing.
use mathlib.Core.Path.{◌≡◌}
use Prim.Native.Nat.{◌+◌}
use lib.ListN.{length}
use Rattle.pairs.specs.Pairs.{seen, pairs_from}
use Rattle.pairs.specs.Nodes.{Nodes, nodes, pushed}
use Rattle.pairs.proofs.push_pairs.Given as goal

abbrev pub invariant-loop-i : goal.invariant-loop-i
invariant-loop-i l =
    (◌≡◌ {A = Nodes} (nodes l.nets1 l.nets2 l.ranges l.depths) (pushed (seen l.p) (seen l.q) 0
    (pairs_from l.gap (seen l.p) (seen l.q) (length l.boxes2) l.i 0) (nodes l.initial.nets1 l.initial.nets2 l.initial.ranges l.initial.depths)))
    × (l.k ≡ 0 + length (pairs_from l.gap (seen l.p) (seen l.q) (length l.boxes2) l.i 0)) × (length l.nets1 ≡ length l.initial.nets1)
    × (length l.nets2 ≡ length l.initial.nets2) × (length l.ranges ≡ length l.initial.ranges) × (length l.depths ≡ length l.initial.depths)
