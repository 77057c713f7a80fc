-- `count_pairs`: the rows so far are counted. Assumes nothing.
use mathlib.Core.Path.{◌≡◌}
use Prim.Native.Nat.{◌*◌, ◌≤◌}
use lib.ListN.{length, take}
use Rattle.pairs.specs.BoxLists.{near_all}
use Rattle.pairs.proofs.count_pairs.Given as goal

abbrev pub invariant-loop-a : goal.invariant-loop-a
invariant-loop-a l = (l.count ≡ near_all l.gap l.boxes2 (take l.a-index l.boxes1)) × (l.count ≤ l.a-index * length l.boxes2)
