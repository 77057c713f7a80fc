-- `insert` puts region k in its place. The invariant, Inserting, says that inserting behind j gives the wanted list; the measure is how many are behind. Assumes nothing.
use Prim.Native.Nat.{◌-◌}
use Rattle.regions.proofs.Sorting.{Inserting}
use Rattle.regions.proofs.insert.Given as goal

abbrev pub invariant-loop-j : goal.invariant-loop-j
invariant-loop-j l = Inserting l.k l.n l.r l.initial.out l.out l.j

abbrev pub decreases-loop-j : goal.decreases-loop-j
decreases-loop-j l = l.n - l.j
