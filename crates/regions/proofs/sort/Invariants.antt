-- `sort` orders the regions. The invariant, Sorting, says that those from k on are ordered and those before as they were; the measure is k. Assumes nothing.
use Rattle.regions.proofs.Sorting.{Sorting}
use Rattle.regions.proofs.sort.Given as goal

abbrev pub invariant-loop-k : goal.invariant-loop-k
invariant-loop-k l = Sorting l.n l.initial.out l.out l.k
