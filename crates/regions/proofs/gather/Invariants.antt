-- `gather` takes the raw regions from the end. The invariant, Gathering, says that those left give the wanted list; the measure is how many are left. Assumes nothing.
use Rattle.regions.proofs.Passes.{Gathering}
use Rattle.regions.proofs.gather.Given as goal

abbrev pub invariant-loop-i : goal.invariant-loop-i
invariant-loop-i l = Gathering l.raw l.n l.initial.out l.out l.m l.i
