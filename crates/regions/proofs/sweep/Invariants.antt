-- `sweep` is one pass. The invariant, Pass, says that what is left to test gives the wanted region and list; the measure is how many are left. Assumes nothing.
use Rattle.regions.proofs.Passes.{Pass}
use Rattle.regions.proofs.sweep.Given as goal

abbrev pub invariant-loop-i : goal.invariant-loop-i
invariant-loop-i l = Pass l.n l.initial.s.grown l.initial.out l.out l.s l.i
