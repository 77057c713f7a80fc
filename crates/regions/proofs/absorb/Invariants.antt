-- `absorb` is take_in. The invariant, Passes, says that the passes left give what all passes give; the measure is how many regions the last pass had. Assumes nothing.
use Rattle.regions.proofs.Passes.{Passes}
use Rattle.regions.proofs.absorb.Given as goal

abbrev pub invariant-loop-s : goal.invariant-loop-s
invariant-loop-s l = Passes l.initial.out l.initial.had l.initial.s l.out l.had l.s

abbrev pub decreases-loop-s : goal.decreases-loop-s
decreases-loop-s l = l.had
