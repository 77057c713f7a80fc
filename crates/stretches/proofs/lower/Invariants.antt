-- `lower` is relabel. The invariant says that relabelling from k on gives the wanted list; the measure is how many are left. Assumes nothing.
use mathlib.Core.Path.{◌≡◌}
use mathlib.Core.List.{◌++◌}
use lib.ListN.{length, take, drop}
use Rattle.machine.specs.Marks.{relabel}
use Rattle.stretches.proofs.lower.Given as goal

abbrev pub invariant-loop-m : goal.invariant-loop-m
invariant-loop-m l = (length l.marks ≡ length l.initial.marks) × (take l.m-index l.marks ++ relabel l.from l.to (drop l.m-index l.marks) ≡ relabel l.from l.to l.initial.marks)
