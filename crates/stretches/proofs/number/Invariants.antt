-- `number` is count_from. The invariant says that counting on from k gives the wanted list; the measure is how many are left. Assumes nothing.
use mathlib.Core.Path.{◌≡◌}
use mathlib.Core.List.{◌++◌}
use Prim.Native.Nat.{◌-◌}
use lib.ListN.{length, take}
use Rattle.machine.specs.Marks.{count_from}
use Rattle.stretches.proofs.number.Given as goal

abbrev pub invariant-loop-k : goal.invariant-loop-k
invariant-loop-k l = (length l.marks ≡ length l.initial.marks) × (take l.k l.marks ++ count_from l.k (length l.initial.marks - l.k) ≡ count_from 0 (length l.initial.marks))
