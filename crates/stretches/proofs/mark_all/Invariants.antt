-- `mark_all` is marks_of. The invariant says that the places left give the wanted marks; the measure is how many are left. Assumes nothing.
use mathlib.Core.Path.{◌≡◌}
use Prim.Native.Nat.{◌≤◌}
use lib.ListN.{length}
use Rattle.machine.specs.Marks.{all_marks}
use Rattle.stretches.specs.Stretches.{near_in}
use Rattle.stretches.proofs.mark_all.Given as goal

abbrev pub invariant-loop-i : goal.invariant-loop-i
invariant-loop-i l = (length l.marks ≡ length l.initial.marks)
    × (l.i ≤ length l.initial.marks)
    × (l.initial.i ≡ length l.initial.marks)
    × (all_marks (near_in l.s1 l.s2 l.out) l.i l.marks ≡ all_marks (near_in l.s1 l.s2 l.out) l.initial.i l.initial.marks)
