-- `mark_row` is row_marks. The invariant says that the places left give the wanted marks; the measure is how many are left. Assumes nothing.
use mathlib.Core.Path.{◌≡◌}
use Prim.Native.Nat.{◌≤◌}
use lib.ListN.{length}
use Rattle.machine.specs.Marks.{row_marks}
use Rattle.stretches.specs.Stretches.{near_in}
use Rattle.stretches.proofs.mark_row.Given as goal

abbrev pub invariant-loop-j : goal.invariant-loop-j
invariant-loop-j l = (length l.marks ≡ length l.initial.marks)
    × (l.j ≤ l.i)
    × (row_marks (near_in l.s1 l.s2 l.out) l.i l.j l.marks ≡ row_marks (near_in l.s1 l.s2 l.out) l.i l.i l.initial.marks)
