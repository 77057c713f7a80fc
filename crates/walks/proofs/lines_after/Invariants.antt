-- The lines of a chart. The loop's invariant: so many lines are passed. The measure is the bytes that are left. Assumes nothing.
use Prim.Native.Nat.{◌-◌, ◌≤◌}
use lib.ListN.{length}
use Rattle.walks.proofs.Charts.{Passed}
use Rattle.walks.proofs.lines_after.Given as goal

abbrev pub invariant-loop-place : goal.invariant-loop-place
invariant-loop-place l = (l.place ≤ length l.s) × (l.count ≤ l.place) × Passed l.s l.at l.place l.count

abbrev pub decreases-loop-place : goal.decreases-loop-place
decreases-loop-place l = length l.s - l.place
