-- A line a region: before each turn the first `k` are written. Assumes nothing.
use mathlib.Core.Path.{◌≡◌}
use Prim.Native.Nat.{◌+◌, ◌*◌, ◌≤◌}
use lib.ListN.{length}
use Rattle.texts.specs.Texts.{Wrote}
use Rattle.printing.specs.Printed.{region_length, region_lines}
use Rattle.printing.proofs.put_regions.Given as goal

abbrev pub invariant-loop-k : goal.invariant-loop-k
invariant-loop-k l = (length l.out ≡ length l.initial.out) × Wrote l.initial.out l.at (region_lines l.k l.list l.marks) l.out l.here × (l.here ≤ l.at + region_length * l.k)
