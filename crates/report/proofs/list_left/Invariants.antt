-- `list_left` writes the regions one behind the other. The loop's invariant: those of the nodes so far stand there. Assumes nothing.
use mathlib.Core.Path.{◌≡◌}
use Prim.Native.Nat.{◌*◌}
use lib.ListN.{length}
use Rattle.lists.specs.Parts.{patch}
use Rattle.regions.specs.Regions.{flats}
use Rattle.nodes.specs.Nets.{geometry}
use Rattle.report.specs.Reports.{left_regions}
use Rattle.report.proofs.list_left.Given as goal

abbrev pub invariant-loop-k : goal.invariant-loop-k
invariant-loop-k l =
    (length l.raw ≡ length l.initial.raw) × (l.raw ≡ patch l.initial.raw (l.given * 10) (flats (left_regions geometry l.st l.nets1 l.nets2 l.ranges l.k)))
