-- `run` is run_def. The loop's invariant: as many turns as are left, from here, give what the whole run gives. The measure is what is left, and one more until the search stops. Assumes nothing.
use mathlib.Core.Path.{◌≡◌}
use Prim.Native.Nat.{◌+◌}
use lib.ListN.{length}
use Rattle.states.specs.States.{memory}
use Rattle.nodes.specs.Nets.{geometry}
use Rattle.search.specs.Runs.{run_for}
use Rattle.search.proofs.Runs.{left, bit}
use Rattle.search.proofs.run.Given as goal

abbrev pub invariant-loop-p : goal.invariant-loop-p
invariant-loop-p l =
    (run_for geometry (left l.s + 1) l.s (memory l.nets1 l.nets2 l.ranges l.depths l.raw)
    ≡ run_for geometry (left l.initial.s + 1) l.initial.s (memory l.initial.nets1 l.initial.nets2 l.initial.ranges l.initial.depths l.initial.raw)) × (length l.nets1 ≡ length l.initial.nets1) × (length l.nets2 ≡ length l.initial.nets2)
    × (length l.ranges ≡ length l.initial.ranges) × (length l.depths ≡ length l.initial.depths) × (length l.raw ≡ length l.initial.raw) × (length l.p ≡ 78) × (length l.q ≡ 78)

abbrev pub decreases-loop-p : goal.decreases-loop-p
decreases-loop-p l = left l.s + bit l.s.tally.stopped
