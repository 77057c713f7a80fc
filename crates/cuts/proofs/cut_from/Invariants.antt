-- `cut_from` leaves what remains of its rounds. Assumes nothing.
use mathlib.Core.Path.{◌≡◌}
use Prim.Native.Nat.{◌-◌}
use Rattle.cuts.specs.Cuts.{from_of}
use Rattle.cuts.proofs.cut_from.Given as goal

abbrev pub invariant-loop-r : goal.invariant-loop-r
invariant-loop-r l = from_of l.f (l.n - l.r) l.s ≡ from_of l.f l.n l.initial.s
