-- `levels` runs the levels one after the other. Assumes nothing.
use mathlib.Core.Path.{◌≡◌}
use Prim.Native.Nat.{◌-◌}
use Rattle.blends.specs.Blends.{alpha_of, end_of}
use Rattle.blends.specs.Table.{triangle}
use Rattle.blends.proofs.levels.Given as goal

abbrev pub invariant-loop-r : goal.invariant-loop-r
invariant-loop-r l =
    triangle (λ r. alpha_of l.near.p l.near.u l.near.knots.now (end_of l.near.p l.near.u l.near.knots.now l.k r) r) (l.near.p - l.r) l.r l.s
    ≡ triangle (λ r. alpha_of l.near.p l.near.u l.near.knots.now (end_of l.near.p l.near.u l.near.knots.now l.k r) r) l.near.p 0 l.initial.s
