-- What admission says of the lengths of a line's lists, as `with_poles` asks it. Assumes nothing.
use mathlib.Core.Path.{◌≡◌}
use mathlib.Core.Bool.{Bool, true, false}
use mathlib.Core.List.{List}
use Prim.Native.Nat.{ℕ, ◌+◌, ◌-◌, ◌≤◌}
use native.Mathlib.Omega.{arith}
use borrow.Author.Tests.{ltb-true}
use lib.Dec.{ltb}
use lib.ListN.{length}
use Rattle.lists.specs.Tests.{every, total}
use Rattle.lines.specs.Lines.{Line}
use Rattle.lines.specs.Admit.{beyond_of}
use Rattle.lines.specs.Counts.{Counts}
use Rattle.lines.proofs.Admitted.{every_at, few_beyond}

some_beyond : (closed : Bool) (degree : ℕ) (mults : List ℕ) → 1 ≤ length mults → every (λ m. ltb 0 m) mults ≡ true → 1 ≤ beyond_of closed degree mults
unfolding beyond_of
some_beyond true degree mults h e = ltb-true _ _ (every_at 0 (λ m. ltb 0 m) mults (length mults - 1) (omega arith) e)
some_beyond false degree mults h e = omega arith

-- the sum of the multiplicities is above the poles by 1 to degree + 1, and the poles are degree + 1 to 128
pub line-room : (l : Line) → Counts l
    → let m = beyond_of l.closed l.degree l.mults in
    (1 ≤ m) × (m ≤ l.degree + 1) × (l.degree + 1 + m ≤ total l.mults) × (total l.mults ≤ 128 + m)
line-room l k = (
  some_beyond l.closed l.degree l.mults (omega (arith, k.as_many, k.two_knots)) k.some_mults,
  few_beyond l.closed l.degree l.mults k.small_mults,
  omega (arith, k.count, k.enough),
  omega (arith, k.count, k.few_poles),
)
