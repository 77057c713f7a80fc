-- Products that fit, and the tests of a state over numbers. Assumes nothing.
use mathlib.Core.Path.{◌≡◌}
use Prim.Native.Nat.{ℕ, ◌*◌, ◌^◌, ◌≤◌, ◌<◌}
use native.Mathlib.Nat.{mul-le-mul}
use native.Mathlib.Omega.{arith}
use Rattle.states.specs.declared.Tally.{Tally}
use Rattle.states.specs.States.{records_of}

-- ten for each record
pub ten_fits : (t : Tally) {r : ℕ} → t.pairs ≤ 65535 → t.quota ≤ 65535 → r ≡ records_of t → r * 10 < 2 ^ 64
ten_fits t h k e = let w = mul-le-mul k h in omega (arith, w, e)
