-- `guess`: neither pattern is a NaN's, and nothing more is asked. Assumes nothing.
use Prim.Native.Nat.{◌-◌, ◌/◌}
use native.Mathlib.Omega.{arith}
use Rattle.roots.proofs.Laws.{not_above}
use Rattle.roots.proofs.guess.Goals as goal

pub float_from_bits-v : goal.float_from_bits-v
float_from_bits-v c = not_above c.args.b (omega arith)

pub float_from_bits-y0 : goal.float_from_bits-y0
float_from_bits-y0 c = not_above (0x5fe6_eb50_c7b5_37a9 - c.args.b / 2) (omega arith)
