-- `rough_sqrt`: neither pattern is a NaN's, and nothing more is asked. Assumes nothing.
use native.Mathlib.Omega.{arith}
use Rattle.roots.proofs.Laws.{not_above, below_not_nan}
use Rattle.roots.proofs.rough_sqrt.Goals as goal

pub float_to_bits-b : goal.float_to_bits-b
float_to_bits-b c = below_not_nan _ c.args.x c.if-x.true

pub float_from_bits-b : goal.float_from_bits-b
float_from_bits-b c = not_above _ (omega arith)
