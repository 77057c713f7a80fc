-- The float of any pattern, a NaN's or another. Assumes nothing.
use lib.Ieee.{of_bits}
use Rattle.patterns.proofs.Laws.{above_is_nan, not_above}
use Rattle.patterns.proofs.float.Goals as goal

pub returns-then-n-gt9218868437227405312 : goal.returns-then-n-gt9218868437227405312
unfolding of_bits
returns-then-n-gt9218868437227405312 c = above_is_nan c.args.n c.if-n-gt9218868437227405312.true

pub float_from_bits-result : goal.float_from_bits-result
float_from_bits-result c = not_above c.args.n c.if-n-gt9218868437227405312.false
