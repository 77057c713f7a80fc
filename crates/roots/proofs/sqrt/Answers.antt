-- `sqrt` is the root of every double: each pattern that has no digits to take the root of by a law of its own. Assumes nothing.
use mathlib.Core.Path.{sym, ◌∙◌}
use lib.Ieee.{of_bits, binary64}
use Rattle.roots.proofs.Edges.{nan_same, zero_same, below_nan, inf_same, of_pattern}
use native.Mathlib.Omega.{arith}
use Rattle.roots.proofs.Laws.{from_is_nan, not_above}
use borrow.Author.Rules.{rules}
use Rattle.roots.proofs.sqrt.Goals as goal

pub returns-then-is_nan : goal.returns-then-is_nan
returns-then-is_nan c = nan_same binary64 c.args.x (from_is_nan c.args.x (sym c.is_nan.ensures.value ∙ c.if-is_nan.true))

pub returns-then-b-eq0 : goal.returns-then-b-eq0
returns-then-b-eq0 c = zero_same binary64 c.args.x (search rules) c.if-b-eq0.true

pub returns-then-b-ge-SIGN : goal.returns-then-b-ge-SIGN
unfolding of_bits
returns-then-b-ge-SIGN c = below_nan binary64 c.args.x (search rules) c.if-b-eq0.false c.if-b-ge-SIGN.true

pub returns-then-b-ge-INFINITY : goal.returns-then-b-ge-INFINITY
returns-then-b-ge-INFINITY c = inf_same binary64 c.args.x (search rules) c.if-b-ge-INFINITY.true c.if-b-ge-SIGN.false

pub float_from_bits-result : goal.float_from_bits-result
float_from_bits-result c = not_above c.root_bits.result (omega (arith, c.root_bits.ensures))

pub returns : goal.returns
returns c = c.root_bits.ensures.1 ∙ of_pattern binary64 c.args.x (search rules)
