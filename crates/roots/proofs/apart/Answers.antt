-- `apart`: the digits and the exponent are those of the pattern's value. Assumes nothing.
use native.Mathlib.Omega.{arith}
use Rattle.roots.proofs.Patterns.{normal_value, subnormal_value}
use Rattle.roots.proofs.apart.Goals as goal

pub returns-then-field-eq0 : goal.returns-then-field-eq0
returns-then-field-eq0 c = let h = c.shifted-s in (
  h.ensures.1,
  h.ensures.2,
  omega arith,
  subnormal_value c.args.b h.result.m h.result.by c.if-field-eq0.true h.ensures.0
      h.ensures.3,
)

pub returns : goal.returns
returns c = (omega arith, omega arith, omega arith, normal_value c.args.b c.requires.1 c.if-field-eq0.false)
