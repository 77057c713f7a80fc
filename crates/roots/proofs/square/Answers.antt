-- `square`: the square of the two halves, multiplied out. Assumes nothing.
use mathlib.Core.Path.{refl}
use native.Mathlib.Omega.{arith}
use Rattle.roots.proofs.Laws.{halves, square_is}
use Rattle.roots.proofs.square.Goals as goal

pub overflow_mul-b-2 : goal.overflow_mul-b-2
overflow_mul-b-2 c = omega (arith, halves c.args.q c.requires)

pub overflow_mul-result : goal.overflow_mul-result
overflow_mul-result c = omega (arith, halves c.args.q c.requires)

pub overflow_add-result : goal.overflow_add-result
overflow_add-result c = omega (arith, halves c.args.q c.requires)

pub overflow_mul-result-3 : goal.overflow_mul-result-3
overflow_mul-result-3 c = omega (arith, halves c.args.q c.requires)

pub overflow_add-result-2 : goal.overflow_add-result-2
overflow_add-result-2 c = omega (arith, halves c.args.q c.requires)

pub returns : goal.returns
returns c = (square_is c.args.q _ _ refl refl, omega (arith, halves c.args.q c.requires))
