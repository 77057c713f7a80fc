-- `unrolled`: the knots copied, and those that come again behind them. Assumes nothing.
use native.Mathlib.Omega.{arith}
use Rattle.knots.proofs.Laws as laws
use Rattle.knots.proofs.unrolled.Goals as goal

pub returns : goal.returns
returns c = let d = c in
    let a = d.args in
    (omega arith, laws.unrolled_built a.knots.now _ _ _ _ d.copy_from_slice.ensures c.shift.ensures)
