-- `breaks`: an open line's knots are not unrolled. Assumes nothing.
use native.Mathlib.Omega.{arith}
use Rattle.knots.proofs.Laws as laws
use Rattle.knots.proofs.breaks.Goals as goal

pub returns-else-closed : goal.returns-else-closed
returns-else-closed c = let b = c.breaks_of in
    let a = c.args in
    let e = laws.unrolled_open a.closed a.knots.now c.if-closed.false in
    let m = laws.broken_same b.result b.new.out a.out.now a.r.lo a.r.hi e (b.ensures.0, b.ensures.1, b.ensures.2) in
    (m.0, m.1, m.2, b.ensures.3, omega (arith, b.ensures.4))
