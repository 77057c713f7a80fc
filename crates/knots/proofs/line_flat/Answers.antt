-- `line_flat`: the flat knots, or those around a turn. Assumes nothing.
use Prim.Native.Nat.{◌-◌}
use native.Mathlib.Omega.{arith}
use Rattle.lists.specs.Tests.{total}
use Rattle.lines.specs.Admit.{beyond_of}
use Rattle.knots.proofs.Laws as laws
use Rattle.knots.proofs.line_flat.Goals as goal

pub returns-else-l : goal.returns-else-l
returns-else-l c = let l = c.args.l in
    let f = c.flat_knots in
    let o = c.if-l.false in
    let b = laws.open_beyond l.closed l.degree l.mults.now o in
    let n = laws.open_poles l.closed l.degree (total l.mults.now - beyond_of l.closed l.degree l.mults.now) o in
    (omega (arith, b, n, f.ensures.0), laws.flat_open l.closed l.degree l.knots.now l.mults.now _ o f.ensures.2)
