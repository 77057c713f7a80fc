-- `root_bits`: the nearest whole number, with its exponent, is the pattern of the root. Assumes nothing.
use native.Mathlib.Omega.{arith}
use lib.Ieee.{binary64, of_bits}
use lib.Ieee.Bits.{of_bits-fits}
use Rattle.roots.proofs.Join.{range, joined}
use Rattle.roots.proofs.root_bits.Goals as goal

pub overflow_add-result-2 : goal.overflow_add-result-2
overflow_add-result-2 c = omega (
  arith,
  range c.evened.result c.nearest_whole.result c.evened.ensures.0 c.evened.ensures.1
      c.nearest_whole.ensures,
)

pub returns : goal.returns
returns c = let b = c.args.b in
    let a = c.apart-p in
    let e = c.evened in
    let n = c.nearest_whole in (
      omega (arith, range e.result n.result e.ensures.0 e.ensures.1 n.ensures),
      joined (of_bits binary64 b) (of_bits-fits binary64 b) a.result.m a.result.up n.result a.ensures.3 a.ensures.2
          (rw e.ensures.2 at e.ensures.0) (rw e.ensures.2 at e.ensures.1) (rw e.ensures.2 at n.ensures),
    )
