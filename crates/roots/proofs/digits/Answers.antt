-- `digits`: the invariant says that the root and the remainder so far make up the digits that are down, and `top` has the rest. Assumes nothing.
use Prim.Native.Nat.{◌+◌, ◌*◌}
use native.Mathlib.Omega.{arith}
use Rattle.roots.proofs.Laws.{turn, fewer, small, done}
use Rattle.roots.proofs.digits.Goals as goal

pub digit-r-requires : goal.digit-r-requires
digit-r-requires c = let l = c.loop in
    (l.invariant.1, small l.r.root l.counter l.invariant.2 (omega arith), omega arith)

pub loop-preserved : goal.loop-preserved
loop-preserved c = let l = c.loop in
    let e = c.digit-r.ensures in (
      turn c.args.m (l.r.root * l.r.root + l.r.rem) _ l.top l.counter l.invariant.0 e.0,
      e.1,
      fewer l.r.root c.digit-r.result.root l.counter l.invariant.2 e.2,
      omega arith,
    )

pub returns : goal.returns
returns c = let l = c.loop in (
  done c.args.m (l.r.root * l.r.root + l.r.rem) l.top l.counter l.invariant.0 l.invariant.3 (omega arith),
  l.invariant.1,
  small l.r.root l.counter l.invariant.2 (omega arith),
)
