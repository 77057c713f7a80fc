-- `flat_knots` fills: the knots stored and those to come are all; behind them nothing changes. Assumes nothing.
use mathlib.Core.Path.{◌∙◌, ap}
use mathlib.Core.List.{◌++◌}
use Prim.Native.Nat.{◌+◌}
use native.Mathlib.Omega.{arith}
use lib.ListN.{drop}
use Rattle.std.proofs.lemmas.Slice.{take-put_mid, drop-put_mid}
use Rattle.knots.specs.Knots.{flat_knots}
use Rattle.lists.proofs.Tests as tests
use Rattle.knots.proofs.Laws as laws
use Rattle.knots.proofs.flat_knots.Goals as goal

pub slice_bounds-fill-end : goal.slice_bounds-fill-end
slice_bounds-fill-end c = let e = tests.total_on c.args.mults.now c.loop-i.i (omega arith) in omega (arith, c.loop-i.invariant.0, c.loop-i.auto.out)

pub loop-i-preserved : goal.loop-i-preserved
loop-i-preserved c = let a = c.args in
    let l = c.loop-i in
    let e = tests.total_on a.mults.now l.i (omega arith) in
    let m = laws.places l.out c.fill.new.self _ l.at _ (omega (arith, l.invariant.0, l.auto.out, e)) (c.fill.ensures.after (λ y h. h)) in (
      omega (arith, l.invariant.0, e),
      drop-put_mid l.at _ l.out _ _ (omega arith) (omega (arith, l.invariant.0, l.auto.out, e)) (m.1 ∙ omega arith) ∙ laws.further l.at _ l.out _ l.invariant.1,
      ap (λ z. z ++ flat_knots (drop (l.i + 1) a.knots.now) (drop (l.i + 1) a.mults.now)) (take-put_mid l.at _ l.out _ _ (omega (arith, m.1)) (omega (arith, l.invariant.0, l.auto.out, e)))
          ∙ laws.flat-turn a.knots.now a.mults.now _ _ l.i (omega arith) (omega arith) m.0 ∙ l.invariant.2,
    )

pub returns : goal.returns
returns c = let a = c.args in
    let l = c.loop-i in
    let e = tests.total_end a.mults.now l.i (omega arith) in
    let t = laws.flat_done a.knots.now a.mults.now l.out _ l.at l.i (omega arith) l.invariant.2 in
    (omega (arith, l.invariant.0), laws.patched l.at l.out _ _ (omega (arith, l.invariant.0, l.auto.out)) t l.invariant.1, t)
