-- `back` goes on or stops as its definition does. Assumes nothing.
use mathlib.Core.Path.{◌∙◌}
use native.Mathlib.Omega.{arith}
use Rattle.spans.proofs.Laws.{back_on, back_stop, back_end}
use Rattle.spans.proofs.back.Goals as goal

pub returns-then-not-flat-s : goal.returns-then-not-flat-s
returns-then-not-flat-s c = let a = c.args in
    let l = c.loop-s in
    (back_stop a.lo l.s _ a.flat.now (omega arith) c.if-not-flat-s.true l.invariant, omega arith, omega arith)

pub loop-s-preserved : goal.loop-s-preserved
loop-s-preserved c = let a = c.args in
    let l = c.loop-s in
    back_on a.lo l.s a.flat.now (omega arith) c.if-not-flat-s.false ∙ l.invariant

pub returns : goal.returns
returns c = let a = c.args in
    let l = c.loop-s in
    (back_end a.lo l.s _ a.flat.now (omega arith) l.invariant, omega arith, omega arith)
