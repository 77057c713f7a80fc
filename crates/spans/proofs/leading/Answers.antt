-- `leading` is leading by what its closure computes. Assumes nothing.
use mathlib.Core.Path.{◌∙◌}
use native.Mathlib.Omega.{arith}
use Rattle.spans.proofs.Laws.{leading_on, leading_stop, leading_end}
use Rattle.spans.proofs.leading.Goals as goal

pub returns-then-not-test-clause-value : goal.returns-then-not-test-clause-value
returns-then-not-test-clause-value g c = λ t h. let l = c.loop-i in
    leading_stop t c.args.s.now l.i _ c.test.result (omega arith) (h _ _ c.test.ensures) c.if-not-test.true (l.invariant t h)

pub loop-i-preserved : goal.loop-i-preserved
loop-i-preserved g c = λ t h. let l = c.loop-i in
    leading_on t c.args.s.now l.i c.test.result (omega arith) (h _ _ c.test.ensures) c.if-not-test.false ∙ l.invariant t h

pub returns-clause-value : goal.returns-clause-value
returns-clause-value g c = λ t h. let l = c.loop-i in
    leading_end t c.args.s.now l.i _ (omega arith) (omega arith) (l.invariant t h)
