-- `span_end` is its definition, one case a return. Assumes nothing.
use mathlib.Core.Path.{sym, ap, ◌∙◌}
use native.Mathlib.Omega.{arith}
use Rattle.spans.specs.Spans.{or_one, span_end}
use Rattle.spans.proofs.Laws.{or_one_lem}
use Rattle.spans.proofs.span_end.Goals as goal

pub returns-then-s-eq0 : goal.returns-then-s-eq0
unfolding span_end
returns-then-s-eq0 c = (ap or_one (sym c.if-s-eq0.true ∙ c.passed-s.ensures.0), omega arith, omega arith)

pub returns-else-s-eq0 : goal.returns-else-s-eq0
unfolding span_end
returns-else-s-eq0 c = (or_one_lem _ _ c.passed-s.ensures.0 (omega arith), omega arith, omega arith)
