-- `span` is the two searches one after the other. Assumes nothing.
use mathlib.Core.Path.{ap, ◌∙◌}
use Prim.Native.Nat.{◌-◌}
use borrow.Author.Rules.{rules}
use Rattle.spans.specs.Spans.{back_of, span_of}
use Rattle.spans.proofs.span.Goals as goal

pub returns : goal.returns
unfolding span_of
returns c = let a = c.args in
    (c.back.ensures.0 ∙ ap (λ s. back_of (s - a.p) a.p a.flat.now) c.reach-s.ensures.0, search rules, search rules)
