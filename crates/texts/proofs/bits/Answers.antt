-- The bits of a float, a zero or another. Assumes nothing.
use mathlib.Core.Path.{sym, ◌∙◌}
use Rattle.texts.specs.Texts.{bits_of}
use Rattle.texts.proofs.Laws.{pattern_of}
use Rattle.texts.proofs.bits.Goals as goal

pub returns-then-x : goal.returns-then-x
unfolding bits_of
returns-then-x c = simp c.if-x.true

pub returns : goal.returns
unfolding bits_of
returns c = simp c.if-x.false (c.pattern.ensures ∙ sym (pattern_of c.args.x))
