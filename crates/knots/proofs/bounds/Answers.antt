-- `bounds` is its definition, one case a return. Assumes nothing.
use mathlib.Core.Path.{refl}
use Rattle.knots.specs.Knots.{bounds_in}
use Rattle.knots.proofs.bounds.Goals as goal

pub returns-then-l : goal.returns-then-l
unfolding bounds_in
returns-then-l c = rw c.if-l.true refl

pub returns : goal.returns
unfolding bounds_in
returns c = rw c.if-l.false c.open_bounds.ensures
