-- `open_bounds` reads both ends from the flat knots. Assumes nothing.
use mathlib.Core.Path.{refl}
use native.Mathlib.Omega.{arith}
use Rattle.knots.proofs.Laws as laws
use Rattle.knots.proofs.open_bounds.Goals as goal

pub returns : goal.returns
returns c = let a = c.args in
    let m = c.flat_knots-n in
    laws.bounds_are a.l.degree a.l.knots.now a.l.mults.now m.new.out m.result a.l.degree m.ensures.0 refl m.ensures.2 (omega arith)
