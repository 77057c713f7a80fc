-- `shift`: the numbers stored and those to come are all, shifted. Assumes nothing.
use mathlib.Core.Path.{◌∙◌}
use native.Mathlib.Omega.{arith}
use Rattle.knots.proofs.Laws as laws
use Rattle.knots.proofs.shift.Goals as goal

pub loop-i-preserved : goal.loop-i-preserved
loop-i-preserved c = laws.shift_turn c.args.d c.args.s.now c.loop-i.out c.loop-i.i (omega arith) (omega (arith, c.loop-i.auto.out)) ∙ c.loop-i.invariant

pub returns : goal.returns
returns c = laws.shift_done c.args.d c.args.s.now c.loop-i.out _ c.loop-i.i (omega arith) (omega (arith, c.loop-i.auto.out)) c.loop-i.invariant
