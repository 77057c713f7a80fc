-- `start` makes the table of level 0, one row a turn. Assumes nothing.
use native.Mathlib.Omega.{arith}
use Rattle.blends.specs.Table.{units}
use Rattle.blends.proofs.Rows.{start-turn, start_done}
use Rattle.blends.proofs.start.Goals as goal

pub loop-i-init : goal.loop-i-init
unfolding units
loop-i-init c = c.requires

pub loop-i-preserved : goal.loop-i-preserved
loop-i-preserved c = start-turn c.loop-i.s c.loop-i.i (omega arith) c.loop-i.invariant

pub returns : goal.returns
returns c = let l = c.loop-i in
    start_done l.s l.i (omega arith) (omega arith) l.invariant
