-- `copy_from_slice` makes the starts of both equal, number by number. Assumes nothing.
use native.Mathlib.Omega.{arith}
use borrow.Author.Rules.{rules}
use lib.Ieee.{nan}
use Rattle.lists.proofs.Loops.{copy_turn, copy_done}
use Rattle.lists.proofs.copy_from_slice.Goals as goal

pub loop-x-preserved : goal.loop-x-preserved
loop-x-preserved c = let l = c.loop-x in
    (search rules, copy_turn l.to c.args.from.now l.x nan (omega arith) (search rules) l.invariant.1)

pub returns : goal.returns
returns c = let l = c.loop-x in
    copy_done l.to c.args.from.now l.x (omega arith) (search rules) l.invariant.1
