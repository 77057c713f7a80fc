-- Floats behind each other: before each turn the first are written. Assumes nothing.
use borrow.Author.Rules.{rules}
use mathlib.Core.Path.{refl}
use native.Mathlib.Omega.{arith}
use Rattle.printing.proofs.Laws.{texts_start, texts_turn, texts_done}
use Rattle.printing.proofs.put_floats.Goals as goal

pub loop-x-init : goal.loop-x-init
loop-x-init c = let args = c.args in
    (refl, omega arith, texts_start args.out.now args.at args.xs.now)

pub loop-x-preserved : goal.loop-x-preserved
loop-x-preserved c = let args = c.args in
    let loop = c.loop-x in
    let t = texts_turn args.out.now args.at args.xs.now loop.x-index (search rules) (search rules) loop.invariant.1 loop.invariant.2
    c.put_float-here.ensures in
    (search rules, t.0, t.1)

pub returns-clause-wrote : goal.returns-clause-wrote
returns-clause-wrote c = let args = c.args in
    (texts_done args.out.now args.at args.xs.now c.loop-x.x-index (search rules) (search rules) c.loop-x.invariant.1 c.loop-x.invariant.2).0
